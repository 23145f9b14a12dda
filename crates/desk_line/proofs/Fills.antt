-- Laws of a row that is filled, and of its answer. Assumes nothing.
use Rattle.std.specs.Prelude.{if◌then◌else◌, Result, Ok, Err}
use Prim.Native.Nat.{ℕ, zero, suc, ◌+◌, ◌-◌, ◌*◌, ◌≤◌}
use mathlib.Core.Path.{◌≡◌, refl, sym, ap, ◌∙◌}
use mathlib.Core.Bool.{Bool, true, false}
use mathlib.Core.List.{List, [], ◌∷◌, ◌++◌}
use native.Mathlib.Omega.{arith}
use lib.ListN.{length, take, drop, length-append, length-take}
use lib.Seq.{take-take, take_at}
use lib.Dec.{eqb}
use borrow.Author.Tests.{eq-eqb, ne_eqb, eqb-true}
use Rattle.layout.specs.Words.{row_kind}
use Rattle.layout.specs.Outcomes.{Outcome}
use Rattle.framing.specs.Digits.{bytes_of, hexadecimal}
use Rattle.framing.specs.States.{lent}
use Rattle.frame.specs.Puts.{Put}
use Rattle.frame.proofs.Writing.{put_then, length_hexadecimal}
use Rattle.layout.specs.declared.refusal.Refusal.{Refusal}
use Rattle.layout.specs.Answers.{answer_number}
use Rattle.filling.specs.Answers.{told_fill}
use Rattle.filling.specs.Tables.{element_words}
use Rattle.filling.specs.Promise.{new_main, new_aux}
use Rattle.filling.specs.Calls.{fill_call}
use Rattle.desk.specs.declared.Latest.{Latest}
use Rattle.desk.specs.Words.{eights}
use Rattle.desk.specs.Desks.{Desk, desk}
use Rattle.desk.specs.Lines.{rows_given, main_rows, aux_rows, fill_of, fill_bytes, row_refusal, row_answer}
use Rattle.desk_line.specs.Reading.{Stored, OneOrTwo}
use Rattle.desk_line.specs.Rows.{Narrow, main_words, aux_words, filled_as, TablesFilled}
use Rattle.desk_line.proofs.Cells.{stored_front}
use Rattle.desk_line.proofs.Texts.{words_text, words_append, length_eights, length_words}
use Rattle.desk_line.proofs.Widths.{at_most_two, at_least_one, rows_given_lem, row_narrow}

-- a fill's number, and its tables
told_parts : (r : Result (Unit {0}) Refusal) (t : List ℕ × List ℕ) (o : Outcome (Unit {0}) (List ℕ × List ℕ)) → told_fill r t ≡ o → (answer_number r ≡ o.number) × (t ≡ o.lent)
told_parts (Ok u) t o e = (ap (λ (q : Outcome (Unit {0}) (List ℕ × List ℕ)). q.number) e, ap (λ (q : Outcome (Unit {0}) (List ℕ × List ℕ)). q.lent) e)
told_parts (Err k) t o e = (ap (λ (q : Outcome (Unit {0}) (List ℕ × List ℕ)). q.number) e, ap (λ (q : Outcome (Unit {0}) (List ℕ × List ℕ)). q.lent) e)

-- the front of a table was lent
pub tables_filled : (o : Outcome (Unit {0}) (List ℕ × List ℕ)) (r : Result (Unit {0}) Refusal) (n w v : ℕ) (main aux main' aux' : List ℕ) → n ≡ answer_number r → told_fill r (main', aux') ≡ o → take w main ≡ main' → take v aux ≡ aux' → TablesFilled o n w v main aux
tables_filled o r n w v main aux main' aux' is e f g =
    let t = told_parts r (main', aux') o e in
    record {
      number = is ∙ t.0;
      mains = f ∙ ap (λ (q : List ℕ × List ℕ). q.0) t.1;
      auxs = g ∙ ap (λ (q : List ℕ × List ℕ). q.1) t.1;
    }

-- its new cells stand in the front
part_of_front : (a n w : ℕ) (l : List ℕ) → a + n ≤ w → take n (drop a (take w l)) ≡ take n (drop a l)
part_of_front zero n w l h = take-take n w l (omega arith)
part_of_front (suc a) n zero l h = absurd (omega arith)
part_of_front (suc a) n (suc w) [] h = refl
part_of_front (suc a) n (suc w) (x ∷ xs) h = part_of_front a n w xs (omega arith)

-- a part of a table that is lent
pub part_is : (a n : ℕ) (l : List ℕ) → take ((a + n) - a) (drop a l) ≡ take n (drop a l)
part_is a n l =
    let e : (a + n) - a ≡ n = omega arith in
    ap (λ (q : ℕ). take q (drop a l)) e

pub part_short : (a n : ℕ) (l : List ℕ) → length (take ((a + n) - a) (drop a l)) ≤ n
part_short a n l = omega (arith, length-take ((a + n) - a) (drop a l))

pub words_put_behind : (ws : List ℕ) {l l' : List ℕ} {at k : ℕ} → Put l at (words_text ws) l' k → k ≡ at + 16 * length ws
words_put_behind ws p = omega (arith, p.behind, length_words ws)

-- the kind that was read
pub as_kind : (K R : ℕ) → K ≡ R → OneOrTwo R → OneOrTwo K
as_kind K R e k = rw e k

pub within_two : (K R n r : ℕ) → K ≡ R → OneOrTwo R → r ≡ K * n → r ≤ 2 * n
within_two K R n r e k f = omega (arith, f, at_most_two K n (as_kind K R e k))

-- the bytes of an answer
module _ (l : Latest) (n : ℕ) (main aux : List ℕ) where
  pub row_refused_put : (n ≡ 0 → ⊥) → {at at' : List ℕ} {k : ℕ} → Put at 0 (hexadecimal (n ∷ [])) at' k → Put at 0 (hexadecimal (fill_bytes l (filled_as n main aux))) at' k
  unfolding fill_bytes
  row_refused_put h p = rw (ne_eqb n 0 h) p

  pub row_put : n ≡ 0 → (xs ys : List ℕ) → xs ≡ new_main l.main_count l.mains main → ys ≡ new_aux l.aux_count l.auxs aux
      → {l₀ l₁ l₂ l₃ : List ℕ} {k₁ k₂ k₃ : ℕ} → Put l₀ 0 (hexadecimal (n ∷ [])) l₁ k₁ → Put l₁ k₁ (words_text xs) l₂ k₂ → Put l₂ k₂ (words_text ys) l₃ k₃
      → Put l₀ 0 (hexadecimal (fill_bytes l (filled_as n main aux))) l₃ k₃
  unfolding fill_bytes hexadecimal
  row_put z xs ys e f p q r = rw (eq-eqb n 0 z, ← e, ← f, words_append xs ys) (put_then p (put_then q r))

-- the lists' places that count, and the front of each table
module _ (l : Latest) (m main aux challenges row_main row_aux : List ℕ) (K a b w v n : ℕ) (r : Result (Unit {0}) Refusal) (main' aux' : List ℕ)
    (kind : K ≡ row_kind m) (mains : take a main ≡ take l.mains main) (auxs : take b aux ≡ take l.auxs aux)
    (mains_wide : w ≡ K * (l.main_count + l.mains)) (auxs_wide : v ≡ K * (element_words * l.aux_count + element_words * l.auxs))
    (number : n ≡ answer_number r) (main_length : length main' ≡ w) (aux_length : length aux' ≡ v) where
  abbrev W : ℕ
  W = main_words l (row_kind m)

  abbrev V' : ℕ
  V' = aux_words l (row_kind m)

  pub front_filled : told_fill r (main', aux') ≡ fill_call l.main_count l.aux_count m (take a main) (take b aux) challenges (take w row_main) (take v row_aux)
      → TablesFilled (fill_call l.main_count l.aux_count m (take l.mains main) (take l.auxs aux) challenges (take W row_main) (take V' row_aux)) n W V' (main' ++ drop w row_main) (aux' ++ drop v row_aux)
  front_filled e =
      let f : w ≡ W = mains_wide ∙ ap (λ (q : ℕ). q * (l.main_count + l.mains)) kind in
      let g : v ≡ V' = auxs_wide ∙ ap (λ (q : ℕ). q * (element_words * l.aux_count + element_words * l.auxs)) kind in
      tables_filled _ r n W V' (main' ++ drop w row_main) (aux' ++ drop v row_aux) main' aux' number
      (e ∙ ap (λ (q : List ℕ). fill_call l.main_count l.aux_count m q (take b aux) challenges (take w row_main) (take v row_aux)) mains
      ∙ ap (λ (q : List ℕ). fill_call l.main_count l.aux_count m (take l.mains main) q challenges (take w row_main) (take v row_aux)) auxs
      ∙ ap (λ (q : ℕ). fill_call l.main_count l.aux_count m (take l.mains main) (take l.auxs aux) challenges (take q row_main) (take v row_aux)) f
      ∙ ap (λ (q : ℕ). fill_call l.main_count l.aux_count m (take l.mains main) (take l.auxs aux) challenges (take W row_main) (take q row_aux)) g)
      (take_at main' (drop w row_main) W (main_length ∙ f)) (take_at aux' (drop v row_aux) V' (aux_length ∙ g))

-- the same bytes
bytes_same : (l : Latest) (o : Outcome (Unit {0}) (List ℕ × List ℕ)) (n w v : ℕ) (main aux : List ℕ) → TablesFilled o n w v main aux → l.main_count + l.mains ≤ w → element_words * l.aux_count + element_words * l.auxs ≤ v
    → fill_bytes l (filled_as n main aux) ≡ fill_bytes l o
unfolding fill_bytes
bytes_same l o n w v main aux filled h i =
    let e : new_main l.main_count l.mains main ≡ new_main l.main_count l.mains o.lent.0 =
    sym (part_of_front l.main_count l.mains w main h) ∙ ap (λ (q : List ℕ). new_main l.main_count l.mains q) filled.mains in
    let f : new_aux l.aux_count l.auxs aux ≡ new_aux l.aux_count l.auxs o.lent.1 =
    sym (part_of_front (element_words * l.aux_count) (element_words * l.auxs) v aux i) ∙ ap (λ (q : List ℕ). new_aux l.aux_count l.auxs q) filled.auxs in
    rw (filled.number, e, f)

-- what a row is answered
module _ (l : Latest) (m main aux challenges line roots : List ℕ) (K n : ℕ) (kind : K ≡ row_kind m) (rows : OneOrTwo (row_kind m)) (number : n ≡ row_refusal l K line) where
  abbrev d : Desk
  d = desk (lent m roots main aux) l challenges

  abbrev Answered : List ℕ → List ℕ → ℕ → Type 0
  Answered at at' k = Put at 0 (hexadecimal (row_answer d line)) at' k

  given_is : K ≡ rows_given m
  given_is = kind ∙ sym (rows_given_lem m rows)

  number_is : n ≡ row_refusal l (rows_given m) line
  number_is = number ∙ ap (λ (q : ℕ). row_refusal l q line) given_is

  pub row_refused : (n ≡ 0 → ⊥) → {at at' : List ℕ} {k : ℕ} → Put at 0 (hexadecimal (n ∷ [])) at' k → Answered at at' k
  unfolding row_answer
  row_refused h p = rw (← number_is, ne_eqb n 0 h) p

  pub its_narrow : n ≡ 0 → Narrow l
  its_narrow z = row_narrow l (rows_given m) line (sym number_is ∙ z)

  answer_filled : n ≡ 0 → row_answer d line ≡ fill_bytes l (fill_of d line)
  unfolding row_answer
  answer_filled z = rw (← number_is, eq-eqb n 0 z)

  module _ (z : n ≡ 0) (rm₀ ra₀ rm₁ ra₁ rm₂ ra₂ : List ℕ) (f : ℕ) (read-main : Stored rm₀ 0 (main_words l K) (main_rows l K (bytes_of line)) rm₁) (read-aux : Stored ra₀ 0 (aux_words l K) (aux_rows l K (bytes_of line)) ra₁) where
    fill_same : fill_call l.main_count l.aux_count m (take l.mains main) (take l.auxs aux) challenges (take (main_words l (row_kind m)) rm₁) (take (aux_words l (row_kind m)) ra₁) ≡ fill_of d line
    unfolding fill_of
    fill_same =
        let e : take (main_words l (row_kind m)) rm₁ ≡ main_rows l (rows_given m) (bytes_of line) = rw (sym kind, sym given_is) (stored_front rm₀ rm₁ (main_words l K) (main_rows l K (bytes_of line)) read-main) in
        let g : take (aux_words l (row_kind m)) ra₁ ≡ aux_rows l (rows_given m) (bytes_of line) = rw (sym kind, sym given_is) (stored_front ra₀ ra₁ (aux_words l K) (aux_rows l K (bytes_of line)) read-aux) in
        rw (e, g)

    pub row_answered : TablesFilled (fill_call l.main_count l.aux_count m (take l.mains main) (take l.auxs aux) challenges (take (main_words l (row_kind m)) rm₁) (take (aux_words l (row_kind m)) ra₁)) f (main_words l (row_kind m)) (aux_words l (row_kind m)) rm₂ ra₂
        → {at at' : List ℕ} {k : ℕ} → Put at 0 (hexadecimal (fill_bytes l (filled_as f rm₂ ra₂))) at' k → Answered at at' k
    row_answered filled {at} {at'} {k} p =
        let e : fill_bytes l (filled_as f rm₂ ra₂) ≡ row_answer d line =
        bytes_same l _ f (main_words l (row_kind m)) (aux_words l (row_kind m)) rm₂ ra₂ filled (at_least_one (row_kind m) (l.main_count + l.mains) rows) (at_least_one (row_kind m) (element_words * l.aux_count + element_words * l.auxs) rows)
        ∙ ap (fill_bytes l) fill_same ∙ sym (answer_filled z) in
        rw e at p

-- how long a row's answer can be
fill_short : (l : Latest) (o : Outcome (Unit {0}) (List ℕ × List ℕ)) → Narrow l → length (fill_bytes l o) ≤ 32769
unfolding fill_bytes
fill_short l o n = go (eqb o.number 0)
  where
    xs : List ℕ
    xs = new_main l.main_count l.mains o.lent.0

    ys : List ℕ
    ys = new_aux l.aux_count l.auxs o.lent.1

    go : (b : Bool) → length (o.number ∷ (if b then eights (xs ++ ys) else [])) ≤ 32769
    go true = omega (arith, length_eights (xs ++ ys), length-append xs ys, length-take l.mains (drop l.main_count o.lent.0), length-take (element_words * l.auxs) (drop (element_words * l.aux_count) o.lent.1), n.main, n.aux)
    go false = omega arith

pub row_short : (d : Desk) (line : List ℕ) → length (row_answer d line) ≤ 32769
unfolding row_answer
row_short d line = go (eqb (row_refusal d.latest (rows_given d.state.circuit) line) 0) refl
  where
    n : ℕ
    n = row_refusal d.latest (rows_given d.state.circuit) line

    go : (b : Bool) → eqb n 0 ≡ b → length (if b then fill_bytes d.latest (fill_of d line) else n ∷ []) ≤ 32769
    go true e = fill_short d.latest (fill_of d line) (row_narrow d.latest (rows_given d.state.circuit) line (eqb-true n 0 e))
    go false e = omega arith

pub row_behind : (d : Desk) (line : List ℕ) {out out' : List ℕ} {k : ℕ} → Put out 0 (hexadecimal (row_answer d line)) out' k → k ≤ 65538
row_behind d line p = omega (arith, p.behind, length_hexadecimal (row_answer d line), row_short d line)
