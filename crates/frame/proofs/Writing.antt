-- Laws of what is written for an answer: one text after the other, and how long each is. Assumes nothing.
use Rattle.std.specs.Prelude.{if◌then◌else◌}
use Prim.Native.Nat.{ℕ, suc, ◌+◌, ◌*◌, ◌/◌, ◌%◌, ◌<◌, ◌≤◌}
use mathlib.Core.Path.{◌≡◌, refl, sym, ap, ◌∙◌}
use mathlib.Core.Bool.{Bool, true, false}
use mathlib.Core.List.{List, [], ◌∷◌, ◌++◌, append_assoc}
use native.Mathlib.Nat.{add-zero}
use native.Mathlib.Numerals.{add-one}
use native.Mathlib.Omega.{arith}
use lib.Dec.{eqb}
use lib.ListN.{length, get_or, set, take, length-append, length-take}
use lib.Seq.{sets, set_out, take-suc, length-take-le}
use borrow.Author.Tests.{eq-eqb, ne_eqb}
use Rattle.framing.specs.Digits.{character, hexadecimal, two, twos}
use Rattle.framing.specs.declared.Reply.{Reply}
use Rattle.framing.specs.declared.Reply.TheVariants.{Bare, Id, Counts}
use Rattle.framing.specs.Answers.{reply_bytes}
use Rattle.frame.specs.Puts.{Put}

-- one text after the other
sets_append : (xs ys l : List ℕ) (i : ℕ) → sets (sets l i xs) (i + length xs) ys ≡ sets l i (xs ++ ys)
sets_append [] ys l i = ap (λ (k : ℕ). sets l k ys) (add-zero i)
sets_append (x ∷ xs) ys l i =
    let e : i + suc (length xs) ≡ suc i + length xs = omega arith in
    ap (λ (k : ℕ). sets (sets (set l i x) (suc i) xs) k ys) e ∙ sets_append xs ys (set l i x) (suc i)

pub put_then : {l l' l'' xs ys : List ℕ} {at k next : ℕ} → Put l at xs l' k → Put l' k ys l'' next → Put l at (xs ++ ys) l'' next
put_then {l} {l'} {l''} {xs} {ys} {at} {k} {next} a b =
    record {
      places = b.places ∙ ap (λ (q : ℕ). sets l' q ys) a.behind ∙ ap (λ (q : List ℕ). sets q (at + length xs) ys) a.places ∙ sets_append xs ys l at;
      behind = omega (arith, a.behind, b.behind, length-append xs ys);
    }

-- nothing, and one character, for which there may be no place
pub put_none : (l : List ℕ) (at : ℕ) → Put l at [] l at
put_none l at = record { places = refl; behind = omega arith }

pub put_one : (l : List ℕ) (at c : ℕ) → Put l at (c ∷ []) (set l at c) (at + 1)
put_one l at c = record { places = refl; behind = omega arith }

pub put_out : (l : List ℕ) (at c : ℕ) → length l ≤ at → Put l at (c ∷ []) l (at + 1)
put_out l at c h = record { places = sym (set_out l at c h); behind = omega arith }

-- texts
pub hexadecimal_append : (xs ys : List ℕ) → hexadecimal (xs ++ ys) ≡ hexadecimal xs ++ hexadecimal ys
unfolding hexadecimal
hexadecimal_append [] ys = refl
hexadecimal_append (x ∷ xs) ys = ap (λ (t : List ℕ). character (x / 16 % 16) ∷ character (x % 16) ∷ t) (hexadecimal_append xs ys)

pub twos_append : (xs ys : List ℕ) → twos (xs ++ ys) ≡ twos xs ++ twos ys
unfolding twos
twos_append [] ys = refl
twos_append (x ∷ xs) ys = ap (λ (t : List ℕ). two x ++ t) (twos_append xs ys) ∙ sym (append_assoc (two x) (twos xs) (twos ys))

pub length_hexadecimal : (bs : List ℕ) → length (hexadecimal bs) ≡ 2 * length bs
unfolding hexadecimal
length_hexadecimal [] = refl
length_hexadecimal (b ∷ bs) = omega (arith, length_hexadecimal bs)

pub length_twos : (ns : List ℕ) → length (twos ns) ≡ 2 * length ns
unfolding twos two
length_twos [] = refl
length_twos (n ∷ ns) = omega (arith, length_twos ns)

-- the ids of a list
abbrev pub ids_text : List ℕ → List ℕ
ids_text ids = hexadecimal (twos ids)

pub length_ids : (ids : List ℕ) → length (ids_text ids) ≡ 4 * length ids
length_ids ids = omega (arith, length_hexadecimal (twos ids), length_twos ids)

pub ids_append : (xs ys : List ℕ) → ids_text (xs ++ ys) ≡ ids_text xs ++ ids_text ys
ids_append xs ys = ap hexadecimal (twos_append xs ys) ∙ hexadecimal_append (twos xs) (twos ys)

pub id_text : (i : ℕ) → hexadecimal (two i) ≡ ids_text (i ∷ [])
unfolding twos two
id_text i = refl

module _ (l : List ℕ) (at : ℕ) (ids : List ℕ) where
  pub ids_none : Put l at (ids_text (take 0 ids)) l at
  unfolding hexadecimal twos
  ids_none = put_none l at

  module _ (k next : ℕ) (l' : List ℕ) (put : Put l at (ids_text (take k ids)) l' next) where
    pub ids_behind : k ≤ length ids → next ≡ at + 4 * k
    ids_behind h = omega (arith, put.behind, length_ids (take k ids), length-take-le k ids h)

    pub ids_more : (l'' : List ℕ) (next' : ℕ) → k < length ids → Put l' next (hexadecimal (two (get_or ids k 0))) l'' next' → Put l at (ids_text (take (k + 1) ids)) l'' next'
    ids_more l'' next' h more =
        let e : ids_text (take k ids) ++ hexadecimal (two (get_or ids k 0)) ≡ ids_text (take (k + 1) ids) =
        ap (λ (t : List ℕ). ids_text (take k ids) ++ t) (id_text (get_or ids k 0)) ∙ sym (ids_append (take k ids) (get_or ids k 0 ∷ []))
        ∙ sym (ap ids_text (ap (λ (q : ℕ). take q ids) (add-one k) ∙ take-suc ids k 0 h)) in
        rw e at (put_then put more)

pub two_behind : (n : ℕ) {l l' : List ℕ} {at k : ℕ} → Put l at (hexadecimal (two n)) l' k → k ≡ at + 4
unfolding hexadecimal two
two_behind n {l} {l'} {at} {k} put = omega (arith, put.behind)

pub byte_behind : (n : ℕ) {l l' : List ℕ} {at k : ℕ} → Put l at (hexadecimal (n ∷ [])) l' k → k ≡ at + 2
unfolding hexadecimal
byte_behind n {l} {l'} {at} {k} put = omega (arith, put.behind)

pub ids_most : (ids : List ℕ) (n : ℕ) {l l' : List ℕ} {at k : ℕ} → Put l at (ids_text (take n ids)) l' k → k ≤ at + 4 * length ids
ids_most ids n {l} {l'} {at} {k} put = omega (arith, put.behind, length_ids (take n ids), length-take n ids)

-- both counts and both lists
pub lists_put : (a b : ℕ) (xs ys : List ℕ) {l l₁ l₂ l₃ l₄ : List ℕ} {at k₁ k₂ k₃ k₄ : ℕ}
    → Put l at (hexadecimal (two a)) l₁ k₁ → Put l₁ k₁ (hexadecimal (two b)) l₂ k₂ → Put l₂ k₂ (ids_text xs) l₃ k₃ → Put l₃ k₃ (ids_text ys) l₄ k₄
    → Put l at (ids_text (a ∷ b ∷ (xs ++ ys))) l₄ k₄
lists_put a b xs ys p q r s =
    let e : hexadecimal (two a) ++ (hexadecimal (two b) ++ (ids_text xs ++ ids_text ys)) ≡ ids_text (a ∷ b ∷ (xs ++ ys)) =
    rw (id_text a, id_text b, ← ids_append xs ys) (ap (λ (t : List ℕ). ids_text (a ∷ []) ++ t) (sym (ids_append (b ∷ []) (xs ++ ys))) ∙ sym (ids_append (a ∷ []) (b ∷ (xs ++ ys)))) in
    rw e at (put_then p (put_then q (put_then r s)))

-- an answer's bytes, by what it is
module _ (r : Reply) (main aux l : List ℕ) where
  abbrev Whole : List ℕ → ℕ → Type 0
  Whole l' k = Put l 0 (hexadecimal (reply_bytes r main aux)) l' k

  pub bare_put : (n : ℕ) {l' : List ℕ} {k : ℕ} → r ≡ Bare n → Put l 0 (hexadecimal (n ∷ [])) l' k → Whole l' k
  unfolding reply_bytes
  bare_put n is p = rw is p

  pub id_put : (n i : ℕ) {l' l'' : List ℕ} {k next : ℕ} → r ≡ Id n i → n ≡ 0 → Put l 0 (hexadecimal (n ∷ [])) l' k → Put l' k (hexadecimal (two i)) l'' next → Whole l'' next
  unfolding reply_bytes hexadecimal
  id_put n i is e p q = rw (is, eq-eqb n 0 e) (put_then p q)

  pub id_refused : (n i : ℕ) {l' : List ℕ} {k : ℕ} → r ≡ Id n i → (n ≡ 0 → ⊥) → Put l 0 (hexadecimal (n ∷ [])) l' k → Whole l' k
  unfolding reply_bytes
  id_refused n i is e p = rw (is, ne_eqb n 0 e) p

  pub counts_put : (n a b : ℕ) {l' l'' : List ℕ} {k next : ℕ} → r ≡ Counts n a b → n ≡ 0 → Put l 0 (hexadecimal (n ∷ [])) l' k
      → Put l' k (ids_text (a ∷ b ∷ (take a main ++ take b aux))) l'' next → Whole l'' next
  unfolding reply_bytes hexadecimal
  counts_put n a b is e p q = rw (is, eq-eqb n 0 e) (put_then p q)

  pub counts_refused : (n a b : ℕ) {l' : List ℕ} {k : ℕ} → r ≡ Counts n a b → (n ≡ 0 → ⊥) → Put l 0 (hexadecimal (n ∷ [])) l' k → Whole l' k
  unfolding reply_bytes
  counts_refused n a b is e p = rw (is, ne_eqb n 0 e) p

-- how long an answer can be, its line feed not counted
abbrev pub longest : List ℕ → List ℕ → ℕ
longest main aux = 10 + 4 * (length main + length aux)

few_bytes : (b : Bool) (n : ℕ) (xs : List ℕ) (m : ℕ) → length xs ≤ m → length (n ∷ (if b then xs else [])) ≤ 1 + m
few_bytes true n xs m h = omega arith
few_bytes false n xs m h = omega arith

pub reply_short : (r : Reply) (main aux : List ℕ) → length (reply_bytes r main aux) ≤ 5 + 2 * (length main + length aux)
unfolding reply_bytes two
reply_short (Bare n) main aux = omega arith
reply_short (Id n i) main aux = omega (arith, few_bytes (eqb n 0) n (two i) 2 (omega arith))
reply_short (Counts n a b) main aux =
    omega (
      arith,
      few_bytes (eqb n 0) n (twos (a ∷ b ∷ (take a main ++ take b aux))) (4 + 2 * (length main + length aux))
          (omega (arith, length_twos (a ∷ b ∷ (take a main ++ take b aux)), length-append (take a main) (take b aux), length-take a main, length-take b aux)),
    )

pub reply_most : (r : Reply) (main aux : List ℕ) {l l' : List ℕ} {k : ℕ} → Put l 0 (hexadecimal (reply_bytes r main aux)) l' k → k ≤ longest main aux
reply_most r main aux put = omega (arith, put.behind, length_hexadecimal (reply_bytes r main aux), reply_short r main aux)
