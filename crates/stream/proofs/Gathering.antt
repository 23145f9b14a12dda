-- Laws of gathering a line: what it makes of the stream. Assumes nothing.
use Rattle.std.specs.Prelude.{if◌then◌else◌}
use Prim.Native.Nat.{ℕ, suc, ◌+◌, ◌≤◌, ◌<◌}
use mathlib.Core.Path.{◌≡◌, refl, sym, ap, ◌∙◌, subst}
use mathlib.Core.Bool.{Bool, true, false}
use mathlib.Core.List.{List, [], ◌∷◌, ◌++◌, append-nil}
use native.Mathlib.Numerals.{add-one}
use native.Mathlib.Omega.{arith}
use lib.ListN.{length, get_or, set, take, drop, drop_of_length-le}
use lib.Seq.{take-suc-set, length-take-le, drop-cons}
use lib.Dec.{eqb}
use borrow.Author.Tests.{lt-ltb, le-ltb, eq-eqb, ne_eqb, eqb-true, eqb-false}
use Rattle.stream.specs.Stream.{Program, Stream, stream, Fed, kept_with, fed_one, fed, Line, line_of, gathered}

-- characters
pub keep_full : (line : List ℕ) (kept b : ℕ) → kept ≤ length line → length line ≤ kept → take kept line ≡ kept_with (length line) (take kept line) b
unfolding kept_with
keep_full line kept b h g = sym (rw (le-ltb (length (take kept line)) (length line) (omega (arith, length-take-le kept line h))))

pub keep_more : (line : List ℕ) (kept b : ℕ) → kept < length line → take (kept + 1) (set line kept b) ≡ kept_with (length line) (take kept line) b
unfolding kept_with
keep_more line kept b h =
    ap (λ (q : ℕ). take q (set line kept b)) (add-one kept) ∙ take-suc-set line kept b h
    ∙ sym (rw (lt-ltb (length (take kept line)) (length line) (omega (arith, length-take-le kept line (omega arith)))))

-- a byte more
gathered_feed : (most : ℕ) (kept : List ℕ) (b : ℕ) (bs : List ℕ) → b ≡ 10 → gathered most kept (b ∷ bs) ≡ line_of 1 kept true
unfolding gathered
gathered_feed most kept b bs e = rw (eq-eqb b 10 e)

gathered_other : (most : ℕ) (kept : List ℕ) (b : ℕ) (bs : List ℕ) → (b ≡ 10 → ⊥)
    → gathered most kept (b ∷ bs) ≡ line_of (suc (gathered most (kept_with most kept b) bs).taken) (gathered most (kept_with most kept b) bs).kept (gathered most (kept_with most kept b) bs).ended
unfolding gathered
gathered_other most kept b bs e = rw (ne_eqb b 10 e)

gathered_none : (most : ℕ) (kept : List ℕ) → gathered most kept [] ≡ line_of 0 kept false
unfolding gathered
gathered_none most kept = refl

-- what was gathered of a part so far, and what remains
module _ (most : ℕ) (first part : List ℕ) where
  abbrev rest : ℕ → List ℕ → Line
  rest i kept = gathered most kept (drop i part)

  pub record Gathering (i : ℕ) (kept : List ℕ) : Type 0 where
    pub so_far : gathered most first part ≡ line_of (i + (rest i kept).taken) (rest i kept).kept (rest i kept).ended

  pub gathering_none : Gathering 0 first
  gathering_none =
      let e : 0 + (gathered most first part).taken ≡ (gathered most first part).taken = omega arith in
      record { so_far = ap (λ (q : ℕ). line_of q (gathered most first part).kept (gathered most first part).ended) (sym e) }

  module _ (i : ℕ) (kept : List ℕ) (g : Gathering i kept) where
    pub gathering_ended : i < length part → get_or part i 0 ≡ 10 → line_of (i + 1) kept true ≡ gathered most first part
    gathering_ended h e =
        let r : rest i kept ≡ line_of 1 kept true = ap (gathered most kept) (drop-cons part i 0 h) ∙ gathered_feed most kept (get_or part i 0) (drop (suc i) part) e in
        sym (g.so_far ∙ ap (λ (x : Line). line_of (i + x.taken) x.kept x.ended) r)

    pub gathering_more : (kept' : List ℕ) (n : ℕ) → i < length part → (get_or part i 0 ≡ 10 → ⊥) → n ≡ most → kept' ≡ kept_with n kept (get_or part i 0) → Gathering (i + 1) kept'
    gathering_more kept' n h e same keeps =
        let more : List ℕ = kept_with most kept (get_or part i 0) in
        let k : kept' ≡ more = keeps ∙ ap (λ (q : ℕ). kept_with q kept (get_or part i 0)) same in
        let r : rest i kept ≡ line_of (suc (rest (suc i) more).taken) (rest (suc i) more).kept (rest (suc i) more).ended =
        ap (gathered most kept) (drop-cons part i 0 h) ∙ gathered_other most kept (get_or part i 0) (drop (suc i) part) e in
        let later : i + suc (rest (suc i) more).taken ≡ suc i + (rest (suc i) more).taken = omega arith in
        let next : gathered most first part ≡ line_of (suc i + (rest (suc i) more).taken) (rest (suc i) more).kept (rest (suc i) more).ended =
        g.so_far ∙ ap (λ (x : Line). line_of (i + x.taken) x.kept x.ended) r ∙ ap (λ (q : ℕ). line_of q (rest (suc i) more).kept (rest (suc i) more).ended) later in
        record {
          so_far = next ∙ ap (λ (q : List ℕ). line_of (suc i + (rest (suc i) q).taken) (rest (suc i) q).kept (rest (suc i) q).ended) (sym k)
              ∙ ap (λ (q : ℕ). line_of (q + (rest q kept').taken) (rest q kept').kept (rest q kept').ended) (sym (add-one i));
        }

    pub gathering_all : i ≤ length part → length part ≤ i → line_of (length part) kept false ≡ gathered most first part
    gathering_all j h =
        let r : rest i kept ≡ line_of 0 kept false = ap (gathered most kept) (drop_of_length-le part {i = i} h) ∙ gathered_none most kept in
        let z : i + 0 ≡ length part = omega arith in
        sym (g.so_far ∙ ap (λ (x : Line). line_of (i + x.taken) x.kept x.ended) r ∙ ap (λ (q : ℕ). line_of q kept false) z)

-- never more than there is, and some if there is any
pub gathered_within : (most : ℕ) (kept bs : List ℕ) → ((gathered most kept bs).taken ≤ length bs) × (0 < length bs → 0 < (gathered most kept bs).taken)
unfolding gathered
gathered_within most kept [] = (omega arith, λ h. h)
gathered_within most kept (b ∷ bs) = go (eqb b 10) (gathered_within most (kept_with most kept b) bs).0
  where
    rest : Line
    rest = gathered most (kept_with most kept b) bs

    go : (t : Bool) → rest.taken ≤ length bs → ((if t then line_of 1 kept true else line_of (suc rest.taken) rest.kept rest.ended).taken ≤ length (b ∷ bs)) × (0 < length (b ∷ bs) → 0 < (if t then line_of 1 kept true else line_of (suc rest.taken) rest.kept rest.ended).taken)
    go true l = (omega arith, λ h. omega arith)
    go false l = (omega arith, λ h. omega arith)

-- what a line makes of the stream
module _ {S : Type 0} (p : Program S) where
  abbrev fed_as : Stream S → List ℕ → Fed S
  fed_as s t = record { after = s; said = t }

  -- where it ended it was answered
  abbrev pub line_fed : S → Line → Fed S
  line_fed s g = if g.ended then fed_one p (stream s g.kept) 10 else fed_as (stream s g.kept) []

  fed_feed : (s : S) (kept : List ℕ) (b : ℕ) → b ≡ 10 → fed p (stream s kept) (b ∷ []) ≡ fed_one p (stream s kept) 10
  unfolding fed fed_one
  fed_feed s kept b e = rw (eq-eqb b 10 e) (ap (fed_as (stream (p.next s kept) [])) (append-nil (p.says s kept)))

  one_other : (s : S) (kept : List ℕ) (b : ℕ) → (b ≡ 10 → ⊥) → fed_one p (stream s kept) b ≡ fed_as (stream s (kept_with p.most kept b)) []
  unfolding fed_one
  one_other s kept b e = rw (ne_eqb b 10 e)

  fed_other : (s : S) (kept : List ℕ) (b : ℕ) (bs : List ℕ) → (b ≡ 10 → ⊥) → fed p (stream s kept) (b ∷ bs) ≡ fed p (stream s (kept_with p.most kept b)) bs
  unfolding fed
  fed_other s kept b bs e = ap (λ (y : Fed S). fed_as (fed p y.after bs).after (y.said ++ (fed p y.after bs).said)) (one_other s kept b e)

  fed_none : (s : S) (kept : List ℕ) → fed p (stream s kept) (take (gathered p.most kept []).taken []) ≡ line_fed s (gathered p.most kept [])
  unfolding gathered fed
  fed_none s kept = refl

  pub fed_gathered : (s : S) (kept bs : List ℕ) → fed p (stream s kept) (take (gathered p.most kept bs).taken bs) ≡ line_fed s (gathered p.most kept bs)
  fed_gathered s kept [] = fed_none s kept
  fed_gathered s kept (b ∷ bs) = go (eqb b 10) refl (fed_gathered s (kept_with p.most kept b) bs)
    where
      by : Line → Type 0
      by g = fed p (stream s kept) (take g.taken (b ∷ bs)) ≡ line_fed s g

      go : (t : Bool) → eqb b 10 ≡ t → fed p (stream s (kept_with p.most kept b)) (take (gathered p.most (kept_with p.most kept b) bs).taken bs) ≡ line_fed s (gathered p.most (kept_with p.most kept b) bs) → by (gathered p.most kept (b ∷ bs))
      go true e r = subst by (sym (gathered_feed p.most kept b bs (eqb-true b 10 e))) (fed_feed s kept b (eqb-true b 10 e))
      go false e r = subst by (sym (gathered_other p.most kept b bs (eqb-false b 10 e))) (fed_other s kept b (take (gathered p.most (kept_with p.most kept b) bs).taken bs) (eqb-false b 10 e) ∙ r)
