-- Laws of how wide a row is, and of the tests that come before a fill. Assumes nothing.
use Rattle.std.specs.Prelude.{if◌then◌else◌}
use Prim.Native.Nat.{ℕ, zero, suc, ◌+◌, ◌-◌, ◌*◌, ◌<◌, ◌≤◌}
use mathlib.Core.Path.{◌≡◌, refl, sym, ap, ◌∙◌}
use mathlib.Core.Bool.{Bool, true, false, ◌&&◌, ◌||◌, not}
use mathlib.Core.List.{List}
use native.Mathlib.Omega.{arith}
use lib.ListN.{length, take}
use lib.Seq.{take_all}
use lib.Dec.{ltb, eqb}
use borrow.Author.Tests.{ltb-true, ltb-false, lt-ltb, eqb-true, eqb-false}
use Rattle.layout.specs.Lists.{all}
use Rattle.layout.specs.Words.{row_kind}
use Rattle.layout.proofs.Lists.{same_test, or_left}
use Rattle.layout.proofs.Tests.{neither}
use Rattle.layout.proofs.Refusals.{refusal_none, refusal_here, refusal_next}
use Rattle.framing.specs.Digits.{is_digit}
use Rattle.framing.specs.Answers.{FRAME}
use Rattle.desk.specs.declared.Latest.{Latest}
use Rattle.desk.specs.Lines.{too_many, too_wide, row_bytes, is_rows, rows_given, row_refusal}
use Rattle.desk_line.specs.Reading.{OneOrTwo}
use Rattle.desk_line.specs.Rows.{Narrow}

-- too many of one kind
pub many_old : (old new : ℕ) → 1024 < old → true ≡ too_many (old + new)
unfolding too_many
many_old old new h = sym (lt-ltb 1024 (old + new) (omega arith))

pub many_new : (old new : ℕ) → old ≤ 1024 → ltb (1024 - old) new ≡ too_many (old + new)
unfolding too_many
many_new old new h =
    same_test (ltb (1024 - old) new) (ltb 1024 (old + new))
    (λ e. lt-ltb 1024 (old + new) (let k = ltb-true (1024 - old) new e in omega arith))
    (λ e. lt-ltb (1024 - old) new (let k = ltb-true 1024 (old + new) e in omega arith))

-- of either
module _ (l : Latest) (a : Bool) (is : a ≡ too_many (l.main_count + l.mains)) where
  pub wide_main : a ≡ true → true ≡ too_wide l
  unfolding too_wide
  wide_main t = sym (or_left _ _ (sym is ∙ t))

  pub wide_aux : a ≡ false → (b : Bool) → b ≡ too_many (l.aux_count + l.auxs) → b ≡ too_wide l
  unfolding too_wide
  wide_aux f b e = e ∙ sym (ap (λ (q : Bool). q || too_many (l.aux_count + l.auxs)) (sym is ∙ f))

pub narrow : (l : Latest) → too_wide l ≡ false → Narrow l
unfolding too_wide too_many
narrow l h =
    let n = neither (ltb 1024 (l.main_count + l.mains)) (ltb 1024 (l.aux_count + l.auxs)) h in
    record { main = ltb-false _ _ n.0; aux = ltb-false _ _ n.1 }

-- one row or two
pub two_of : (rows n : ℕ) → rows ≡ 2 → n + n ≡ rows * n
two_of rows n e = rw e (omega arith)

pub one_of : (rows n : ℕ) → OneOrTwo rows → (rows ≡ 2 → ⊥) → n ≡ rows * n
one_of rows n k h =
    let e : rows ≡ 1 = omega (arith, k.some, k.few) in
    rw e (omega arith)

pub rows_given_lem : (m : List ℕ) → OneOrTwo (row_kind m) → rows_given m ≡ row_kind m
unfolding rows_given
rows_given_lem m k = go (eqb (row_kind m) 2) refl
  where
    go : (b : Bool) → eqb (row_kind m) 2 ≡ b → (if b then 2 else 1) ≡ row_kind m
    go true e = sym (eqb-true (row_kind m) 2 e)
    go false e = let h = eqb-false (row_kind m) 2 e in omega (arith, k.some, k.few, h)

pub at_most_two : (rows n : ℕ) → OneOrTwo rows → rows * n ≤ 2 * n
at_most_two zero n k = omega arith
at_most_two (suc zero) n k = omega arith
at_most_two (suc (suc zero)) n k = omega arith
at_most_two (suc (suc (suc r))) n k = absurd (omega (arith, k.few))

pub at_least_one : (rows n : ℕ) → OneOrTwo rows → n ≤ rows * n
at_least_one zero n k = absurd (omega (arith, k.some))
at_least_one (suc zero) n k = omega arith
at_least_one (suc (suc zero)) n k = omega arith
at_least_one (suc (suc (suc r))) n k = absurd (omega (arith, k.few))

-- digits, and as many as the rows have
module _ (l : Latest) (rows : ℕ) (line : List ℕ) (a : Bool) (is : a ≡ all is_digit line) where
  pub rows_no_digits : a ≡ false → false ≡ is_rows l rows line
  unfolding is_rows
  rows_no_digits f = sym (ap (λ (q : Bool). q && eqb (length line) (2 * (1 + rows * row_bytes l))) (sym is ∙ f))

  pub rows_counted : a ≡ true → (bytes : ℕ) → bytes ≡ rows * row_bytes l → eqb (length line) (2 * (1 + bytes)) ≡ is_rows l rows line
  unfolding is_rows
  rows_counted t bytes e = ap (λ (q : ℕ). eqb (length line) (2 * (1 + q))) e ∙ sym (ap (λ (q : Bool). q && eqb (length line) (2 * (1 + rows * row_bytes l))) (sym is ∙ t))

-- which refusal
module _ (l : Latest) (rows : ℕ) (line : List ℕ) where
  pub not_lowered_lem : l.lowered ≡ false → FRAME ≡ row_refusal l rows line
  unfolding row_refusal
  not_lowered_lem h = sym (refusal_here _ _ _ (ap not h))

  module _ (h : l.lowered ≡ true) where
    pub refused_wide : too_wide l ≡ true → 13 ≡ row_refusal l rows line
    unfolding row_refusal
    refused_wide w = sym (refusal_next _ _ _ (ap not h) ∙ refusal_here _ _ _ w)

    pub refused_rows : too_wide l ≡ false → is_rows l rows line ≡ false → FRAME ≡ row_refusal l rows line
    unfolding row_refusal
    refused_rows w r = sym (refusal_next _ _ _ (ap not h) ∙ refusal_next _ _ _ w ∙ refusal_here _ _ _ (ap not r))

    pub no_refusal : too_wide l ≡ false → is_rows l rows line ≡ true → 0 ≡ row_refusal l rows line
    unfolding row_refusal
    no_refusal w r = sym (refusal_next _ _ _ (ap not h) ∙ refusal_next _ _ _ w ∙ refusal_next _ _ _ (ap not r) ∙ refusal_none)

  -- where none applies the row is narrow
  pub row_narrow : row_refusal l rows line ≡ 0 → Narrow l
  row_narrow e = go l.lowered refl (too_wide l) refl
    where
      go : (a : Bool) → l.lowered ≡ a → (b : Bool) → too_wide l ≡ b → Narrow l
      go false p b q = absurd (omega (arith, e, not_lowered_lem p))
      go true p true q = absurd (omega (arith, e, refused_wide p q))
      go true p false q = narrow l q

-- a list's places that count
pub whole_list : (n : ℕ) (list : List ℕ) → length list ≤ n → take (length list) list ≡ take n list
whole_list n list h = take_all (length list) list (omega arith) ∙ sym (take_all n list h)
