use Rattle.std.proofs.Common.{Option, refl, ◌≡◌, ℕ, ◌+◌, ◌-◌, ◌≤◌, List, ◌++◌, rules, arith, length, take, slice_range, sym, ap, ◌∙◌, subst, le_refl, drop_at, length-take-le}
use Rattle.std.proofs.lemmas.Slice.{take-put_mid_below}
use Rattle.std.specs.Io.KnownBytes.{Consumes}
use Rattle.std.proofs.KnownBytes.{Consumes-trans}
use borrow.Rule.Slice.PartMut.{put_mid, post_of}
use lib.Seq.{take-add, take-append-le}
use Rattle.inputs.proofs.read_full.Goals as goal

take_split : (a b : ℕ) (old new : List ℕ) → a ≤ b → take a new ≡ take a old → take a old ++ slice_range new a b ≡ take b new
take_split a b old new h front =
    let same : a + (b - a) ≡ b = omega arith in
    ap (λ l. l ++ slice_range new a b) (sym front) ∙ sym (take-add a (b - a) new) ∙ ap (λ n. take n new) same

slice_range-put_mid : (a k n : ℕ) (xs ys : List ℕ) → a ≤ length xs → n ≤ length ys → slice_range (put_mid a k xs ys) a (a + n) ≡ take n ys
slice_range-put_mid a k n xs ys within fits =
    let same : (a + n) - a ≡ n = omega arith in
    let after = post_of a k xs in
    ap (take ((a + n) - a)) (drop_at (take a xs) (ys ++ after) a (length-take-le a xs within)) ∙ ap (λ m. take m (ys ++ after)) same ∙ take-append-le n ys after fits

-- what is filled after a read is what was filled before it and what the read gave
filled : (a b d : Option (List ℕ)) (from n to : ℕ) (part got : List ℕ) → from + n ≡ to → from ≤ length part → n ≤ length got → Consumes a b (take from part) → Consumes b d (take n got)
    → Consumes a d (take to (put_mid from (length part - from) part got))
filled a b d from n to part got ends within fits before given =
    let room = length part - from in
    let same = slice_range-put_mid from room n part got within fits in
    let joined = take_split from (from + n) part (put_mid from room part got) (omega arith) (take-put_mid_below _ _ _ _ _ (le_refl _) within) in
    subst (Consumes _ _) (ap (λ l. take from part ++ l) (sym same) ∙ joined ∙ ap (λ k. take k (put_mid from room part got)) ends) (Consumes-trans _ _ _ _ _ before given)

pub loop-done-preserved : goal.loop-done-preserved
loop-done-preserved g c = record {
  within = search rules;
  bytes = filled _ _ _ _ _ _ _ _ refl c.loop-done.invariant.within c.in_ok-n.ensures.bound.0 c.loop-done.invariant.bytes c.in_ok-n.ensures.bytes.0;
}

pub returns-then-n-eq0-clause-bytes : goal.returns-then-n-eq0-clause-bytes
returns-then-n-eq0-clause-bytes g c =
    let ends : c.loop-done.done + c.in_ok-n.n ≡ c.loop-done.done = omega (arith, c.if-n-eq0.true) in
    filled _ _ _ c.loop-done.done _ c.loop-done.done _ _ ends c.loop-done.invariant.within c.in_ok-n.ensures.bound.0 c.loop-done.invariant.bytes c.in_ok-n.ensures.bytes.0
