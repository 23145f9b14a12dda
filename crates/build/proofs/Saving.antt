-- The law of saving: a circuit that differs only in words that were saved, and in its used count, is the old one again when they are put back.
-- Assumes nothing.
use Prim.Native.Nat.{ℕ, ◌+◌, ◌-◌, ◌*◌, ◌<◌, ◌≤◌}
use mathlib.Core.Path.{◌≡◌, ◌∙◌}
use mathlib.Core.Logic.{◌⊎◌, inl, inr, ◌≢◌}
use mathlib.Core.List.{List}
use native.Mathlib.Omega.{arith}
use lib.ListN.{length, get_or}
use lib.Seq.{ext_get_or}
use Rattle.layout.specs.Words.{used, limit, offset}
use Rattle.circuit.specs.Rank.{Sorted}
use Rattle.layout.proofs.Tests.{below_or, same_or}
use Rattle.classes.specs.Find.{Fillable}
use Rattle.build.specs.Inner.{Kept}
use Rattle.build.specs.Saved.{Saved, Restorable, Restored, Classable}

-- where the places that are used end
pub lent_used : (m : List ℕ) → 2 ≤ length m → used m ≤ limit m → offset (used m) ≤ length m
unfolding limit
lent_used m h l = omega arith

module _ (most : ℕ) (m m' saved : List ℕ) (two : 2 ≤ length m) (k : Kept most m m') where
  -- so many places were taken at most
  pub restorable : (n : ℕ) → used m' ≤ used m + n → 6 * n ≤ length saved → Restorable m' saved (used m)
  unfolding limit
  restorable n f h = let a = k.inside in let b = k.lengths in record { less = k.grows; lent = omega arith; kept = omega arith }

  pub restored_is : (m'' : List ℕ) → Saved m saved → Restorable m' saved (used m) → Restored m' saved (used m) m'' → length m'' ≡ length m' → m'' ≡ m
  restored_is m'' s h r l = ext_get_or 0 m'' m (l ∙ k.lengths) (λ j q. go j q (same_or j 1) (below_or j (offset (used m))) (below_or j (offset (used m'))))
    where
      go : (j : ℕ) → j < length m'' → ((j ≡ 1) ⊎ (j ≢ 1)) → ((j < offset (used m)) ⊎ (offset (used m) ≤ j)) → ((j < offset (used m')) ⊎ (offset (used m') ≤ j)) → get_or m'' j 0 ≡ get_or m j 0
      go j q (inl e) a b = rw e r.count
      go j q (inr n) (inl a) b = r.others j n (inl a) ∙ k.words j n (inl a)
      go j q (inr n) (inr a) (inr b) = r.others j n (inr b) ∙ k.words j n (inr b)
      go j q (inr n) (inr a) (inl b) =
          let x : ℕ = j - offset (used m) in
          let e : offset (used m) + x ≡ j = omega arith in
          let f = h.kept in
          let c = k.lengths in
          rw e at (r.back x (omega arith) ∙ s.each x (omega arith) (omega arith))

-- the tables anew
pub fillable : (m order rank num t least : List ℕ) → Classable m num t least → Sorted m order rank → 4096 ≤ length order → used m ≤ 4096 → Fillable m order rank num t least
fillable m order rank num t least c k o u = record {
  orderly = record {
    circuit = c.circuit;
    sorted = k;
    ids = omega arith;
    sized = c.sized;
  };
  leasts = c.leasts;
}
