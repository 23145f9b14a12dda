-- The laws of several steps, one after the other: room for an early one is not room for all, but no room for an early one is no room for all.
-- Assumes nothing.
use Rattle.std.specs.Prelude.{Option, Some, None}
use Rattle.std.specs.List.{between}
use Rattle.std.proofs.lemmas.List.Edits.{length-between, get_or-between}
use Prim.Native.Nat.{ℕ, zero, suc, ◌+◌, ◌<◌, ◌≤◌}
use mathlib.Core.Path.{◌≡◌, refl, sym, ap, ◌∙◌}
use mathlib.Core.Bool.{true, false}
use mathlib.Core.List.{List, [], ◌∷◌}
use native.Mathlib.Omega.{arith}
use lib.Dec.{leb}
use lib.ListN.{length, get_or, drop}
use lib.Seq.{drop-cons}
use borrow.Author.Tests.{ltb-true, ltb-false, lt-ltb, le-ltb, lt-leb, leb-false}
use Rattle.arithmetic.specs.Base.{p, minus_one}
use Rattle.layout.specs.declared.node.Op.TheVariants.{Add, Multiply}
use Rattle.layout.specs.declared.node.Expression.TheVariants.{Base}
use Rattle.layout.specs.Lists.{any}
use Rattle.layout.specs.Words.{used, limit}
use Rattle.layout.specs.NotCircuit.{bad_expression, bad_id}
use Rattle.layout.proofs.Tests.{neither}
use Rattle.building.specs.Building.{Built, built, find_or_make, operate, negated, subtracted, summed_from, summed, full}
use Rattle.build.specs.Inner.{Buildable, Makable, Operable, Summable, Taken, Stopped, Step, Unchanged, Stepped, Kept, Tried}
use Rattle.build.proofs.Growing.{Grown, still, grown_used, grown_then, grown_kept, find_grows, operate_grows, negate_grows, sum_grows}

-- FULL as a fact
pub full_over : (m : List ℕ) (b : Built) → full m b ≡ true → limit m < used b.circuit
unfolding full
full_over m b h = ltb-true (limit m) (used b.circuit) h

pub full_not : (m : List ℕ) (b : Built) → full m b ≡ false → used b.circuit ≤ limit m
unfolding full
full_not m b h = ltb-false (limit m) (used b.circuit) h

over_full : (m : List ℕ) (b : Built) → limit m < used b.circuit → full m b ≡ true
unfolding full
over_full m b h = lt-ltb (limit m) (used b.circuit) h

pub not_full : (m : List ℕ) (b : Built) → used b.circuit ≤ limit m → full m b ≡ false
unfolding full
not_full m b h = le-ltb (limit m) (used b.circuit) h

-- nothing was written
kept_still : (most : ℕ) (m : List ℕ) → used m ≤ limit m → Kept most m m
kept_still most m r = (grown_kept still r most (omega arith)).0

-- a step, and then another

module _ (most : ℕ) (m : List ℕ) (b : Built) (g : Grown m b.circuit) (few : used b.circuit ≤ used m + most) where
  module _ (i : ℕ) (m₁ num₁ t₁ least₁ : List ℕ) (s : Taken m b i m₁ num₁ t₁ least₁) where
    kept_first : Kept most m m₁ × (limit m₁ ≡ limit m)
    kept_first = rw s.after (grown_kept g (full_not m b s.room) most few)

    pub then_step : (b₂ : Built) (r : Option ℕ) (m₂ num₂ t₂ least₂ : List ℕ) → Stepped m₁ b₂ r m₂ num₂ t₂ least₂ → Tried most m b₂ r m₂ num₂ t₂ least₂
    then_step b₂ (Some j) m₂ num₂ t₂ least₂ h =
        let w = h.told in
        let f = full_not m₁ b₂ w.room in
        let l = kept_first.1 in
        record { told = record { room = not_full m b₂ (omega arith); id = w.id; below = w.below; after = w.after; buildable = w.buildable } }
    then_step b₂ None m₂ num₂ t₂ least₂ h =
        let w = h.told in
        let f = full_over m₁ b₂ w.over in
        let l = kept_first.1 in
        record { told = record { over = over_full m b₂ (omega arith); left = rw w.left.same kept_first.0 } }

-- no room for an early step
pub stops_early : {rest rest' : Type 0} (m : List ℕ) (b b₂ : Built) (m₁ num t least : List ℕ) → Stopped rest m b → used b.circuit ≤ used b₂.circuit → (rest → rest') → Step rest' m b₂ None m₁ num t least
stops_early m b b₂ m₁ num t least s g f =
    let o = full_over m b s.over in
    record { told = record { over = over_full m b₂ (omega arith); left = f s.left } }

-- negate and subtract

pub minus_makable : (m num t least : List ℕ) → Buildable m num t least → Makable m num t least (Base minus_one)
unfolding bad_expression
minus_makable m num t least b = record { buildable = b; good = lt-leb p minus_one (omega arith) }

-- a node stays one
pub still_below : {m m' : List ℕ} → Grown m m' → (a : ℕ) → a < used m → a < used m'
still_below g a l = let h = grown_used g in omega arith

module _ (m : List ℕ) (a : ℕ) where
  module _ (i : ℕ) (m₁ num₁ t₁ least₁ : List ℕ) (s : Taken m (find_or_make m (Base minus_one)) i m₁ num₁ t₁ least₁) where
    pub negate_operable : a < used m → Operable m₁ num₁ t₁ least₁ i a
    negate_operable l = record { buildable = s.buildable; left = s.below; right = rw s.after (still_below (find_grows m (Base minus_one)).grown a l) }

    pub negate_then : (r : Option ℕ) (m₂ num₂ t₂ least₂ : List ℕ) → Stepped m₁ (operate m₁ Multiply i a) r m₂ num₂ t₂ least₂ → Tried 1 m (negated m a) r m₂ num₂ t₂ least₂
    unfolding negated
    negate_then r m₂ num₂ t₂ least₂ h =
        let e : operate m₁ Multiply i a ≡ negated m a = rw (s.after, s.id) in
        let g = find_grows m (Base minus_one) in
        let f = g.few in
        then_step 1 m (find_or_make m (Base minus_one)) g.grown (omega arith) i m₁ num₁ t₁ least₁ s (negated m a) r m₂ num₂ t₂ least₂ (rw e at h)

  pub negate_stops : (m₁ num t least : List ℕ) → used m ≤ limit m → Stopped (Unchanged m m₁ num t least) m (find_or_make m (Base minus_one)) → Tried 1 m (negated m a) None m₁ num t least
  unfolding negated
  negate_stops m₁ num t least u s =
      let b : Built = find_or_make m (Base minus_one) in
      stops_early m b (negated m a) m₁ num t least s (grown_used (operate_grows b.circuit Multiply b.id a).grown) (λ w. rw w.same (kept_still 1 m u))

module _ (m : List ℕ) (a b : ℕ) where
  module _ (i : ℕ) (m₁ num₁ t₁ least₁ : List ℕ) (s : Taken m (negated m b) i m₁ num₁ t₁ least₁) where
    pub subtract_operable : a < used m → Operable m₁ num₁ t₁ least₁ a i
    subtract_operable l = record { buildable = s.buildable; left = rw s.after (still_below (negate_grows m b).grown a l); right = s.below }

    pub subtract_then : (r : Option ℕ) (m₂ num₂ t₂ least₂ : List ℕ) → Stepped m₁ (operate m₁ Add a i) r m₂ num₂ t₂ least₂ → Tried 2 m (subtracted m a b) r m₂ num₂ t₂ least₂
    unfolding subtracted
    subtract_then r m₂ num₂ t₂ least₂ h =
        let e : operate m₁ Add a i ≡ subtracted m a b = rw (s.after, s.id) in
        let g = negate_grows m b in
        let f = g.few in
        then_step 2 m (negated m b) g.grown (omega arith) i m₁ num₁ t₁ least₁ s (subtracted m a b) r m₂ num₂ t₂ least₂ (rw e at h)

  pub subtract_stops : (m₁ num t least : List ℕ) → Stopped (Kept 1 m m₁) m (negated m b) → Tried 2 m (subtracted m a b) None m₁ num t least
  unfolding subtracted
  subtract_stops m₁ num t least s =
      let n : Built = negated m b in
      stops_early m n (subtracted m a b) m₁ num t least s (grown_used (operate_grows n.circuit Add a n.id).grown)
      (λ w. let f = w.few in record { lengths = w.lengths; grows = w.grows; few = omega arith; inside = w.inside; words = w.words })

-- sum

pub id_below : (m ids : List ℕ) (k : ℕ) → bad_id m ids ≡ false → k < length ids → get_or ids k 0 < used m
unfolding bad_id any
id_below m [] k h l = absurd (omega arith)
id_below m (i ∷ ids) zero h l = leb-false (used m) i (neither (leb (used m) i) (any (leb (used m)) ids) h).0
id_below m (i ∷ ids) (suc k) h l = id_below m ids k (neither (leb (used m) i) (any (leb (used m)) ids) h).1 (omega arith)

-- an id after the first
module _ (ids : List ℕ) (k : ℕ) (l : k < length (between 1 (length ids) ids)) where
  pub later_below : k + 1 < length ids
  later_below = let n = length-between ids 1 (length ids) (omega arith) in omega arith

  pub later_id : get_or (between 1 (length ids) ids) k 0 ≡ get_or ids (k + 1) 0
  later_id = let h = later_below in get_or-between ids 1 (length ids) k 0 (omega arith) ∙ ap (λ (i : ℕ). get_or ids i 0) (omega arith)

pub drop_all : (k : ℕ) (l : List ℕ) → length l ≤ k → drop k l ≡ []
drop_all zero [] h = refl
drop_all zero (a ∷ l) h = absurd (omega arith)
drop_all (suc k) [] h = refl
drop_all (suc k) (a ∷ l) h = drop_all k l (omega arith)

-- k ids are summed in m, to i
pub record Summing (m₀ ids m num t least : List ℕ) (i k : ℕ) : Type 0 where
  pub buildable : Buildable m num t least
  pub grown : Grown m₀ m
  pub few : used m + 1 ≤ used m₀ + k
  pub inside : used m ≤ limit m₀
  pub below : i < used m
  pub left : summed_from m i (drop k ids) ≡ summed m₀ ids

module _ (m₀ num₀ t₀ least₀ ids : List ℕ) (s : Summable m₀ num₀ t₀ least₀ ids) where
  pub sum_start : used m₀ ≤ limit m₀ → Summing m₀ ids m₀ num₀ t₀ least₀ (get_or ids 0 0) 1
  unfolding summed
  sum_start r = record {
    buildable = s.buildable;
    grown = still;
    few = omega arith;
    inside = r;
    below = id_below m₀ ids 0 s.below s.some;
    left = go ids s.some;
  }
    where
      go : (ids : List ℕ) → 1 ≤ length ids → summed_from m₀ (get_or ids 0 0) (drop 1 ids) ≡ summed m₀ ids
      go [] l = absurd (omega arith)
      go (i ∷ is) l = refl

  module _ (m num t least : List ℕ) (i k : ℕ) (g : Summing m₀ ids m num t least i k) where
    pub sum_end : length ids ≤ k → Tried (length ids) m₀ (summed m₀ ids) (Some i) m num t least
    unfolding summed_from
    sum_end l =
        let d : drop k ids ≡ [] = drop_all k ids l in
        let e : summed m₀ ids ≡ built m i = sym g.left ∙ rw d refl in
        record {
          told = record {
            room = rw e (not_full m₀ (built m i) g.inside);
            id = rw e refl;
            below = g.below;
            after = rw e refl;
            buildable = g.buildable;
          };
        }

    module _ (here : k < length ids) where
      pub sum_operable : Operable m num t least i (get_or ids k 0)
      sum_operable = record { buildable = g.buildable; left = g.below; right = still_below g.grown (get_or ids k 0) (id_below m₀ ids k s.below here) }

      next : Built
      next = operate m Add i (get_or ids k 0)

      rest : summed_from next.circuit next.id (drop (k + 1) ids) ≡ summed m₀ ids
      unfolding next summed_from
      rest = let d = drop-cons ids k 0 here in rw (let q : k + 1 ≡ suc k = omega arith in q) (rw d at g.left)

      limit_same : limit m ≡ limit m₀
      limit_same = (grown_kept g.grown g.inside (length ids) (let a = g.few in omega arith)).1

      pub sum_next : (j : ℕ) (m' num' t' least' : List ℕ) → Taken m (operate m Add i (get_or ids k 0)) j m' num' t' least' → Summing m₀ ids m' num' t' least' j (k + 1)
      unfolding next
      sum_next j m' num' t' least' w =
          let o = operate_grows m Add i (get_or ids k 0) in
          let f = full_not m (operate m Add i (get_or ids k 0)) w.room in
          let l = limit_same in
          let q = g.few in
          let z = o.few in
          let u = ap used w.after in
          record {
            buildable = w.buildable;
            grown = rw w.after (grown_then g.grown o.grown);
            few = omega arith;
            inside = omega arith;
            below = w.below;
            left = rw (w.after, w.id) rest;
          }

      pub sum_stops : (m' num' t' least' : List ℕ) → Stopped (Unchanged m m' num' t' least') m (operate m Add i (get_or ids k 0)) → Tried (length ids) m₀ (summed m₀ ids) None m' num' t' least'
      unfolding next
      sum_stops m' num' t' least' w =
          let o = full_over m (operate m Add i (get_or ids k 0)) w.over in
          let l = limit_same in
          let u = grown_used (sum_grows next.circuit next.id (drop (k + 1) ids)).grown in
          let v = ap (λ (x : Built). used x.circuit) rest in
          record {
            told = record {
              over = over_full m₀ (summed m₀ ids) (omega arith);
              left = rw w.left.same (grown_kept g.grown g.inside (length ids) (let a = g.few in omega arith)).0;
            };
          }
