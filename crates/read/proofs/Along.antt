-- One pass up the order: when a node's turn comes, its operands have their answers. Assumes nothing.
use Rattle.std.specs.Prelude.{Some}
use Prim.Native.Nat.{ℕ, ◌+◌, ◌<◌, ◌≤◌}
use mathlib.Core.Path.{◌≡◌, refl, sym, ap, ◌∙◌}
use mathlib.Core.Bool.{false}
use mathlib.Core.List.{List}
use native.Mathlib.Omega.{arith}
use lib.ListN.{length, set, length-set}
use lib.Seq.{get_or-set_same, get_or-set_other}
use Rattle.layout.specs.declared.node.Op.{Op}
use Rattle.layout.specs.declared.node.Expression.TheVariants.{Operation}
use Rattle.layout.specs.Words.{used, expression_at}
use Rattle.layout.specs.NotCircuit.{not_circuit}
use Rattle.circuit.specs.Rank.{at, Sorted}
use Rattle.layout.proofs.Valid.{valid_operands}
use Rattle.paths.proofs.Counts.{valid_top}
use Rattle.read.specs.Tables.{unknown, operands_of, Filled}
use Rattle.read.specs.Passes.{Ordered, Joinable}
use Rattle.read.proofs.Tables.{two_operation, unknown_step, Joined, Filling, filling_next}

-- one node
module _ {answer : ℕ → ℕ} {m table : List ℕ} {i : ℕ} (q : Joinable answer m table i) {o : Op} {l r : ℕ} (s : operands_of (expression_at m i) ≡ Some (o, l, r)) where
  operation : expression_at m i ≡ Operation o l r
  operation = two_operation m i unknown o l r (unknown_step m i unknown refl ∙ s)

  pub operands_below : (l < used m) × (r < used m)
  operands_below = valid_operands m q.valid i q.here o l r operation

  pub answer_joined : (join : Op → ℕ → ℕ → ℕ) → Joined m join answer → join o (at table l) (at table r) ≡ answer i
  answer_joined join law =
      let (a, b) = q.operands o l r operation in
      ap (λ (x : ℕ). join o x (at table r)) a ∙ ap (join o (answer l)) b ∙ sym (law i q.here o l r operation)

-- the nodes at the first q places of the order have their answers
abbrev pub Along : (ℕ → ℕ) → (m order table₀ table : List ℕ) → ℕ → Type 0
Along answer m order table₀ table q = Filling m table₀ table (λ (p : ℕ). at table (at order p)) (λ (p : ℕ). answer (at order p)) q

module _ (answer : ℕ → ℕ) {m order rank table₀ : List ℕ} (v : Ordered m order rank table₀) (table : List ℕ) (q : ℕ) (f : Along answer m order table₀ table q) where
  -- a node that came before
  before : (j : ℕ) → j < used m → at rank j < q → at table j ≡ answer j
  before j l b = rw (v.sorted.order_rank j l) at (f.filled.told (at rank j) b)

  pub along_joinable : q < used m → Joinable answer m table (at order q)
  along_joinable h =
      let here = v.sorted.order_below q h in
      let k = v.sorted.rank_order q h in
      record {
        valid = v.valid;
        here = here;
        room = rw f.same v.room;
        operands = λ o l r e.
            let (bl, br) = valid_operands m v.valid (at order q) here o l r e in
            let fl = v.sorted.left_first (at order q) o l r here e in
            let fr = v.sorted.right_first (at order q) o l r here e in
            (before l bl (omega arith), before r br (omega arith));
      }

  pub along_next : q < used m → (d : ℕ) → d ≡ answer (at order q) → Along answer m order table₀ (set table (at order q) d) (q + 1)
  along_next h d e =
      let here = v.sorted.order_below q h in
      let room = v.room in
      let same = f.same in
      filling_next
      m
      table₀
      table
      (λ (p : ℕ). at table (at order p))
      (λ (p : ℕ). answer (at order p))
      q
      (set table (at order q) d)
      (λ (p : ℕ). at (set table (at order q) d) (at order p))
      f
      h
      (length-set table (at order q) d)
      (get_or-set_same table (at order q) d 0 (omega arith) ∙ e)
      (λ p l t. get_or-set_other table (at order q) (at order p) d 0 (λ w. let a = v.sorted.rank_order p (omega arith) in let b = v.sorted.rank_order q h in let z = ap (at rank) w in omega arith) ∙ t)

  pub along_done : used m ≤ q → Filled (used m) (at table) answer
  along_done h = record { told = λ j l. let r = v.sorted.rank_below j l in before j l (omega arith) }

-- lists with room for every node there may be have room for these
pub orderly : (m order rank table : List ℕ) → not_circuit m ≡ false → Sorted m order rank → 4096 ≤ length order → 4096 ≤ length table → Ordered m order rank table
orderly m order rank table valid s o room = let t = valid_top m valid in record { valid = valid; sorted = s; order_room = omega arith; room = omega arith }
