-- Tree sizes, from the operands' own, and the length of the walks from some roots. Assumes nothing.
use Rattle.std.specs.Prelude.{None, Some}
use Prim.Native.Nat.{ℕ, ◌+◌, ◌<◌, ◌≤◌, min}
use mathlib.Core.Path.{◌≡◌, refl, sym, ap, ◌∙◌}
use mathlib.Core.Logic.{⊎_elim}
use mathlib.Core.Bool.{false}
use mathlib.Core.List.{List, [], ◌∷◌, ◌++◌, append_assoc}
use native.Mathlib.Omega.{arith}
use native.Mathlib.Numerals.{add-one}
use lib.ListN.{length, set, take, length-append}
use lib.Seq.{take-suc, get_or-set_same, get_or-set_other}
use Rattle.layout.specs.Words.{used}
use Rattle.layout.specs.NotCircuit.{not_circuit}
use Rattle.layout.specs.Tree.{tree}
use Rattle.circuit.specs.Rank.{at, Sorted}
use Rattle.layout.proofs.Tests.{last_or}
use Rattle.walking.specs.Paths.{walk, walks}
use Rattle.paths.specs.Walking.{Sizes}
use Rattle.paths.proofs.Walks.{step, step_below, walk_step}
use Rattle.paths.proofs.Uses.{ranks_fall}

-- the size of a tree: how long its walk is
abbrev pub size : List ℕ → ℕ → ℕ
size m i = length (walk (tree m i))

module _ (m : List ℕ) (valid : not_circuit m ≡ false) (i : ℕ) (here : i < used m) where
  pub size_stay : step m i ≡ None → size m i ≡ 1
  size_stay e = ap length (walk_step m valid i here) ∙ rw e

  pub size_two : (l r : ℕ) → step m i ≡ Some (l, r) → size m i ≡ size m l + 1 + size m r
  size_two l r e = ap length (walk_step m valid i here) ∙ rw (e, length-append (walk (tree m l)) (i ∷ walk (tree m r))) (omega arith)

  -- from saturated sizes
  pub size_one : (top answer : ℕ) → step m i ≡ None → answer ≡ min top 1 → answer ≡ min top (size m i)
  size_one top answer e h = h ∙ ap (min top) (sym (size_stay e))

  pub size_sum : (top answer l r a b : ℕ) → step m i ≡ Some (l, r) → (a ≡ min top (size m l)) × (b ≡ min top (size m r)) → answer ≡ min top (a + 1 + b) → answer ≡ min top (size m i)
  size_sum top answer l r a b e (p, q) h = let s = size_two l r e in omega arith

-- the loop up the order

pub record SizesTo (m order sizes : List ℕ) (top q : ℕ) : Type 0 where
  pub told : (p : ℕ) → p < q → at sizes (at order p) ≡ min top (size m (at order p))

module _ (m : List ℕ) (valid : not_circuit m ≡ false) (order rank : List ℕ) (sorted : Sorted m order rank) (sizes : List ℕ) (top q : ℕ) (so_far : SizesTo m order sizes top q) where
  -- a node that comes before has its size
  before : (j : ℕ) → j < used m → at rank j < q → at sizes j ≡ min top (size m j)
  before j l b = rw (sorted.order_rank j l) at (so_far.told (at rank j) b)

  pub sizes_operands : q < used m → (l r : ℕ) → step m (at order q) ≡ Some (l, r) → (at sizes l ≡ min top (size m l)) × (at sizes r ≡ min top (size m r))
  sizes_operands h l r e =
      let here = sorted.order_below q h in
      let (fl, fr) = ranks_fall m valid order rank sorted (at order q) here l r e in
      let (bl, br) = step_below m valid (at order q) here l r e in
      let k = sorted.rank_order q h in
      (before l bl (omega arith), before r br (omega arith))

  pub sizes-next : q < used m → at order q < length sizes → (v : ℕ) → v ≡ min top (size m (at order q)) → SizesTo m order (set sizes (at order q) v) top (q + 1)
  sizes-next h s v e = record {
    told = λ p l.
        ⊎_elim
        (λ z. rw z (get_or-set_same sizes (at order q) v 0 s ∙ e))
        (λ lt. get_or-set_other sizes (at order q) (at order p) v 0 (λ w. let a = sorted.rank_order p (omega arith) in let b = sorted.rank_order q h in let t = ap (at rank) w in omega arith) ∙ so_far.told p lt)
        (last_or p q (omega arith));
  }

  pub sizes_done : used m ≤ q → Sizes m sizes top
  sizes_done h = record { told = λ i l. let r = sorted.rank_below i l in before i l (omega arith) }

-- the sum over the roots

pub walks_append : (m xs ys : List ℕ) → walks m (xs ++ ys) ≡ walks m xs ++ walks m ys
unfolding walks
walks_append m [] ys = refl
walks_append m (x ∷ xs) ys = rw (walks_append m xs ys, append_assoc (walk (tree m x)) (walks m xs) (walks m ys))

pub sum-zero : (m roots : List ℕ) (top : ℕ) → 0 ≡ min top (length (walks m (take 0 roots)))
unfolding walks
sum-zero m roots top = omega arith

pub sum_next : (m roots : List ℕ) (top k sum next : ℕ) → k < length roots → sum ≡ min top (length (walks m (take k roots))) → next ≡ min top (sum + min top (size m (at roots k))) → next ≡ min top (length (walks m (take (k + 1) roots)))
unfolding walks
sum_next m roots top k sum next l e h =
    rw (add-one k, take-suc roots k 0 l, walks_append m (take k roots) (at roots k ∷ []), length-append (walks m (take k roots)) (walk (tree m (at roots k)) ++ []), length-append (walk (tree m (at roots k))) []) (omega arith)
