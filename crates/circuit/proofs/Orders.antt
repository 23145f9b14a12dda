-- The nodes listed by their ranks. Assumes nothing.
use mathlib.Core.Path.{◌≡◌, sym, ap, ◌∙◌}
use mathlib.Core.Logic.{⊎_elim}
use mathlib.Core.Bool.{Bool, true, false, false≢true}
use mathlib.Core.List.{List}
use Prim.Native.Nat.{ℕ, ◌+◌, ◌<◌, ◌≤◌}
use native.Mathlib.Omega.{arith}
use lib.ListN.{length, set}
use lib.Seq.{get_or-set_same, get_or-set_other}
use Rattle.layout.specs.Words.{used}
use Rattle.circuit.specs.Rank.{at, Sorted}
use Rattle.circuit.specs.Walk.{Ranked, Walked, Placing, Placed, Ordered}
use Rattle.layout.proofs.Tests.{last_or}

-- one more stands at its rank
pub place_next : (order rank : List ℕ) (n i : ℕ) → Placing rank n → i < n → n ≤ length order → ((j : ℕ) → j < i → at order (at rank j) ≡ j) → (j : ℕ) → j < i + 1 → at (set order (at rank i) i) (at rank j) ≡ j
place_next order rank n i p l s h j k =
    let a = p.all i l in
    ⊎_elim
    (λ e. rw e (get_or-set_same order (at rank i) i 0 (omega arith)))
    (λ lt. get_or-set_other order (at rank i) (at rank j) i 0 (λ e. let q : j ≡ i = p.alone j i (omega arith) l e in omega arith) ∙ h j lt)
    (last_or j i (omega arith))

pub ranked_placing : (m rank : List ℕ) → Ranked m rank → Placing rank (used m)
ranked_placing m rank r = record { all = r.all; alone = λ i j l k e. r.walking.alone i j l k (r.all i l) e }

module _ (m order rank : List ℕ) (r : Ranked m rank) (p : Placed order rank (used m)) where
  -- who has rank q stands at q
  at_place : (q : ℕ) → q < used m → (at order q < used m) × (at rank (at order q) ≡ q)
  unfolding Placed
  at_place q l =
      let t = r.walking.taken q l in
      let e : at order q ≡ t.id = ap (at order) (sym t.is) ∙ p t.id t.below in
      (rw e t.below, rw e t.is)

  ranked_sorted : Sorted m order rank
  unfolding Placed
  ranked_sorted = record {
    rank_below = r.all;
    order_rank = p;
    order_below = λ q l. (at_place q l).0;
    rank_order = λ q l. (at_place q l).1;
    left_first = λ i o a b l e. r.walking.left_first i o a b l (r.all i l) e;
    right_first = λ i o a b l e. r.walking.right_first i o a b l (r.all i l) e;
  }

-- a cycle
pub unordered : (m order rank : List ℕ) (answer : Bool) → Walked m rank answer → answer ≡ false → Ordered m order rank false
unordered m order rank answer w h = record { told = sym h ∙ w.told; sorted = λ e. absurd (false≢true e) }

-- none
pub ordered : (m order rank : List ℕ) (answer : Bool) (w : Walked m rank answer) → (h : answer ≡ true) → Placed order rank (used m) → Ordered m order rank true
ordered m order rank answer w h p = record { told = sym h ∙ w.told; sorted = λ _. ranked_sorted m order rank (w.ranked h) p }
