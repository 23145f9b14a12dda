-- The count of finished nodes, as one more is finished. Assumes nothing.
use Rattle.std.specs.Prelude.{if◌then◌else◌}
use mathlib.Core.Path.{◌≡◌, refl, ◌∙◌}
use mathlib.Core.Logic.{⊎_elim}
use mathlib.Core.List.{List, ◌++◌}
use Prim.Native.Nat.{ℕ, zero, suc, ◌+◌, ◌<◌, ◌≤◌}
use native.Mathlib.Nat.{not-suc-le-zero}
use native.Mathlib.Omega.{arith}
use lib.Dec.{ltb}
use lib.ListN.{length, set, replicate, length-replicate}
use Rattle.std.proofs.lemmas.List.{get_or_append_left, get_or-replicate}
use lib.Seq.{get_or-set_same, get_or-set_other}
use borrow.Author.Tests.{lt-ltb, le-ltb}
use Rattle.circuit.specs.Rank.{at}
use Rattle.circuit.specs.Walk.{finished}
use Rattle.layout.proofs.Tests.{last_or, below_or}

module _ (rank : List ℕ) (n : ℕ) where
  pub finished_le : (k : ℕ) → finished rank n k ≤ k
  unfolding finished
  finished_le zero = omega arith
  finished_le (suc k) =
      let h = finished_le k in
      ⊎_elim (λ l. rw (lt-ltb (at rank k) n l) (omega arith)) (λ l. rw (le-ltb (at rank k) n l) (omega arith)) (below_or (at rank k) n)

  -- where one isn't finished there are fewer
  pub finished_lt : (k i : ℕ) → i < k → n ≤ at rank i → finished rank n k < k
  unfolding finished
  finished_lt zero i l h = absurd (not-suc-le-zero l)
  finished_lt (suc k) i l h =
      let f = finished_le k in
      ⊎_elim (λ e. rw (le-ltb (at rank k) n (rw e at h)) (omega arith)) (λ lt. go (finished_lt k i lt h)) (last_or i k l)
    where
      go : finished rank n k < k → finished rank n k + (if ltb (at rank k) n then 1 else 0) < suc k
      go f = ⊎_elim (λ x. rw (lt-ltb (at rank k) n x) (omega arith)) (λ x. rw (le-ltb (at rank k) n x) (omega arith)) (below_or (at rank k) n)

  pub finished_all : (k : ℕ) → ((i : ℕ) → i < k → at rank i < n) → finished rank n k ≡ k
  unfolding finished
  finished_all zero h = refl
  finished_all (suc k) h = rw (lt-ltb (at rank k) n (h k (omega arith)), finished_all k (λ i l. h i (omega arith))) (omega arith)

  pub finished_none : (k : ℕ) → ((i : ℕ) → i < k → n ≤ at rank i) → finished rank n k ≡ 0
  unfolding finished
  finished_none zero h = refl
  finished_none (suc k) h = rw (le-ltb (at rank k) n (h k (omega arith)), finished_none k (λ i l. h i (omega arith)))

module _ (rank : List ℕ) (n i v : ℕ) where
  finished_out : (k : ℕ) → k ≤ i → finished (set rank i v) n k ≡ finished rank n k
  unfolding finished
  finished_out zero l = refl
  finished_out (suc k) l = rw (finished_out k (omega arith), get_or-set_other rank i k v 0 (omega arith))

  -- one more is finished
  pub finished_set : (k : ℕ) → i < k → i < length rank → n ≤ at rank i → v < n → finished (set rank i v) n k ≡ finished rank n k + 1
  unfolding finished
  finished_set zero l s h f = absurd (not-suc-le-zero l)
  finished_set (suc k) l s h f =
      ⊎_elim
      (λ e. rw (← e, finished_out i (omega arith), get_or-set_same rank i v 0 s, lt-ltb v n f, le-ltb (at rank i) n h) (omega arith))
      (λ lt. rw (finished_set k lt s h f, get_or-set_other rank i k v 0 (omega arith)) (omega arith))
      (last_or i k l)

-- a list that begins with n times v
pub begins : (n v : ℕ) (xs ys : List ℕ) → xs ≡ replicate n v → (i : ℕ) → i < n → at (xs ++ ys) i ≡ v
begins n v xs ys e i l = rw e (get_or_append_left (replicate n v) ys 0 i (rw (length-replicate n v) l) ∙ get_or-replicate n i v 0 l)
