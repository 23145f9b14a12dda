-- Sums over the numbers below n. Assumes nothing.
use Prim.Native.Nat.{ℕ, zero, suc, ◌+◌, ◌<◌}
use mathlib.Core.Path.{◌≡◌, refl}
use mathlib.Core.Logic.{⊎_elim, ◌≢◌}
use native.Mathlib.Omega.{arith}
use Rattle.layout.proofs.Tests.{last_or}

unfoldable pub sum : (ℕ → ℕ) → ℕ → ℕ
sum f zero = 0
sum f (suc n) = sum f n + f n

pub sum_start : (f : ℕ → ℕ) → sum f 0 ≡ 0
unfolding sum
sum_start f = refl

pub sum_more : (f : ℕ → ℕ) (n : ℕ) → sum f (suc n) ≡ sum f n + f n
unfolding sum
sum_more f n = refl

pub sum_same : (f g : ℕ → ℕ) (n : ℕ) → ((i : ℕ) → i < n → f i ≡ g i) → sum f n ≡ sum g n
unfolding sum
sum_same f g zero h = refl
sum_same f g (suc n) h = rw (sum_same f g n (λ i l. h i (omega arith)), h n (omega arith))

pub sum_none : (f : ℕ → ℕ) (n : ℕ) → ((i : ℕ) → i < n → f i ≡ 0) → sum f n ≡ 0
unfolding sum
sum_none f zero h = refl
sum_none f (suc n) h = rw (sum_none f n (λ i l. h i (omega arith)), h n (omega arith))

pub sum-add : (f g : ℕ → ℕ) (n : ℕ) → sum (λ i. f i + g i) n ≡ sum f n + sum g n
unfolding sum
sum-add f g zero = refl
sum-add f g (suc n) = rw (sum-add f g n) (omega arith)

-- all but one of them are 0
pub sum_one : (f : ℕ → ℕ) (n k : ℕ) → k < n → ((i : ℕ) → i < n → i ≢ k → f i ≡ 0) → sum f n ≡ f k
unfolding sum
sum_one f zero k l h = absurd (omega arith)
sum_one f (suc n) k l h =
    ⊎_elim
    (λ e. rw (e, sum_none f n (λ i m. h i (omega arith) (omega arith))) (omega arith))
    (λ lt. rw (sum_one f n k lt (λ i m. h i (omega arith)), h n (omega arith) (omega arith)) (omega arith))
    (last_or k n l)
