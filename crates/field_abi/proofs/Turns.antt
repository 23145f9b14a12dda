-- A loop's turns make a chain. Assumes nothing.
use mathlib.Core.Path.{◌≡◌, ◌∙◌, ap, sym}
use Prim.Native.Nat.{ℕ, suc, ◌-◌, ◌≤◌}
use native.Mathlib.Omega.{arith}
use Rattle.field_abi.specs.Chains.{chain}

-- with k turns to go from x and y, the end is that of the whole chain
pub record Turns {A : Type 0} (f : A → A → A) (whole x y : A) (k : ℕ) : Type 0 where
  pub same_end : chain f x y k ≡ whole

-- before the first turn all are left
pub all_left : {A : Type 0} {f : A → A → A} (x y : A) (n : ℕ) → Turns f (chain f x y n) x y (n - 0)
all_left {A} {f} x y n = let e : n - 0 ≡ n = omega arith in record { same_end = ap (chain f x y) e }

pub one_less : {A : Type 0} {f : A → A → A} {whole x y z : A} {k j : ℕ} → Turns f whole x y k → k ≡ suc j → z ≡ f x y → Turns f whole y z j
unfolding chain
one_less {A} {f} {whole} {x} {y} {z} {k} {j} t n e = record { same_end = ap (λ (w : A). chain f y w j) e ∙ sym (ap (chain f x y) n) ∙ t.same_end }

pub no_more : {A : Type 0} {f : A → A → A} {whole x y : A} {k : ℕ} → Turns f whole x y k → k ≤ 0 → x ≡ whole
unfolding chain
no_more {A} {f} {whole} {x} {y} {k} t l =
    let n : k ≡ 0 = omega arith in
    sym (ap (chain f x y) n) ∙ t.same_end
