-- Numbers below a bound, each its own, are no more than the bound. Assumes nothing.
use Rattle.std.specs.Prelude.{if◌then◌else◌}
use Prim.Native.Nat.{ℕ, zero, suc, ◌<◌, ◌≤◌}
use mathlib.Core.Path.{◌≡◌, sym, ◌∙◌}
use mathlib.Core.Logic.{◌≢◌, ⊎_elim}
use native.Mathlib.Omega.{arith}
use lib.Dec.{eqb}
use borrow.Author.Tests.{eq-eqb, ne_eqb}
use Rattle.layout.proofs.Tests.{same_or}

-- without the last: the one that is the bound, if there is one, takes the last one's number
module _ (f : ℕ → ℕ) (n u : ℕ) where
  shifted : ℕ → ℕ
  shifted i = if eqb (f i) u then f n else f i

  shifted_top : (i : ℕ) → f i ≡ u → shifted i ≡ f n
  unfolding shifted
  shifted_top i e = rw (eq-eqb (f i) u e)

  shifted_same : (i : ℕ) → f i ≢ u → shifted i ≡ f i
  unfolding shifted
  shifted_same i e = rw (ne_eqb (f i) u e)

  module _ (below : (i : ℕ) → i < suc n → f i < suc u) (own : (i j : ℕ) → i < suc n → j < suc n → f i ≡ f j → i ≡ j) where
    -- no earlier one has the last one's number
    not_last : (i : ℕ) → i < n → f i ≢ f n
    not_last i l e = let z = own i n (omega arith) (omega arith) e in omega arith

    shifted_below : (i : ℕ) → i < n → shifted i < u
    shifted_below i l =
        let a = below i (omega arith) in
        let b = below n (omega arith) in
        let d = not_last i l in
        ⊎_elim (λ e. let z = shifted_top i e in let d' : f n ≢ u = (λ w. d (e ∙ sym w)) in omega arith) (λ e. let z = shifted_same i e in omega arith) (same_or (f i) u)

    shifted_own : (i j : ℕ) → i < n → j < n → shifted i ≡ shifted j → i ≡ j
    shifted_own i j k l h =
        ⊎_elim
        (λ p. ⊎_elim (λ q. own i j (omega arith) (omega arith) (p ∙ sym q)) (λ q. absurd (not_last j l (sym (shifted_same j q) ∙ sym h ∙ shifted_top i p))) (same_or (f j) u))
        (λ p. ⊎_elim (λ q. absurd (not_last i k (sym (shifted_same i p) ∙ h ∙ shifted_top j q))) (λ q. own i j (omega arith) (omega arith) (sym (shifted_same i p) ∙ h ∙ shifted_same j q)) (same_or (f j) u))
        (same_or (f i) u)

pub few : (n u : ℕ) (f : ℕ → ℕ) → ((i : ℕ) → i < n → f i < u) → ((i j : ℕ) → i < n → j < n → f i ≡ f j → i ≡ j) → n ≤ u
few zero u f below own = omega arith
few (suc n) zero f below own = absurd (let l = below 0 (omega arith) in omega arith)
few (suc n) (suc u) f below own = let r = few n u (shifted f n u) (shifted_below f n u below own) (shifted_own f n u below own) in omega arith
