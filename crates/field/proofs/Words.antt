-- The arithmetic of words behind the base field's functions. Assumes nothing.
use Rattle.std.proofs.Common.{◌≡◌, ℕ, ◌+◌, ◌-◌, ◌*◌, ◌/◌, ◌%◌, ◌^◌, ◌<◌, ◌≤◌, sym, refl, ap, ◌∙◌, add-zero, add_assoc, mod-eq_of_lt, mul_assoc, mul_comm, add-mul, mul-le-mul, add_comm, zero-add, mul-add, mul_left_comm, arith}
use native.Mathlib.Nat.{mod-mod, mod-add-mod, add-mod-mod, add_left_comm, le-pred_of_lt}
use lib.Pow.{split}
use Rattle.arithmetic.specs.Base.{p, add, subtract, negate}
use Rattle.arithmetic.specs.Board as board
use Rattle.field.specs.declared.base.Carried.{Carried}
use Rattle.field.specs.declared.base.Wide.{Wide}
use Rattle.field.specs.Words.{Added, Difference, plain, around, Product, value}
use Rattle.arithmetic.proofs.Remainders.{mod_eq}

-- the three ways out of a sum: with both quotients known, each is linear

pub wrapped : (a b s : ℕ) → a < 2 ^ 64 → b < 2 ^ 64 → a + b < 2 * p → s ≡ (a + b) % 2 ^ 64 → s < a → s + 4294967295 ≡ add a b
unfolding add
wrapped a b s ha hb l e h =
    let q : (a + b) / 2 ^ 64 ≡ 1 = omega arith in
    let r : (a + b) / p ≡ 1 = omega arith in
    omega arith

pub high : (a b s : ℕ) → a + b < 2 * p → s ≡ (a + b) % 2 ^ 64 → a ≤ s → p ≤ s → s - p ≡ add a b
unfolding add
high a b s l e h g =
    let q : (a + b) / 2 ^ 64 ≡ 0 = omega arith in
    let r : (a + b) / p ≡ 1 = omega arith in
    omega arith

pub low : (a b s : ℕ) → b < 2 ^ 64 → s ≡ (a + b) % 2 ^ 64 → a ≤ s → s < p → s ≡ add a b
unfolding add
low a b s hb e h g =
    let q : (a + b) / 2 ^ 64 ≡ 0 = omega arith in
    let r : (a + b) / p ≡ 0 = omega arith in
    omega arith

-- a difference of remainders is the base field's
pub differs : (a b r : ℕ) → a < p → b < p → Difference a b r → r ≡ subtract a b
unfolding subtract
differs a b r ha hb (plain h e) =
    let m : b % p ≡ b = mod-eq_of_lt hb in
    let q : (a + (p - b % p)) / p ≡ 1 = omega arith in
    omega arith
differs a b r ha hb (around h e) =
    let m : b % p ≡ b = mod-eq_of_lt hb in
    let q : (a + (p - b % p)) / p ≡ 0 = omega arith in
    omega arith

-- operands may be reduced first
pub add_reduced : (a b : ℕ) → add (a % p) (b % p) ≡ add a b
unfolding add
add_reduced a b = simp (mod-add-mod, add-mod-mod)

pub subtract_reduced : (a b : ℕ) → subtract (a % p) (b % p) ≡ subtract a b
unfolding subtract
subtract_reduced a b = simp (mod-add-mod, mod-mod)

pub subtract_zero : (b : ℕ) → subtract 0 (b % p) ≡ negate b
unfolding subtract negate
subtract_zero b = simp (mod-mod, zero-add)

-- a product of two halves of a word
below : {x y : ℕ} → x < 2 ^ 32 → y < 2 ^ 32 → x * y ≤ 18446744065119617025
below hx hy = mul-le-mul (le-pred_of_lt hx) (le-pred_of_lt hy)

-- each of the four products of the halves of two words
pub record Bounded (u v : ℕ) : Type 0 where
  pub bound00 : u % 2 ^ 32 * (v % 2 ^ 32) ≤ 18446744065119617025
  pub bound10 : u / 2 ^ 32 * (v % 2 ^ 32) ≤ 18446744065119617025
  pub bound01 : u % 2 ^ 32 * (v / 2 ^ 32) ≤ 18446744065119617025
  pub bound11 : u / 2 ^ 32 * (v / 2 ^ 32) ≤ 18446744065119617025

pub bounds : (u v : ℕ) → u < 2 ^ 64 → v < 2 ^ 64 → Bounded u v
bounds u v hu hv =
    record {
      bound00 = below (omega arith) (omega arith);
      bound10 = below (omega arith) (omega arith);
      bound01 = below (omega arith) (omega arith);
      bound11 = below (omega arith) (omega arith);
    }

expand : (P a₀ a₁ b₀ b₁ : ℕ) → (a₁ * P + a₀) * (b₁ * P + b₀) ≡ a₁ * b₁ * (P * P) + a₁ * b₀ * P + a₀ * b₁ * P + a₀ * b₀
expand P a₀ a₁ b₀ b₁ = simp (mul-add, add-mul, mul_assoc, mul_comm, mul_left_comm, add_assoc, add_comm, add_left_comm) refl

-- a product of two words by those of their halves
halves : (u v : ℕ) → u * v ≡ u / 2 ^ 32 * (v / 2 ^ 32) * 2 ^ 64 + u / 2 ^ 32 * (v % 2 ^ 32) * 2 ^ 32 + u % 2 ^ 32 * (v / 2 ^ 32) * 2 ^ 32 + u % 2 ^ 32 * (v % 2 ^ 32)
halves u v = sym (λ i. split u 32 i * split v 32 i) ∙ expand (2 ^ 32) (u % 2 ^ 32) (u / 2 ^ 32) (v % 2 ^ 32) (v / 2 ^ 32)

-- the low word wraps to what the columns leave in it
wraps : (x y z : ℕ) → ((y + z) % 2 ^ 64 % 2 ^ 32 * 2 ^ 32 + x) % 2 ^ 64 ≡ ((y + x / 2 ^ 32) % 2 ^ 32 + z) % 2 ^ 32 * 2 ^ 32 + x % 2 ^ 32
wraps x y z = omega arith

-- the columns with their carries: x is u0·v0, y and z the cross products, w is u1·v1
columns : (x y z w : ℕ)
    → (w + (y + x / 2 ^ 32) / 2 ^ 32 + ((y + x / 2 ^ 32) % 2 ^ 32 + z) / 2 ^ 32) * 2 ^ 64 + (((y + x / 2 ^ 32) % 2 ^ 32 + z) % 2 ^ 32 * 2 ^ 32 + x % 2 ^ 32)
    ≡ w * 2 ^ 64 + y * 2 ^ 32 + z * 2 ^ 32 + x
columns x y z w = omega arith

-- the wires of the board (arithmetic's specs/Board.antt) are the product: `product` is proved by this, so its own wires are the board's
pub product_is : (u v l : ℕ) → u < 2 ^ 64 → v < 2 ^ 64 → l ≡ board.low u v → Product u v (record { top = 0; high = board.high u v; low = l })
unfolding value
product_is u v l hu hv e =
    let b = bounds u v hu hv in
    record {
      whole =
          ap (λ (n : ℕ). n * 2 ^ 64 + l) (zero-add (board.high u v))
          ∙ ap (λ (n : ℕ). board.high u v * 2 ^ 64 + n) (e ∙ wraps (board.p00 u v) (board.p10 u v) (board.p01 u v))
          ∙ columns (board.p00 u v) (board.p10 u v) (board.p01 u v) (board.p11 u v)
          ∙ sym (halves u v);
      double = refl;
      room = omega arith;
    }

-- room for a carry is enough
pub takes_carry : (h c : ℕ) → h + 1 < 2 ^ 64 → c ≤ 1 → h + c < 2 ^ 64
takes_carry h c r b = omega arith

pub takes_one : (h c : ℕ) → c ≤ 1 → h + c ≤ h + 1
takes_one h c b = omega arith

-- a carry goes from the low word into the high one, and from there into the top
compose : (H Ha c low la hb lb : ℕ) → H ≡ Ha + (hb + c) → c * 2 ^ 64 + low ≡ la + lb → H * 2 ^ 64 + low ≡ Ha * 2 ^ 64 + la + (hb * 2 ^ 64 + lb)
compose H Ha c low la hb lb e f = omega arith

pub carried : (a b : Wide) (h l : Carried) (u v : ℕ) → Product u v b → Added a.low b.low l → Added a.high (b.high + l.carry) h → value (record { top = a.top + h.carry; high = h.word; low = l.word }) ≡ value a + u * v
unfolding value
carried a b h l u v P L H =
    compose ((a.top + h.carry) * 2 ^ 64 + h.word) (a.top * 2 ^ 64 + a.high) l.carry l.word a.low b.high b.low (omega arith) L.whole
    ∙ ap (λ (n : ℕ). (a.top * 2 ^ 64 + a.high) * 2 ^ 64 + a.low + n) (two b.top b.high b.low (u * v) P.double P.whole)
  where
    two : (t h l x : ℕ) → t ≡ 0 → (t * 2 ^ 64 + h) * 2 ^ 64 + l ≡ x → h * 2 ^ 64 + l ≡ x
    two t h l x z e = ap (λ (n : ℕ). n * 2 ^ 64 + l) (sym (zero-add h)) ∙ ap (λ (n : ℕ). (n * 2 ^ 64 + h) * 2 ^ 64 + l) (sym z) ∙ e

-- the words above the low one: h₁ stands at 2^96, which is -1, and h₀ at 2^64, which is 2^32 - 1
fold_eq : (h₁ h₀ t l k : ℕ) → t + h₁ ≡ l + k * p → t + h₀ * 4294967295 + (h₁ * 4294967297 + h₀) * p ≡ (h₁ * 2 ^ 32 + h₀) * 2 ^ 64 + l + k * p
fold_eq h₁ h₀ t l k e = omega arith

fold_by : (H l t k : ℕ) → t + H / 2 ^ 32 ≡ l + k * p → add t (H % 2 ^ 32 * 4294967295) ≡ (H * 2 ^ 64 + l) % p
unfolding add
fold_by H l t k e =
    mod_eq p (t + H % 2 ^ 32 * 4294967295) ((H / 2 ^ 32 * 2 ^ 32 + H % 2 ^ 32) * 2 ^ 64 + l) (H / 2 ^ 32 * 4294967297 + H % 2 ^ 32) k (fold_eq (H / 2 ^ 32) (H % 2 ^ 32) t l k e)
    ∙ ap (λ (n : ℕ). (n * 2 ^ 64 + l) % p) (split H 32)

-- the halves of what stands above the low word
above : (t h : ℕ) → (t * 2 ^ 64 + h) / 2 ^ 32 ≡ h / 2 ^ 32 + t * 2 ^ 32
above t h = omega arith

above_low : (t h : ℕ) → (t * 2 ^ 64 + h) % 2 ^ 32 ≡ h % 2 ^ 32
above_low t h = omega arith

pub folded : (H l t : ℕ) → Difference l (H / 2 ^ 32) t → add t (H % 2 ^ 32 * 4294967295) ≡ (H * 2 ^ 64 + l) % p
folded H l t (plain h e) = fold_by H l t 0 (e ∙ sym (add-zero l))
folded H l t (around h e) = fold_by H l t 1 e

pub folds : (w : Wide) (t : ℕ) → Difference w.low (w.high / 2 ^ 32 + w.top * 2 ^ 32) t → add t (w.high % 2 ^ 32 * 4294967295) ≡ value w % p
unfolding value
folds w t d = rw (← above_low w.top w.high) (folded _ _ _ (rw (above w.top w.high) d))

-- a sum of products may be reduced once; for two that is `add_reduced`
pub three_reduced : (x y z : ℕ) → (x + y + z) % p ≡ add (add (x % p) (y % p)) (z % p)
unfolding add
three_reduced x y z = simp (mod-add-mod, add-mod-mod)
