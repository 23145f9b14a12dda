-- The wires of the base product (crates/arithmetic/specs/Board.antt) are the code's, for all words: high and low are what `product` answers (`product_is`,
-- by which it is proved, says so of all wires between), `difference` and `sum` what those functions answer, and the last one is the product modulo p.
-- Assumes nothing.
use Rattle.std.proofs.Common.{◌≡◌, ℕ, ◌+◌, ◌-◌, ◌*◌, ◌/◌, ◌%◌, ◌^◌, ◌<◌, ◌≤◌, Bool, true, false, cond, ltb, leb, sym, refl, ap, ◌∙◌, zero-add, arith, ltb-false, ltb-true, leb-false, leb-true}
use Rattle.arithmetic.specs.Base.{p, add, multiply}
use Rattle.arithmetic.specs.Board as board
use Rattle.field.specs.declared.base.Wide.{Wide}
use Rattle.field.specs.Words.{Difference, plain, around, Product, value}
use Rattle.field.proofs.Words.{wrapped, high, low, product_is, folded}

-- the words of the board's product
abbrev wide : ℕ → ℕ → Wide
wide u v = record { top = 0; high = board.high u v; low = board.low u v }

product_of : (u v : ℕ) → u < 2 ^ 64 → v < 2 ^ 64 → Product u v (wide u v)
product_of u v hu hv = product_is u v (board.low u v) hu hv refl

-- a product has one high and one low word
one_product : (a b x y n : ℕ) → b < 2 ^ 64 → y < 2 ^ 64 → (0 * 2 ^ 64 + a) * 2 ^ 64 + b ≡ n → (0 * 2 ^ 64 + x) * 2 ^ 64 + y ≡ n → (a ≡ x) × (b ≡ y)
one_product a b x y n hb hy e f = (omega arith, omega arith)

-- `difference` of the board is that of the code
difference_of : (a b : ℕ) → a < 2 ^ 64 → b ≤ p → Difference a b (board.difference a b)
difference_of a b ha hb = go (ltb a b) refl
  where
    go : (t : Bool) → ltb a b ≡ t → Difference a b (cond t (board.d a b - board.missed) (board.d a b))
    go true e =
        let h : a < b = ltb-true a b e in
        around h (omega arith)
    go false e =
        let h : b ≤ a = ltb-false a b e in
        plain h (omega arith)

-- and nothing else is
pub board_difference : (a b r : ℕ) → a < 2 ^ 64 → b ≤ p → Difference a b r → r ≡ board.difference a b
board_difference a b r ha hb d = one_difference d (difference_of a b ha hb)
  where
    one_difference : {s : ℕ} → Difference a b r → Difference a b s → r ≡ s
    one_difference (plain h e) (plain k f) = omega arith
    one_difference (plain h e) (around k f) = omega arith
    one_difference (around h e) (plain k f) = omega arith
    one_difference (around h e) (around k f) = omega arith

-- `sum` of the board is that of the code
pub board_sum : (a b : ℕ) → a < 2 ^ 64 → b < 2 ^ 64 → a + b < 2 * p → board.sum a b ≡ add a b
board_sum a b ha hb l = go (ltb (board.s a b) a) refl (leb p (board.s a b)) refl
  where
    go : (t : Bool) → ltb (board.s a b) a ≡ t → (o : Bool) → leb p (board.s a b) ≡ o → cond t (board.s a b + board.missed) (cond o (board.s a b - p) (board.s a b)) ≡ add a b
    go true e o f = wrapped a b (board.s a b) ha hb l refl (ltb-true (board.s a b) a e)
    go false e true f = high a b (board.s a b) l refl (ltb-false (board.s a b) a e) (leb-true p (board.s a b) f)
    go false e false f = low a b (board.s a b) hb refl (ltb-false (board.s a b) a e) (leb-false p (board.s a b) f)

-- two words to one: with h₁ taken away, the sum is below 2·p
reduced_of : (H l t : ℕ) → l < 2 ^ 64 → Difference l (H / 2 ^ 32) t → board.sum t (H % 2 ^ 32 * board.missed) ≡ (H * 2 ^ 64 + l) % p
reduced_of H l t h d = let (a, b) = small d in board_sum t (H % 2 ^ 32 * board.missed) a (omega arith) b ∙ folded H l t d
  where
    small : Difference l (H / 2 ^ 32) t → (t < 2 ^ 64) × (t + H % 2 ^ 32 * board.missed < 2 * p)
    small (plain g e) = (omega arith, omega arith)
    small (around g e) = (omega arith, omega arith)

module _ (u v : ℕ) (hu : u < 2 ^ 64) (hv : v < 2 ^ 64) where
  -- what the code's `product` answers
  pub board_product : (r : Wide) → Product u v r → r.low < 2 ^ 64 → (r.high ≡ board.high u v) × (r.low ≡ board.low u v)
  unfolding value
  board_product r P h = one_product r.high r.low (board.high u v) (board.low u v) (u * v) h (omega arith) (rw P.double at P.whole) (product_of u v hu hv).whole

  -- the last wire is the product modulo p
  pub board_multiply : board.reduced u v ≡ multiply u v
  unfolding multiply value
  board_multiply =
      let P = product_of u v hu hv in
      reduced_of (board.high u v) (board.low u v) (board.difference (board.low u v) (board.h1 u v)) (omega arith) (difference_of (board.low u v) (board.h1 u v) (omega arith) (high_small (board.high u v) P.room))
      ∙ ap (λ (n : ℕ). n % p) (ap (λ (n : ℕ). n * 2 ^ 64 + board.low u v) (sym (zero-add (board.high u v))) ∙ P.whole)
    where
      high_small : (H : ℕ) → H + 1 < 2 ^ 64 → H / 2 ^ 32 ≤ p
      high_small H h = omega arith
