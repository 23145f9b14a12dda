-- What the base field's inner functions answer. Assumes nothing.
use Rattle.std.specs.Prelude.{◌≡◌, ℕ, ◌+◌, ◌*◌, ◌^◌, ◌<◌, ◌≤◌}
use Rattle.field.specs.declared.base.Carried.{Carried}
use Rattle.field.specs.declared.base.Wide.{Wide}
use Rattle.arithmetic.specs.Base.{p}

-- r is a + b
pub record Added (a b : ℕ) (r : Carried) : Type 0 where
  pub whole : r.carry * 2 ^ 64 + r.word ≡ a + b
  pub bit : r.carry ≤ 1

-- the number in three words
unfoldable pub value : Wide → ℕ
value w = (w.top * 2 ^ 64 + w.high) * 2 ^ 64 + w.low

-- r is u·v, in two words, of which the high one has room for a carry
pub record Product (u v : ℕ) (r : Wide) : Type 0 where
  pub whole : value r ≡ u * v
  pub double : r.top ≡ 0
  pub room : r.high + 1 < 2 ^ 64

-- r is a + u·v
pub record WithProduct (a : Wide) (u v : ℕ) (r : Wide) : Type 0 where
  pub whole : value r ≡ value a + u * v
  pub small : r.top ≤ a.top + 1

-- r is a - b, with p put in where that is negative
pub data Difference (a b r : ℕ) : Type 0 where
  plain : b ≤ a → r + b ≡ a → Difference a b r
  around : a < b → r + b ≡ a + p → Difference a b r
