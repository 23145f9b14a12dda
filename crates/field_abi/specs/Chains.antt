-- What the exported chains compute: n products, each of the two numbers before it, as Fibonacci's are sums. Assumes nothing.
use Rattle.std.specs.Prelude.{ℕ, zero, suc}
use Rattle.arithmetic.specs.Base.{multiply}
use Rattle.arithmetic.specs.Extension.{times}
use Rattle.arithmetic.specs.declared.Triple.{Triple}

unfoldable pub chain : {A : Type 0} → (A → A → A) → A → A → ℕ → A
chain f x y zero = x
chain f x y (suc n) = chain f y (f x y) n

-- in the base field
abbrev pub word_chain : ℕ → ℕ → ℕ → ℕ
word_chain = chain multiply

-- in the extension
abbrev pub triple_chain : Triple → Triple → ℕ → Triple
triple_chain = chain times
