-- `field::base::multiply` meets its contract, from what its two calls ensure. Assumes nothing.
use Rattle.std.proofs.Common.{ℕ, ◌%◌, ap, ◌∙◌}
use Rattle.arithmetic.specs.Base.{p, multiply}
use Rattle.field.proofs.base.multiply.Goals as goal

pub returns : goal.returns
unfolding multiply
returns c = c.reduced.ensures ∙ ap (λ (n : ℕ). n % p) c.product.ensures.whole
