-- `field::base::two_products` meets its contract: a sum of products may be reduced once. Assumes nothing.
use Rattle.std.proofs.Common.{ℕ, ◌+◌, ◌*◌, ◌%◌, sym, ap, ◌∙◌}
use Rattle.arithmetic.specs.Base.{p, add, multiply}
use Rattle.field.proofs.Words.{add_reduced}
use Rattle.field.proofs.base.two_products.Goals as goal

pub returns : goal.returns
unfolding add multiply
returns c = c.reduced.ensures ∙ ap (λ (n : ℕ). n % p) (c.with_product.ensures.whole ∙ ap (λ (n : ℕ). n + c.args.u1 * c.args.v1) c.product.ensures.whole) ∙ sym (add_reduced _ _)
