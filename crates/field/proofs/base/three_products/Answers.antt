-- `field::base::three_products` meets its contract: a sum of products may be reduced once. Assumes nothing.
use Rattle.std.proofs.Common.{ℕ, ◌+◌, ◌*◌, ◌%◌, ap, ◌∙◌}
use Rattle.arithmetic.specs.Base.{p, multiply}
use Rattle.field.proofs.Words.{three_reduced}
use Rattle.field.proofs.base.three_products.Goals as goal

pub returns : goal.returns
unfolding multiply
returns c = let at = c.args in
    c.reduced.ensures
    ∙ ap (λ (n : ℕ). n % p)
    (c.with_product-2.ensures.whole ∙ ap (λ (n : ℕ). n + at.u2 * at.v2) (c.with_product.ensures.whole ∙ ap (λ (n : ℕ). n + at.u1 * at.v1) c.product.ensures.whole))
    ∙ three_reduced _ _ _
