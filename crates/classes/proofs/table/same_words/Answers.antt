use mathlib.Core.Path.{◌≡◌, refl, ap, ◌∙◌}
use mathlib.Core.Bool.{Bool, true, false, ◌&&◌}
use lib.Dec.{eqb}
use Rattle.layout.specs.Lists.{same_words}
use Rattle.classes.proofs.table.same_words.Goals as goal

-- the test of the rest, of which there is none
last : (b : Bool) → b ≡ (b && true)
last true = refl
last false = refl

pub returns : goal.returns
unfolding same_words
returns c = let v = c.args.v in let w = c.args.w in
    c.eq.ensures ∙ ap (λ (b : Bool). eqb v.kind w.kind && (eqb v.first w.first && (eqb v.second w.second && b))) (last (eqb v.third w.third))
