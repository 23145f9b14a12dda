use Rattle.std.proofs.Common.{rules, tests, ◌∙◌}
use Rattle.std.proofs.lemmas.Iterator.{YieldsList-from_slice}
use Rattle.std.proofs.lemmas.Iterator.Search.{any_from_yields_List}
use Rattle.lower.specs.Tables.{above_in}
use Rattle.read.proofs.Lists.{any_listed}
use Rattle.lower.proofs.tests.too_high.Goals as goal

pub returns : goal.returns
returns c = any_from_yields_List (above_in c.args.degrees.now c.args.target) _ _ _ c.any.ensures.ran (YieldsList-from_slice c.args.roots.now cc) (λ x b q k. search (rules, tests)) ∙ any_listed (above_in c.args.degrees.now c.args.target) c.args.roots.now
