use mathlib.Core.Path.{◌∙◌}
use lib.Dec.{leb}
use Rattle.std.proofs.Common.{rules, tests}
use Rattle.std.proofs.lemmas.Iterator.{YieldsList-from_slice}
use Rattle.std.proofs.lemmas.Iterator.Search.{any_from_yields_List}
use Rattle.layout.specs.Words.{used}
use Rattle.layout.specs.NotCircuit.{bad_id}
use Rattle.paths.proofs.Walks.{any_listed}
use Rattle.paths.proofs.ids.bad_id.Goals as goal

pub returns : goal.returns
unfolding bad_id
returns c =
    any_from_yields_List (leb (used c.args.m.now)) _ _ _ c.any.ensures.ran (YieldsList-from_slice c.args.ids.now cc) (λ x b q k. search (rules, tests))
    ∙ any_listed (leb (used c.args.m.now)) c.args.ids.now
