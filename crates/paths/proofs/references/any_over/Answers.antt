use Prim.Native.Nat.{ℕ}
use mathlib.Core.Bool.{Bool}
use mathlib.Core.Path.{◌∙◌}
use lib.Dec.{ltb}
use lib.ListN.{take}
use Rattle.std.proofs.Common.{rules, tests}
use Rattle.std.proofs.lemmas.Iterator.{YieldsList-from_slice}
use Rattle.std.proofs.lemmas.Iterator.Search.{any_from_yields_List}
use Rattle.paths.proofs.Walks.{any_listed, any_places}
use Rattle.paths.proofs.references.any_over.Goals as goal

abbrev over : ℕ → Bool
over = ltb 4294967295

pub returns : goal.returns
returns c =
    any_from_yields_List over _ _ _ c.any.ensures.ran (YieldsList-from_slice (take c.args.n c.args.counts.now) cc) (λ x b q k. search (rules, tests))
    ∙ any_listed over (take c.args.n c.args.counts.now)
    ∙ any_places over c.args.counts.now c.args.n c.requires
