use mathlib.Core.Path.{◌∙◌, ap}
use Prim.Native.Nat.{ℕ}
use lib.ListN.{replicate}
use Rattle.std.proofs.lemmas.List.{length-take-le}
use Rattle.circuit.specs.Walk.{Unfinished}
use Rattle.circuit.proofs.Marks.{begins}
use Rattle.circuit.proofs.check.unfinish.Goals as goal

pub returns : goal.returns
unfolding Unfinished
returns c = begins c.args.n c.args.n _ _ (c.fill.ensures.after (λ y h. h) ∙ ap (λ (k : ℕ). replicate k c.args.n) (length-take-le _ c.args.rank.now c.requires))
