use mathlib.Core.Path.{◌≡◌, ap, ◌∙◌}
use native.Mathlib.Omega.{arith}
use Rattle.lowering.specs.Lowering.{Candidate}
use Rattle.lower.specs.Tables.{improved}
use Rattle.lower.proofs.Renames.{each_start, each_next}
use Rattle.lower.proofs.Selects.{nothing, best_last}
use Rattle.lower.proofs.choose.best_candidate.Goals as goal

pub loop-i-init : goal.loop-i-init
loop-i-init c = each_start (improved c.args.degrees.now c.args.occurrences.now c.args.target) nothing

pub loop-i-preserved : goal.loop-i-preserved
loop-i-preserved c = each_next (improved c.args.degrees.now c.args.occurrences.now c.args.target) nothing _ _ _ c.loop-i.invariant c.improve-best.ensures

pub returns : goal.returns
returns c = let e : c.loop-i.i ≡ c.args.n = omega arith in ap (λ (x : Candidate). x.id) c.loop-i.invariant ∙ rw e (best_last c.args.degrees.now c.args.occurrences.now c.args.target _)
