use mathlib.Core.Path.{◌≡◌, ◌∙◌}
use lib.ListN.{length}
use native.Mathlib.Omega.{arith}
use Rattle.lowering.specs.Lowering.{renamed}
use Rattle.lower.proofs.Renames.{mapped_start, mapped_next, mapped_all}
use Rattle.lower.proofs.redirect.rename_roots.Goals as goal

pub loop-root-init : goal.loop-root-init
loop-root-init c = mapped_start (renamed c.args.s c.args.n) _

pub loop-root-preserved : goal.loop-root-preserved
loop-root-preserved c = mapped_next (renamed c.args.s c.args.n) _ _ _ _ (omega arith) c.loop-root.invariant c.rename.ensures

pub returns : goal.returns
returns c = let e : c.loop-root.root-index ≡ length c.args.roots.now = omega arith in c.loop-root.invariant ∙ rw e (mapped_all (renamed c.args.s c.args.n) c.args.roots.now)
