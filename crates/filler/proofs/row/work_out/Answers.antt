use Prim.Native.Nat.{◌*◌}
use native.Mathlib.Omega.{arith}
use Rattle.filler.proofs.Rowings.{row_runnable, row_alone, cut}
use Rattle.filler.proofs.row.work_out.Goals as goal

pub overflow_mul-wide : goal.overflow_mul-wide
overflow_mul-wide c = let h = (row_alone _ _ _ _ _ c.requires.fits.kind_some c.requires.inside).aux_alone in omega arith

pub run-requires : goal.run-requires
run-requires c = rw (cut (c.args.r * c.args.s.row) (c.args.kind * c.args.s.row), cut (c.args.r * (3 * c.args.s.wide)) (c.args.kind * (3 * c.args.s.wide))) (row_runnable _ _ _ _ _ _ _ _ _ _ _ c.requires)

pub returns : goal.returns
returns c = rw (cut (c.args.r * c.args.s.row) (c.args.kind * c.args.s.row), cut (c.args.r * (3 * c.args.s.wide)) (c.args.kind * (3 * c.args.s.wide))) at c.run.ensures
