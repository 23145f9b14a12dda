use Prim.Native.Nat.{◌*◌, ◌%◌}
use Rattle.fillable.proofs.Fitting.{thirds_rest}
use borrow.Author.Tests.{eq-eqb, ne_eqb}
use native.Mathlib.Omega.{arith}
use lib.ListN.{length}
use Rattle.fillable.proofs.rows.is_uneven.Goals as goal

pub returns-then-main-n-ne0 : goal.returns-then-main-n-ne0
returns-then-main-n-ne0 c = rw (ne_eqb _ _ c.if-main-n-ne0.true)

pub returns-then-aux-ne0 : goal.returns-then-aux-ne0
returns-then-aux-ne0 c = let h = thirds_rest (length c.args.aux.now) c.args.rows in rw (eq-eqb _ _ c.if-main-n-ne0.false, ne_eqb (length c.args.aux.now % (3 * c.args.rows)) 0 (λ e. omega arith))

pub returns-then-aux-n-ne0 : goal.returns-then-aux-n-ne0
returns-then-aux-n-ne0 c = let h = thirds_rest (length c.args.aux.now) c.args.rows in rw (eq-eqb _ _ c.if-main-n-ne0.false, ne_eqb (length c.args.aux.now % (3 * c.args.rows)) 0 (λ e. omega arith))

pub returns : goal.returns
returns c = let h = thirds_rest (length c.args.aux.now) c.args.rows in rw (eq-eqb _ _ c.if-main-n-ne0.false, eq-eqb (length c.args.aux.now % (3 * c.args.rows)) 0 (omega arith))
