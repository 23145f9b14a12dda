use native.Mathlib.Nat.{div-div-eq-div-mul}
use mathlib.Core.Path.{sym}
use lib.ListN.{length}
use Rattle.fillable.proofs.rows.columns_in.Goals as goal

pub returns : goal.returns
returns c = rw (sym (div-div-eq-div-mul (length c.args.aux.now) 3 c.args.rows))
