use native.Mathlib.Omega.{arith}
use Rattle.frame.proofs.Writing.{two_behind, ids_most, lists_put}
use Rattle.frame.proofs.reply.put_lists.Goals as goal

pub put_two-both-requires : goal.put_two-both-requires
put_two-both-requires c = omega (arith, two_behind _ c.put_two-counted.ensures)

pub put_ids-listed-requires : goal.put_ids-listed-requires
put_ids-listed-requires c = omega (arith, two_behind _ c.put_two-counted.ensures, two_behind _ c.put_two-both.ensures, c.well_formed)

pub put_ids-requires : goal.put_ids-requires
put_ids-requires c = omega (arith, two_behind _ c.put_two-counted.ensures, two_behind _ c.put_two-both.ensures, ids_most c.args.main.now c.args.a c.put_ids-listed.ensures, c.well_formed)

pub returns : goal.returns
returns c = lists_put _ _ _ _ c.put_two-counted.ensures c.put_two-both.ensures c.put_ids-listed.ensures c.put_ids.ensures
