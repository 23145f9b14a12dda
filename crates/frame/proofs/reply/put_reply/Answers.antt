use native.Mathlib.Omega.{arith}
use Rattle.frame.proofs.Writing.{byte_behind, bare_put, id_put, id_refused, counts_put, counts_refused}
use Rattle.frame.proofs.reply.put_reply.Goals as goal

pub put_two-requires : goal.put_two-requires
put_two-requires c = omega (arith, byte_behind _ c.put_byte-at.ensures)

pub returns-then-n-eq0 : goal.returns-then-n-eq0
returns-then-n-eq0 c = id_put _ _ _ _ _ _ c.in-Id.is c.if-n-eq0.true c.put_byte-at.ensures c.put_two.ensures

pub put_lists-requires : goal.put_lists-requires
put_lists-requires c = omega (arith, byte_behind _ c.put_byte-at-in-Counts.ensures)

pub returns-then-n-eq0-2 : goal.returns-then-n-eq0-2
returns-then-n-eq0-2 c = counts_put _ _ _ _ _ _ _ c.in-Counts.is c.if-n-eq0-2.true c.put_byte-at-in-Counts.ensures c.put_lists.ensures

pub returns-in-Bare : goal.returns-in-Bare
returns-in-Bare c = bare_put _ _ _ _ _ c.in-Bare.is c.put_byte.ensures

pub returns-else-n-eq0 : goal.returns-else-n-eq0
returns-else-n-eq0 c = id_refused _ _ _ _ _ _ c.in-Id.is c.if-n-eq0.false c.put_byte-at.ensures

pub returns-else-n-eq0-2 : goal.returns-else-n-eq0-2
returns-else-n-eq0-2 c = counts_refused _ _ _ _ _ _ _ c.in-Counts.is c.if-n-eq0-2.false c.put_byte-at-in-Counts.ensures
