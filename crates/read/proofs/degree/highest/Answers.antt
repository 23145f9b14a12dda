use Rattle.std.proofs.Common.{ap, not}
use Rattle.reading.specs.Calls.{highest_call}
use Rattle.layout.proofs.Refusals.{refuses, accepts, reading_no_circuit, reading_bad_id}
use Rattle.layout.proofs.Valid.{valid_length}
use native.Mathlib.Omega.{arith}
use mathlib.Core.Path.{sym, ◌∙◌}
use Rattle.read.proofs.degree.highest.Goals as goal

pub returns-then-not-check : goal.returns-then-not-check
unfolding highest_call
returns-then-not-check c = sym (reading_no_circuit c.args.m.now c.args.roots.now _ _ _ (refuses _ _ c.check.ensures.told (ap not c.if-not-check.true)))

pub bad_id-requires : goal.bad_id-requires
bad_id-requires c = valid_length _ (accepts _ _ c.check.ensures.told (ap not c.if-not-check.false))

pub returns-then-bad_id : goal.returns-then-bad_id
unfolding highest_call
returns-then-bad_id c = sym (reading_bad_id c.args.m.now c.args.roots.now _ _ _ (accepts _ _ c.check.ensures.told (ap not c.if-not-check.false)) (sym c.bad_id.ensures ∙ c.if-bad_id.true))

pub highest_of-requires : goal.highest_of-requires
highest_of-requires c = record { valid = accepts _ _ c.check.ensures.told (ap not c.if-not-check.false); sorted = c.check.ensures.sorted c.if-not-check.false; order_room = omega (arith, c.check.auto.order); ids = sym c.bad_id.ensures ∙ c.if-bad_id.false }
