use native.Mathlib.Omega.{arith}
use Rattle.framing.specs.Requests.{form_by}
use Rattle.frame.proofs.Reading.{form_picked, form_other}
use Rattle.frame.proofs.request.form_of.Goals as goal

pub returns-in-0 : goal.returns-in-0
unfolding form_by
returns-in-0 c = (rw c.number.ensures (form_picked 0 _ _ c.in-0.is c.number-opcode.ensures), omega arith)

pub returns-in-1 : goal.returns-in-1
unfolding form_by
returns-in-1 c = (rw (c.number-in-1-2.ensures, c.number-in-1.ensures) (form_picked 1 _ _ c.in-1.is c.number-opcode.ensures), omega arith)

pub returns-in-2 : goal.returns-in-2
unfolding form_by
returns-in-2 c = (rw c.number-in-2.ensures (form_picked 2 _ _ c.in-2.is c.number-opcode.ensures), omega arith)

pub returns-in-3 : goal.returns-in-3
unfolding form_by
returns-in-3 c = (rw c.number-in-3.ensures (form_picked 3 _ _ c.in-3.is c.number-opcode.ensures), omega arith)

pub returns-in-4 : goal.returns-in-4
unfolding form_by
returns-in-4 c = (rw c.triple_at.ensures (form_picked 4 _ _ c.in-4.is c.number-opcode.ensures), omega arith)

pub returns-in-5 : goal.returns-in-5
unfolding form_by
returns-in-5 c = (rw (c.number-in-5-2.ensures, c.number-in-5.ensures) (form_picked 5 _ _ c.in-5.is c.number-opcode.ensures), omega arith)

pub returns-in-6 : goal.returns-in-6
unfolding form_by
returns-in-6 c = (rw (c.number-in-6-2.ensures, c.number-in-6.ensures) (form_picked 6 _ _ c.in-6.is c.number-opcode.ensures), omega arith)

pub returns-in-7 : goal.returns-in-7
unfolding form_by
returns-in-7 c = (rw (c.number-in-7-2.ensures, c.number-in-7.ensures) (form_picked 7 _ _ c.in-7.is c.number-opcode.ensures), omega arith)

pub returns-in-8 : goal.returns-in-8
unfolding form_by
returns-in-8 c = (rw c.number-in-8.ensures (form_picked 8 _ _ c.in-8.is c.number-opcode.ensures), omega arith)

pub returns-in-9 : goal.returns-in-9
unfolding form_by
returns-in-9 c = (rw c.number-in-9.ensures (form_picked 9 _ _ c.in-9.is c.number-opcode.ensures), omega arith)

pub returns-in-10 : goal.returns-in-10
unfolding form_by
returns-in-10 c = (rw (c.number-in-10-3.ensures, c.number-in-10-2.ensures, c.number-in-10.ensures) (form_picked 10 _ _ c.in-10.is c.number-opcode.ensures), omega arith)

pub returns-in_default : goal.returns-in_default
unfolding form_by
returns-in_default c = (form_other _ _ c.in_default.in_default-own.rest.0.0.0.0.0.0.0.0.0.0.1 c.in_default.in_default-own.rest.0.0.0.0.0.0.0.0.0.1 c.in_default.in_default-own.rest.0.0.0.0.0.0.0.0.1 c.in_default.in_default-own.rest.0.0.0.0.0.0.0.1 c.in_default.in_default-own.rest.0.0.0.0.0.0.1 c.in_default.in_default-own.rest.0.0.0.0.0.1 c.in_default.in_default-own.rest.0.0.0.0.1 c.in_default.in_default-own.rest.0.0.0.1 c.in_default.in_default-own.rest.0.0.1 c.in_default.in_default-own.rest.0.1 c.in_default.in_default-own.rest.1 c.number-opcode.ensures, omega arith)
