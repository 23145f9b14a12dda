use borrow.Author.Tests.{ne_eqb}
use Rattle.std.proofs.Common.{rules}
use Rattle.layout.specs.Words.{decode}
use Rattle.circuit.proofs.place.decoded.Goals as goal

pub returns-in-0 : goal.returns-in-0
unfolding decode
returns-in-0 c = rw c.in-0.is

pub returns-in-1 : goal.returns-in-1
unfolding decode
returns-in-1 c = rw c.in-1.is

pub returns-in-2 : goal.returns-in-2
unfolding decode
returns-in-2 c = rw c.in-2.is

pub returns-in-3 : goal.returns-in-3
unfolding decode
returns-in-3 c = rw c.in-3.is

pub returns-in-4 : goal.returns-in-4
unfolding decode
returns-in-4 c = rw c.in-4.is

pub returns-in-5 : goal.returns-in-5
unfolding decode
returns-in-5 c = rw c.in-5.is

pub returns-in-6 : goal.returns-in-6
unfolding decode
returns-in-6 c = rw c.in-6.is

pub returns-in-7 : goal.returns-in-7
unfolding decode
returns-in-7 c = rw c.in-7.is

pub returns-in_default : goal.returns-in_default
unfolding decode
returns-in_default c = let d = c.in_default in
    rw (
      ne_eqb c.args.kind 0 (search rules),
      ne_eqb c.args.kind 1 (search rules),
      ne_eqb c.args.kind 2 (search rules),
      ne_eqb c.args.kind 3 (search rules),
      ne_eqb c.args.kind 4 (search rules),
      ne_eqb c.args.kind 5 (search rules),
      ne_eqb c.args.kind 6 (search rules),
      ne_eqb c.args.kind 7 (search rules),
    )
