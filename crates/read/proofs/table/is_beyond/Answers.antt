use Rattle.read.specs.Lent.{beyond, beyond_at}
use Rattle.layout.proofs.Valid.{valid_fits}
use Rattle.circuit.specs.Rank.{at}
use borrow.Author.Tests.{lt-ltb}
use mathlib.Core.Path.{ap, ◌∙◌}
use native.Mathlib.Omega.{arith}
use Rattle.read.proofs.table.is_beyond.Goals as goal

pub expression_at-requires : goal.expression_at-requires
expression_at-requires c = valid_fits _ c.requires.0.valid _ c.requires.1

pub returns-then-counts-i-ne0 : goal.returns-then-counts-i-ne0
unfolding beyond_at
returns-then-counts-i-ne0 c = rw (lt-ltb 0 (at c.args.counts.now c.args.i) (let e = c.if-counts-i-ne0.true in omega arith)) (c.reads_beyond.ensures ∙ ap (beyond c.args.c) c.expression_at.ensures)

pub returns-else-counts-i-ne0 : goal.returns-else-counts-i-ne0
unfolding beyond_at
returns-else-counts-i-ne0 c = rw c.if-counts-i-ne0.false
