use mathlib.Core.Path.{refl}
use Rattle.filler.proofs.Fixes.{fixed_triple}
use Rattle.filler.proofs.prepare.fix_node.Goals as goal

pub returns-in-Base : goal.returns-in-Base
returns-in-Base c = rw c.in-Base.is

pub returns-in-Extension : goal.returns-in-Extension
returns-in-Extension c = rw c.in-Extension.is (fixed_triple c.args.words.now c.args.triples.now _ c.args.i _ _ c.keep.ensures refl)

pub returns-in-Challenge : goal.returns-in-Challenge
returns-in-Challenge c = rw c.in-Challenge.is (fixed_triple c.args.words.now c.args.triples.now _ c.args.i _ _ c.keep-in-Challenge.ensures c.aux_at.ensures)

pub returns-in-Operation : goal.returns-in-Operation
returns-in-Operation c = rw c.in-Operation.is

pub returns-in-Input : goal.returns-in-Input
returns-in-Input c = rw c.in-Input.is
