use native.Mathlib.Omega.{arith}
use Rattle.stream.proofs.Gathering.{keep_full, keep_more}
use Rattle.stream.proofs.line.keep.Goals as goal

pub returns-then-line-kept : goal.returns-then-line-kept
returns-then-line-kept c = (c.requires, keep_full _ _ _ c.requires c.if-line-kept.true)

pub returns : goal.returns
returns c = (omega (arith, c.if-line-kept.false), keep_more c.args.line.now _ c.args.b c.if-line-kept.false)
