use Rattle.layout.proofs.Valid.{valid_length, valid_fits}
use Rattle.read.proofs.degree.leaf_degrees.Goals as goal

pub bounds-m-1 : goal.bounds-m-1
bounds-m-1 c = valid_length _ c.requires.valid

pub expression_at-requires : goal.expression_at-requires
expression_at-requires c = valid_fits _ c.requires.valid _ c.loop-i-test.true
