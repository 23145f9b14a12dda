use Rattle.layout.proofs.Valid.{valid_length}
use Rattle.lower.proofs.Substitution.{gives_new}
use Rattle.lower.proofs.substitute.make_input.Goals as goal

pub bounds-m-1 : goal.bounds-m-1
bounds-m-1 c = valid_length _ c.requires.valid

pub returns : goal.returns
returns c = gives_new c.requires c.make.ensures
