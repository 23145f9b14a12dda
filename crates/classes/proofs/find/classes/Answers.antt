use native.Mathlib.Omega.{arith}
use Rattle.layout.proofs.Valid.{valid_length}
use Rattle.classes.proofs.Finding.{numbers_inside, lowered_class}
use Rattle.classes.proofs.find.classes.Goals as goal

pub bounds-m-1 : goal.bounds-m-1
bounds-m-1 c = let h = valid_length _ c.requires.orderly.circuit in omega arith

pub least_ids-requires : goal.least_ids-requires
least_ids-requires c = numbers_inside _ _ _ c.requires.orderly.circuit c.number_all.ensures _ _ _ _ _ c.requires c.number_all.auto.numbers

pub returns : goal.returns
returns c = lowered_class _ _ _ c.requires.orderly.circuit c.number_all.ensures _ c.least_ids.ensures
