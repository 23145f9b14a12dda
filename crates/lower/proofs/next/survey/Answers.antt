use borrow.Author.Rules.{rules}
use native.Mathlib.Omega.{arith}
use Rattle.lower.proofs.Surveys.{degrees_told}
use Rattle.read.proofs.Along.{orderly}
use Rattle.lower.proofs.next.survey.Goals as goal

pub order_of-requires : goal.order_of-requires
order_of-requires c = (c.requires.valid, (search rules, search rules))

pub degrees_along-requires : goal.degrees_along-requires
degrees_along-requires c = let p = c.requires in let k = c.order_of.auto.order in let o = p.order_room in orderly _ _ _ _ p.valid c.order_of.ensures (omega arith) p.degrees_room

pub count_paths-requires : goal.count_paths-requires
count_paths-requires c = let p = c.requires in let k = c.order_of.auto.order in let o = p.order_room in record { valid = p.valid; sorted = c.order_of.ensures; order_room = omega arith; ids = p.ids; room = p.counts_room }

pub returns : goal.returns
returns c = record { sorted = c.order_of.ensures; all_degrees = degrees_told _ _ c.degrees_along.ensures; all_counts = c.count_paths.ensures }
