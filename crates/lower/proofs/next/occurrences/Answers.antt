use mathlib.Core.Path.{sym}
use lib.Seq.{length-take-le}
use native.Mathlib.Omega.{arith}
use Rattle.layout.specs.Words.{used}
use Rattle.layout.proofs.Valid.{valid_length}
use Rattle.paths.proofs.Counts.{valid_top}
use Rattle.lower.proofs.Surveys.{high_few, high_countable}
use Rattle.lower.proofs.next.occurrences.Goals as goal

pub bounds-m-1 : goal.bounds-m-1
bounds-m-1 c = valid_length _ c.requires.valid

pub high_nodes-many-requires : goal.high_nodes-many-requires
high_nodes-many-requires c = let t = valid_top c.args.m.now c.requires.valid in let h = c.requires.high_room in omega arith

pub slice_bounds-count_paths-end : goal.slice_bounds-count_paths-end
slice_bounds-count_paths-end c = let t = valid_top c.args.m.now c.requires.valid in let h = c.requires.high_room in let l = c.high_nodes-many.ensures.many in let f = high_few c.args.degrees.now c.args.counts.now c.args.d (used c.args.m.now) in let k = c.high_nodes-many.auto in omega arith

pub slice_bounds-count_paths-end-2 : goal.slice_bounds-count_paths-end-2
slice_bounds-count_paths-end-2 c = sym (length-take-le _ _ (slice_bounds-count_paths-end c))

pub count_paths-requires : goal.count_paths-requires
count_paths-requires c = high_countable _ _ _ _ _ _ _ _ _ _ c.requires c.high_nodes-many.ensures

pub returns : goal.returns
returns c = rw c.high_nodes-many.ensures.front at c.count_paths.ensures
