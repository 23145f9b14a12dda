use Rattle.paths.proofs.Calls.{puts_next}
use mathlib.Core.Path.{◌≡◌, sym}
use native.Mathlib.Omega.{arith}
use Rattle.layout.specs.Words.{used}
use Rattle.circuit.specs.Rank.{at}
use Rattle.layout.proofs.Valid.{valid_length, valid_fits}
use Rattle.paths.specs.Rising.{put, put_all}
use Rattle.paths.proofs.Counts.{valid_top}
use Rattle.paths.proofs.Gathers.{each_none}
use Rattle.paths.proofs.references.put_counts.Goals as goal

pub bounds-m-1 : goal.bounds-m-1
bounds-m-1 c = valid_length _ c.requires.valid

pub loop-i-init : goal.loop-i-init
loop-i-init c = sym (each_none (λ x j. put x j (at c.args.counts.now j)) _)

pub offset_bounds-counts-i : goal.offset_bounds-counts-i
offset_bounds-counts-i c = let t = valid_top _ c.requires.valid in omega arith

pub bounds-counts-i : goal.bounds-counts-i
bounds-counts-i c = let t = valid_top _ c.requires.valid in let r = c.requires.room in omega arith

pub put_count-requires : goal.put_count-requires
put_count-requires c = let f = valid_fits _ c.requires.valid _ c.loop-i-test.true in omega arith

pub loop-i-preserved : goal.loop-i-preserved
loop-i-preserved c = puts_next _ c.args.counts.now _ _ _ c.loop-i.invariant c.put_count.ensures

pub returns : goal.returns
unfolding put_all
returns c = let e : c.loop-i.i ≡ used c.args.m.now = omega arith in rw e at c.loop-i.invariant
