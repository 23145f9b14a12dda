use mathlib.Core.Path.{sym, ◌∙◌}
use native.Mathlib.Omega.{arith}
use Rattle.layout.proofs.Valid.{valid_fits}
use Rattle.paths.proofs.Walks.{step_below}
use Rattle.paths.proofs.Counts.{valid_top, give_stay, give_two_lem}
use Rattle.paths.proofs.counting.give.Goals as goal

pub offset_bounds-counts-node : goal.offset_bounds-counts-node
offset_bounds-counts-node c = let t = valid_top _ c.requires.valid in let h = c.requires.here in let r = c.requires.room in omega arith

pub bounds-counts-node : goal.bounds-counts-node
bounds-counts-node c = let t = valid_top _ c.requires.valid in let h = c.requires.here in let r = c.requires.room in omega arith

pub step_at-s-requires : goal.step_at-s-requires
step_at-s-requires c = valid_fits _ c.requires.valid _ c.requires.here

pub add_at-requires : goal.add_at-requires
add_at-requires c = let v = c.requires in
    let t = valid_top _ v.valid in
    let r = v.room in
    let s = v.small in
    let (b, d) = step_below _ v.valid _ v.here _ _ (sym c.step_at-s.ensures ∙ c.in-Some.is) in
    (omega arith, omega arith)

pub add_at-requires-in-Some : goal.add_at-requires-in-Some
add_at-requires-in-Some c = let v = c.requires in
    let t = valid_top _ v.valid in
    let r = v.room in
    let s = v.small in
    let (b, d) = step_below _ v.valid _ v.here _ _ (sym c.step_at-s.ensures ∙ c.in-Some.is) in
    (omega (arith, c.add_at.auto.counts), omega arith)

pub returns-in-None : goal.returns-in-None
returns-in-None c = give_stay _ _ _ _ c.step_at-s.ensures c.in-None.is

pub returns-in-Some : goal.returns-in-Some
returns-in-Some c = give_two_lem _ _ _ _ c.step_at-s.ensures _ _ c.in-Some.is _ _ c.add_at.ensures c.add_at-in-Some.ensures
