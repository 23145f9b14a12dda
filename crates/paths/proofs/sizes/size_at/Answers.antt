use mathlib.Core.Path.{sym, ◌∙◌}
use native.Mathlib.Omega.{arith}
use Rattle.layout.proofs.Valid.{valid_fits}
use Rattle.paths.proofs.Walks.{step_below}
use Rattle.paths.proofs.Counts.{valid_top}
use Rattle.paths.proofs.Lengths.{size_one, size_sum}
use Rattle.paths.proofs.sizes.size_at.Goals as goal

pub step_at-s-requires : goal.step_at-s-requires
step_at-s-requires c = valid_fits _ c.requires.valid _ c.requires.here

pub offset_bounds-sizes-left : goal.offset_bounds-sizes-left
offset_bounds-sizes-left c = let v = c.requires in
    let t = valid_top _ v.valid in
    let b = (step_below _ v.valid _ v.here _ _ (sym c.step_at-s.ensures ∙ c.in-Some.is)).0 in
    omega arith

pub bounds-sizes-left : goal.bounds-sizes-left
bounds-sizes-left c = let v = c.requires in
    let t = valid_top _ v.valid in
    let r = v.room in
    let b = (step_below _ v.valid _ v.here _ _ (sym c.step_at-s.ensures ∙ c.in-Some.is)).0 in
    omega arith

pub overflow_add-sizes : goal.overflow_add-sizes
overflow_add-sizes c = let v = c.requires in
    let p = (v.operands _ _ (sym c.step_at-s.ensures ∙ c.in-Some.is)).0 in
    let s = v.small in
    omega arith

pub offset_bounds-sizes-right : goal.offset_bounds-sizes-right
offset_bounds-sizes-right c = let v = c.requires in
    let t = valid_top _ v.valid in
    let b = (step_below _ v.valid _ v.here _ _ (sym c.step_at-s.ensures ∙ c.in-Some.is)).1 in
    omega arith

pub bounds-sizes-right : goal.bounds-sizes-right
bounds-sizes-right c = let v = c.requires in
    let t = valid_top _ v.valid in
    let r = v.room in
    let b = (step_below _ v.valid _ v.here _ _ (sym c.step_at-s.ensures ∙ c.in-Some.is)).1 in
    omega arith

pub overflow_add-sizes-in-Some : goal.overflow_add-sizes-in-Some
overflow_add-sizes-in-Some c = let v = c.requires in
    let (p, q) = v.operands _ _ (sym c.step_at-s.ensures ∙ c.in-Some.is) in
    let s = v.small in
    omega arith

pub returns-in-None : goal.returns-in-None
returns-in-None c = size_one _ c.requires.valid _ c.requires.here _ _ (sym c.step_at-s.ensures ∙ c.in-None.is) c.min.ensures

pub returns-in-Some : goal.returns-in-Some
returns-in-Some c = let v = c.requires in
    let e = sym c.step_at-s.ensures ∙ c.in-Some.is in
    size_sum _ v.valid _ v.here _ _ _ _ _ _ e (v.operands _ _ e) (omega arith)
