use mathlib.Core.Path.{◌∙◌}
use native.Mathlib.Omega.{arith}
use Rattle.classes.proofs.Firsts.{slot_told}
use Rattle.classes.proofs.Finding.{find_none, find_slot, find_inside}
use Rattle.classes.proofs.find.find.Goals as goal

pub returns-in_err-v : goal.returns-in_err-v
returns-in_err-v c = c.from_residual.ensures ∙ find_none _ _ _ _ _ c.requires (rw (c.key_of.ensures, c.in_err-v.was) at c.seek.ensures)

pub offset_bounds-least-v : goal.offset_bounds-least-v
offset_bounds-least-v c = let h = find_inside _ _ _ _ _ c.requires _ (rw c.key_of.ensures at (c.seek.ensures.hit _ c.in_ok-v.was)) in omega arith

pub bounds-least-v : goal.bounds-least-v
bounds-least-v c = find_inside _ _ _ _ _ c.requires _ (rw c.key_of.ensures at (c.seek.ensures.hit _ c.in_ok-v.was))

pub returns : goal.returns
returns c = slot_told _ _ c.checked_sub.ensures ∙ find_slot _ _ _ _ _ c.requires _ (rw c.key_of.ensures at (c.seek.ensures.hit _ c.in_ok-v.was))
