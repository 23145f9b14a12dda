use mathlib.Core.Path.{sym, ◌∙◌}
use native.Mathlib.Omega.{arith}
use Rattle.layout.proofs.Valid.{valid_length, valid_fits}
use Rattle.classes.proofs.Firsts.{firsts_none, firsts_skip, firsts_more}
use Rattle.classes.proofs.least.list_registered.Goals as goal
use Rattle.classes.proofs.least.list_registered.Goals.{then-is_registered, else-is_registered}

pub bounds-m-1 : goal.bounds-m-1
bounds-m-1 c = let h = valid_length _ c.requires.0 in omega arith

pub loop-i-init : goal.loop-i-init
loop-i-init c = firsts_none _ _ c.blank.new.s (λ v l. c.blank.ensures v (let e = c.blank.auto.s in omega arith))

pub is_registered-requires : goal.is_registered-requires
is_registered-requires c = valid_fits _ c.requires.0 _ c.loop-i-test.true

pub loop-i-preserved : goal.loop-i-preserved
loop-i-preserved c = elim c.if-is_registered.branch [
  | then-is_registered w ↦
      rw (w.least-is ∙ w.note.ensures, w.entry.ensures) (firsts_more _ _ _ _ c.loop-i.invariant (sym c.is_registered.ensures ∙ w.if-is_registered.true) (let a = c.requires.1.inside _ c.loop-i-test.true in let e = c.blank.auto.s in let f = c.loop-i.auto.least in omega arith))
  | else-is_registered w ↦ rw w.least-is (firsts_skip _ _ _ _ c.loop-i.invariant (sym c.is_registered.ensures ∙ w.if-is_registered.false))
]
