use Rattle.layout.proofs.Valid.{place_fits}
use Prim.Native.Nat.{ℕ}
use mathlib.Core.Path.{◌≡◌, ap, ◌∙◌}
use mathlib.Core.List.{List}
use native.Mathlib.Omega.{arith}
use Rattle.layout.specs.Words.{used}
use Rattle.layout.proofs.Valid.{place_fits}
use Rattle.circuit.proofs.Places.{write_used}
use Rattle.lowering.specs.Lowering.{rename_operands, redirected}
use Rattle.lower.proofs.Renames.{each_start, each_next}
use Rattle.lower.proofs.redirect.redirect.Goals as goal

pub write_word-requires : goal.write_word-requires
write_word-requires c = let f = place_fits c.args.m.now c.args.s (omega arith) in (omega arith, omega arith)

pub loop-i-init : goal.loop-i-init
loop-i-init c = each_start (rename_operands c.args.s c.args.n) _

pub rename_operands-requires : goal.rename_operands-requires
rename_operands-requires c = let m = c.args.m.now in let k = c.write_word.auto.m in let w = write_used m c.args.s 4 0 (omega arith) in let e = ap (λ (l : List ℕ). used l) c.write_word.ensures in let h = c.loop-i-test.true in let i = c.loop-i.auto.m in let f = place_fits m c.loop-i.i (omega arith) in omega arith

pub loop-i-preserved : goal.loop-i-preserved
loop-i-preserved c = each_next (rename_operands c.args.s c.args.n) _ _ _ _ c.loop-i.invariant c.rename_operands.ensures

pub returns : goal.returns
unfolding redirected
returns c = let m = c.args.m.now in let w = write_used m c.args.s 4 0 (omega arith) in let e = c.write_word.ensures in let q : c.loop-i.i ≡ used m = let g = ap (λ (l : List ℕ). used l) e in omega arith in c.loop-i.invariant ∙ rw (q, e)
