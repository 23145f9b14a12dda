use Prim.Native.Nat.{ℕ}
use mathlib.Core.Path.{◌≡◌, sym, ap, ◌∙◌}
use native.Mathlib.Omega.{arith}
use Rattle.layout.specs.Lists.{any, up_to}
use Rattle.layout.specs.Words.{used}
use Rattle.layout.specs.NotCircuit.{bad_node}
use Rattle.layout.proofs.Tests.{any_one, any_next, any_start}
use Rattle.layout.proofs.Valid.{header_room, header_fits}
use Rattle.circuit.proofs.check.any_bad.Goals as goal

pub bounds-m-1 : goal.bounds-m-1
bounds-m-1 c = (header_room _ c.requires).0

pub loop-i-init : goal.loop-i-init
loop-i-init c = any_start (bad_node c.args.m.now)

pub bad_node-requires : goal.bad_node-requires
bad_node-requires c = header_fits _ _ c.requires c.loop-i-test.true

pub returns-then-bad_node : goal.returns-then-bad_node
returns-then-bad_node c = sym (any_one (bad_node c.args.m.now) _ _ c.loop-i-test.true (sym c.bad_node.ensures ∙ c.if-bad_node.true))

pub loop-i-preserved : goal.loop-i-preserved
loop-i-preserved c = any_next (bad_node c.args.m.now) _ c.loop-i.invariant (sym c.bad_node.ensures ∙ c.if-bad_node.false)

pub returns : goal.returns
returns c = let m = c.args.m.now in
    let e : c.loop-i.i ≡ used m = omega arith in
    sym (ap (λ (k : ℕ). any (bad_node m) (up_to k)) (sym e) ∙ c.loop-i.invariant)
