use Rattle.field_abi.proofs.Turns.{Turns}
use Prim.Native.Nat.{◌-◌}
use Rattle.arithmetic.specs.Extension.{triple, times}
use Rattle.field_abi.specs.Chains.{triple_chain}
use Rattle.field_abi.proofs.field_triple_chain.Given as goal

abbrev pub invariant-loop : goal.invariant-loop
invariant-loop l = Turns times (triple_chain (triple l.a0 l.a1 l.a2) (triple l.b0 l.b1 l.b2) l.n) l.x l.y (l.n - l.counter)
