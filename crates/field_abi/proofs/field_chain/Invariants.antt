use Rattle.field_abi.proofs.Turns.{Turns}
use Prim.Native.Nat.{◌-◌}
use Rattle.arithmetic.specs.Base.{multiply}
use Rattle.field_abi.specs.Chains.{word_chain}
use Rattle.field_abi.proofs.field_chain.Given as goal

abbrev pub invariant-loop : goal.invariant-loop
invariant-loop l = Turns multiply (word_chain l.a l.b l.n) l.x l.y (l.n - l.counter)
