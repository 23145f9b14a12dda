use mathlib.Core.Bool.{Bool, false, ◌||◌}
use Prim.Native.Nat.{ℕ}
use Rattle.std.proofs.Common.{rules, tests, ◌∙◌}
use Rattle.std.proofs.lemmas.Iterator.{YieldsList-from_slice}
use Rattle.std.proofs.lemmas.Iterator.Consumers.{fold_from_yields_List}
use Rattle.layout.specs.NotCircuit.{bad_word}
use Rattle.read.proofs.Lists.{any_folded}
use Rattle.read.proofs.table.bad_eight.Goals as goal

pub returns : goal.returns
returns c = fold_from_yields_List _ (λ (b : Bool) (w : ℕ). b || bad_word w) false _ c.fold.ensures.ran (YieldsList-from_slice c.args.ws.now cc) (λ a x b q k. search (rules, tests)) ∙ any_folded bad_word false c.args.ws.now
