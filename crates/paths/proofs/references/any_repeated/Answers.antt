use mathlib.Core.Path.{◌∙◌}
use native.Mathlib.Omega.{arith}
use lib.Dec.{ltb}
use lib.ListN.{length}
use Prim.Native.Nat.{◌<◌}
use Rattle.std.proofs.lemmas.List.{get_or_read}
use Rattle.std.proofs.Common.{rules, tests}
use Rattle.std.proofs.lemmas.Iterator.{YieldsList-from_slice}
use Rattle.std.proofs.lemmas.Iterator.Adapters.{serves_from_places}
use Rattle.std.proofs.lemmas.Iterator.Search.{any_from_yields_List}
use Rattle.circuit.specs.Rank.{at}
use Rattle.paths.proofs.Walks.{any_listed}
use Rattle.paths.proofs.references.any_repeated.Goals as goal

pub any-requires-clause-callable : goal.any-requires-clause-callable
any-requires-clause-callable c =
    serves_from_places (YieldsList-from_slice c.args.roots.now cc) (λ x q r. search rules)
    (λ x k l e. let w : x.now < length c.args.counts.now = rw (get_or_read c.args.roots.now k x.now l e 0) (c.requires k l) in (λ a b n s t f u. omega arith, λ a b n s t f u v. w))

pub returns : goal.returns
returns c =
    any_from_yields_List (λ i. ltb 1 (at c.args.counts.now i)) _ _ _ c.any.ensures.ran (YieldsList-from_slice c.args.roots.now cc) (λ x b q k. search (rules, tests))
    ∙ any_listed (λ i. ltb 1 (at c.args.counts.now i)) c.args.roots.now
