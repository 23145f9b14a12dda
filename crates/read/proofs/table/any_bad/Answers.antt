use Prim.Native.Nat.{◌/◌, ◌*◌}
use mathlib.Core.Path.{sym, ap}
use mathlib.Core.Bool.{Bool, ◌||◌}
use lib.ListN.{length, drop}
use Rattle.std.proofs.Common.{rules, tests, ◌∙◌}
use Rattle.std.proofs.lemmas.Iterator.{YieldsList-from_slice}
use Rattle.std.proofs.lemmas.Iterator.Search.{any_from_yields_List}
use Rattle.std.specs.Simd.{first_chunks}
use Rattle.layout.specs.Lists.{any}
use Rattle.layout.specs.NotCircuit.{bad_word}
use Rattle.layout.proofs.Lists.{or_left}
use Rattle.read.proofs.Lists.{any_listed, any_chunks}
use Rattle.read.proofs.table.any_bad.Goals as goal

pub returns-then-any : goal.returns-then-any
returns-then-any c =
    let eights = any_from_yields_List (any bad_word) _ _ _ c.any.ensures.ran (YieldsList-from_slice c.as_chunks.result.0.now cc) (λ x b q k. search (rules, tests)) ∙ any_listed (any bad_word) c.as_chunks.result.0.now in
    c.if-any.true ∙ sym (any_chunks bad_word 8 (length c.args.ws.now / 8) c.args.ws.now ∙ or_left _ _ (sym (eights ∙ ap (any (any bad_word)) c.as_chunks.ensures.front) ∙ c.if-any.true))

pub returns-else-any : goal.returns-else-any
returns-else-any c =
    let eights = any_from_yields_List (any bad_word) _ _ _ c.any.ensures.ran (YieldsList-from_slice c.as_chunks.result.0.now cc) (λ x b q k. search (rules, tests)) ∙ any_listed (any bad_word) c.as_chunks.result.0.now in
    let rest = any_from_yields_List bad_word _ _ _ c.any-else-any.ensures.ran (YieldsList-from_slice c.as_chunks.result.1.now cc) (λ x b q k. search (rules, tests)) ∙ any_listed bad_word c.as_chunks.result.1.now in
    rest ∙ ap (any bad_word) c.as_chunks.ensures.back ∙ sym (any_chunks bad_word 8 (length c.args.ws.now / 8) c.args.ws.now ∙ ap (λ (b : Bool). b || any bad_word (drop (length c.args.ws.now / 8 * 8) c.args.ws.now)) (sym (eights ∙ ap (any (any bad_word)) c.as_chunks.ensures.front) ∙ c.if-any.false))
