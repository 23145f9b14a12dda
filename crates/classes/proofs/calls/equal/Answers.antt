use Rattle.std.proofs.Common.{not}
use Rattle.classes.proofs.Numbering.{checked_orderly}
use Rattle.layout.specs.Answers.{accepted}
use mathlib.Core.Path.{ap₂}
use mathlib.Core.Bool.{Bool}
use lib.Dec.{eqb}
use mathlib.Core.Path.{sym, ap, ◌∙◌}
use mathlib.Core.List.{[], ◌∷◌}
use native.Mathlib.Omega.{arith}
use Rattle.layout.proofs.Valid.{valid_length}
use Rattle.layout.proofs.Refusals.{refuses, accepts, refusal_none, reading_no_circuit, reading_bad_id, reading_accepted, no_bad_id, bad_id_here, bad_id_next}
use Rattle.classes.specs.Classes.{equal_call}
use Rattle.classes.proofs.Finding.{number_same}
use Rattle.classes.proofs.calls.equal.Goals as goal

pub returns-then-not-check : goal.returns-then-not-check
unfolding equal_call
returns-then-not-check c = sym (reading_no_circuit c.args.m.now (c.args.i ∷ c.args.j ∷ []) [] _ _ (refuses _ _ c.check.ensures.told (ap not c.if-not-check.true)))

pub bounds-m-1 : goal.bounds-m-1
bounds-m-1 c = valid_length _ (accepts _ _ c.check.ensures.told (ap not c.if-not-check.false))

pub returns-then-m-i : goal.returns-then-m-i
unfolding equal_call
returns-then-m-i c = sym (reading_bad_id c.args.m.now (c.args.i ∷ c.args.j ∷ []) [] _ _ (accepts _ _ c.check.ensures.told (ap not c.if-not-check.false)) (bad_id_here c.args.m.now _ _ c.if-m-i.true))

pub bounds-m-1-2 : goal.bounds-m-1-2
bounds-m-1-2 c = valid_length _ (accepts _ _ c.check.ensures.told (ap not c.if-not-check.false))

pub returns-then-m-j : goal.returns-then-m-j
unfolding equal_call
returns-then-m-j c = sym (reading_bad_id c.args.m.now (c.args.i ∷ c.args.j ∷ []) [] _ _ (accepts _ _ c.check.ensures.told (ap not c.if-not-check.false)) (bad_id_next c.args.m.now _ _ c.if-m-i.false ∙ bad_id_here c.args.m.now _ _ c.if-m-j.true))

pub number_all-requires : goal.number_all-requires
number_all-requires c = checked_orderly _ _ _ _ _ _ c.check.ensures (ap not c.if-not-check.false) (let k = c.check.auto.order in omega arith) (record { numbers = omega arith; keys = omega arith })

pub returns : goal.returns
unfolding equal_call
returns c = ap (λ (b : Bool). accepted b tt) (ap₂ eqb c.entry.ensures c.entry-2.ensures ∙ number_same _ _ _ (accepts _ _ c.check.ensures.told (ap not c.if-not-check.false)) c.number_all.ensures _ _ c.if-m-i.false c.if-m-j.false) ∙ sym (reading_accepted c.args.m.now (c.args.i ∷ c.args.j ∷ []) [] _ _ (accepts _ _ c.check.ensures.told (ap not c.if-not-check.false)) (bad_id_next c.args.m.now _ _ c.if-m-i.false ∙ bad_id_next c.args.m.now _ _ c.if-m-j.false ∙ no_bad_id c.args.m.now) refusal_none)
