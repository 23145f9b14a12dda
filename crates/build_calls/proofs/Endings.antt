-- How the tests of a building call decide its outcome. Assumes nothing.
use Rattle.std.specs.Prelude.{None, Option, Some, Result}
use Prim.Native.Nat.{ℕ, suc, ◌≤◌}
use mathlib.Core.Path.{◌≡◌, refl, sym, ap, ◌∙◌}
use mathlib.Core.Bool.{Bool, true, false, ◌||◌, not}
use mathlib.Core.List.{List, [], ◌∷◌, ◌++◌}
use native.Mathlib.Omega.{arith}
use lib.Dec.{leb}
use lib.ListN.{length}
use Rattle.layout.specs.Lists.{any}
use Rattle.layout.specs.Words.{used}
use Rattle.layout.specs.NotCircuit.{not_circuit, bad_id}
use Rattle.circuit.specs.Rank.{Checked}
use Rattle.layout.specs.Outcomes.{refusal, numbered, outcome}
use Rattle.layout.specs.Answers.{refused}
use Rattle.layout.proofs.Valid.{valid_header, header_top}
use Rattle.layout.proofs.Refusals.{refusal_none, refusal_here, refusal_next, outcome_refused, outcome_accepted, accepts}
use Rattle.classes.specs.Find.{Fillable}
use Rattle.classes.specs.Numbers.{Sized}
use Rattle.layout.specs.declared.refusal.Refusal.{Refusal}
use Rattle.building.specs.Building.{Built, full}
use Rattle.building.specs.Calls.{building}
use Rattle.build.specs.Inner.{Stepped}
use Rattle.building.specs.Told.{told_id}
use Rattle.build_calls.specs.Answers.{answer_of, ending, Ranked}

-- the tests of a call

module _ (m : List ℕ) (tests : List (ℕ × Bool)) (b : Built) where
  pub no_circuit : not_circuit m ≡ true → building m tests b ≡ refused 1 0 m
  unfolding building
  no_circuit h = outcome_refused (((1, not_circuit m) ∷ tests) ++ ((6, full m b) ∷ [])) b.id b.circuit 0 m 0 (refusal_here 1 _ _ h)

  -- a test of its own
  pub refuses_by : (k : ℕ) → not_circuit m ≡ false → refusal (tests ++ ((6, full m b) ∷ [])) ≡ suc k → building m tests b ≡ refused (suc k) 0 m
  unfolding building
  refuses_by k h r = outcome_refused (((1, not_circuit m) ∷ tests) ++ ((6, full m b) ∷ [])) b.id b.circuit 0 m k (refusal_next 1 _ _ h ∙ r)

  -- none but FULL is left
  pub only_full : not_circuit m ≡ false → refusal (tests ++ ((6, full m b) ∷ [])) ≡ refusal ((6, full m b) ∷ []) → building m tests b ≡ ending m b
  unfolding building ending outcome
  only_full h r = ap (λ (n : ℕ). numbered n b.id b.circuit 0 m) (refusal_next 1 _ _ h ∙ r)

-- the inner form's answer is the last test's
pub ends : (m : List ℕ) (b : Built) (r : Option ℕ) (a : Result ℕ Refusal) (m' num t least : List ℕ) → a ≡ answer_of r → Stepped m b r m' num t least → told_id a m' ≡ ending m b
unfolding ending
ends m b (Some i) a m' num t least e s =
    let w = s.told in
    rw (e, w.id, w.after) (sym (outcome_accepted ((6, full m b) ∷ []) b.id b.circuit 0 m (refusal_next 6 _ _ w.room ∙ refusal_none)))
ends m b None a m' num t least e s =
    let w = s.told in
    rw (e, w.left.same) (sym (outcome_refused ((6, full m b) ∷ []) b.id b.circuit 0 m 5 (refusal_here 6 _ _ w.over)))

-- a check that was passed

module _ (m order rank : List ℕ) (answer : Bool) (c : Checked m order rank answer) (passed : not answer ≡ false) where
  pub checked : not_circuit m ≡ false
  checked = accepts m answer c.told passed

  pub ranked : 4096 ≤ length order → Ranked m order rank
  ranked l = record { circuit = checked; sorted = c.sorted (c.told ∙ ap not checked); ids = l }

pub tables_fillable : (m order rank num t least : List ℕ) → Ranked m order rank → Sized num t → 4097 ≤ length least → Fillable m order rank num t least
tables_fillable m order rank num t least r s l = record {
  orderly = record {
    circuit = r.circuit;
    sorted = r.sorted;
    ids = let a = r.ids in let b = header_top m (valid_header m r.circuit) in omega arith;
    sized = s;
  };
  leasts = l;
}

-- ids

pub one_twice : (m : List ℕ) (a : ℕ) → bad_id m (a ∷ a ∷ []) ≡ bad_id m (a ∷ [])
unfolding bad_id any
one_twice m a = go (leb (used m) a)
  where
    go : (b : Bool) → (b || (b || false)) ≡ (b || false)
    go true = refl
    go false = refl
