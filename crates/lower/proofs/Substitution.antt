-- One substitution as the code does it, call by call, is the definition's. Assumes nothing.
use Rattle.std.specs.Prelude.{None, Option, Some, IsSome}
use Prim.Native.Nat.{ℕ, ◌<◌, ◌≤◌}
use mathlib.Core.Path.{◌≡◌, ◌∙◌, refl}
use mathlib.Core.Bool.{Bool, false}
use mathlib.Core.List.{List, map}
use Rattle.layout.specs.declared.node.Expression.{Expression}
use Rattle.layout.specs.Words.{used, limit, made}
use Rattle.layout.specs.Tree.{tree}
use Rattle.layout.proofs.Lists.{clash}
use Rattle.layout.proofs.Valid.{valid_room}
use Rattle.building.specs.Building.{Built, find_or_make, subtracted, full}
use Rattle.build.specs.Inner.{Step}
use Rattle.reading.specs.Readings.{is_base}
use Rattle.lower.specs.declared.substitute.Constraint.{Constraint}
use Rattle.lowering.specs.Lowering.{renamed, redirected}
use Rattle.lower.specs.Substituting.{input_at, Fresh, Differing, Gives, new_input, turned, difference, Substitutable, Replaced}

-- a step that found room
pub gives_at : {rest : Type 0} {m m' num t least : List ℕ} {b : Built} {r : Option ℕ} (i : ℕ) → Step rest m b r m' num t least → r ≡ Some i → Gives b m' i
gives_at i s e = let k = rw e at s.told in record { circuit = k.after; id = k.id }

-- a node that was made, where no other is it
pub gives_new : {m m' : List ℕ} {e : Expression} → Fresh m e → m' ≡ made m e → Gives (find_or_make m e) m' (used m)
gives_new f q = record { circuit = q ∙ rw f.new; id = rw f.new }

-- there is room
pub always_made : {rest : Type 0} {m m' num t least : List ℕ} {b : Built} (r : Option ℕ) → full m b ≡ false → Step rest m b r m' num t least → IsSome r
always_made (Some i) room s = refl
always_made {m = m} {b = b} None room s = clash (full m b) s.told.over room

module _ (m : List ℕ) (s a b : ℕ) (p : Substitutable m s a b) (main : Bool) (pm : main ≡ is_base (tree m s)) (e : Expression) (pe : e ≡ input_at main a b) where
  pub input_fresh : Fresh m e
  input_fresh = rw (pe, pm) p.input

  module _ (m₁ : List ℕ) (n : ℕ) (g : Gives (find_or_make m e) m₁ n) where
    new_circuit : m₁ ≡ (new_input m s a b).circuit
    unfolding new_input
    new_circuit = g.circuit ∙ rw (pe, pm)

    new_id : n ≡ (new_input m s a b).id
    unfolding new_input
    new_id = g.id ∙ rw (pe, pm)

    pub can_redirect : (s < used m₁) × (used m₁ ≤ limit m₁)
    can_redirect = rw new_circuit (p.still, valid_room (new_input m s a b).circuit p.inside)

    module _ (m₂ : List ℕ) (q : m₂ ≡ redirected m₁ s n) where
      is_turned : m₂ ≡ turned m s a b
      unfolding turned
      is_turned = q ∙ rw (new_circuit, new_id)

      pub can_differ : Differing m₂ n s
      can_differ = rw (is_turned, new_id) p.constraint

      pub replaced : (roots roots₁ : List ℕ) → roots₁ ≡ map (renamed s n) roots → (m₃ : List ℕ) (i : ℕ) → Gives (subtracted m₂ n s) m₃ i → (r : Constraint) → r.id ≡ i → r.main ≡ main → Replaced m s a b roots m₃ roots₁ r
      unfolding difference
      replaced roots roots₁ ro m₃ i d r ri rm =
          record {
            circuit = d.circuit ∙ rw (is_turned, new_id);
            all_roots = ro ∙ rw new_id;
            id = ri ∙ (d.id ∙ rw (is_turned, new_id));
            to_main = rm ∙ pm;
          }
