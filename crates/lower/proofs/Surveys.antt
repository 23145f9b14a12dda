-- The tables of a lowering: they are what the choice asks for. Assumes nothing.
use Rattle.std.specs.Prelude.{if◌then◌else◌, None, Some}
use Prim.Native.Nat.{ℕ, suc, ◌<◌, ◌≤◌}
use mathlib.Core.Path.{◌≡◌, sym, ◌∙◌}
use mathlib.Core.Bool.{Bool, true, false}
use mathlib.Core.List.{List, [], ◌∷◌}
use native.Mathlib.Omega.{arith}
use lib.ListN.{length, take}
use lib.Dec.{leb}
use borrow.Author.Tests.{lt-leb}
use Rattle.std.proofs.lemmas.Option.{some_pair_parts}
use Rattle.layout.specs.Lists.{up_to, any, keep}
use Rattle.layout.specs.Words.{used}
use Rattle.layout.specs.Tree.{tree}
use Rattle.layout.specs.NotCircuit.{not_circuit, bad_id}
use Rattle.circuit.specs.Rank.{at, Sorted}
use Rattle.layout.proofs.Tests.{is_false}
use Rattle.layout.proofs.Lists.{clash, up_to_length}
use Rattle.paths.specs.Counting.{PathCounts, Countable}
use Rattle.paths.proofs.Below.{any_some}
use Rattle.reading.specs.Readings.{is_base}
use Rattle.read.specs.Tables.{Filled, Ranked}
use Rattle.read.specs.Degrees.{degree_to}
use Rattle.lowering.specs.Lowering.{too_high}
use Rattle.lower.specs.Tables.{Degrees, above_in, is_high_in, high_in, Listed, best_in}
use Rattle.lower.specs.Survey.{Surveyed, Occurring, Choosable, chosen_next, Picked}
use Rattle.lowering.proofs.ListLaws.{in_keep, in_up_to}
use Rattle.lower.proofs.Readings.{high_is, best-is, too_high_is, small_target}

ranked_of : (m order rank : List ℕ) → not_circuit m ≡ false → Sorted m order rank → Ranked m rank
ranked_of m order rank valid s = record { valid = valid; left_first = s.left_first; right_first = s.right_first }

pub degrees_told : (m degrees : List ℕ) → Filled (used m) (at degrees) (degree_to m) → Degrees m degrees
unfolding degree_to
degrees_told m degrees f = record { told = f.told }

-- the high nodes are nodes, and no more than there are
keep_few : (p : ℕ → Bool) (xs : List ℕ) → length (keep p xs) ≤ length xs
unfolding keep
keep_few p [] = omega arith
keep_few p (x ∷ xs) = go (p x) (keep_few p xs)
  where
    go : (b : Bool) → length (keep p xs) ≤ length xs → length (if b then x ∷ keep p xs else keep p xs) ≤ suc (length xs)
    go true h = omega arith
    go false h = omega arith

module _ (degrees counts : List ℕ) (d : ℕ) where
  pub high_few : (n : ℕ) → length (high_in degrees counts d n) ≤ n
  unfolding high_in
  high_few n = omega (arith, keep_few (is_high_in degrees counts d) (up_to n), up_to_length n)

  high_ids : (m : List ℕ) → bad_id m (high_in degrees counts d (used m)) ≡ false
  unfolding bad_id high_in
  high_ids m =
      is_false (any (leb (used m)) (keep (is_high_in degrees counts d) (up_to (used m)))) (λ h.
      let s = any_some (leb (used m)) (keep (is_high_in degrees counts d) (up_to (used m))) h in
      let l = in_up_to (used m) s.id (in_keep (is_high_in degrees counts d) (up_to (used m)) s.id s.stands).0 in
      clash (leb (used m) s.id) s.passes (lt-leb (used m) s.id l))

  pub high_countable : (m order rank high₀ high found : List ℕ) (many : ℕ) → Occurring m order rank high₀ found → Listed (high_in degrees counts d (used m)) high many → Countable m order rank (take many high) found
  high_countable m order rank high₀ high found many o l =
      record { valid = o.valid; sorted = o.sorted; order_room = o.order_room; ids = rw l.front (high_ids m); room = o.room }

module _ (target : ℕ) (m roots order rank degrees counts : List ℕ) (c : Choosable target m roots) (s : Surveyed m roots order rank degrees counts) (b : Bool) (told : b ≡ any (above_in degrees target) roots) where
  told_high : b ≡ too_high target m roots
  told_high = told ∙ too_high_is m degrees s.all_degrees roots c.valid c.ids c.degree target

  next-done : b ≡ false → None ≡ chosen_next target m roots
  unfolding chosen_next
  next-done h = rw (sym told_high ∙ h)

  next_node : b ≡ true → (found : List ℕ) (r : ℕ) → PathCounts m (high_in degrees counts target (used m)) found → r ≡ best_in degrees found target (used m) → Some r ≡ chosen_next target m roots
  unfolding chosen_next
  next_node h found r p e =
      let high : too_high target m roots ≡ true = sym told_high ∙ h in
      let small = small_target m roots c.valid c.ids c.degree target high in
      let q = rw (high_is m degrees s.all_degrees roots counts s.all_counts target small) at p in
      rw (high, e, best-is m degrees s.all_degrees target roots found small q c.few)

  pub picked_done : b ≡ false → Picked target m roots None
  picked_done h = record { told = next-done h; base = λ s c e l. absurd (let z : ◌≡◌ {A = ℕ} 0 1 = cc in omega arith) }

  pub ranked : Ranked m rank
  ranked = ranked_of m order rank c.valid s.sorted

  pub picked_node : b ≡ true → (found : List ℕ) (r : ℕ) → PathCounts m (high_in degrees counts target (used m)) found → r ≡ best_in degrees found target (used m) → (main : Bool) → (r < used m → main ≡ is_base (tree m r)) → Picked target m roots (Some (r, main))
  picked_node h found r p e main f =
      record {
        told = next_node h found r p e;
        base = λ q d w l.
            let (y, z) = some_pair_parts _ _ _ _ w in
            rw (← y, ← z) (f (rw y l));
      }
