-- Every grown circuit is a circuit without two registered nodes alike: by induction over the calls that grew it. Assumes nothing.
use Prim.Native.Nat.{ℕ, ◌≤◌, ◌<◌}
use mathlib.Core.Path.{◌≡◌, refl, sym, ◌∙◌}
use mathlib.Core.Bool.{Bool, true, false, ◌||◌}
use mathlib.Core.List.{List, [], ◌∷◌, ◌++◌}
use native.Mathlib.Omega.{arith}
use lib.ListN.{length, set, length-set}
use lib.Seq.{get_or-set_same, get_or-set_other}
use lib.Dec.{ltb, leb, eqb}
use borrow.Author.Tests.{ltb-false, leb-false, le-ltb}
use Rattle.arithmetic.specs.declared.Triple.{Triple}
use Rattle.arithmetic.specs.Base.{p}
use Rattle.arithmetic.specs.Extension.{Canonical}
use Rattle.layout.specs.declared.node.RowKind.{RowKind}
use Rattle.layout.specs.declared.node.RowKind.TheVariants.{Single, Dual}
use Rattle.layout.specs.declared.node.Position.{Position}
use Rattle.layout.specs.declared.node.Op.{Op}
use Rattle.layout.specs.declared.node.Expression.TheVariants.{Base, Challenge, Input}
use Rattle.layout.specs.Lists.{any, up_to}
use Rattle.layout.specs.Words.{row_word, row_kind, used, limit, registered, column, constant}
use Rattle.layout.specs.NotCircuit.{bad_row, bad_index, bad_word, bad_words, bad_expression, bad_header, cyclic, not_circuit, bad_id}
use Rattle.layout.specs.Outcomes.{refusal, outcome}
use Rattle.layout.specs.Calls.{start_call}
use Rattle.layout.specs.Tree.{Tree, tree, same}
use Rattle.layout.proofs.Lists.{clash}
use Rattle.layout.proofs.Tests.{neither, or-false}
use Rattle.building.specs.Building.{Built, find_or_make, operate, negated, subtracted, summed, summed_from, full}
use Rattle.building.specs.Calls.{building, input_call, challenge_call, base_call, extension_call, operation_call, subtract_call, negate_call, sum_call}
use Rattle.build.proofs.Stepping.{constant_good}
use Rattle.walking.specs.Refusals.{over_paths, repeated}
use Rattle.walking.specs.Calls.{counted, count_call}
use Rattle.lowering.proofs.Finds.{same_shape}
use Rattle.lowering.proofs.Accepts.{peel, number_is}
use Rattle.lowering.proofs.Fits.{in_place}
use Rattle.grown.specs.Results.{Unique}
use Rattle.grown.specs.Grown as grown
use Rattle.grown.specs.Grown.{Grown}
use Rattle.grown.specs.Invariants.{Invariants}
use Rattle.grown.proofs.Built.{Builds}
use Rattle.grown.proofs.Found.{leaf_builds}
use Rattle.grown.proofs.Operates.{constant_leaf, operate_operates}
use Rattle.grown.proofs.Several.{negate_negates, subtract_subtracts, sum_sums}
use Rattle.grown.proofs.Alike.{unique_one}
use Rattle.grown.proofs.Lowers.{lower_unique}
use Rattle.grown.proofs.Counted.{all_counted, same_circuit, same_unique}

-- the two facts that the induction carries
pub record Good (m : List ℕ) : Type 0 where
  pub circuit : not_circuit m ≡ false
  pub unique : Unique m

-- an accepted call has passed its tests, and leaves what it says it leaves
pub passed : {A L : Type 0} (tests : List (ℕ × Bool)) (values : A) (after : L) (zeros : A) (lent : L) → (outcome tests values after zeros lent).number ≡ 0 → (refusal tests ≡ 0) × ((outcome tests values after zeros lent).lent ≡ after)
unfolding outcome
passed tests values after zeros lent h =
    let r : refusal tests ≡ 0 = sym (number_is (refusal tests) values after zeros lent) ∙ h in
    (r, rw r)

-- start

-- a header and no node
empty_circuit : (x : List ℕ) (kind : RowKind) → 2 ≤ length x → used x ≡ 0 → row_kind x ≡ row_word kind → not_circuit x ≡ false
unfolding not_circuit bad_header cyclic up_to any
empty_circuit x Single l u k = rw (le-ltb (length x) 2 l, k, u, le-ltb (limit x) 0 (omega arith))
empty_circuit x Dual l u k = rw (le-ltb (length x) 2 l, k, u, le-ltb (limit x) 0 (omega arith))

start_good : (m : List ℕ) (kind : RowKind) → (start_call m kind).number ≡ 0 → Good (start_call m kind).lent
unfolding start_call
start_good m kind h =
    let (r, e) = passed ((1, ltb (length m) 2) ∷ []) tt (set (set m 0 (row_word kind)) 1 0) tt m h in
    let (a, r₁) = peel 0 _ _ r in
    let l = ltb-false (length m) 2 a in
    let x : List ℕ = set (set m 0 (row_word kind)) 1 0 in
    let n : length x ≡ length m = length-set (set m 0 (row_word kind)) 1 0 ∙ length-set m 0 (row_word kind) in
    let u : used x ≡ 0 = get_or-set_same (set m 0 (row_word kind)) 1 0 0 (omega (arith, length-set m 0 (row_word kind))) in
    let k : row_kind x ≡ row_word kind = get_or-set_other (set m 0 (row_word kind)) 1 0 0 0 (λ z. omega arith) ∙ get_or-set_same m 0 (row_word kind) 0 (omega arith) in
    rw e (record { circuit = empty_circuit x kind (omega arith) u k; unique = record { apart = λ i j a b p q. absurd (omega arith) } })

-- building

pub building_passed : (m : List ℕ) (tests : List (ℕ × Bool)) (b : Built) → (building m tests b).number ≡ 0 → (refusal (((1, not_circuit m) ∷ tests) ++ ((6, full m b) ∷ [])) ≡ 0) × ((building m tests b).lent ≡ b.circuit)
unfolding building
building_passed m tests b = passed (((1, not_circuit m) ∷ tests) ++ ((6, full m b) ∷ [])) b.id b.circuit 0 m

builds_good : (m : List ℕ) (b : Built) → Builds m b → Unique m → Good b.circuit
builds_good m b h v = record { circuit = h.circuit; unique = h.unique v }

pub words_canonical : (x : Triple) → bad_words x ≡ false → Canonical x
unfolding bad_words
words_canonical x h =
    let (a, b) = neither (leb p x.c0) (leb p x.c1 || leb p x.c2) h in
    let (c, d) = neither (leb p x.c1) (leb p x.c2) b in
    record { below0 = leb-false p x.c0 a; below1 = leb-false p x.c1 c; below2 = leb-false p x.c2 d }

pub one_below : (m : List ℕ) (i : ℕ) (ids : List ℕ) → bad_id m (i ∷ ids) ≡ false → (i < used m) × (bad_id m ids ≡ false)
unfolding bad_id any
one_below m i ids h = let (a, b) = neither (leb (used m) i) (any (leb (used m)) ids) h in (leb-false (used m) i a, b)

summed_good : (m : List ℕ) → Good m → (ids : List ℕ) → bad_id m ids ≡ false → eqb (length ids) 0 ≡ false → full m (summed m ids) ≡ false → Good (summed m ids).circuit
unfolding summed
summed_good m g [] z y f = clash true refl y
summed_good m g (i ∷ is) z y f =
    let (a, b) = one_below m i is z in
    builds_good m (summed_from m i is) (sum_sums m i is g.circuit a b f).builds g.unique

module _ (m : List ℕ) (g : Good m) where
  input_good : (q : Position) → (input_call m q).number ≡ 0 → Good (input_call m q).lent
  unfolding input_call bad_expression
  input_good q h =
      let (r, e) = building_passed m ((3, bad_row m q) ∷ (4, bad_index (column q)) ∷ []) (find_or_make m (Input q)) h in
      let (c, r₁) = peel 0 _ _ r in
      let (x, r₂) = peel 2 _ _ r₁ in
      let (y, r₃) = peel 3 _ _ r₂ in
      let (f, r₄) = peel 5 _ _ r₃ in
      rw e (builds_good m (find_or_make m (Input q)) (leaf_builds m (Input q) g.circuit (or-false (bad_index (column q)) (bad_row m q) y x) tt f).builds g.unique)

  challenge_good : (k : ℕ) → (challenge_call m k).number ≡ 0 → Good (challenge_call m k).lent
  unfolding challenge_call bad_expression
  challenge_good k h =
      let (r, e) = building_passed m ((4, bad_index k) ∷ []) (find_or_make m (Challenge k)) h in
      let (c, r₁) = peel 0 _ _ r in
      let (x, r₂) = peel 3 _ _ r₁ in
      let (f, r₃) = peel 5 _ _ r₂ in
      rw e (builds_good m (find_or_make m (Challenge k)) (leaf_builds m (Challenge k) g.circuit x tt f).builds g.unique)

  base_good : (w : ℕ) → (base_call m w).number ≡ 0 → Good (base_call m w).lent
  unfolding base_call bad_expression
  base_good w h =
      let (r, e) = building_passed m ((5, bad_word w) ∷ []) (find_or_make m (Base w)) h in
      let (c, r₁) = peel 0 _ _ r in
      let (x, r₂) = peel 4 _ _ r₁ in
      let (f, r₃) = peel 5 _ _ r₂ in
      rw e (builds_good m (find_or_make m (Base w)) (leaf_builds m (Base w) g.circuit x tt f).builds g.unique)

  extension_good : (x : Triple) → (extension_call m x).number ≡ 0 → Good (extension_call m x).lent
  unfolding extension_call
  extension_good x h =
      let (r, e) = building_passed m ((5, bad_words x) ∷ []) (find_or_make m (constant x)) h in
      let (c, r₁) = peel 0 _ _ r in
      let (z, r₂) = peel 4 _ _ r₁ in
      let (f, r₃) = peel 5 _ _ r₂ in
      rw e (builds_good m (find_or_make m (constant x)) (leaf_builds m (constant x) g.circuit (constant_good m x (words_canonical x z)) (constant_leaf x) f).builds g.unique)

  operation_good : (o : Op) (l r : ℕ) → (operation_call m o l r).number ≡ 0 → Good (operation_call m o l r).lent
  unfolding operation_call
  operation_good o l r h =
      let (t, e) = building_passed m ((2, bad_id m (l ∷ r ∷ [])) ∷ []) (operate m o l r) h in
      let (c, t₁) = peel 0 _ _ t in
      let (z, t₂) = peel 1 _ _ t₁ in
      let (f, t₃) = peel 5 _ _ t₂ in
      let (a, z₁) = one_below m l (r ∷ []) z in
      let (b, z₂) = one_below m r [] z₁ in
      rw e (builds_good m (operate m o l r) (operate_operates m l r g.circuit a b o f).builds g.unique)

  subtract_good : (a b : ℕ) → (subtract_call m a b).number ≡ 0 → Good (subtract_call m a b).lent
  unfolding subtract_call
  subtract_good a b h =
      let (t, e) = building_passed m ((2, bad_id m (a ∷ b ∷ [])) ∷ []) (subtracted m a b) h in
      let (c, t₁) = peel 0 _ _ t in
      let (z, t₂) = peel 1 _ _ t₁ in
      let (f, t₃) = peel 5 _ _ t₂ in
      let (x, z₁) = one_below m a (b ∷ []) z in
      let (y, z₂) = one_below m b [] z₁ in
      rw e (builds_good m (subtracted m a b) (subtract_subtracts m a b g.circuit x y f).builds g.unique)

  negate_good : (a : ℕ) → (negate_call m a).number ≡ 0 → Good (negate_call m a).lent
  unfolding negate_call
  negate_good a h =
      let (t, e) = building_passed m ((2, bad_id m (a ∷ [])) ∷ []) (negated m a) h in
      let (c, t₁) = peel 0 _ _ t in
      let (z, t₂) = peel 1 _ _ t₁ in
      let (f, t₃) = peel 5 _ _ t₂ in
      let (x, z₁) = one_below m a [] z in
      rw e (builds_good m (negated m a) (negate_negates m a g.circuit x f).builds g.unique)

  sum_good : (ids : List ℕ) → (sum_call m ids).number ≡ 0 → Good (sum_call m ids).lent
  unfolding sum_call
  sum_good ids h =
      let (t, e) = building_passed m ((2, bad_id m ids) ∷ (7, eqb (length ids) 0) ∷ []) (summed m ids) h in
      let (c, t₁) = peel 0 _ _ t in
      let (z, t₂) = peel 1 _ _ t₁ in
      let (y, t₃) = peel 6 _ _ t₂ in
      let (f, t₄) = peel 5 _ _ t₃ in
      rw e (summed_good m g ids z y f)

-- the other calls

count_good : (m roots : List ℕ) → Good m → (count_call m roots).number ≡ 0 → Good (count_call m roots).lent
unfolding count_call
count_good m roots g h =
    let (r, e) = passed ((1, not_circuit m) ∷ (2, bad_id m roots) ∷ (14, repeated m roots) ∷ (12, over_paths m roots) ∷ []) tt (counted m roots) tt m h in
    let a = all_counted m roots in
    rw e (record { circuit = same_circuit m (counted m roots) a ∙ g.circuit; unique = same_unique m (counted m roots) a g.unique })

pub grown_good : (m : List ℕ) → Grown m → Good m
grown_good m (grown.started x kind h) = start_good x kind h
grown_good m (grown.input x g q h) = input_good x (grown_good x g) q h
grown_good m (grown.challenge x g k h) = challenge_good x (grown_good x g) k h
grown_good m (grown.base x g w h) = base_good x (grown_good x g) w h
grown_good m (grown.extension x g t h) = extension_good x (grown_good x g) t h
grown_good m (grown.operation x g o l r h) = operation_good x (grown_good x g) o l r h
grown_good m (grown.subtract x g a b h) = subtract_good x (grown_good x g) a b h
grown_good m (grown.negate x g a h) = negate_good x (grown_good x g) a h
grown_good m (grown.sum x g ids h) = sum_good x (grown_good x g) ids h
grown_good m (grown.count x g roots h) = count_good x roots (grown_good x g) h
grown_good m (grown.lower lent g target main_count aux_count h) =
    record { circuit = (in_place target main_count aux_count lent h).valid; unique = lower_unique target main_count aux_count lent h (grown_good lent.circuit g).unique }

-- two registered nodes that are equal to one tree are one node
one_match : (m : List ℕ) → Unique m → (t : Tree) (i j : ℕ) → i < used m → j < used m → registered m i ≡ true → registered m j ≡ true → same (tree m i) t ≡ true → same (tree m j) t ≡ true → i ≡ j
one_match m v t i j a b p q h k = unique_one m v i j a b p q (same_shape (tree m i) t h ∙ sym (same_shape (tree m j) t k))

-- EVERY GROWN CIRCUIT
pub grown_invariants : (m : List ℕ) → Grown m → Invariants m
grown_invariants m g = let h = grown_good m g in record { circuit = h.circuit; unique = h.unique; only_one = one_match m h.unique }
