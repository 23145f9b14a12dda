-- The redirect as the code does it: node by node, by what each node does at its place, and root by root. Assumes nothing.
use Rattle.std.specs.Prelude.{None, Some, Option}
use Prim.Native.Nat.{ℕ, zero, suc, ◌+◌, ◌<◌}
use mathlib.Core.Path.{◌≡◌, refl, sym, ◌∙◌, ap}
use mathlib.Core.Logic.{⊎_elim}
use mathlib.Core.Bool.{true, false, ◌||◌}
use mathlib.Core.List.{List, [], ◌∷◌, map}
use native.Mathlib.Numerals.{add-one}
use native.Mathlib.Omega.{arith}
use lib.ListN.{length, get_or, set}
use lib.Dec.{eqb}
use borrow.Author.Tests.{eqb-true}
use Rattle.layout.specs.declared.node.Node.{Node}
use Rattle.layout.specs.declared.node.Op.{Op}
use Rattle.layout.specs.declared.node.Op.TheVariants.{Add, Multiply}
use Rattle.layout.specs.Lists.{up_to, each}
use Rattle.layout.specs.Words.{offset, word, decode, node_at, expression_at, op_kind}
use Rattle.circuit.specs.Walk.{step_of}
use Rattle.layout.proofs.Tests.{either, is_false}
use Rattle.circuit.proofs.Places.{operation_words}
use Rattle.paths.proofs.Walks.{step_two}
use Rattle.lowering.specs.Lowering.{renamed, rename_operands}
use Rattle.lowering.proofs.Redirects.{each_snoc}

-- a place that stays is no operation
stays : (k a b c : ℕ) → step_of (decode k a b c) ≡ None → (eqb k 3 || eqb k 4) ≡ false
unfolding decode
stays k a b c h = is_false (eqb k 3 || eqb k 4) (λ t. ⊎_elim (λ e. let q = eqb-true k 3 e in let z : step_of (decode 3 a b c) ≡ None = rw q at h in absurd (never z)) (λ e. let q = eqb-true k 4 e in let z : step_of (decode 4 a b c) ≡ None = rw q at h in absurd (never z)) (either (eqb k 3) (eqb k 4) t))
  where
    never : ◌≡◌ {A = Option (ℕ × ℕ)} (Some (a, b)) None → ⊥
    never z = let y : ◌≡◌ {A = ℕ} 0 1 = cc in omega arith

kinds : (o : Op) → (eqb (op_kind o) 3 || eqb (op_kind o) 4) ≡ true
kinds Add = refl
kinds Multiply = refl

module _ (s n : ℕ) (m : List ℕ) (i : ℕ) (x : Node) (read : x ≡ node_at m i) where
  pub rename_loose : x.registered ≡ false → m ≡ rename_operands s n m i
  unfolding rename_operands
  rename_loose h = let e : (node_at m i).registered ≡ false = sym (ap (λ (y : Node). y.registered) read) ∙ h in rw e

  pub rename_stay : x.registered ≡ true → step_of (expression_at m i) ≡ None → m ≡ rename_operands s n m i
  unfolding rename_operands node_at
  rename_stay h p =
      let e : (eqb (word m i 4) 1) ≡ true = sym (ap (λ (y : Node). y.registered) read) ∙ h in
      let k = stays (word m i 0) (word m i 1) (word m i 2) (word m i 3) p in
      rw (e, k)

  pub rename_two : x.registered ≡ true → (l r : ℕ) → step_of (expression_at m i) ≡ Some (l, r) → set (set m (offset i + 1) (renamed s n l)) (offset i + 2) (renamed s n r) ≡ rename_operands s n m i
  unfolding rename_operands node_at
  rename_two h l r p =
      let e : (eqb (word m i 4) 1) ≡ true = sym (ap (λ (y : Node). y.registered) read) ∙ h in
      let (o, q) = step_two (expression_at m i) l r p in
      let w = operation_words (word m i 0) (word m i 1) (word m i 2) (word m i 3) o l r q in
      let k : (eqb (word m i 0) 3 || eqb (word m i 0) 4) ≡ true = rw w.kind_is (kinds o) in
      rw (e, k, w.left_is, w.right_is)

-- a loop over the nodes
pub each_start : {A : Type 0} (f : A → ℕ → A) (a : A) → a ≡ each f a (up_to 0)
unfolding each up_to
each_start f a = refl

pub each_next : {A : Type 0} (f : A → ℕ → A) (a b d : A) (i : ℕ) → b ≡ each f a (up_to i) → d ≡ f b i → d ≡ each f a (up_to (i + 1))
unfolding up_to
each_next f a b d i h e = rw add-one (e ∙ ap (λ (y : _). f y i) h ∙ sym (each_snoc f a (up_to i) i))

-- a loop over the roots: the first k are renamed
unfoldable pub mapped : (ℕ → ℕ) → ℕ → List ℕ → List ℕ
mapped f zero xs = xs
mapped f (suc k) [] = []
mapped f (suc k) (x ∷ xs) = f x ∷ mapped f k xs

pub mapped_start : (f : ℕ → ℕ) (xs : List ℕ) → xs ≡ mapped f 0 xs
unfolding mapped
mapped_start f xs = refl

one_more : (f : ℕ → ℕ) (k : ℕ) (xs : List ℕ) → k < length xs → set (mapped f k xs) k (f (get_or (mapped f k xs) k 0)) ≡ mapped f (suc k) xs
unfolding mapped
one_more f k [] h = absurd (omega arith)
one_more f zero (x ∷ xs) h = refl
one_more f (suc k) (x ∷ xs) h = ap (λ (l : List ℕ). f x ∷ l) (one_more f k xs (omega arith))

pub mapped_next : (f : ℕ → ℕ) (k : ℕ) (xs ys : List ℕ) (v : ℕ) → k < length xs → ys ≡ mapped f k xs → v ≡ f (get_or ys k 0) → set ys k v ≡ mapped f (k + 1) xs
mapped_next f k xs ys v h e q = rw (add-one, q, e) (one_more f k xs h)

pub mapped_all : (f : ℕ → ℕ) (xs : List ℕ) → mapped f (length xs) xs ≡ map f xs
unfolding mapped
mapped_all f [] = refl
mapped_all f (x ∷ xs) = ap (λ (l : List ℕ). f x ∷ l) (mapped_all f xs)
