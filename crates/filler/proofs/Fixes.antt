-- The entries of constants and challenges, one node after the other; and the targets, each where its value stands. Assumes nothing.
use Prim.Native.Nat.{ℕ, ◌+◌, ◌*◌, ◌<◌, ◌≤◌}
use mathlib.Core.Path.{◌≡◌, refl, sym, ap, ◌∙◌}
use mathlib.Core.Logic.{◌≢◌, ⊎_elim}
use mathlib.Core.Bool.{false}
use mathlib.Core.List.{List}
use native.Mathlib.Omega.{arith}
use lib.ListN.{length, length-set}
use lib.Seq.{get_or-set_same, get_or-set_other}
use Rattle.arithmetic.specs.declared.Triple.{Triple}
use Rattle.layout.specs.declared.node.Expression.{Expression}
use Rattle.layout.specs.declared.node.Expression.TheVariants.{Base, Extension, Challenge, Operation, Input}
use Rattle.layout.specs.Words.{used, expression_at}
use Rattle.layout.specs.NotCircuit.{not_circuit}
use Rattle.layout.proofs.Tests.{last_or}
use Rattle.circuit.specs.Rank.{at}
use Rattle.paths.proofs.Counts.{valid_top}
use Rattle.reading.specs.Calls.{triple_at}
use Rattle.read.specs.Values.{put_triple}
use Rattle.read.proofs.Values.{put_length, put_here, put_other}
use Rattle.filler.specs.Running.{Values, Roomy}
use Rattle.filler.specs.Planning.{fixed_one}

module _ (challenges : List ℕ) (n : ℕ) where
  fixed_lengths : (e : Expression) (v : Values) → (length (fixed_one challenges n e v).0 ≡ length v.0) × (length (fixed_one challenges n e v).1 ≡ length v.1)
  fixed_lengths (Base w) v = (length-set v.0 n w, refl)
  fixed_lengths (Extension x) v = (refl, put_length v.1 n x)
  fixed_lengths (Challenge k) v = (refl, put_length v.1 n (triple_at challenges k))
  fixed_lengths (Operation o l r) v = (refl, refl)
  fixed_lengths (Input q) v = (refl, refl)

  fixed_other : (e : Expression) (v : Values) (i : ℕ) → i ≢ n → (at (fixed_one challenges n e v).0 i ≡ at v.0 i) × (triple_at (fixed_one challenges n e v).1 i ≡ triple_at v.1 i)
  fixed_other (Base w) v i h = (get_or-set_other v.0 n i w 0 h, refl)
  fixed_other (Extension x) v i h = (refl, put_other v.1 n x i h)
  fixed_other (Challenge k) v i h = (refl, put_other v.1 n (triple_at challenges k) i h)
  fixed_other (Operation o l r) v i h = (refl, refl)
  fixed_other (Input q) v i h = (refl, refl)

-- the first n nodes have their entries
pub record Fixing (m challenges words₀ triples₀ words triples : List ℕ) (n : ℕ) : Type 0 where
  pub same_words_lem : length words ≡ length words₀
  pub same_triples : length triples ≡ length triples₀
  pub base : (i w : ℕ) → i < n → expression_at m i ≡ Base w → at words i ≡ w
  pub extension : (i : ℕ) (x : Triple) → i < n → expression_at m i ≡ Extension x → triple_at triples i ≡ x
  pub challenge : (i k : ℕ) → i < n → expression_at m i ≡ Challenge k → triple_at triples i ≡ triple_at challenges k

module _ (m challenges words₀ triples₀ words triples : List ℕ) (n : ℕ) (valid : not_circuit m ≡ false) (rooms : Roomy words₀ triples₀) (f : Fixing m challenges words₀ triples₀ words triples n) where
  pub fixing_room : n < used m → (n < length words) × (3 * n + 2 < length triples)
  fixing_room h =
      let t = valid_top m valid in
      let a = rooms.words_room in
      let b = rooms.triples_room in
      let c = f.same_words_lem in
      let d = f.same_triples in
      (omega arith, omega arith)

  pub fixing_next : n < used m → (words' triples' : List ℕ) → (words', triples') ≡ fixed_one challenges n (expression_at m n) (words, triples) → Fixing m challenges words₀ triples₀ words' triples' (n + 1)
  fixing_next h words' triples' e =
      let v : Values = (words, triples) in
      let after = fixed_one challenges n (expression_at m n) v in
      let w : words' ≡ after.0 = ap (λ (x : Values). x.0) e in
      let t : triples' ≡ after.1 = ap (λ (x : Values). x.1) e in
      let (lw, lt) = fixed_lengths challenges n (expression_at m n) v in
      let room = fixing_room h in
      let is : (x : Expression) → expression_at m n ≡ x → (words', triples') ≡ fixed_one challenges n x v = λ x p. e ∙ ap (λ (y : Expression). fixed_one challenges n y v) p in
      record {
        same_words_lem = ap length w ∙ lw ∙ f.same_words_lem;
        same_triples = ap length t ∙ lt ∙ f.same_triples;
        base = λ i c l p. ⊎_elim
            (λ z. let q : expression_at m n ≡ Base c = ap (expression_at m) (sym z) ∙ p in ap (at words') z ∙ ap (λ (x : Values). at x.0 n) (is (Base c) q) ∙ get_or-set_same words n c 0 room.0)
            (λ k. ap (λ (x : List ℕ). at x i) w ∙ (fixed_other challenges n (expression_at m n) v i (omega arith)).0 ∙ f.base i c k p) (last_or i n (omega arith));
        extension = λ i x l p. ⊎_elim
            (λ z. let q : expression_at m n ≡ Extension x = ap (expression_at m) (sym z) ∙ p in ap (triple_at triples') z ∙ ap (λ (y : Values). triple_at y.1 n) (is (Extension x) q) ∙ put_here triples n x room.1)
            (λ k. ap (λ (y : List ℕ). triple_at y i) t ∙ (fixed_other challenges n (expression_at m n) v i (omega arith)).1 ∙ f.extension i x k p) (last_or i n (omega arith));
        challenge = λ i c l p. ⊎_elim
            (λ z. let q : expression_at m n ≡ Challenge c = ap (expression_at m) (sym z) ∙ p in ap (triple_at triples') z ∙ ap (λ (y : Values). triple_at y.1 n) (is (Challenge c) q) ∙ put_here triples n (triple_at challenges c) room.1)
            (λ k. ap (λ (y : List ℕ). triple_at y i) t ∙ (fixed_other challenges n (expression_at m n) v i (omega arith)).1 ∙ f.challenge i c k p) (last_or i n (omega arith));
      }

-- the targets

-- the first k are where their values stand, and the others as they were
pub record Resolving (targets₀ alias targets : List ℕ) (k : ℕ) : Type 0 where
  pub same : length targets ≡ length targets₀
  pub told : (j : ℕ) → j < k → at targets j ≡ at alias (at targets₀ j)
  pub rest : (j : ℕ) → k ≤ j → at targets j ≡ at targets₀ j

-- a triple that was kept
pub fixed_triple : (words triples triples' : List ℕ) (i : ℕ) (x y : Triple) → triples' ≡ put_triple triples i x → x ≡ y → ◌≡◌ {A = Values} (words, triples') (words, put_triple triples i y)
fixed_triple words triples triples' i x y e f = rw (e, f)
