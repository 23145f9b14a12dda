-- Laws of building calls with kept tables: what a call answers, and that its tables fit what it leaves. Assumes nothing.
use Rattle.std.specs.Prelude.{None, Option, Some, Result, Err}
use Prim.Native.Nat.{ℕ, suc, ◌<◌, ◌≤◌}
use mathlib.Core.Path.{◌≡◌, sym, ◌∙◌, refl}
use mathlib.Core.Bool.{Bool, false, ◌||◌}
use mathlib.Core.List.{List, [], ◌∷◌, ◌++◌}
use borrow.Author.Tests.{leb-false}
use Rattle.arithmetic.specs.declared.Triple.{Triple}
use Rattle.arithmetic.specs.Base.{p}
use Rattle.layout.specs.declared.node.Position.{Position}
use Rattle.layout.specs.declared.node.Expression.TheVariants.{Base, Challenge, Input}
use Rattle.layout.specs.Words.{used, column, constant}
use Rattle.layout.specs.NotCircuit.{bad_row, bad_index, bad_word, bad_words, bad_expression, bad_id}
use Rattle.layout.specs.Outcomes.{refusal}
use Rattle.layout.proofs.Tests.{neither, or-false}
use Rattle.layout.proofs.Refusals.{refusal_here, refusal_next, bad_id_here, bad_id_next, no_bad_id}
use Rattle.layout.specs.declared.refusal.Refusal.{Refusal}
use Rattle.layout.specs.declared.refusal.Refusal.TheVariants.{BadId}
use Rattle.layout.specs.Refusals.{number_of}
use Rattle.building.specs.Building.{Built, full}
use Rattle.building.specs.Calls.{building}
use Rattle.build.specs.Inner.{Buildable, Stepped}
use Rattle.build.proofs.Stepping.{constant_good}
use Rattle.build_calls.specs.Answers.{answer_of, ending}
use Rattle.build_calls.proofs.Endings.{ends, refuses_by, only_full}
use Rattle.kept.specs.Keeps.{Keeps, KeptAnswer}

-- the inner form's answer

stepped_buildable : (m : List ℕ) (b : Built) (r : Option ℕ) (m' num t least : List ℕ) → Stepped m b r m' num t least → Buildable m' num t least
stepped_buildable m b (Some i) m' num t least s = s.told.buildable
stepped_buildable m b None m' num t least s = s.told.left.buildable

pub kept_ends : (m : List ℕ) (b : Built) (r : Option ℕ) (a : Result ℕ Refusal) (m' num t least : List ℕ) → a ≡ answer_of r → Stepped m b r m' num t least → KeptAnswer (ending m b) a m' num t least
kept_ends m b r a m' num t least e s = record { answer = ends m b r a m' num t least e s; buildable = stepped_buildable m b r m' num t least s }

-- the call's own tests, on a circuit that is known to be one

module _ (m num t least : List ℕ) (known : Buildable m num t least) (tests : List (ℕ × Bool)) (b : Built) where
  -- one of them applies, and nothing is changed
  pub kept_refused : (r : Refusal) (k : ℕ) → number_of r ≡ suc k → refusal (tests ++ ((6, full m b) ∷ [])) ≡ suc k → KeptAnswer (building m tests b) (Err r) m num t least
  kept_refused r k is e = record { answer = rw is (sym (refuses_by m tests b k known.circuit e)); buildable = known }

  -- none does, and the inner form answers
  pub kept_call : (a : Result ℕ Refusal) (m' num' t' least' : List ℕ) → refusal (tests ++ ((6, full m b) ∷ [])) ≡ refusal ((6, full m b) ∷ []) → KeptAnswer (ending m b) a m' num' t' least' → KeptAnswer (building m tests b) a m' num' t' least'
  kept_call a m' num' t' least' r k = record { answer = k.answer ∙ sym (only_full m tests b known.circuit r); buildable = k.buildable }

-- and those of two ids

module _ (m num t least : List ℕ) (known : Buildable m num t least) (i j : ℕ) (b : Built) where
  abbrev NodesAnswer : Result ℕ Refusal → List ℕ → List ℕ → List ℕ → List ℕ → Type 0
  NodesAnswer = KeptAnswer (building m ((2, bad_id m (i ∷ j ∷ [])) ∷ []) b)

  pub left_refused : used m ≤ i → NodesAnswer (Err BadId) m num t least
  left_refused h = kept_refused m num t least known _ b BadId 1 refl (refusal_here 2 _ _ (bad_id_here m i _ h))

  pub right_refused : i < used m → used m ≤ j → NodesAnswer (Err BadId) m num t least
  right_refused l h = kept_refused m num t least known _ b BadId 1 refl (refusal_here 2 _ _ (bad_id_next m i _ l ∙ bad_id_here m j [] h))

  pub both_ends : (r : Option ℕ) (a : Result ℕ Refusal) (m' num' t' least' : List ℕ) → i < used m → j < used m → a ≡ answer_of r → Stepped m b r m' num' t' least' → NodesAnswer a m' num' t' least'
  both_ends r a m' num' t' least' l h e s =
      kept_call m num t least known _ b a m' num' t' least' (refusal_next 2 _ _ (bad_id_next m i _ l ∙ bad_id_next m j [] h ∙ no_bad_id m)) (kept_ends m b r a m' num' t' least' e s)

pub buildable_keeps : (m num t least : List ℕ) → Buildable m num t least → Keeps m num t least
buildable_keeps m num t least b = record { tables = record { sized = b.classed.sized; leasts = b.classed.leasts }; fitting = λ h. b }

-- leaves that pass their tests

module _ (m : List ℕ) where
  pub base_good : (w : ℕ) → bad_word w ≡ false → bad_expression m (Base w) ≡ false
  unfolding bad_expression
  base_good w h = h

  pub challenge_good : (k : ℕ) → bad_index k ≡ false → bad_expression m (Challenge k) ≡ false
  unfolding bad_expression
  challenge_good k h = h

  pub input_good : (q : Position) → bad_row m q ≡ false → bad_index (column q) ≡ false → bad_expression m (Input q) ≡ false
  unfolding bad_expression
  input_good q r i = or-false (bad_index (column q)) (bad_row m q) i r

  pub words_good : (x : Triple) → bad_words x ≡ false → bad_expression m (constant x) ≡ false
  unfolding bad_words
  words_good x h =
      let (a, g) = neither (bad_word x.c0) (bad_word x.c1 || bad_word x.c2) h in
      let (b, c) = neither (bad_word x.c1) (bad_word x.c2) g in
      constant_good m x (record { below0 = leb-false p x.c0 a; below1 = leb-false p x.c1 b; below2 = leb-false p x.c2 c })
