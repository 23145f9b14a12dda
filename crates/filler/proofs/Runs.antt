-- A plan, instruction by instruction: the tables keep their lengths, and one more is done after the others. Assumes nothing.
use Prim.Native.Nat.{ℕ, zero, suc, ◌+◌, ◌<◌, ◌≤◌}
use mathlib.Core.Path.{◌≡◌, refl, sym, ap, ◌∙◌}
use mathlib.Core.Logic.{◌≢◌, ⊎_elim}
use mathlib.Core.List.{List}
use native.Mathlib.Numerals.{add-one}
use lib.ListN.{length, set, length-set}
use lib.Seq.{get_or-set_other}
use borrow.Author.Tests.{lt-ltb, le-ltb}
use Rattle.arithmetic.specs.declared.Triple.{Triple}
use Rattle.layout.proofs.Tests.{below_or}
use Rattle.read.specs.Values.{put_triple}
use Rattle.read.proofs.Values.{put_length, put_other}
use Rattle.reading.specs.Calls.{triple_at}
use Rattle.circuit.specs.Rank.{at}
use Rattle.filler.specs.declared.run.Instruction.{Instruction}
use Rattle.filler.specs.Running.{Values, instruction_at, word_of, triple_of, stepped, ran}

-- one instruction: of a word, or of a triple
module _ (x : Instruction) (main aux : List ℕ) (v : Values) where
  pub step_word : x.op < 3 → stepped x main aux v ≡ (set v.0 x.to (word_of x main v.0), v.1)
  unfolding stepped
  step_word h = rw (lt-ltb x.op 3 h)

  pub step_triple : 3 ≤ x.op → stepped x main aux v ≡ (v.0, put_triple v.1 x.to (triple_of x aux v.0 v.1))
  unfolding stepped
  step_triple h = rw (le-ltb x.op 3 h)

pub word_done : (x : Instruction) (main aux words triples : List ℕ) (w : ℕ) → x.op < 3 → w ≡ word_of x main words → (set words x.to w, triples) ≡ stepped x main aux (words, triples)
word_done x main aux words triples w h e = rw e (sym (step_word x main aux (words, triples) h))

pub triple_done : (x : Instruction) (main aux words triples triples' : List ℕ) (v : Triple) → 3 ≤ x.op → v ≡ triple_of x aux words triples → triples' ≡ put_triple triples x.to v → (words, triples') ≡ stepped x main aux (words, triples)
triple_done x main aux words triples triples' v h e f = rw (f, e) (sym (step_triple x main aux (words, triples) h))

pub stepped_lengths : (x : Instruction) (main aux : List ℕ) (v : Values) → (length (stepped x main aux v).0 ≡ length v.0) × (length (stepped x main aux v).1 ≡ length v.1)
stepped_lengths x main aux v =
    ⊎_elim
    (λ h. rw (step_word x main aux v h) (length-set v.0 x.to (word_of x main v.0), refl))
    (λ h. rw (step_triple x main aux v h) (refl, put_length v.1 x.to (triple_of x aux v.0 v.1)))
    (below_or x.op 3)

-- other entries stay
pub step_other : (x : Instruction) (main aux : List ℕ) (v : Values) (i : ℕ) → i ≢ x.to → (at (stepped x main aux v).0 i ≡ at v.0 i) × (triple_at (stepped x main aux v).1 i ≡ triple_at v.1 i)
step_other x main aux v i n =
    ⊎_elim
    (λ h. rw (step_word x main aux v h) (get_or-set_other v.0 x.to i (word_of x main v.0) 0 n, refl))
    (λ h. rw (step_triple x main aux v h) (refl, put_other v.1 x.to (triple_of x aux v.0 v.1) i n))
    (below_or x.op 3)

module _ (plan main aux : List ℕ) (v : Values) where
  pub ran_none : ran plan main aux 0 v ≡ v
  unfolding ran
  ran_none = refl

  pub ran_next : (q : ℕ) → ran plan main aux (q + 1) v ≡ stepped (instruction_at plan q) main aux (ran plan main aux q v)
  unfolding ran
  ran_next q = rw add-one

  pub ran_lengths : (q : ℕ) → (length (ran plan main aux q v).0 ≡ length v.0) × (length (ran plan main aux q v).1 ≡ length v.1)
  unfolding ran
  ran_lengths zero = (refl, refl)
  ran_lengths (suc q) =
      let (a, b) = stepped_lengths (instruction_at plan q) main aux (ran plan main aux q v) in
      let (c, d) = ran_lengths q in
      (a ∙ c, b ∙ d)

-- so many are done
pub record Running (plan main aux words₀ triples₀ words triples : List ℕ) (q : ℕ) : Type 0 where
  pub so_far : (words, triples) ≡ ran plan main aux q (words₀, triples₀)

module _ (plan main aux words₀ triples₀ : List ℕ) where
  pub running_start : Running plan main aux words₀ triples₀ words₀ triples₀ 0
  running_start = record { so_far = sym (ran_none plan main aux (words₀, triples₀)) }

  -- one more
  pub running_next : (words triples : List ℕ) (q : ℕ) → Running plan main aux words₀ triples₀ words triples q → (x : Instruction) → x ≡ instruction_at plan q
      → (words' triples' : List ℕ) → (words', triples') ≡ stepped x main aux (words, triples) → Running plan main aux words₀ triples₀ words' triples' (q + 1)
  running_next words triples q r x e words' triples' h =
      record { so_far = h ∙ ap (λ (y : Instruction). stepped y main aux (words, triples)) e ∙ ap (stepped (instruction_at plan q) main aux) r.so_far ∙ sym (ran_next plan main aux (words₀, triples₀) q) }
