-- A call that passes on an outcome: what it answered holds of whatever that outcome is equal to. Assumes nothing.
use mathlib.Core.Path.{◌≡◌, refl, subst, ap, sym, ◌∙◌}
use mathlib.Core.Bool.{true, false}
use Rattle.std.specs.Prelude.{Result, Ok, Err}
use mathlib.Core.List.{List, [], ◌∷◌, ◌++◌}
use Prim.Native.Nat.{ℕ, ◌<◌, ◌≤◌}
use lib.ListN.{set}
use lib.Seq.{sets}
use borrow.Author.Tests.{lt-ltb, le-ltb, eq-eqb, ne_eqb}
use Rattle.layout.specs.declared.node.RowKind.TheVariants.{Single, Dual}
use Rattle.layout.specs.declared.node.Node.{Node}
use Rattle.circuit.specs.declared.place.FourWords.{FourWords}
use Rattle.layout.specs.Words.{encode}
use Rattle.layout.specs.NotCircuit.{not_circuit}
use Rattle.layout.specs.Outcomes.{Outcome}
use Rattle.layout.specs.declared.refusal.Refusal.{Refusal}
use Rattle.layout.specs.Answers.{refused, told, told_count, answer_number}
use Rattle.layout.specs.Calls.{start_call}
use Rattle.layout.proofs.Refusals.{refusal_here, refusal_next, outcome_refused}
use Rattle.building.specs.Calls.{input_call}
use Rattle.abi.specs.Answers.{Answered, Done, bit, as_number, as_node}
use Rattle.abi.specs.Numbers.{start_by_number, positioned, input_by_number}

pub handed_on : {A L : Type 0} {words : A → List ℕ} {o o' : Outcome A L} {r : ℕ} {before after : List ℕ} {lent : L} → o ≡ o' → Answered words o r before after lent → Answered words o' r before after lent
handed_on {A} {L} {words} {o} {o'} {r} {before} {after} {lent} e h = subst (λ (x : Outcome A L). Answered words x r before after lent) e h

-- a number answered, whatever else was lent
pub number_on : {L : Type 0} {o : Outcome ℕ L} {r : ℕ} {before after : List ℕ} {lent : L} (answer : Result ℕ Refusal) → told 0 answer lent ≡ o → Answered as_number (told_count answer) r before after tt → Answered as_number o r before after lent
number_on {lent} (Ok n) e h = handed_on e (record { number = h.number; out = h.out; kept = refl })
number_on {lent} (Err k) e h = handed_on e (record { number = h.number; out = h.out; kept = refl })

-- the number of an answer without a value
pub done_on : {L : Type 0} {o : Outcome (Unit {0}) L} {r : ℕ} {lent : L} (answer : Result (Unit {0}) Refusal) → told tt answer lent ≡ o → r ≡ answer_number answer → Done o r lent
done_on {L} {o} {r} {lent} (Ok n) e h = subst (λ (x : Outcome (Unit {0}) L). Done x r lent) e (record { number = h; kept = refl })
done_on {L} {o} {r} {lent} (Err k) e h = subst (λ (x : Outcome (Unit {0}) L). Done x r lent) e (record { number = h; kept = refl })

-- rows and row kinds by their numbers

module _ (m : List ℕ) (row column : ℕ) where
  pub known_row : row < 4 → input_call m (positioned row column) ≡ input_by_number m row column
  unfolding input_by_number
  known_row h = rw (lt-ltb row 4 h)

  pub no_circuit : 4 ≤ row → not_circuit m ≡ true → refused 1 0 m ≡ input_by_number m row column
  unfolding input_by_number
  no_circuit h n = rw (le-ltb row 4 h) (sym (outcome_refused _ _ _ _ _ 0 (refusal_here 1 _ _ n)))

  pub no_row : 4 ≤ row → not_circuit m ≡ false → refused 3 0 m ≡ input_by_number m row column
  unfolding input_by_number
  no_row h n = rw (le-ltb row 4 h) (sym (outcome_refused _ _ _ _ _ 2 (refusal_next 1 _ _ n ∙ refusal_here 3 _ _ refl)))

module _ (m : List ℕ) (kind : ℕ) where
  pub single : kind ≡ 1 → start_call m Single ≡ start_by_number m kind
  unfolding start_by_number
  single h = rw (eq-eqb kind 1 h)

  pub dual : (kind ≡ 1 → ⊥) → kind ≡ 2 → start_call m Dual ≡ start_by_number m kind
  unfolding start_by_number
  dual n h = rw (ne_eqb kind 1 n, eq-eqb kind 2 h)

  pub no_kind : (kind ≡ 1 → ⊥) → (kind ≡ 2 → ⊥) → refused 1 tt m ≡ start_by_number m kind
  unfolding start_by_number
  no_kind n o = rw (ne_eqb kind 1 n, ne_eqb kind 2 o) (sym (outcome_refused _ _ _ _ _ 0 (refusal_here 1 _ _ refl)))

-- words put one after the other

module _ (o : List ℕ) (a b : ℕ) where
  pub put_two : (p q : List ℕ) → p ≡ set o 0 a → q ≡ set p 1 b → q ≡ sets o 0 (a ∷ b ∷ [])
  put_two p q e f = rw (f, e)

  pub put_three : (c : ℕ) (p q r : List ℕ) → p ≡ set o 0 a → q ≡ set p 1 b → r ≡ set q 2 c → r ≡ sets o 0 (a ∷ b ∷ c ∷ [])
  put_three c p q r e f g = rw (g, f, e)

  pub put_six : (c d u v : ℕ) (p q r s t w : List ℕ) → p ≡ set o 0 a → q ≡ set p 1 b → r ≡ set q 2 c → s ≡ set r 3 d → t ≡ set s 4 u → w ≡ set t 5 v → w ≡ sets o 0 (a ∷ b ∷ c ∷ d ∷ u ∷ v ∷ [])
  put_six c d u v p q r s t w e f g h i j = rw (j, i, h, g, f, e)

-- the words of a node, from those of its expression
pub node_words : (w : FourWords) (n : Node) (mark : ℕ) → w.kind ∷ w.first ∷ w.second ∷ w.third ∷ [] ≡ encode n.expression → mark ≡ bit n.registered → w.kind ∷ w.first ∷ w.second ∷ w.third ∷ mark ∷ n.references ∷ [] ≡ as_node n
node_words w n mark e f = ap (λ (ws : List ℕ). ws ++ (mark ∷ n.references ∷ [])) e ∙ ap (λ (b : ℕ). encode n.expression ++ (b ∷ n.references ∷ [])) f
