-- The loop of a lowering: what one substitution more asks of the lent words, and what they are after it. Assumes nothing.
use Rattle.std.specs.Prelude.{ℕ, ◌+◌, ◌<◌, ◌≤◌, ◌≡◌, true, List, length, set, if◌then◌else◌, Option, is_some, unwrap_or}
use Rattle.layout.specs.Lists.{written}
use Rattle.layout.specs.Outcomes.{Outcome}
use Rattle.layout.specs.Answers.{accepted}
use Rattle.lowering.specs.Lowering.{Lowering, too_high, candidates, best, substituted, lowered}
use Rattle.lower.specs.declared.calls.Progress.{Progress}
use Rattle.lower.specs.declared.substitute.Constraint.{Constraint}
use Rattle.lower.specs.Survey.{Choosable}
use Rattle.lower.specs.Substituting.{Substitutable}
use Rattle.lower.specs.Refusing.{first_refusal, then_refusal}

-- the words are those of x: its constraints, so many in each list, stand at the front of what was lent
pub record Holds (lent x words : Lowering) (mains auxs : ℕ) : Type 0 where
  pub circuit : words.circuit ≡ x.circuit
  pub roots : words.roots ≡ x.roots
  pub main : words.main ≡ written x.main lent.main
  pub aux : words.aux ≡ written x.aux lent.aux
  pub main_count : mains ≡ length x.main
  pub aux_count : auxs ≡ length x.aux

-- a constraint more, in one of the two lists
pub record Added (c : Constraint) (p : Progress) (main aux main' aux' : List ℕ) (r : Progress) : Type 0 where
  pub main_list : main' ≡ (if c.main then set main p.main c.id else main)
  pub aux_list : aux' ≡ (if c.main then aux else set aux p.aux c.id)
  pub main_count : r.main ≡ (if c.main then p.main + 1 else p.main)
  pub aux_count : r.aux ≡ (if c.main then p.aux else p.aux + 1)

module _ (target main_count aux_count : ℕ) where
  -- the node chosen next
  abbrev pub chosen : Lowering → ℕ
  chosen x = best (candidates target x.circuit x.roots)

  -- one substitution, where some root's degree exceeds the target
  unfoldable pub advanced : Lowering → Lowering
  advanced x = let r = substituted main_count aux_count x (chosen x) in if too_high target x.circuit x.roots then r else x

  -- the choice can be made, and what is chosen can be substituted: there is a place for its constraint, and a column
  pub record Ready (words : Lowering) (mains auxs : ℕ) : Type 0 where
    pub choosable : Choosable target words.circuit words.roots
    pub can : too_high target words.circuit words.roots ≡ true → Substitutable words.circuit (chosen words) (main_count + mains) (aux_count + auxs)
    pub main_place : mains < length words.main
    pub aux_place : auxs < length words.aux
    pub main_column : main_count + mains ≤ 65536
    pub aux_column : aux_count + auxs ≤ 65536

  -- of whatever lowering the words are, they are the one after it
  pub record Advanced (words after : Lowering) (p : Progress) (r : Option Progress) : Type 0 where
    pub more : is_some r ≡ too_high target words.circuit words.roots
    pub on : (lent x : Lowering) → Holds lent x words p.main p.aux → Holds lent (advanced x) after (unwrap_or r p).main (unwrap_or r p).aux

  -- all tests are passed, and some root's degree exceeds the target
  pub record Begun (lent : Lowering) : Type 0 where
    pub first : first_refusal target lent.circuit lent.roots ≡ 0
    pub high : too_high target lent.circuit lent.roots ≡ true
    pub rest : then_refusal target main_count aux_count (length lent.main) (length lent.aux) lent.circuit lent.roots ≡ 0

  -- an accepted lowering
  unfoldable pub finished : Lowering → Outcome (ℕ × ℕ) Lowering
  finished lent =
      let x = lowered target main_count aux_count lent.circuit lent.roots in
      accepted (length x.main, length x.aux)
      (record { circuit = x.circuit; roots = x.roots; main = written x.main lent.main; aux = written x.aux lent.aux })
