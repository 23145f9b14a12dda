-- How every call answers, in one place. Assumes nothing.
use Rattle.std.specs.Prelude.{ℕ, ◌≡◌, Bool, List, [], ◌∷◌, ◌++◌, ℤ, pos, negsuc, if◌then◌else◌}
use Rattle.std.proofs.lemmas.List.Edits.{sets}
use Rattle.arithmetic.specs.declared.Triple.{Triple}
use Rattle.layout.specs.declared.node.Node.{Node}
use Rattle.layout.specs.Words.{encode}
use Rattle.layout.specs.Outcomes.{Outcome}

-- A call returns its refusal's number, 0 if it is accepted. Its values, as words, stand in the first places of `out`, the last slice that is lent, as
-- far as there are places; places beyond keep their words. A refusal's values are zeros. What else was lent to be changed is as the outcome says.
pub record Answered {A L : Type 0} (words : A → List ℕ) (o : Outcome A L) (r : ℕ) (before after : List ℕ) (lent : L) : Type 0 where
  pub number : r ≡ o.number
  pub out : after ≡ sets before 0 (words o.values)
  pub kept : lent ≡ o.lent

-- a call that answers no value takes no `out`
pub record Done {L : Type 0} (o : Outcome (Unit {0}) L) (r : ℕ) (lent : L) : Type 0 where
  pub number : r ≡ o.number
  pub kept : lent ≡ o.lent

-- values as words

-- a number
abbrev pub as_number : ℕ → List ℕ
as_number n = n ∷ []

-- two numbers
abbrev pub as_pair : ℕ × ℕ → List ℕ
as_pair p = p.0 ∷ p.1 ∷ []

-- yes is 1, no is 0
abbrev pub bit : Bool → ℕ
bit b = if b then 1 else 0

abbrev pub as_bit : Bool → List ℕ
as_bit b = bit b ∷ []

-- a degree; -1, the one that is negative, is the greatest word, as two's complement has it
abbrev pub signed_word : ℤ → ℕ
signed_word (pos n) = n
signed_word (negsuc n) = 18446744073709551615

abbrev pub as_degree : ℤ → List ℕ
as_degree d = signed_word d ∷ []

-- the three words of an element of the extension
abbrev pub as_triple : Triple → List ℕ
as_triple x = x.c0 ∷ x.c1 ∷ x.c2 ∷ []

-- the six words of a place: kind, three words, mark, reference count
abbrev pub as_node : Node → List ℕ
as_node n = encode n.expression ++ (bit n.registered ∷ n.references ∷ [])
