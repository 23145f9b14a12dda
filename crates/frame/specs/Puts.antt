-- What is written for an answer: characters, one after the other, from a place on, as far as there are places. Assumes nothing.
use Rattle.std.specs.Prelude.{ℕ, ◌+◌, ◌≡◌, List, length}
use Rattle.std.proofs.lemmas.List.Edits.{sets}

-- after it the places hold the text, and the next place is the one behind it
pub record Put (before : List ℕ) (at : ℕ) (text after : List ℕ) (next : ℕ) : Type 0 where
  pub places : after ≡ sets before at text
  pub behind : next ≡ at + length text
