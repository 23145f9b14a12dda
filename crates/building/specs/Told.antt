-- What the public calls of building answer, in document 01's number and id. Assumes nothing.
use Rattle.std.specs.Prelude.{ℕ, List, Result}
use Rattle.layout.specs.declared.refusal.Refusal.{Refusal}
use Rattle.layout.specs.Outcomes.{Outcome}
use Rattle.layout.specs.Answers.{told}

-- an answer, and the words after it
abbrev pub told_id : Result ℕ Refusal → List ℕ → Outcome ℕ (List ℕ)
told_id r m = told 0 r m
