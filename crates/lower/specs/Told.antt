-- What a lowering answers, in document 01's number and two counts. Assumes nothing.
use Rattle.std.specs.Prelude.{ℕ, Result}
use Rattle.layout.specs.declared.refusal.Refusal.{Refusal}
use Rattle.layout.specs.Outcomes.{Outcome}
use Rattle.layout.specs.Answers.{told}
use Rattle.lowering.specs.Lowering.{Lowering}

-- an answer, and the words lent, as they are after it
abbrev pub told_lowering : Result (ℕ × ℕ) Refusal → Lowering → Outcome (ℕ × ℕ) Lowering
told_lowering r lent = told (0, 0) r lent
