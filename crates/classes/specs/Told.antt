-- What the public call of this layer answers, in document 01's number and values. Assumes nothing.
use Rattle.std.specs.Prelude.{Bool, false, Result}
use Rattle.layout.specs.declared.refusal.Refusal.{Refusal}
use Rattle.layout.specs.Outcomes.{Outcome}
use Rattle.layout.specs.Answers.{told}

abbrev pub told_equal : Result Bool Refusal → Outcome Bool (Unit {0})
told_equal r = told false r tt
