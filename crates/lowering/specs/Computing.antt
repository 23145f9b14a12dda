-- What a worked example of lowering computes with: a proof that says `unfolding lower_computes` opens every definition at once. Assumes nothing.
use Rattle.building.specs.Computing.{build_computes}
use Rattle.reading.specs.Computing.{read_computes}
use Rattle.lowering.specs.Lowering.{below_above, M, too_high, candidates, best, rename_operands, redirected, substituted, loop, lowered}
use Rattle.lowering.specs.Refusals.{full_lowering, bad_columns, loose, over_occurrences}
use Rattle.lowering.specs.Calls.{tests_first, tests_then, lower_call}

unfoldable pub lower_computes : Unit {0}
unfolding build_computes read_computes below_above M too_high candidates best rename_operands redirected substituted loop lowered full_lowering bad_columns loose over_occurrences tests_first tests_then lower_call
lower_computes = tt
