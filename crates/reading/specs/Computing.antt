-- What a worked example of the readings computes with: a proof that says `unfolding read_computes` opens every definition at once. Assumes nothing.
use Rattle.walking.specs.Computing.{paths_computes}
use Rattle.reading.specs.Readings.{degree⁺, above, highest⁺, is_base, value, visible}
use Rattle.reading.specs.Refusals.{over_degree, columns_lent, bad_table}
use Rattle.reading.specs.Calls.{constant_call, is_zero_call, is_one_call, is_minus_one_call, degree_call, highest_call, base_test_call, triple_at, next_row, assigned, evaluate_call, visible_call}

unfoldable pub read_computes : Unit {0}
unfolding paths_computes degree⁺ above highest⁺ is_base value visible over_degree columns_lent bad_table constant_call is_zero_call is_one_call is_minus_one_call degree_call highest_call base_test_call triple_at next_row assigned evaluate_call visible_call
read_computes = tt
