-- What a worked example of a circuit computes with: a proof that says `unfolding circuit_computes` opens every definition at once. Assumes nothing.
use Rattle.arithmetic.specs.Computing.{field_computes}
use Rattle.layout.specs.Lists.{up_to, all, any, keep, first, distinct, each, written, count, same_words, insert, agree}
use Rattle.layout.specs.Words.{limit, decode, node_at, encode, made, constant, is_constant}
use Rattle.layout.specs.Tree.{unfolded, same}
use Rattle.layout.specs.NotCircuit.{bad_row, bad_words, bad_expression, bad_node, goes_on, cyclic, bad_header, not_circuit, bad_id}
use Rattle.layout.specs.Outcomes.{refusal, outcome}
use Rattle.layout.specs.Calls.{start_call, reading, read_call, used_call, free_call}
use Rattle.layout.specs.Samples.{sample, damage, loosen}

unfoldable pub circuit_computes : Unit {0}
unfolding field_computes up_to all any keep first distinct each written count same_words insert agree limit decode node_at encode made constant is_constant unfolded same bad_row bad_words bad_expression bad_node goes_on cyclic bad_header not_circuit bad_id refusal outcome start_call reading read_call used_call free_call sample damage loosen
circuit_computes = tt
