use mathlib.Core.Path.{ap, ◌∙◌}
use lib.Seq.{sets}
use Rattle.abi.proofs.Passing.{node_words}
use Rattle.abi.proofs.answers.give_node.Goals as goal

pub returns : goal.returns
returns c = (c.give_six.ensures.0, c.give_six.ensures.1 ∙ ap (sets c.args.out.now 0) (node_words c.words_of.result c.args.node _ c.words_of.ensures c.bit-mark.ensures))
