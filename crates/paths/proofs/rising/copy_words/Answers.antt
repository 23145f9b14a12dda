use lib.ListN.{take}
use lib.Seq.{length-take-le}
use Rattle.paths.proofs.Written.{written_first}
use Rattle.paths.proofs.rising.copy_words.Goals as goal

pub returns : goal.returns
returns c = rw c.copy_from_slice.ensures.after (written_first (take c.args.n c.args.words.now) c.args.list.now c.args.n (length-take-le c.args.n c.args.words.now c.requires.0))
