use Rattle.paths.proofs.Inserts.{moved_up}
use Rattle.paths.proofs.rising.move_up.Goals as goal

pub returns : goal.returns
returns c = rw c.copy_within.ensures.after (moved_up c.args.words.now c.args.n c.args.k c.args.v c.requires.0 c.requires.1)
