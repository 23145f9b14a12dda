use Rattle.std.proofs.Common.{rules, ◌∙◌}
use Rattle.std.proofs.iter.runs.Made.{chains}
use Rattle.read.proofs.Seen.{marks_counted}
use Rattle.read.proofs.visible.count_marks.Goals as goal

pub returns : goal.returns
returns c = search (rules, chains) ∙ marks_counted c.args.seen.now c.args.n c.requires
