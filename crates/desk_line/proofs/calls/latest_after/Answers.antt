use Rattle.desk_line.proofs.Lines.{after_lower}
use Rattle.desk_line.proofs.calls.latest_after.Goals as goal

pub returns-in-Lower : goal.returns-in-Lower
returns-in-Lower c = after_lower _ _ _ c.args.reply _ _ _ c.in-Lower.is c.lowered.ensures
