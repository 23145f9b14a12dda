use Rattle.lower.proofs.Advances.{stays, can_substitute, goes_on}
use Rattle.lower.proofs.calls.one_more.Goals as goal

pub returns-in_err-s : goal.returns-in_err-s
returns-in_err-s c = rw c.from_residual.ensures (stays _ _ _ _ _ c.requires _ c.next_choice.ensures c.in_err-s.was)

pub substitute-c-requires : goal.substitute-c-requires
substitute-c-requires c = can_substitute _ _ _ _ c.args.progress c.requires _ c.next_choice.ensures _ _ c.in_ok-s.was

pub returns : goal.returns
returns c = goes_on _ _ _ _ _ c.requires _ c.next_choice.ensures _ _ c.in_ok-s.was _ _ _ c.substitute-c.ensures _ _ _ c.add_constraint.ensures
