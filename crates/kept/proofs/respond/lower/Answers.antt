use Rattle.kept.proofs.Asking.{buildable_keeps}
use Rattle.kept.proofs.Keeping.{lower_renews}
use Rattle.kept.proofs.respond.lower.Goals as goal

pub renew-requires : goal.renew-requires
renew-requires c = record { tables = (buildable_keeps _ _ _ _ c.requires).tables; circuit = lower_renews _ _ _ _ _ _ _ _ c.requires.circuit c.lower_frame-reply.ensures }

pub returns : goal.returns
returns c = (c.lower_frame-reply.ensures, c.renew.ensures)
