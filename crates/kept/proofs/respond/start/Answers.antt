use mathlib.Core.List.{[]}
use Rattle.kept.proofs.Keeping.{start_renews}
use Rattle.kept.proofs.respond.start.Goals as goal

pub renew-requires : goal.renew-requires
renew-requires c = record { tables = c.requires.tables; circuit = start_renews _ _ [] [] _ _ c.requires.unstarted (c.start_frame-reply.ensures [] []) }

pub returns : goal.returns
returns c = (c.start_frame-reply.ensures, c.renew.ensures)
