use Rattle.kept.proofs.Asking.{buildable_keeps}
use Rattle.kept.proofs.Keeping.{nothing_started, classable}
use Rattle.kept.proofs.respond.renew.Goals as goal

pub returns-then-kind_of-eq0 : goal.returns-then-kind_of-eq0
returns-then-kind_of-eq0 c = nothing_started _ _ _ _ c.requires _ c.kind_of.ensures c.if-kind_of-eq0.true

pub class_anew-requires : goal.class_anew-requires
class_anew-requires c = classable _ _ _ _ c.requires _ c.kind_of.ensures c.if-kind_of-eq0.false

pub returns : goal.returns
returns c = buildable_keeps _ _ _ _ c.class_anew.ensures
