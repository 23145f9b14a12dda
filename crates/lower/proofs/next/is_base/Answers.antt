use Rattle.layout.proofs.Valid.{valid_length}
use Rattle.lower.proofs.next.is_base.Goals as goal

pub bounds-m-1 : goal.bounds-m-1
bounds-m-1 c = valid_length _ c.requires.valid
