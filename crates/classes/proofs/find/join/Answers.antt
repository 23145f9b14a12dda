use native.Mathlib.Omega.{arith}
use Rattle.layout.proofs.Valid.{valid_length}
use Rattle.classes.proofs.Finding.{join_enterable, join_inside, join_all}
use Rattle.classes.proofs.find.join.Goals as goal

pub bounds-m-1 : goal.bounds-m-1
bounds-m-1 c = let h = valid_length _ c.requires.circuit in omega arith

pub enter_one-requires : goal.enter_one-requires
enter_one-requires c = join_enterable _ _ _ _ c.requires

pub note-requires : goal.note-requires
note-requires c = rw c.entry.ensures (join_inside _ _ _ _ c.requires _ _ c.enter_one.ensures)

pub returns : goal.returns
returns c = join_all _ _ _ _ c.requires _ _ c.enter_one.ensures _ _ c.entry.ensures c.note.ensures c.enter_one.auto.numbers c.enter_one.auto.table c.note.auto.least
