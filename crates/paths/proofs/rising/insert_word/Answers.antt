use native.Mathlib.Omega.{arith}
use Rattle.paths.proofs.Inserts.{insert_stays, insert_moves}
use Rattle.paths.proofs.rising.insert_word.Goals as goal
use Rattle.paths.proofs.rising.insert_word.Goals.{then-k-n+else-words-place, else-k-n}

pub returns-then-words-place : goal.returns-then-words-place
returns-then-words-place c = insert_stays _ _ _ _ c.requires c.place_of-k.ensures c.if-k-n.true c.if-words-place.true

pub returns : goal.returns
returns c = insert_moves _ _ _ _ c.requires c.place_of-k.ensures _ c.move_up.ensures (λ l. elim c.if-k-n.branch [ then-k-n+else-words-place w ↦ w.if-words-place.false | else-k-n w ↦ absurd (omega arith) ])
