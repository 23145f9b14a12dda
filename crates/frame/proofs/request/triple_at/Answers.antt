use Rattle.frame.proofs.request.triple_at.Goals as goal

pub returns : goal.returns
returns c = rw (c.number-3.ensures, c.number-2.ensures, c.number.ensures)
