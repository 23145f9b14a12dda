use Rattle.lower.proofs.calls.add_constraint.Goals as goal

pub returns-then-c : goal.returns-then-c
returns-then-c c = let e = c.if-c.true in record { main_list = rw e; aux_list = rw e; main_count = rw e; aux_count = rw e }

pub returns : goal.returns
returns c = let e = c.if-c.false in record { main_list = rw e; aux_list = rw e; main_count = rw e; aux_count = rw e }
