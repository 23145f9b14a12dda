use borrow.Author.Tests.{lt-ltb, le-ltb, ne_eqb, eq-eqb}
use native.Mathlib.Omega.{arith}
use lib.ListN.{length, get_or}
use Rattle.layout.specs.NotCircuit.{bad_header}
use Rattle.circuit.proofs.check.bad_header.Goals as goal
use Rattle.circuit.proofs.check.bad_header.Goals.{then-row-ne1+else-row-ne2, else-row-ne1}

pub returns-then-m-lt-HEADER : goal.returns-then-m-lt-HEADER
unfolding bad_header
returns-then-m-lt-HEADER c = rw (lt-ltb _ _ c.if-m-lt-HEADER.true)

pub returns-then-row-ne2 : goal.returns-then-row-ne2
unfolding bad_header
returns-then-row-ne2 c = let m = c.args.m.now in rw (le-ltb (length m) 2 (omega arith), ne_eqb (get_or m 0 0) 1 c.if-row-ne1.true, ne_eqb (get_or m 0 0) 2 c.if-row-ne2.true)

pub returns : goal.returns
unfolding bad_header
returns c = let m = c.args.m.now in
    let l = le-ltb (length m) 2 (omega arith) in
    elim c.if-row-ne1.branch [
      | then-row-ne1+else-row-ne2 w ↦ rw (l, ne_eqb (get_or m 0 0) 1 w.if-row-ne1.true, eq-eqb (get_or m 0 0) 2 w.if-row-ne2.false, c.limit_of.ensures)
      | else-row-ne1 w ↦ rw (l, eq-eqb (get_or m 0 0) 1 w.if-row-ne1.false, c.limit_of.ensures)
    ]
