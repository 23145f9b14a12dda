use native.Mathlib.Omega.{arith}
use native.Mathlib.Numerals.{towards_suc}
use lib.ListN.{length-set}
use Rattle.circuit.proofs.place.fill.Goals as goal

pub bounds-m-at-2 : goal.bounds-m-at-2
bounds-m-at-2 c = simp length-set (omega arith)

pub bounds-m-at-3 : goal.bounds-m-at-3
bounds-m-at-3 c = simp length-set (omega arith)

pub bounds-m-at-4 : goal.bounds-m-at-4
bounds-m-at-4 c = simp length-set (omega arith)

pub bounds-m-at-5 : goal.bounds-m-at-5
bounds-m-at-5 c = simp length-set (omega arith)

pub bounds-m-at-6 : goal.bounds-m-at-6
bounds-m-at-6 c = simp length-set (omega arith)

pub returns : goal.returns
returns c = simp towards_suc
