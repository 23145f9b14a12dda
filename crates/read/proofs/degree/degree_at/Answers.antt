use Rattle.read.proofs.Along.{operands_below, answer_joined}
use Rattle.read.proofs.Degrees.{degree_two, degree_leaf}
use Rattle.read.specs.Degrees.{degree_entry, degree_join}
use Rattle.read.specs.Tables.{operands_of}
use Rattle.paths.proofs.Counts.{valid_top}
use Rattle.layout.proofs.Valid.{valid_fits}
use mathlib.Core.Path.{sym, ap, ◌∙◌}
use native.Mathlib.Omega.{arith}
use Rattle.read.proofs.degree.degree_at.Goals as goal

pub expression_at-e-requires : goal.expression_at-e-requires
expression_at-e-requires c = valid_fits _ c.requires.valid _ c.requires.here

pub offset_bounds-table-left : goal.offset_bounds-table-left
offset_bounds-table-left c = let v = c.requires in
    let e = sym (c.operands_of-s.ensures ∙ ap operands_of c.expression_at-e.ensures) ∙ c.in-Some.is in
    let t = valid_top _ v.valid in
    let b = (operands_below v e).0 in
    omega arith

pub bounds-table-left : goal.bounds-table-left
bounds-table-left c = let v = c.requires in
    let e = sym (c.operands_of-s.ensures ∙ ap operands_of c.expression_at-e.ensures) ∙ c.in-Some.is in
    let r = v.room in
    let b = (operands_below v e).0 in
    omega arith

pub offset_bounds-table-right : goal.offset_bounds-table-right
offset_bounds-table-right c = let v = c.requires in
    let e = sym (c.operands_of-s.ensures ∙ ap operands_of c.expression_at-e.ensures) ∙ c.in-Some.is in
    let t = valid_top _ v.valid in
    let b = (operands_below v e).1 in
    omega arith

pub bounds-table-right : goal.bounds-table-right
bounds-table-right c = let v = c.requires in
    let e = sym (c.operands_of-s.ensures ∙ ap operands_of c.expression_at-e.ensures) ∙ c.in-Some.is in
    let r = v.room in
    let b = (operands_below v e).1 in
    omega arith

pub returns-in-None : goal.returns-in-None
returns-in-None c = let v = c.requires in
    let e = sym (c.operands_of-s.ensures ∙ ap operands_of c.expression_at-e.ensures) ∙ c.in-None.is in
    c.leaf_degree.ensures ∙ ap degree_entry c.expression_at-e.ensures ∙ degree_leaf _ v.valid _ v.here e

pub returns-in-Some : goal.returns-in-Some
returns-in-Some c = let v = c.requires in
    let e = sym (c.operands_of-s.ensures ∙ ap operands_of c.expression_at-e.ensures) ∙ c.in-Some.is in
    c.degree_over.ensures ∙ answer_joined v e degree_join (degree_two _ v.valid)
