use Rattle.read.proofs.Highest.{over_told, highest_told, highest_small}
use Rattle.read.proofs.Tables.{sorted_ranked}
use Rattle.reading.specs.Calls.{highest_call}
use Rattle.reading.specs.Readings.{signed}
use Rattle.paths.proofs.Walks.{roots_below}
use Rattle.paths.proofs.Counts.{valid_top}
use Rattle.layout.proofs.Refusals.{refusal_none, refusal_here, refusal_next, reading_refused, reading_accepted}
use mir.Facts.{to_z-of_z}
use mir.Syntax.{w64}
use native.Mathlib.Omega.{arith}
use mathlib.Core.List.{[]}
use mathlib.Core.Path.{sym, ap, ◌∙◌}
use borrow.Author.Rules.{sfits_of}
use Rattle.read.proofs.degree.highest_of.Goals as goal

pub degrees-requires : goal.degrees-requires
degrees-requires c = record { ranked = sorted_ranked _ _ _ c.requires.valid c.requires.sorted; room = omega (arith, valid_top _ c.requires.valid) }

pub any_over-requires : goal.any_over-requires
any_over-requires c = let t = valid_top _ c.requires.valid in
    record { valid = c.requires.valid; counts_room = omega (arith, c.count_paths.auto.counts); table_room = omega (arith, c.degrees.auto.table) }

pub returns-then-any_over : goal.returns-then-any_over
unfolding highest_call
returns-then-any_over c = let o = sym (over_told _ _ _ c.degrees.new.table c.requires.valid c.requires.ids c.count_paths.ensures c.degrees.ensures) ∙ sym c.any_over.ensures ∙ c.if-any_over.true in
    sym (reading_refused c.args.m.now c.args.roots.now _ _ _ 10 c.requires.valid c.requires.ids (refusal_here 11 _ [] o))

pub highest_entry-requires : goal.highest_entry-requires
highest_entry-requires c = let t = valid_top _ c.requires.valid in
    record { below = λ k h. omega (arith, roots_below _ _ c.requires.ids k h, c.degrees.auto.table) }

pub signed-requires : goal.signed-requires
signed-requires c = let t = c.degrees.new.table in
    let o = sym (over_told _ _ _ t c.requires.valid c.requires.ids c.count_paths.ensures c.degrees.ensures) ∙ sym c.any_over.ensures ∙ c.if-any_over.false in
    rw c.highest_entry.ensures (highest_small _ _ _ t c.requires.valid c.requires.ids c.count_paths.ensures c.degrees.ensures o)

pub returns : goal.returns
unfolding highest_call
returns c = let t = c.degrees.new.table in
    let o = sym (over_told _ _ _ t c.requires.valid c.requires.ids c.count_paths.ensures c.degrees.ensures) ∙ sym c.any_over.ensures ∙ c.if-any_over.false in
    let e = c.signed.ensures ∙ ap signed (c.highest_entry.ensures ∙ highest_told _ _ _ t c.requires.valid c.requires.ids c.count_paths.ensures c.degrees.ensures o) in
    rw (to_z-of_z {w = w64} {z = c.signed.result} (sfits_of c.signed.type_inv), e) (sym (reading_accepted c.args.m.now c.args.roots.now _ _ _ c.requires.valid c.requires.ids (refusal_next 11 _ [] o ∙ refusal_none)))
