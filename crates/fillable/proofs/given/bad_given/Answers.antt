use Rattle.fillable.proofs.Cells.{kind_fits, main_short, aux_short, main_rowed, aux_rowed, given_tests}
use mathlib.Core.Path.{sym, ◌∙◌}
use borrow.Author.Rules.{rules}
use Rattle.fillable.proofs.given.bad_given.Goals as goal

pub filled_rows-filled-requires : goal.filled_rows-filled-requires
filled_rows-filled-requires c = (c.requires.0, kind_fits c.args.main_count c.args.aux_count c.args.m.now c.args.mains.now c.args.auxs.now c.args.challenges.now c.args.rows c.args.main.now c.args.aux.now c.requires.0 c.requires.1)

pub overflow_add-to : goal.overflow_add-to
overflow_add-to c = let s = main_short c.args.main_count c.args.aux_count c.args.m.now c.args.mains.now c.args.auxs.now c.args.challenges.now c.args.rows c.args.main.now c.args.aux.now c.requires.0 c.requires.1 in search rules

pub bad_table_beside-requires : goal.bad_table_beside-requires
bad_table_beside-requires c = main_rowed c.args.main_count c.args.aux_count c.args.m.now c.args.mains.now c.args.auxs.now c.args.challenges.now c.args.rows c.args.main.now c.args.aux.now c.requires.0 c.requires.1 c.filled_rows-filled.result c.filled_rows-filled.ensures

pub returns-then-bad_table_beside : goal.returns-then-bad_table_beside
returns-then-bad_table_beside c = rw (given_tests c.args.main_count c.args.aux_count c.args.m.now c.args.mains.now c.args.auxs.now c.args.challenges.now c.args.rows c.args.main.now c.args.aux.now c.requires.0 c.requires.1 c.filled_rows-filled.result c.filled_rows-filled.ensures, sym c.bad_table_beside.ensures ∙ c.if-bad_table_beside.true)

pub overflow_mul-aux_from : goal.overflow_mul-aux_from
overflow_mul-aux_from c = let s = aux_short c.args.main_count c.args.aux_count c.args.m.now c.args.mains.now c.args.auxs.now c.args.challenges.now c.args.rows c.args.main.now c.args.aux.now c.requires.0 c.requires.1 in search rules

pub overflow_mul-aux_to : goal.overflow_mul-aux_to
overflow_mul-aux_to c = let s = aux_short c.args.main_count c.args.aux_count c.args.m.now c.args.mains.now c.args.auxs.now c.args.challenges.now c.args.rows c.args.main.now c.args.aux.now c.requires.0 c.requires.1 in search rules

pub overflow_add-aux_to : goal.overflow_add-aux_to
overflow_add-aux_to c = let s = aux_short c.args.main_count c.args.aux_count c.args.m.now c.args.mains.now c.args.auxs.now c.args.challenges.now c.args.rows c.args.main.now c.args.aux.now c.requires.0 c.requires.1 in search rules

pub bad_table_beside-requires-2 : goal.bad_table_beside-requires-2
bad_table_beside-requires-2 c = aux_rowed c.args.main_count c.args.aux_count c.args.m.now c.args.mains.now c.args.auxs.now c.args.challenges.now c.args.rows c.args.main.now c.args.aux.now c.requires.0 c.requires.1 c.filled_rows-filled.result c.filled_rows-filled.ensures

pub returns-then-bad_table_beside-2 : goal.returns-then-bad_table_beside-2
returns-then-bad_table_beside-2 c = rw (given_tests c.args.main_count c.args.aux_count c.args.m.now c.args.mains.now c.args.auxs.now c.args.challenges.now c.args.rows c.args.main.now c.args.aux.now c.requires.0 c.requires.1 c.filled_rows-filled.result c.filled_rows-filled.ensures, sym c.bad_table_beside.ensures ∙ c.if-bad_table_beside.false, sym c.bad_table_beside-2.ensures ∙ c.if-bad_table_beside-2.true)

pub returns : goal.returns
returns c = rw (given_tests c.args.main_count c.args.aux_count c.args.m.now c.args.mains.now c.args.auxs.now c.args.challenges.now c.args.rows c.args.main.now c.args.aux.now c.requires.0 c.requires.1 c.filled_rows-filled.result c.filled_rows-filled.ensures, sym c.bad_table_beside.ensures ∙ c.if-bad_table_beside.false, sym c.bad_table_beside-2.ensures ∙ c.if-bad_table_beside-2.false) c.any_bad.ensures
