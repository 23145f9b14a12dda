use Rattle.filler.proofs.Rowings.{row_storing, row_storing_wide}
use Rattle.filler.proofs.row.fill_row.Goals as goal

pub work_out-requires : goal.work_out-requires
work_out-requires c = c.requires

pub store_main-requires : goal.store_main-requires
store_main-requires c = row_storing _ _ _ _ _ _ _ _ _ _ _ _ c.requires c.work_out.auto.words

pub store_aux-requires : goal.store_aux-requires
store_aux-requires c = row_storing_wide _ _ _ _ _ _ _ _ _ _ _ _ c.requires c.work_out.auto.words _ c.work_out.auto.triples

pub returns : goal.returns
returns c = record { values = c.work_out.ensures; main_stored = c.store_main.ensures; aux_stored = c.store_aux.ensures }
