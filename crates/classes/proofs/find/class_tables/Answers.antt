use Rattle.classes.proofs.Finding.{numbers_inside}
use Rattle.classes.proofs.find.class_tables.Goals as goal

pub list_registered-requires : goal.list_registered-requires
list_registered-requires c = (c.requires.orderly.circuit, numbers_inside _ _ _ c.requires.orderly.circuit c.number_all.ensures _ _ _ _ _ c.requires c.number_all.auto.numbers)
