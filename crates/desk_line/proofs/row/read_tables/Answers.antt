use Rattle.desk_line.proofs.row.read_tables.Goals as goal

pub returns : goal.returns
returns c = (rw c.row_bytes-step.ensures at c.read_rows.ensures, rw c.row_bytes-step.ensures at c.read_rows-2.ensures)
