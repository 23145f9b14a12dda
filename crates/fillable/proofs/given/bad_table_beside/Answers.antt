use Rattle.fillable.proofs.Turns.{rows_within, table_empty}
use lib.ListN.{length}
use Prim.Native.Nat.{◌/◌}
use Rattle.fillable.proofs.given.bad_table_beside.Goals as goal

pub returns-then-table-eq0 : goal.returns-then-table-eq0
returns-then-table-eq0 c = table_empty (length c.args.table.now / c.args.rows) c.args.from c.args.to c.args.filled c.args.table.now c.if-table-eq0.true

pub bad_rows_beside-requires : goal.bad_rows_beside-requires
bad_rows_beside-requires c = record { rows = rows_within c.args.rows c.args.filled c.args.table.now c.requires.fewer; front = c.requires.front; back = c.requires.back }
