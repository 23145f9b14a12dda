use Prim.Native.Nat.{◌*◌}
use native.Mathlib.Omega.{arith}
use Rattle.frame.proofs.Writing.{byte_behind}
use Rattle.desk_line.proofs.Fills.{part_is, part_short, words_put_behind, row_refused_put, row_put}
use Rattle.desk_line.proofs.row.put_row.Goals as goal

pub returns-then-n-ne0 : goal.returns-then-n-ne0
returns-then-n-ne0 c = row_refused_put _ _ _ _ c.if-n-ne0.true c.put_byte-at.ensures

pub put_words-next-requires : goal.put_words-next-requires
put_words-next-requires c = omega (arith, byte_behind _ c.put_byte-at.ensures, part_short c.args.latest.main_count c.args.latest.mains c.args.row_main.now, c.requires.0.main)

pub put_words-requires : goal.put_words-requires
put_words-requires c = omega (arith, byte_behind _ c.put_byte-at.ensures, words_put_behind _ c.put_words-next.ensures, part_short c.args.latest.main_count c.args.latest.mains c.args.row_main.now, part_short (3 * c.args.latest.aux_count) (3 * c.args.latest.auxs) c.args.row_aux.now, c.requires.0.main, c.requires.0.aux)

pub returns : goal.returns
returns c = row_put _ _ _ _ c.if-n-ne0.false _ _ (part_is c.args.latest.main_count c.args.latest.mains c.args.row_main.now) (part_is (3 * c.args.latest.aux_count) (3 * c.args.latest.auxs) c.args.row_aux.now) c.put_byte-at.ensures c.put_words-next.ensures c.put_words.ensures
