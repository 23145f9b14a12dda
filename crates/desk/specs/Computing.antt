-- What a worked example of the program `fill` computes with: a proof that says `unfolding desk_computes` opens every definition at once. Assumes nothing.
use Rattle.framing.specs.Texts.{texts_compute}
use Rattle.filling.specs.Computing.{fill_computes}
use Rattle.desk.specs.Words.{words_at, rows_at, four, eight, eights}
use Rattle.desk.specs.Lines.{too_many, frame_told, is_challenges, challenges_told, too_wide, is_rows, rows_given, fill_of, fill_bytes, row_refusal, row_answer, line_told}
use Rattle.desk.specs.Program.{told_line, desk_call, lines_told, fill}

unfoldable pub desk_computes : Unit {0}
unfolding texts_compute fill_computes words_at rows_at four eight eights too_many frame_told is_challenges challenges_told too_wide is_rows rows_given fill_of fill_bytes row_refusal row_answer line_told told_line desk_call lines_told fill
desk_computes = tt
