use Prim.Native.Nat.{ℕ}
use native.Mathlib.Omega.{arith}
use Rattle.framing.specs.Digits.{bytes_of}
use Rattle.desk.specs.Words.{words_at}
use Rattle.desk_line.proofs.Cells.{words_none, word_stored, all_stored}
use Rattle.desk_line.proofs.words.read_words.Goals as goal

pub loop-k-init : goal.loop-k-init
loop-k-init c = words_none _ _ c.args.after (bytes_of c.args.line.now)

pub loop-k-preserved : goal.loop-k-preserved
loop-k-preserved c = word_stored _ c.loop-k.table c.args.at c.loop-k.k c.args.after (bytes_of c.args.line.now) c.number.result c.loop-k.invariant (omega (arith, c.requires.places)) c.number.ensures

pub returns : goal.returns
returns c = all_stored (λ (q : ℕ). words_at q c.args.after (bytes_of c.args.line.now)) _ _ _ _ _ c.loop-k.invariant c.loop-k.auto.k-end c.loop-k-test.false
