use borrow.Author.Tests.{lt-ltb, le-ltb}
use Rattle.paths.proofs.references.put_count.Goals as goal

pub returns-then-c-gt0 : goal.returns-then-c-gt0
returns-then-c-gt0 c = rw (lt-ltb _ _ c.if-c-gt0.true) c.write_word.ensures

pub returns-else-c-gt0 : goal.returns-else-c-gt0
returns-else-c-gt0 c = rw (le-ltb _ _ c.if-c-gt0.false)
