use Rattle.frame.proofs.Hexadecimal.{low_character, high_character}
use Rattle.frame.proofs.digits.character.Goals as goal

pub returns-then-d-lt10 : goal.returns-then-d-lt10
returns-then-d-lt10 c = low_character _ c.if-d-lt10.true

pub returns : goal.returns
returns c = high_character _ c.if-d-lt10.false
