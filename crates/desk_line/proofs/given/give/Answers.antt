use mathlib.Core.Path.{sym, ◌∙◌}
use native.Mathlib.Omega.{arith}
use lib.ListN.{take}
use Rattle.desk_line.proofs.Cells.{stored_front}
use Rattle.desk.specs.Desks.{desk}
use Rattle.desk_line.proofs.Challenges.{given_few, no_challenges, bad_challenges, challenges_given}
use Rattle.desk_line.proofs.given.give.Goals as goal

pub returns-then-not-is_challenges : goal.returns-then-not-is_challenges
returns-then-not-is_challenges c = (λ s l. no_challenges (desk s l (take c.args.given c.args.challenges.now)) _ (sym c.is_challenges.ensures ∙ c.if-not-is_challenges.true), c.requires.1)

pub any_bad-requires : goal.any_bad-requires
any_bad-requires c = omega (arith, given_few _ _ (sym c.is_challenges.ensures ∙ c.if-not-is_challenges.false))

pub returns-then-any_bad : goal.returns-then-any_bad
returns-then-any_bad c = (λ s l. bad_challenges (desk s l (take c.args.given c.args.challenges.now)) _ (sym c.is_challenges.ensures ∙ c.if-not-is_challenges.false) (sym c.any_bad.ensures ∙ c.if-any_bad.true), c.requires.1)

pub read_words-requires : goal.read_words-requires
read_words-requires c = record { places = omega (arith, given_few _ _ (sym c.is_challenges.ensures ∙ c.if-not-is_challenges.false), c.requires.0); near = omega (arith, given_few _ _ (sym c.is_challenges.ensures ∙ c.if-not-is_challenges.false)) }

pub returns : goal.returns
returns c = (λ s l. challenges_given (desk s l (take c.args.given c.args.challenges.now)) _ (sym c.is_challenges.ensures ∙ c.if-not-is_challenges.false) (sym c.any_bad.ensures ∙ c.if-any_bad.false) _ (stored_front _ _ _ _ c.read_words.ensures), omega (arith, given_few _ _ (sym c.is_challenges.ensures ∙ c.if-not-is_challenges.false)))
