use Rattle.desk_line.proofs.Challenges.{given_no_digits, given_other_length, given_counted}
use Rattle.desk_line.proofs.given.is_challenges.Goals as goal

pub returns-then-not-all_digits : goal.returns-then-not-all_digits
returns-then-not-all_digits c = given_no_digits _ _ _ c.all_digits.ensures c.if-not-all_digits.true

pub returns-then-line-n-ne2 : goal.returns-then-line-n-ne2
returns-then-line-n-ne2 c = given_other_length _ _ _ c.all_digits.ensures c.if-not-all_digits.false c.requires c.if-line-n-ne2.true

pub returns : goal.returns
returns c = given_counted _ _ _ c.all_digits.ensures c.if-not-all_digits.false c.requires c.if-line-n-ne2.false
