use Rattle.std.proofs.Common.{◌∙◌, rules, tests}
use Rattle.std.proofs.lemmas.Iterator.{YieldsList-from_slice}
use Rattle.std.proofs.lemmas.Iterator.Search.{all_from_yields_List}
use Rattle.framing.specs.Digits.{is_digit}
use Rattle.frame.proofs.Hexadecimal.{all_is}
use Rattle.frame.proofs.digits.all_digits.Goals as goal

pub returns : goal.returns
returns c = all_from_yields_List is_digit _ _ _ c.all.ensures.ran (YieldsList-from_slice c.args.line.now cc) (λ x b q k. search (rules, tests)) ∙ all_is is_digit c.args.line.now
