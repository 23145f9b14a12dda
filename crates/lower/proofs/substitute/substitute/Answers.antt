use mathlib.Core.Path.{refl}
use Rattle.lower.proofs.Substitution.{input_fresh, can_redirect, can_differ, replaced}
use Rattle.lower.proofs.substitute.substitute.Goals as goal

pub make_input-n-requires : goal.make_input-n-requires
make_input-n-requires c = input_fresh _ _ _ _ c.requires.0 _ c.requires.1 _ c.input_at.ensures

pub redirect-requires : goal.redirect-requires
redirect-requires c = can_redirect _ _ _ _ c.requires.0 _ c.requires.1 _ c.input_at.ensures _ _ c.make_input-n.ensures

pub make_difference-id-requires : goal.make_difference-id-requires
make_difference-id-requires c = can_differ _ _ _ _ c.requires.0 _ c.requires.1 _ c.input_at.ensures _ _ c.make_input-n.ensures _ c.redirect.ensures

pub returns : goal.returns
returns c = replaced _ _ _ _ c.requires.0 _ c.requires.1 _ c.input_at.ensures _ _ c.make_input-n.ensures _ c.redirect.ensures _ _ c.rename_roots.ensures _ _ c.make_difference-id.ensures _ refl refl
