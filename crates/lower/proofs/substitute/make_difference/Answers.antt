use Rattle.lower.proofs.Substitution.{gives_at, always_made}
use Rattle.lower.proofs.substitute.make_difference.Goals as goal

pub unwrap-requires : goal.unwrap-requires
unwrap-requires c = always_made _ c.requires.roomy.room c.subtract.ensures

pub returns : goal.returns
returns c = gives_at _ c.subtract.ensures c.unwrap.ensures
