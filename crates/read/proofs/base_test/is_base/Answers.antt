use Rattle.read.proofs.Bases.{base_leaves, bit_test}
use Rattle.paths.proofs.Counts.{valid_top}
use native.Mathlib.Omega.{arith}
use Rattle.read.proofs.base_test.is_base.Goals as goal

pub leaf_bases-requires : goal.leaf_bases-requires
leaf_bases-requires c = let v = c.requires.0.valid in record { valid = v; room = omega (arith, valid_top _ v) }

pub base_of-requires : goal.base_of-requires
base_of-requires c = let (ranked, here) = c.requires in record { ranked = ranked; room = omega (arith, valid_top _ ranked.valid, c.leaf_bases.auto.table); here = here }

pub returns : goal.returns
returns c = bit_test _ _ _ (c.base_of.ensures (base_leaves _ c.requires.0.valid _ c.leaf_bases.ensures)).answered
