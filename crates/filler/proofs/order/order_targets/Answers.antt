use native.Mathlib.Omega.{arith}
use Rattle.layout.proofs.Valid.{valid_header, valid_length, header_top}
use Rattle.filler.proofs.Ranks.{reached_apart, reached_staged}
use Rattle.filler.proofs.order.order_targets.Goals as goal

pub bounds-m-1 : goal.bounds-m-1
bounds-m-1 c = valid_length _ c.requires.targeted.valid

pub list_ranked-requires : goal.list_ranked-requires
list_ranked-requires c = let t = header_top _ (valid_header _ c.requires.targeted.valid) in
    let o = c.requires.order_room in
    let r = c.requires.rank_room in
    let q = c.rank_targets-done.auto.rank in
    (reached_apart _ _ _ _ _ _ _ c.rank_targets-done.ensures, (omega arith, omega arith))

pub returns : goal.returns
returns c = reached_staged _ _ _ _ _ _ _ c.requires.targeted c.rank_targets-done.ensures c.list_ranked.ensures
