use Rattle.std.proofs.Common.{rules, refl, arith, Result, Ok, Err, OnErr}
use Rattle.stream.proofs.Feeding.{poured_none, poured_more}
use Rattle.desk_line.specs.Feeds.{fill_program}
use Rattle.fill.proofs.pour.Goals as goal

pub loop-from-init : goal.loop-from-init
loop-from-init g c = record {
  poured = poured_none fill_program _ c.args.part.now _ _ refl c.requires.0.few;
  within = omega arith;
  deskable = c.requires.1;
}

pub loop-from-preserved : goal.loop-from-preserved
loop-from-preserved g c = record {
  poured = poured_more fill_program _ c.args.part.now _ _ _ _ c.loop-from.invariant.poured c.loop-from.invariant.within _ _ _ _ _ _ _ _ c.feed-fed.ensures.0 c.feed-fed.ensures.1.0.few;
  within = search rules;
  deskable = c.feed-fed.ensures.1.1;
}

-- what holds anyway holds after an error
on_err : {T E P : Type 0} (r : Result T E) → P → OnErr r P
on_err (Ok x) p = tt
on_err (Err e) p = p

pub returns-in_err-write_all-clause-err : goal.returns-in_err-write_all-clause-err
returns-in_err-write_all-clause-err g c =
    on_err c.from_residual.result (_, (c.feed-fed.result.step, (poured_more fill_program _ c.args.part.now _ _ _ _ c.loop-from.invariant.poured c.loop-from.invariant.within _ _ _ _ _ _ _ _ c.feed-fed.ensures.0 c.feed-fed.ensures.1.0.few, c.feed-fed.ensures.1.1)))
