use Rattle.std.proofs.Common.{rules, refl, arith, Result, Ok, Err, OnErr}
use Rattle.stream.specs.Frames.{frames_program}
use Rattle.stream.proofs.Feeding.{poured_none, poured_more}
use Rattle.frames.proofs.pour.Goals as goal

pub loop-from-init : goal.loop-from-init
loop-from-init g c = record {
  poured = poured_none frames_program _ c.args.part.now _ _ refl c.requires.0.few;
  within = omega arith;
  keeps = c.requires.1;
}

pub loop-from-preserved : goal.loop-from-preserved
loop-from-preserved g c = record {
  poured = poured_more frames_program _ c.args.part.now _ _ _ _ c.loop-from.invariant.poured c.loop-from.invariant.within _ _ _ _ _ _ _ _ c.feed-fed.ensures.0 c.feed-fed.ensures.1.0.few;
  within = search rules;
  keeps = c.feed-fed.ensures.1.1;
}

-- what holds anyway holds after an error
on_err : {T E P : Type 0} (r : Result T E) → P → OnErr r P
on_err (Ok x) p = tt
on_err (Err e) p = p

pub returns-in_err-write_all-clause-err : goal.returns-in_err-write_all-clause-err
returns-in_err-write_all-clause-err g c =
    on_err c.from_residual.result (_, (_, poured_more frames_program _ c.args.part.now _ _ _ _ c.loop-from.invariant.poured c.loop-from.invariant.within _ _ _ _ _ _ _ _ c.feed-fed.ensures.0 c.feed-fed.ensures.1.0.few))
