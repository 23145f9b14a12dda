use Rattle.framing.specs.Answers.{start_answer}
use Rattle.frame.proofs.Responding.{start_picked, start_other}
use Rattle.frame.proofs.respond.start_frame.Goals as goal

pub returns-in-1 : goal.returns-in-1
unfolding start_answer
returns-in-1 c = λ main aux. start_picked _ _ main aux 1 _ _ c.in-1.is (c.start.ensures main aux)

pub returns-in-2 : goal.returns-in-2
unfolding start_answer
returns-in-2 c = λ main aux. start_picked _ _ main aux 2 _ _ c.in-2.is (c.start-in-2.ensures main aux)

pub returns-in_default : goal.returns-in_default
returns-in_default c = λ main aux. start_other _ _ main aux _ c.in_default.in_default-own.rest.0.1 c.in_default.in_default-own.rest.1
