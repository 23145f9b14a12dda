use Rattle.framing.specs.Answers.{input_answer}
use Rattle.frame.proofs.Responding.{id_told, input_picked, input_other}
use Rattle.frame.proofs.respond.input_frame.Goals as goal

pub returns-in-0 : goal.returns-in-0
unfolding input_answer
returns-in-0 c = λ rs main aux. input_picked _ rs main aux 0 _ _ _ c.in-0.is (id_told _ rs main aux _ c.input.result _ _ c.id_of.ensures c.input.ensures)

pub returns-in-1 : goal.returns-in-1
unfolding input_answer
returns-in-1 c = λ rs main aux. input_picked _ rs main aux 1 _ _ _ c.in-1.is (id_told _ rs main aux _ c.input-in-1.result _ _ c.id_of-in-1.ensures c.input-in-1.ensures)

pub returns-in-2 : goal.returns-in-2
unfolding input_answer
returns-in-2 c = λ rs main aux. input_picked _ rs main aux 2 _ _ _ c.in-2.is (id_told _ rs main aux _ c.input-in-2.result _ _ c.id_of-in-2.ensures c.input-in-2.ensures)

pub returns-in-3 : goal.returns-in-3
unfolding input_answer
returns-in-3 c = λ rs main aux. input_picked _ rs main aux 3 _ _ _ c.in-3.is (id_told _ rs main aux _ c.input-in-3.result _ _ c.id_of-in-3.ensures c.input-in-3.ensures)

pub returns-in_default : goal.returns-in_default
returns-in_default c = λ rs main aux. input_other _ rs main aux _ _ c.in_default.in_default-own.rest.0.0.0.1 c.in_default.in_default-own.rest.0.0.1 c.in_default.in_default-own.rest.0.1 c.in_default.in_default-own.rest.1
