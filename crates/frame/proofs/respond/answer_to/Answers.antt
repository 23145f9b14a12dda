use mathlib.Core.Path.{refl}
use Rattle.framing.specs.Answers.{answered}
use Rattle.frame.proofs.Responding.{id_told, answers_to}
use Rattle.frame.proofs.respond.answer_to.Goals as goal

pub returns-in-Start : goal.returns-in-Start
unfolding answered
returns-in-Start c = answers_to _ _ _ _ c.in-Start.is (c.start_frame.ensures _ _)

pub returns-in-Input : goal.returns-in-Input
unfolding answered
returns-in-Input c = answers_to _ _ _ _ c.in-Input.is (c.input_frame.ensures _ _ _)

pub returns-in-Challenge : goal.returns-in-Challenge
unfolding answered
returns-in-Challenge c = answers_to _ _ _ _ c.in-Challenge.is (id_told _ _ _ _ _ c.challenge.result _ _ c.id_of.ensures c.challenge.ensures)

pub returns-in-Base : goal.returns-in-Base
unfolding answered
returns-in-Base c = answers_to _ _ _ _ c.in-Base.is (id_told _ _ _ _ _ c.base_constant.result _ _ c.id_of-in-Base.ensures c.base_constant.ensures)

pub returns-in-Extension : goal.returns-in-Extension
unfolding answered
returns-in-Extension c = answers_to _ _ _ _ c.in-Extension.is (id_told _ _ _ _ _ c.extension_constant.result _ _ c.id_of-in-Extension.ensures c.extension_constant.ensures)

pub returns-in-Operation : goal.returns-in-Operation
unfolding answered
returns-in-Operation c = answers_to _ _ _ _ c.in-Operation.is (id_told _ _ _ _ _ c.operation.result _ _ c.id_of-in-Operation.ensures c.operation.ensures)

pub returns-in-Subtract : goal.returns-in-Subtract
unfolding answered
returns-in-Subtract c = answers_to _ _ _ _ c.in-Subtract.is (id_told _ _ _ _ _ c.subtract.result _ _ c.id_of-in-Subtract.ensures c.subtract.ensures)

pub returns-in-Negate : goal.returns-in-Negate
unfolding answered
returns-in-Negate c = answers_to _ _ _ _ c.in-Negate.is (id_told _ _ _ _ _ c.negate.result _ _ c.id_of-in-Negate.ensures c.negate.ensures)

pub returns-in-Root : goal.returns-in-Root
unfolding answered
returns-in-Root c = answers_to _ _ _ _ c.in-Root.is (c.root_frame.ensures _ _)

pub returns-in-Lower : goal.returns-in-Lower
unfolding answered
returns-in-Lower c = answers_to _ _ _ _ c.in-Lower.is c.lower_frame.ensures

pub returns-in-Nothing : goal.returns-in-Nothing
unfolding answered
returns-in-Nothing c = answers_to _ _ _ _ c.in-Nothing.is refl
