use mathlib.Core.Path.{refl}
use Rattle.building.specs.Calls.{operation_call, subtract_call}
use Rattle.framing.specs.Answers.{answered}
use Rattle.kept.proofs.Asking.{buildable_keeps}
use Rattle.kept.proofs.Keeping.{startable, begun, id_kept, negate_kept, answers_kept}
use Rattle.kept.proofs.respond.answer_to.Goals as goal

pub start-requires : goal.start-requires
start-requires c = startable _ _ _ _ _ _ _ _ _ c.requires c.in-Start.is refl

pub input_frame-requires : goal.input_frame-requires
input_frame-requires c = begun _ _ _ _ _ _ _ _ _ c.requires c.in-Input.is refl

pub challenge-requires : goal.challenge-requires
challenge-requires c = begun _ _ _ _ _ _ _ _ _ c.requires c.in-Challenge.is refl

pub base-requires : goal.base-requires
base-requires c = begun _ _ _ _ _ _ _ _ _ c.requires c.in-Base.is refl

pub extension-requires : goal.extension-requires
extension-requires c = begun _ _ _ _ _ _ _ _ _ c.requires c.in-Extension.is refl

pub on_nodes-requires : goal.on_nodes-requires
on_nodes-requires c = record { buildable = begun _ _ _ _ _ _ _ _ _ c.requires c.in-Operation.is refl; good = λ l r. (l, r) }

pub on_nodes-requires-in-Subtract : goal.on_nodes-requires-in-Subtract
on_nodes-requires-in-Subtract c = record { buildable = begun _ _ _ _ _ _ _ _ _ c.requires c.in-Subtract.is refl; good = λ l r. (l, r) }

pub on_nodes-requires-in-Negate : goal.on_nodes-requires-in-Negate
on_nodes-requires-in-Negate c = record { buildable = begun _ _ _ _ _ _ _ _ _ c.requires c.in-Negate.is refl; good = λ l r. l }

pub lower-requires : goal.lower-requires
lower-requires c = begun _ _ _ _ _ _ _ _ _ c.requires c.in-Lower.is refl

pub returns-in-Start : goal.returns-in-Start
unfolding answered
returns-in-Start c = answers_kept _ _ _ _ _ _ _ _ c.in-Start.is (c.start.ensures.0 _ _, c.start.ensures.1)

pub returns-in-Input : goal.returns-in-Input
unfolding answered
returns-in-Input c = answers_kept _ _ _ _ _ _ _ _ c.in-Input.is (c.input_frame.ensures.0 _ _ _, buildable_keeps _ _ _ _ c.input_frame.ensures.1)

pub returns-in-Challenge : goal.returns-in-Challenge
unfolding answered
returns-in-Challenge c = answers_kept _ _ _ _ _ _ _ _ c.in-Challenge.is (id_kept _ _ _ _ _ c.challenge.result _ _ _ _ _ c.id_of.ensures c.challenge.ensures)

pub returns-in-Base : goal.returns-in-Base
unfolding answered
returns-in-Base c = answers_kept _ _ _ _ _ _ _ _ c.in-Base.is (id_kept _ _ _ _ _ c.base.result _ _ _ _ _ c.id_of-in-Base.ensures c.base.ensures)

pub returns-in-Extension : goal.returns-in-Extension
unfolding answered
returns-in-Extension c = answers_kept _ _ _ _ _ _ _ _ c.in-Extension.is (id_kept _ _ _ _ _ c.extension.result _ _ _ _ _ c.id_of-in-Extension.ensures c.extension.ensures)

pub returns-in-Operation : goal.returns-in-Operation
unfolding answered operation_call
returns-in-Operation c = answers_kept _ _ _ _ _ _ _ _ c.in-Operation.is (id_kept _ _ _ _ _ c.on_nodes.result _ _ _ _ _ c.id_of-in-Operation.ensures c.on_nodes.ensures)

pub returns-in-Subtract : goal.returns-in-Subtract
unfolding answered subtract_call
returns-in-Subtract c = answers_kept _ _ _ _ _ _ _ _ c.in-Subtract.is (id_kept _ _ _ _ _ c.on_nodes-in-Subtract.result _ _ _ _ _ c.id_of-in-Subtract.ensures c.on_nodes-in-Subtract.ensures)

pub returns-in-Negate : goal.returns-in-Negate
unfolding answered
returns-in-Negate c = answers_kept _ _ _ _ _ _ _ _ c.in-Negate.is (negate_kept _ _ _ _ _ c.on_nodes-in-Negate.result _ _ _ _ _ c.id_of-in-Negate.ensures c.on_nodes-in-Negate.ensures)

pub returns-in-Root : goal.returns-in-Root
unfolding answered
returns-in-Root c = answers_kept _ _ _ _ _ _ _ _ c.in-Root.is (c.root_frame.ensures _ _, c.requires.keeps)

pub returns-in-Lower : goal.returns-in-Lower
unfolding answered
returns-in-Lower c = answers_kept _ _ _ _ _ _ _ _ c.in-Lower.is c.lower.ensures

pub returns-in-Nothing : goal.returns-in-Nothing
unfolding answered
returns-in-Nothing c = answers_kept _ _ _ _ _ _ _ _ c.in-Nothing.is (refl, c.requires.keeps)
