use mathlib.Core.Path.{sym, ◌∙◌}
use Rattle.std.proofs.lemmas.Result.{err_from_is_err_and}
use Rattle.lower.proofs.Decides.{first_passed, refused_first, nothing-done, refused_then, begun, finished_is}
use Rattle.lower.proofs.calls.lower.Goals as goal

pub returns-in_err-first_refusal : goal.returns-in_err-first_refusal
returns-in_err-first_refusal c = let p = err_from_is_err_and c.from_residual.result c.from_residual.ensures.1 in
    rw (p.1, p.2) (refused_first _ _ _ _ _ c.in_err-first_refusal.ensures)

pub exceeds-requires : goal.exceeds-requires
exceeds-requires c = (first_passed _ _ _ (sym c.in_ok-first_refusal.ensures)).0

pub returns-then-not-exceeds : goal.returns-then-not-exceeds
returns-then-not-exceeds c = nothing-done _ _ _ _ (sym c.in_ok-first_refusal.ensures) (sym c.exceeds.ensures ∙ c.if-not-exceeds.true)

pub then_refusal-requires : goal.then_refusal-requires
then_refusal-requires c = ((first_passed _ _ _ (sym c.in_ok-first_refusal.ensures)).0, sym c.exceeds.ensures ∙ c.if-not-exceeds.false)

pub returns-in_err-then_refusal : goal.returns-in_err-then_refusal
returns-in_err-then_refusal c = let p = err_from_is_err_and c.from_residual-in_err-then_refusal.result c.from_residual-in_err-then_refusal.ensures.1 in
    rw (p.1, p.2) (refused_then _ _ _ _ (sym c.in_ok-first_refusal.ensures) (sym c.exceeds.ensures ∙ c.if-not-exceeds.false) _ c.in_err-then_refusal.ensures)

pub lower_all-requires : goal.lower_all-requires
lower_all-requires c = begun _ _ _ _ (sym c.in_ok-first_refusal.ensures) (sym c.exceeds.ensures ∙ c.if-not-exceeds.false) (sym c.in_ok-then_refusal.ensures)

pub returns : goal.returns
returns c = c.lower_all.ensures ∙ finished_is _ _ _ _ (begun _ _ _ _ (sym c.in_ok-first_refusal.ensures) (sym c.exceeds.ensures ∙ c.if-not-exceeds.false) (sym c.in_ok-then_refusal.ensures))
