use Rattle.plan.specs.Refusals.{number_of}
use Rattle.plan.proofs.Passing.{passed, refused_some}
use Rattle.plan.proofs.Steps.{sealed_parts}
use mathlib.Core.Path.{refl, ◌∙◌, sym, ap}
use Rattle.refusals.proofs.Numbers.{window_stops, window_count, window_labels, window_size, window_fine}
use borrow.Author.Tests.{eq-eqb, ne_eqb}
use Rattle.refusals.proofs.check_window.Goals as goal

pub returns-in_err-check_sealed : goal.returns-in_err-check_sealed
returns-in_err-check_sealed c =
    passed c.from_residual.result c.check_sealed.result _ c.in_err-check_sealed.was c.from_residual.ensures.1 ∙ c.check_sealed.ensures
    ∙ window_stops _ _ _ (λ e. refused_some c.check_sealed.result _ c.in_err-check_sealed.was (c.check_sealed.ensures ∙ e))

pub returns-then-not-long_ok : goal.returns-then-not-long_ok
returns-then-not-long_ok c = let s = sealed_parts _ (sym c.check_sealed.ensures ∙ ap number_of c.in_ok-check_sealed.was) in window_count _ _ _ _ refl s.0 s.1 _ c.long_ok.ensures c.if-not-long_ok.true

pub returns-then-plan-ne0 : goal.returns-then-plan-ne0
returns-then-plan-ne0 c = let s = sealed_parts _ (sym c.check_sealed.ensures ∙ ap number_of c.in_ok-check_sealed.was) in window_labels _ _ _ _ refl s.0 s.1 _ c.long_ok.ensures c.if-not-long_ok.false (ne_eqb _ _ c.if-plan-ne0.true)

pub returns-then-not-window_ok : goal.returns-then-not-window_ok
returns-then-not-window_ok c = let s = sealed_parts _ (sym c.check_sealed.ensures ∙ ap number_of c.in_ok-check_sealed.was) in window_size _ _ _ _ refl s.0 s.1 _ c.long_ok.ensures c.if-not-long_ok.false (eq-eqb _ _ c.if-plan-ne0.false) _ c.window_ok.ensures c.if-not-window_ok.true

pub returns : goal.returns
returns c = let s = sealed_parts _ (sym c.check_sealed.ensures ∙ ap number_of c.in_ok-check_sealed.was) in window_fine _ _ _ _ refl s.0 s.1 _ c.long_ok.ensures c.if-not-long_ok.false (eq-eqb _ _ c.if-plan-ne0.false) _ c.window_ok.ensures c.if-not-window_ok.false
