use Rattle.plan.specs.Refusals.{number_of}
use Rattle.plan.proofs.Passing.{passed, refused_some}
use Rattle.plan.proofs.Steps.{sealed_parts}
use mathlib.Core.Path.{refl, ◌∙◌, sym, ap}
use Rattle.refusals.proofs.Numbers.{search_stops, search_count, search_late, search_fine}
use Rattle.model.proofs.Checked.{checked}
use Rattle.refusals.proofs.check_search.Goals as goal

pub returns-in_err-check_sealed : goal.returns-in_err-check_sealed
returns-in_err-check_sealed c =
    passed c.from_residual.result c.check_sealed.result _ c.in_err-check_sealed.was c.from_residual.ensures.1 ∙ c.check_sealed.ensures
    ∙ search_stops _ _ (λ e. refused_some c.check_sealed.result _ c.in_err-check_sealed.was (c.check_sealed.ensures ∙ e))

pub returns-then-not-count_ok : goal.returns-then-not-count_ok
returns-then-not-count_ok c = let s = sealed_parts _ (sym c.check_sealed.ensures ∙ ap number_of c.in_ok-check_sealed.was) in search_count _ _ _ refl s.0 s.1 _ c.count_ok.ensures c.if-not-count_ok.true

pub late_label-requires : goal.late_label-requires
late_label-requires c = let s = sealed_parts _ (sym c.check_sealed.ensures ∙ ap number_of c.in_ok-check_sealed.was) in (checked _ s.0).few_labels

pub returns-then-late_label : goal.returns-then-late_label
returns-then-late_label c = let s = sealed_parts _ (sym c.check_sealed.ensures ∙ ap number_of c.in_ok-check_sealed.was) in search_late _ _ _ refl s.0 s.1 _ c.count_ok.ensures c.if-not-count_ok.false _ c.late_label.ensures c.if-late_label.true

pub returns : goal.returns
returns c = let s = sealed_parts _ (sym c.check_sealed.ensures ∙ ap number_of c.in_ok-check_sealed.was) in search_fine _ _ _ refl s.0 s.1 _ c.count_ok.ensures c.if-not-count_ok.false _ c.late_label.ensures c.if-late_label.false
