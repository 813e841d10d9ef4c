use Rattle.plan.specs.Refusals.{number_of}
use Rattle.plan.proofs.Passing.{passed, refused_some}
use Rattle.plan.proofs.Steps.{sealed_parts}
use mathlib.Core.Path.{refl, ◌∙◌, sym, ap}
use native.Mathlib.Omega.{arith}
use Rattle.plan.proofs.Signed16.{back16}
use Rattle.refusals.proofs.Numbers.{off_low, off_high, on_both, point_stops, point_count, point_state, point_level, point_fine}
use Rattle.refusals.proofs.check_point.Goals as goal

pub returns-in_err-check_sealed : goal.returns-in_err-check_sealed
returns-in_err-check_sealed c =
    passed c.from_residual.result c.check_sealed.result _ c.in_err-check_sealed.was c.from_residual.ensures.1 ∙ c.check_sealed.ensures
    ∙ point_stops _ _ _ _ (λ e. refused_some c.check_sealed.result _ c.in_err-check_sealed.was (c.check_sealed.ensures ∙ e))

pub returns-then-not-count_ok : goal.returns-then-not-count_ok
returns-then-not-count_ok c = let s = sealed_parts _ (sym c.check_sealed.ensures ∙ ap number_of c.in_ok-check_sealed.was) in point_count _ _ _ _ _ refl s.0 s.1 _ c.count_ok.ensures c.if-not-count_ok.true

pub returns-then-plan-state : goal.returns-then-plan-state
returns-then-plan-state c = let s = sealed_parts _ (sym c.check_sealed.ensures ∙ ap number_of c.in_ok-check_sealed.was) in point_state _ _ _ _ _ refl s.0 s.1 _ c.count_ok.ensures c.if-not-count_ok.false c.if-plan-state.true

pub returns-then-level-plan : goal.returns-then-level-plan
returns-then-level-plan c = let s = sealed_parts _ (sym c.check_sealed.ensures ∙ ap number_of c.in_ok-check_sealed.was) in point_level _ _ _ _ _ refl s.0 s.1 _ c.count_ok.ensures c.if-not-count_ok.false c.if-plan-state.false (off_low _ _ (rw (back16 _ c.ranges.level, back16 c.args.plan.lo (record { sfits = omega arith })) at c.if-level-plan.true))

pub returns-then-plan-level : goal.returns-then-plan-level
returns-then-plan-level c = let s = sealed_parts _ (sym c.check_sealed.ensures ∙ ap number_of c.in_ok-check_sealed.was) in point_level _ _ _ _ _ refl s.0 s.1 _ c.count_ok.ensures c.if-not-count_ok.false c.if-plan-state.false (off_high _ _ (rw (back16 _ c.ranges.level, back16 c.args.plan.lo (record { sfits = omega arith })) at c.if-level-plan.false) (rw (back16 _ c.ranges.level, back16 c.args.plan.hi (record { sfits = omega arith })) at c.if-plan-level.true))

pub returns : goal.returns
returns c = let s = sealed_parts _ (sym c.check_sealed.ensures ∙ ap number_of c.in_ok-check_sealed.was) in point_fine _ _ _ _ _ refl s.0 s.1 _ c.count_ok.ensures c.if-not-count_ok.false c.if-plan-state.false (on_both _ _ (rw (back16 _ c.ranges.level, back16 c.args.plan.lo (record { sfits = omega arith })) at c.if-level-plan.false) (rw (back16 _ c.ranges.level, back16 c.args.plan.hi (record { sfits = omega arith })) at c.if-plan-level.false))
