use Rattle.plan.specs.Refusals.{number_of}
use Rattle.plan.proofs.Passing.{passed, refused_some}
use mathlib.Core.Path.{◌∙◌, sym, ap}
use Rattle.model.proofs.Checked.{table_search, table_20, table_fine}
use native.Mathlib.Omega.{arith}
use Rattle.refusals.proofs.check_table.Goals as goal

pub returns-in_err-check_search : goal.returns-in_err-check_search
returns-in_err-check_search c =
    passed c.from_residual.result c.check_search.result _ c.in_err-check_search.was c.from_residual.ensures.1 ∙ c.check_search.ensures
    ∙ sym (table_search _ _ _ (λ e. refused_some c.check_search.result _ c.in_err-check_search.was (c.check_search.ensures ∙ e)))

pub returns-then-most-gt-MAX_CHANGES : goal.returns-then-most-gt-MAX_CHANGES
returns-then-most-gt-MAX_CHANGES c = sym (table_20 _ _ _ (sym c.check_search.ensures ∙ ap number_of c.in_ok-check_search.was) (omega (arith, c.if-most-gt-MAX_CHANGES.true)))

pub returns : goal.returns
returns c = sym (table_fine _ _ _ (sym c.check_search.ensures ∙ ap number_of c.in_ok-check_search.was) (omega (arith, c.if-most-gt-MAX_CHANGES.false)))
