-- `edges::take_edge`: kind by kind, by the number. Assumes nothing.
use Rattle.edges.proofs.Moves.{stay_taken, taken_ready, none_taken, stay_edge, any_edge, up_edge, down_edge, abs_edge}
use Rattle.plan.proofs.ByNumber.{kind_stay, kind_any, kind_up, kind_down, kind_abs}
use native.Mathlib.Omega.{arith}
use mathlib.Core.Path.{sym, ◌∙◌}
use Rattle.edges.proofs.take_edge.Goals as goal

pub returns-then-all_none : goal.returns-then-all_none
returns-then-all_none c = none_taken c.args.kind (sym c.all_none.ensures ∙ c.if-all_none.true)

pub take_down-requires-in-4 : goal.take_down-requires-in-4
take_down-requires-in-4 c = (taken_ready c.requires.0 c.take_up-in-4.ensures, omega (arith, c.gap_of-gap.ensures, c.requires.1))

pub returns-in-0 : goal.returns-in-0
returns-in-0 c = stay_edge c.args.kind (kind_stay _ (sym c.kind_number-number.ensures ∙ c.in-0.is)) (stay_taken c.requires.0 c.take.ensures)

pub returns-in-1 : goal.returns-in-1
returns-in-1 c = any_edge c.args.kind (kind_any _ (sym c.kind_number-number.ensures ∙ c.in-1.is)) c.take_any.ensures

pub returns-in-2 : goal.returns-in-2
returns-in-2 c = up_edge c.args.kind _ (kind_up _ _ (sym c.kind_number-number.ensures ∙ c.in-2.is) c.gap_of-gap.ensures) c.take_up.ensures

pub returns-in-3 : goal.returns-in-3
returns-in-3 c = down_edge c.args.kind _ (kind_down _ _ (sym c.kind_number-number.ensures ∙ c.in-3.is) c.gap_of-gap.ensures) c.take_down.ensures

pub returns-in-4 : goal.returns-in-4
returns-in-4 c = abs_edge c.args.kind _ (kind_abs _ _ (sym c.kind_number-number.ensures ∙ c.in-4.is) c.gap_of-gap.ensures) c.requires.0 c.take_up-in-4.ensures c.take_down-in-4.ensures
