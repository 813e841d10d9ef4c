use Rattle.std.proofs.Common.{◌∙◌, arith}
use Rattle.coded.specs.Coded.{edge_got}
use Rattle.curve.specs.Lows.{rank_of, low_of}
use Rattle.model.proofs.Held.{penalty_most_lem, change_low}
use Rattle.back.proofs.Steps.{offers_of, test_of, none_before, not_this, is_this}
use Rattle.back.proofs.step_back.Goals as goal

pub meets-requires : goal.meets-requires
meets-requires c = ((omega (arith, penalty_most_lem c.edge_in-e.result.class), omega (arith, change_low c.edge_in-e.result.kind)), (c.offer_of-low.ensures.changes, c.requires.1.1))

pub returns-then-meets : goal.returns-then-meets
returns-then-meets c = λ H r.
    let got = edge_got c.args.problem.now.plan.now c.loop-i.i c.edge_in-e.result c.args.problem.now.coded (omega arith) c.edge_in-e.ensures in (
      is_this c.requires.1.0 r _ c.loop-i.i c.loop-i-test.true _ (offers_of c.args.problem.now.plan.now c.loop-i.i _ got c.offer_of-low.ensures)
          (test_of c.args.problem.now.plan.now c.loop-i.i c.edge_in-e.result got (low_of c.offer_of-low.result) (rank_of c.args.want) _ _ c.penalty_of-pen.ensures c.change_of-ch.ensures c.meets.ensures ∙ c.if-meets.true) (c.loop-i.invariant H r),
      c.offer_of-low.ensures.changes,
    )

pub loop-i-preserved : goal.loop-i-preserved
loop-i-preserved c = λ H r.
    let got = edge_got c.args.problem.now.plan.now c.loop-i.i c.edge_in-e.result c.args.problem.now.coded (omega arith) c.edge_in-e.ensures in
    none_before c.args.problem.now.plan.now _ H _ _ _ _ c.loop-i.i (c.loop-i.invariant H r)
    (not_this c.requires.1.0 r _ c.loop-i.i c.loop-i-test.true _ (offers_of c.args.problem.now.plan.now c.loop-i.i _ got c.offer_of-low.ensures)
    (test_of c.args.problem.now.plan.now c.loop-i.i c.edge_in-e.result got (low_of c.offer_of-low.result) (rank_of c.args.want) _ _ c.penalty_of-pen.ensures c.change_of-ch.ensures c.meets.ensures ∙ c.if-meets.false))
