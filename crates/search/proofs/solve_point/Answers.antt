use Rattle.search.proofs.Shapes.{place_is}
use Rattle.search.proofs.Points.{place_high, may_ask, told_none, told_least}
use Rattle.search.proofs.solve_point.Goals as goal

pub counts_at-n-requires : goal.counts_at-n-requires
counts_at-n-requires c = (c.requires.space.task.ready.plan, c.code_of.ensures.coded)

pub overflow_sub-index : goal.overflow_sub-index
overflow_sub-index c = place_high c.args.plan c.args.readings.now c.args.state c.args.level c.requires _ (place_is c.args.level _ c.ranges.level.sfits c.bias.ensures.0)

pub point_cost-least-requires : goal.point_cost-least-requires
point_cost-least-requires c = may_ask c.args.plan c.args.readings.now c.args.state c.args.level c.requires _ (place_is c.args.level _ c.ranges.level.sfits c.bias.ensures.0) c.forward-walk.ensures c.counts_at-n.ensures.0

pub returns-then-least-ge-NONE : goal.returns-then-least-ge-NONE
returns-then-least-ge-NONE c = told_none c.args.plan c.args.readings.now c.args.state c.args.level c.requires _ (place_is c.args.level _ c.ranges.level.sfits c.bias.ensures.0) c.forward-walk.ensures c.counts_at-n.ensures.0 c.point_cost-least.ensures c.if-least-ge-NONE.true

pub returns : goal.returns
returns c = told_least c.args.plan c.args.readings.now c.args.state c.args.level c.requires _ (place_is c.args.level _ c.ranges.level.sfits c.bias.ensures.0) c.forward-walk.ensures c.counts_at-n.ensures.0 c.point_cost-least.ensures c.if-least-ge-NONE.false
