use Rattle.std.proofs.Common.{pos, get_or, ap, arith}
use Rattle.coded.specs.Coded.{edge_got}
use Rattle.layer.proofs.Next.{reading_is, places_to}
use Rattle.trace.proofs.Way.{loss_is, loss_fits, want_is, readable, back_ready, reads_here, lost_at, joined_at, put_at_lem, count_of, joins_of, five_is}
use Rattle.trace.proofs.step.Goals as goal

pub overflow_add-problem : goal.overflow_add-problem
overflow_add-problem c = let r = c.requires in omega (arith, r.here.level, r.task.shape.base, places_to r.task)

pub square_of-loss-requires : goal.square_of-loss-requires
square_of-loss-requires c = let r = c.requires in (omega arith, omega (arith, r.here.level, r.task.shape.base, places_to r.task))

pub overflow_sub-want : goal.overflow_sub-want
overflow_sub-want c = let r = c.requires in
    loss_fits r c.square_of-loss.result (loss_is r c.bias-u.result c.square_of-loss.result (reading_is (get_or c.args.problem.now.readings.now c.args.t (pos 0)) c.bias-u.result (omega arith) c.bias-u.ensures.0) c.square_of-loss.ensures)

pub step_back-requires : goal.step_back-requires
step_back-requires c = let r = c.requires in (readable r c.label_on-label.ensures, (back_ready r c.label_on-label.ensures, r.here.changes))

pub returns-in_default : goal.returns-in_default
returns-in_default c =
    let r = c.requires in
    let loss = loss_is r c.bias-u.result c.square_of-loss.result (reading_is (get_or c.args.problem.now.readings.now c.args.t (pos 0)) c.bias-u.result (omega arith) c.bias-u.ensures.0) c.square_of-loss.ensures in
    absurd (lost_at r.task.ready c.args.t r.positive r.more r.here _ (want_is r c.square_of-loss.result loss) (c.in_default.ensures _ (reads_here r c.label_on-label.ensures)))

pub edge_in-e-requires : goal.edge_in-e-requires
edge_in-e-requires c = let r = c.requires in omega (arith, (c.in-Some.ensures _ (reads_here r c.label_on-label.ensures)).0.known, r.task.ready.plan.few_edges, c.args.problem.now.coded.front.size)

pub returns-then-joins_run : goal.returns-then-joins_run
returns-then-joins_run c =
    let r = c.requires in
    let loss = loss_is r c.bias-u.result c.square_of-loss.result (reading_is (get_or c.args.problem.now.readings.now c.args.t (pos 0)) c.bias-u.result (omega arith) c.bias-u.ensures.0) c.square_of-loss.ensures in
    let found = c.in-Some.ensures _ (reads_here r c.label_on-label.ensures) in
    let got = edge_got c.args.problem.now.plan.now _ _ c.args.problem.now.coded (omega (arith, found.0.known, r.task.ready.plan.few_edges)) c.edge_in-e.ensures in
    joined_at r.task.ready c.args.t r.positive r.more r.here _ (want_is r c.square_of-loss.result loss) r.last found.0 found.1 (count_of c.args.problem.now.plan.now _ c.edge_in-e.result got _ _ _ _ c.label_on-label.ensures c.count_before.ensures.0) (ap (λ x. x.from) got) (joins_of c.args.problem.now.plan.now _ _ got c.joins_run.ensures c.if-joins_run.true)

pub run_of-r-requires : goal.run_of-r-requires
run_of-r-requires c =
    let r = c.requires in
    let known = (c.in-Some.ensures _ (reads_here r c.label_on-label.ensures)).0.known in
    ((omega (arith, r.task.ready.few_readings), omega (arith, r.task.ready.few_readings)), (omega (arith, r.here.state, r.task.ready.plan.few_states), (omega (arith, r.here.level, r.task.ready.plan.narrow), omega (arith, known, r.task.ready.plan.few_edges))))

pub returns : goal.returns
returns c =
    let r = c.requires in
    let loss = loss_is r c.bias-u.result c.square_of-loss.result (reading_is (get_or c.args.problem.now.readings.now c.args.t (pos 0)) c.bias-u.result (omega arith) c.bias-u.ensures.0) c.square_of-loss.ensures in
    let found = c.in-Some.ensures _ (reads_here r c.label_on-label.ensures) in
    let got = edge_got c.args.problem.now.plan.now _ _ c.args.problem.now.coded (omega (arith, found.0.known, r.task.ready.plan.few_edges)) c.edge_in-e.ensures in
    put_at_lem r.task.ready c.args.t r.positive r.more r.here _ (want_is r c.square_of-loss.result loss) r.last found.0 found.1 (count_of c.args.problem.now.plan.now _ c.edge_in-e.result got _ _ _ _ c.label_on-label.ensures c.count_before.ensures.0) (ap (λ x. x.from) got) (joins_of c.args.problem.now.plan.now _ _ got c.joins_run.ensures c.if-joins_run.false)
    (five_is _ _ _ c.args.problem.now.plan.now.lo _ _ _ (omega arith) c.run_of-r.ensures) c.put_run.ensures
