use native.Mathlib.Omega.{arith}
use Rattle.trace.proofs.Way.{five_is}
use Rattle.search.proofs.Ways.{finished}
use Rattle.search.proofs.finish_runs.Goals as goal

pub returns : goal.returns
returns c = finished (five_is 0 _ _ c.args.plan.lo _ _ _ (omega arith) c.run_of-r.ensures) c.put_run.ensures c.reverse_runs.ensures
