-- `neighbourhood::put_nothing`: every list of slot 0 has nothing. Assumes nothing.
use Rattle.neighbourhood.proofs.Empty.{blank_more, blank_all}
use native.Mathlib.Nat.{mul-le-mul_right}
use native.Mathlib.Omega.{arith}
use Prim.Native.Nat.{suc, ◌*◌, ◌≤◌}
use Rattle.model.specs.Labels.{counts}
use Rattle.neighbourhood.proofs.put_nothing.Goals as goal

pub constant-requires : goal.constant-requires
constant-requires c = let h : suc c.loop-q.q * (4 * c.args.g.grid.levels) ≤ counts * c.args.g.states * (4 * c.args.g.grid.levels) = mul-le-mul_right (4 * c.args.g.grid.levels) c.loop-q-test.true in omega (arith, c.requires.1, c.loop-q.invariant.inside.size)

pub loop-q-preserved : goal.loop-q-preserved
loop-q-preserved c = blank_more c.loop-q.invariant (let h : suc c.loop-q.q * (4 * c.args.g.grid.levels) ≤ counts * c.args.g.states * (4 * c.args.g.grid.levels) = mul-le-mul_right (4 * c.args.g.grid.levels) c.loop-q-test.true in omega (arith, c.requires.1, c.loop-q.invariant.inside.size)) c.constant.ensures

pub returns : goal.returns
returns c = blank_all (omega arith) c.loop-q.invariant
