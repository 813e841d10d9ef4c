-- `neighbourhood::place_of`: the place after n layers. Assumes nothing.
use native.Mathlib.Nat.{mul-le-mul}
use native.Mathlib.Omega.{arith}
use mathlib.Core.Path.{refl}
use Prim.Native.Nat.{◌*◌, ◌≤◌}
use Rattle.neighbourhood.proofs.place_of.Goals as goal

pub overflow_mul-result : goal.overflow_mul-result
overflow_mul-result c = let h : c.args.g.states * c.args.g.grid.levels ≤ 8 * 1024 = mul-le-mul c.requires.0.states c.requires.0.levels in omega arith

pub overflow_mul-result-2 : goal.overflow_mul-result-2
overflow_mul-result-2 c = let h : c.args.g.states * c.args.g.grid.levels ≤ 8 * 1024 = mul-le-mul c.requires.0.states c.requires.0.levels in omega arith

pub overflow_mul-result-3 : goal.overflow_mul-result-3
overflow_mul-result-3 c = let h : c.args.g.states * c.args.g.grid.levels ≤ 8 * 1024 = mul-le-mul c.requires.0.states c.requires.0.levels in let k : 32 * (c.args.g.states * c.args.g.grid.levels) ≤ 262144 = omega arith in omega (arith, mul-le-mul c.requires.1 k)

pub returns : goal.returns
returns c = let h : c.args.g.states * c.args.g.grid.levels ≤ 8 * 1024 = mul-le-mul c.requires.0.states c.requires.0.levels in let k : 32 * (c.args.g.states * c.args.g.grid.levels) ≤ 262144 = omega arith in (refl, omega (arith, mul-le-mul c.requires.1 k))
