use native.Mathlib.Nat.{mul-le-mul}
use Prim.Native.Nat.{◌*◌, ◌≤◌}
use native.Mathlib.Omega.{arith}
use mathlib.Core.Path.{refl}
use Rattle.search.proofs.work_words.Goals as goal

pub overflow_mul-result : goal.overflow_mul-result
overflow_mul-result c = let h : c.args.states * c.args.levels ≤ 8 * 1024 = mul-le-mul c.requires.0 c.requires.1 in omega arith

pub overflow_mul-result-2 : goal.overflow_mul-result-2
overflow_mul-result-2 c = let h : c.args.states * c.args.levels ≤ 8 * 1024 = mul-le-mul c.requires.0 c.requires.1 in omega arith

pub returns : goal.returns
returns c = let h : c.args.states * c.args.levels ≤ 8 * 1024 = mul-le-mul c.requires.0 c.requires.1 in (refl, omega arith)
