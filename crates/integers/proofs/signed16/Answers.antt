-- `integers::signed16` meets its contract. Assumes nothing.
use Rattle.integers.proofs.Halves.{lowered_32, lowered_16, turned_is}
use Rattle.integers.specs.Bytes.{word}
use Prim.Native.Nat.{◌<◌}
use native.Mathlib.Nat.{mod-lt}
use native.Mathlib.Omega.{arith}
use borrow.Author.Rules.{rules}
use Rattle.integers.proofs.signed16.Goals as goal

below : (c : goal.Start) → word c.args.high c.args.low < 65536
below c = omega (arith, c.ranges.high, c.ranges.low)

pub overflow_sub-result : goal.overflow_sub-result
overflow_sub-result c = search (rules, lowered_32, mod-lt)

pub overflow_cast-result-2 : goal.overflow_cast-result-2
overflow_cast-result-2 c = search (rules, lowered_16, mod-lt)

pub returns : goal.returns
returns c = search (turned_is, below c)
