use mathlib.Core.Path.{sym, ◌∙◌}
use Prim.Native.Nat.{◌+◌, ◌≤◌}
use native.Mathlib.Omega.{arith}
use borrow.Author.Tests.{ltb-false}
use Rattle.integers.specs.Pairs.{lex}
use Rattle.curve.specs.Lows.{rank_of}
use Rattle.edges.proofs.Moves.{others_stand, least_stands}
use Rattle.edges.proofs.any_into.Goals as goal

pub returns-then-comes_first : goal.returns-then-comes_first
returns-then-comes_first c = others_stand c.requires c.two_least-two.ensures c.constant_but.ensures

pub returns-else-comes_first : goal.returns-else-comes_first
returns-else-comes_first c = let h : rank_of c.value_at-so_far.result ≤ lex (c.two_least-two.result.least.rank.value + c.args.pen) (c.two_least-two.result.least.rank.changes + 1) = ltb-false _ _ (sym c.comes_first.ensures ∙ c.if-comes_first.false) in least_stands c.requires c.two_least-two.ensures (omega (arith, h, c.value_at-so_far.ensures.0)) c.constant.ensures
