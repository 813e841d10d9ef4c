use Rattle.curve_test.specs.Valid.{scanned_all, same_words}
use Rattle.std.proofs.Common.{◌≡◌, refl, arith}
use Rattle.curve.specs.Lists.{built_none, built_put}
use Rattle.curve_test.proofs.list.scan.Goals as goal

pub loop-x-init : goal.loop-x-init
loop-x-init c = ((omega arith, omega arith), built_none _ _)

pub loop-x-preserved : goal.loop-x-preserved
loop-x-preserved c = let i = c.loop-x.invariant in ((omega arith, omega arith), built_put c.args.ws.now _ i.1 (same_words c.args.ws.now c.args.o _) refl c.if-e-x.false (c.fine_on.ensures c.if-not-fine_on.false))

pub returns : goal.returns
returns c = λ e. let z : c.loop-x.x ≡ c.args.grid.levels = omega arith in scanned_all c.requires (rw z at c.loop-x.invariant.1)
