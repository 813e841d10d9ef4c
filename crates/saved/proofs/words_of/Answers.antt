use Rattle.std.proofs.Common.{arith}
use Rattle.curve.specs.Lists.{count_is, count_most_lem}
use Rattle.saved.proofs.words_of.Goals as goal

pub overflow_mul-sum : goal.overflow_mul-sum
overflow_mul-sum c = let f = (c.requires.0.list _ c.loop-q-test.true).formed in omega (arith, count_is c.count-pieces.ensures f, count_most_lem f)

pub overflow_add-sum : goal.overflow_add-sum
overflow_add-sum c = let f = (c.requires.0.list _ c.loop-q-test.true).formed in omega (arith, count_is c.count-pieces.ensures f, count_most_lem f)

pub loop-q-preserved : goal.loop-q-preserved
loop-q-preserved c = let f = (c.requires.0.list _ c.loop-q-test.true).formed in omega (arith, count_is c.count-pieces.ensures f, count_most_lem f)
