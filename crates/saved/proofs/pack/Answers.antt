use Rattle.std.proofs.Common.{arith}
use Rattle.curve.specs.Lists.{count_is, count_most_lem}
use Rattle.saved.proofs.Chains.{inside_refl, packing_none, chain_low, source, pack_copies, pack_inside, pack_more}
use Rattle.saved.proofs.pack.Goals as goal

pub loop-q-init : goal.loop-q-init
loop-q-init c = record { low = c.requires.order; inside = inside_refl _ _ _; packing = packing_none _ _ _ _ }

pub count-words-requires : goal.count-words-requires
count-words-requires c = (source c.requires c.loop-q-test.true c.loop-q.invariant.inside, omega arith)

pub overflow_mul-words : goal.overflow_mul-words
overflow_mul-words c = let f = (source c.requires c.loop-q-test.true c.loop-q.invariant.inside).formed in omega (arith, count_is c.count-words.ensures f, count_most_lem f)

pub copy-requires : goal.copy-requires
copy-requires c = pack_copies c.requires c.loop-q-test.true c.loop-q.invariant.inside c.count-words.ensures (chain_low c.loop-q.invariant.packing.chain) (omega arith)

pub loop-q-preserved : goal.loop-q-preserved
loop-q-preserved c = record {
  low = omega arith;
  inside = pack_inside c.requires c.loop-q-test.true c.loop-q.invariant.inside c.count-words.ensures (chain_low c.loop-q.invariant.packing.chain) (omega arith) c.copy.ensures c.loop-q.invariant.packing;
  packing = pack_more c.requires c.loop-q-test.true c.loop-q.invariant.inside c.count-words.ensures (chain_low c.loop-q.invariant.packing.chain) (omega arith) c.copy.ensures c.loop-q.invariant.packing;
}
