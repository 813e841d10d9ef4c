use Rattle.std.proofs.Common.{arith}
use Rattle.saved.specs.Packed.Chain.{nothing}
use Rattle.saved.proofs.Chains.{unpacked_none, unpack_copies, unpack_room, unpack_chain, unpack_more}
use Rattle.saved.proofs.unpack.Goals as goal

pub loop-q-init : goal.loop-q-init
loop-q-init c = record { chain = nothing; unpacked = unpacked_none _ _ _ _ }

pub copy-pieces-requires : goal.copy-pieces-requires
copy-pieces-requires c = unpack_copies c.requires c.loop-q-test.true c.loop-q.invariant.chain c.loop-q.invariant.unpacked

pub overflow_mul-from : goal.overflow_mul-from
overflow_mul-from c = omega (arith, unpack_room c.requires c.loop-q-test.true c.loop-q.invariant.chain c.loop-q.invariant.unpacked c.copy-pieces.ensures)

pub overflow_add-from : goal.overflow_add-from
overflow_add-from c = omega (arith, unpack_room c.requires c.loop-q-test.true c.loop-q.invariant.chain c.loop-q.invariant.unpacked c.copy-pieces.ensures)

pub loop-q-preserved : goal.loop-q-preserved
loop-q-preserved c = record {
  chain = unpack_chain c.requires c.loop-q-test.true c.loop-q.invariant.chain c.loop-q.invariant.unpacked c.copy-pieces.ensures;
  unpacked = unpack_more c.requires c.loop-q-test.true c.loop-q.invariant.chain c.loop-q.invariant.unpacked c.copy-pieces.ensures;
}
