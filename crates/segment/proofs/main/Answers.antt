use Rattle.finder.proofs.Program.{answer_low}
use lib.Seq.{length-take-le}
use mathlib.Core.Path.{sym}
use Rattle.segment.proofs.main.Goals as goal

pub slice_bounds-out-end : goal.slice_bounds-out-end
slice_bounds-out-end c = answer_low _ _ _ _ (c.answer_file-m.ensures.answer, c.answer_file-m.ensures.bytes)

pub slice_bounds-write_all-end : goal.slice_bounds-write_all-end
slice_bounds-write_all-end c = sym (length-take-le _ _ (answer_low _ _ _ _ (c.answer_file-m.ensures.answer, c.answer_file-m.ensures.bytes)))
