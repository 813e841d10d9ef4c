-- The whole example of the scope document, computed: the answer file.
-- Assumes nothing.
use Prim.Native.Nat.{ℕ}
use mathlib.Core.List.{List, [], ◌∷◌, ◌++◌}
use mathlib.Core.Path.{◌≡◌, refl}
use lib.ListN.{replicate}
use lib.IntN.{ℤ, pos}
use Rattle.integers.specs.Bytes.{signed16, bits16}
use Rattle.fields.specs.Fields.{row_of, may_stand, length_fits, count_fits, checked_field, field_at, part_of, number8, bytes8}
use Rattle.fields.specs.Put.{Bytes, outcome, written}
use Rattle.answers.specs.Runs.{run_fits, whole, level_fits, last_before, run_ok, runs_ok}
use Rattle.answers.specs.Reader.{Runs, body_fits, body_last, runs_from, answer_file, read_answer, runs_of, filled}
use Rattle.answers.specs.Writer.{runs_bytes, answer_bytes, answer_number, answer_written, after_answer}

abbrev example : List ℕ
example = 0x81 ∷ 0 ∷ 8 ∷ 0 ∷ 0 ∷ 0 ∷ 0 ∷ 0 ∷ 0 ∷ 0 ∷ 1 ∷ 0x82 ∷ 0 ∷ 8 ∷ 0 ∷ 1 ∷ 0 ∷ 2 ∷ 0 ∷ 0 ∷ 3 ∷ 0xFF ∷ []

-- readings 1 to 2 in state 0 at level 3, entered by no edge
abbrev runs : List ℤ
runs = pos 1 ∷ (pos 2 ∷ (pos 0 ∷ (pos 3 ∷ (pos 255 ∷ []))))

-- read into seven numbers: five of the run, the rest as it was
example_read : (read_answer example 7 ≡ Runs 1 1) × (filled example (replicate 7 (pos 9)) ≡ runs ++ (pos 9 ∷ (pos 9 ∷ [])))
unfolding read_answer filled answer_file field_at checked_field row_of may_stand length_fits count_fits part_of runs_from body_fits body_last run_fits number8 runs_of signed16
example_read = (refl, refl)

-- written into 24 bytes of value 7
example_written : (answer_written runs 24 ≡ Bytes 22) × (after_answer 1 runs (replicate 24 7) ≡ example ++ (7 ∷ (7 ∷ [])))
unfolding outcome written answer_number answer_bytes runs_bytes bytes8 bits16 runs_ok run_ok run_fits level_fits last_before whole
example_written = (refl, refl)
