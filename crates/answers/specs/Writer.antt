-- Writing an answer file.
use Rattle.std.specs.Prelude.{ℕ, zero, suc, ◌+◌, ◌*◌, ◌/◌, ◌%◌, List, [], ◌∷◌, ◌++◌, length, leb, eqb, ℤ}
use Rattle.integers.specs.Pick.{pick}
use Rattle.integers.specs.Bytes.{bits16}
use Rattle.fields.specs.Fields.{field, bytes8}
use Rattle.fields.specs.Put.{Written, outcome, written}
use Rattle.answers.specs.Runs.{is_refusal, number_at, whole_at, runs_ok}

-- the field of run i, of the first n runs
abbrev pub run_field : List ℤ → ℕ → List ℕ
run_field runs i =
    field 0x82
    (whole_at runs i 0 / 256 ∷ (whole_at runs i 0 % 256 ∷ (whole_at runs i 1 / 256 ∷ (whole_at runs i 1 % 256 ∷ (whole_at runs i 2 ∷
    (bits16 (number_at runs i 3) / 256 ∷ (bits16 (number_at runs i 3) % 256 ∷ (whole_at runs i 4 ∷ []))))))))

unfoldable pub runs_bytes : List ℤ → ℕ → List ℕ
runs_bytes runs zero = []
runs_bytes runs (suc n) = runs_bytes runs n ++ run_field runs n

-- the file of a cost with its runs; of a refusal
unfoldable pub answer_bytes : ℕ → List ℤ → List ℕ
answer_bytes cost runs = field 0x81 (bytes8 cost) ++ runs_bytes runs (length runs / 5)

abbrev pub refusal_bytes : ℕ → List ℕ
refusal_bytes n = field 0x83 (n ∷ [])

-- how long the file of a list of run numbers is
abbrev pub answer_length : ℕ → ℕ
answer_length numbers = 11 + 11 * (numbers / 5)

-- writing runs into room bytes: 17 for no runs, fewer than five numbers a run or a rule that is broken, then 15; 0 where it is not refused
unfoldable pub answer_number : List ℤ → ℕ → ℕ
answer_number runs room =
    pick (eqb (length runs) 0) 17
    (pick (eqb (length runs % 5) 0) (pick (runs_ok runs (length runs / 5)) (pick (leb (answer_length (length runs)) room) 0 15) 17) 17)

-- writing a refusal into room bytes: 17, 15
unfoldable pub refusal_number : ℕ → ℕ → ℕ
refusal_number n room = pick (is_refusal n) (pick (leb 4 room) 0 15) 17

-- the writers' answers, and the bytes after them
abbrev pub answer_written : List ℤ → ℕ → Written
answer_written runs room = outcome (answer_number runs room) (answer_length (length runs))

abbrev pub after_answer : ℕ → List ℤ → List ℕ → List ℕ
after_answer cost runs out = written (answer_number runs (length out)) (answer_bytes cost runs) out

abbrev pub refusal_written : ℕ → ℕ → Written
refusal_written n room = outcome (refusal_number n room) 4

abbrev pub after_refusal : ℕ → List ℕ → List ℕ
after_refusal n out = written (refusal_number n (length out)) (refusal_bytes n) out
