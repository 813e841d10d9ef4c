-- Reading an answer file: a cost and its runs, or a refusal.
use Rattle.std.specs.Prelude.{ℕ, zero, suc, ◌+◌, ◌*◌, List, [], ◌∷◌, ◌++◌, Bool, false, length, get_or, drop, leb, eqb, ℤ, pos}
use Rattle.integers.specs.Pick.{pick}
use Rattle.integers.specs.Bytes.{signed16}
use Rattle.fields.specs.Fields.{Field, Body, Wrong, field_at, field_number, part_of, word_at, number8}
use Rattle.answers.specs.Runs.{is_refusal, run_fits}

-- what an answer file holds: a cost and how many runs, or a refusal; or why it was not read
pub data AnswerRead : Type 0 where
  Runs : ℕ → ℕ → AnswerRead
  Refusal : ℕ → AnswerRead
  Unread : ℕ → AnswerRead

-- the refusal of the file itself, 0 where it was read
abbrev pub read_number : AnswerRead → ℕ
read_number (Runs cost count) = 0
read_number (Refusal n) = 0
read_number (Unread n) = n

-- the body of a run keeps the rules after a run that ended at prev; its last reading
unfoldable pub body_fits : ℕ → List ℕ → Bool
body_fits prev b = pick (eqb (length b) 8) (run_fits prev (word_at b 0) (word_at b 2) (get_or b 4 0) (get_or b 7 0)) false

unfoldable pub body_last : List ℕ → ℕ
body_last b = pick (eqb (length b) 8) (word_at b 2) 0

abbrev pub on_run : (ℕ → ℕ → ℕ → AnswerRead) → List ℕ → ℕ → ℕ → ℕ → Field → AnswerRead
on_run next s cost prev count (Wrong n) = Unread n
on_run next s cost prev count (Body t start len) =
    pick (body_fits prev (part_of s start len))
    (pick (eqb (start + len) (length s)) (Runs cost (count + 1)) (next (start + len) (body_last (part_of s start len)) (count + 1)))
    (Unread 17)

-- the runs from a position to the end of the file, after count runs of which the last ended at prev; at most k fields
unfoldable pub runs_from : ℕ → List ℕ → ℕ → ℕ → ℕ → ℕ → AnswerRead
runs_from zero s cost at prev count = Unread 1
runs_from (suc k) s cost at prev count = on_run (runs_from k s cost) s cost prev count (field_at s at 6)

-- a refusal, with which the file has to end
unfoldable pub refusal_read : List ℕ → ℕ → List ℕ → AnswerRead
refusal_read s at b =
    pick (eqb (length b) 1)
    (pick (is_refusal (get_or b 0 0)) (pick (eqb at (length s)) (Refusal (get_or b 0 0)) (Unread (field_number (field_at s at 4)))) (Unread 17))
    (Unread 3)

abbrev pub on_head : List ℕ → Field → AnswerRead
on_head s (Wrong n) = Unread n
on_head s (Body tag start len) =
    pick (eqb tag 0x81) (runs_from (length s + 1) s (number8 (part_of s start len)) (start + len) 0 0) (refusal_read s (start + len) (part_of s start len))

-- what an answer file holds
unfoldable pub answer_file : List ℕ → AnswerRead
answer_file s = on_head s (field_at s 0 5)

-- and where the list of run numbers has room for five a run
abbrev pub in_room : ℕ → AnswerRead → AnswerRead
in_room room (Runs cost count) = pick (leb (5 * count) room) (Runs cost count) (Unread 15)
in_room room (Refusal n) = Refusal n
in_room room (Unread n) = Unread n

unfoldable pub read_answer : List ℕ → ℕ → AnswerRead
read_answer s room = in_room room (answer_file s)

-- the five numbers of a run's body
abbrev pub run_numbers : List ℕ → List ℤ
run_numbers b = pos (word_at b 0) ∷ (pos (word_at b 2) ∷ (pos (get_or b 4 0) ∷ (signed16 (word_at b 5) ∷ (pos (get_or b 7 0) ∷ []))))

-- the body of run i, which stands behind the cost and the i runs before it
abbrev pub run_body : List ℕ → ℕ → List ℕ
run_body s i = part_of s (14 + 11 * i) 8

-- the numbers of the first n runs of a file
unfoldable pub runs_of : List ℕ → ℕ → List ℤ
runs_of s zero = []
runs_of s (suc n) = runs_of s n ++ run_numbers (run_body s n)

-- the list of run numbers after reading: the runs in front, the rest as it was; all of it where no runs were read
abbrev pub on_read : List ℕ → List ℤ → AnswerRead → List ℤ
on_read s runs (Runs cost count) = runs_of s count ++ drop (5 * count) runs
on_read s runs (Refusal n) = runs
on_read s runs (Unread n) = runs

unfoldable pub filled : List ℕ → List ℤ → List ℤ
filled s runs = on_read s runs (read_answer s (length runs))
