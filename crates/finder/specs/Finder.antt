-- What the exported calls answer: a plan comes as the bytes of a plan file, so each is first refused as the reader refuses. Assumes nothing.
use Rattle.std.specs.Prelude.{List, ◌++◌, ℕ, ◌/◌, eqb, leb, ℤ, length, drop}
use Rattle.plan.specs.declared.Plan.{Plan}
use Rattle.integers.specs.Pick.{pick}
use Rattle.plan.specs.Build.{Answer}
use Rattle.plan.specs.Build.{Done, Refused}
use Rattle.model.specs.Result.{Result, found, refused, Costs, cost_list, no_costs}
use Rattle.search.specs.Search.{search_result, point_result, words_after}
use Rattle.windows.specs.Windows.{window_result, window_words}
use Rattle.neighbourhood.specs.Neighbourhood.{table_result, table_words_after}
use Rattle.readings.specs.Codec.{readings_of, decode_number, decoded}
use Rattle.fields.specs.Put.{outcome, written, written_number, written_bytes}
use Rattle.fields.specs.Put.{Written}
use Rattle.files.specs.Reader.{plan_file, readings_part}
use Rattle.files.specs.Writer.{plan_written, after_writing}
use Rattle.answers.specs.Reader.{read_number}
use Rattle.answers.specs.Writer.{answer_bytes, refusal_bytes}
use Rattle.answers.specs.Reader.{AnswerRead}
use Rattle.answers.specs.Reader.{Runs, Refusal, Unread}
use Rattle.finder.specs.declared.Outcome.{Outcome}
use Rattle.finder.specs.declared.Reply.{Reply}

-- ---- answers as the numbers that a program in C is given

abbrev pub given : ℕ → ℕ → ℕ → Outcome
given n c k = record { refusal = n; cost = c; count = k }

abbrev pub refused_with : ℕ → Outcome
refused_with n = given n 0 0

abbrev pub search_outcome : Result → Outcome
search_outcome (found c ns) = given 0 c (length ns / 5)
search_outcome (refused n) = refused_with n

abbrev pub point_outcome : Result → Outcome
point_outcome (found c ns) = given 0 c 0
point_outcome (refused n) = refused_with n

abbrev pub costs_outcome : Costs → Outcome
costs_outcome (cost_list cs) = given 0 0 (length cs)
costs_outcome (no_costs n) = refused_with n

abbrev pub written_outcome : Written → Outcome
written_outcome w = given (written_number w) 0 (written_bytes w)

-- of an answer file that was read: the refusal that it holds, 0 for none; else the cost and how many runs
abbrev pub held_number : AnswerRead → ℕ
held_number (Runs c k) = 0
held_number (Refusal n) = n
held_number (Unread n) = 0

abbrev pub held_cost : AnswerRead → ℕ
held_cost (Runs c k) = c
held_cost (Refusal n) = 0
held_cost (Unread n) = 0

abbrev pub held_runs : AnswerRead → ℕ
held_runs (Runs c k) = k
held_runs (Refusal n) = 0
held_runs (Unread n) = 0

abbrev pub reply_of : AnswerRead → Reply
reply_of a = record { refusal = read_number a; held = held_number a; cost = held_cost a; count = held_runs a }

-- ---- the plan of a file

-- x where the file has a plan, else what its refusal gives
abbrev pub on_plan : {A : Type 0} → Answer → A → (ℕ → A) → A
on_plan Done x f = x
on_plan (Refused n) x f = f n

unfoldable pub search_file : List ℕ → List ℤ → ℕ → ℕ → Result
search_file s zs words room = on_plan (plan_file s).answer (search_result (plan_file s).plan zs words room) refused

unfoldable pub point_file : List ℕ → List ℤ → ℕ → ℤ → ℕ → Result
point_file s zs st m words = on_plan (plan_file s).answer (point_result (plan_file s).plan zs st m words) refused

-- the workspace after a call on the plan of a file that gave r
unfoldable pub file_words : List ℕ → Result → List ℕ → List ℕ
file_words s r ws = on_plan (plan_file s).answer (words_after (plan_file s).plan r ws) (λ n. ws)

-- the costs that a call gives of the plan of a file, and the workspace after it
abbrev pub file_costs : List ℕ → (Plan → Costs) → Costs
file_costs s result = on_plan (plan_file s).answer (result (plan_file s).plan) no_costs

abbrev pub file_left : List ℕ → (Plan → List ℕ) → List ℕ → List ℕ
file_left s left ws = on_plan (plan_file s).answer (left (plan_file s).plan) (λ n. ws)

-- of a moving window
unfoldable pub window_file : List ℕ → List ℤ → ℕ → ℕ → ℕ → Costs
window_file s zs w words room = file_costs s (λ P. window_result P zs w words room)

unfoldable pub window_file_words : List ℕ → Costs → List ℕ → List ℕ
window_file_words s r ws = file_left s (λ P. window_words P r ws) ws

-- of each number of changes
unfoldable pub table_file : List ℕ → List ℤ → ℕ → ℕ → ℕ → Costs
table_file s zs most words room = file_costs s (λ P. table_result P zs most words room)

unfoldable pub table_file_words : List ℕ → ℕ → Costs → List ℕ → List ℕ
table_file_words s most r ws = file_left s (λ P. table_words_after P most r ws) ws

-- ---- the readings of a file

-- the refusal of decoding them into a list of room readings
abbrev pub readings_number : List ℕ → ℕ → ℕ
readings_number s room = decode_number (length (readings_part s)) room

-- the reader's refusal, then the decoder's, or how many they are
unfoldable pub read_outcome : List ℕ → ℕ → Outcome
read_outcome s room = on_plan (plan_file s).answer (pick (eqb (readings_number s room) 0) (given 0 0 (length (readings_part s) / 2)) (refused_with (readings_number s room))) refused_with

unfoldable pub file_readings : List ℕ → List ℤ → List ℤ
file_readings s out = on_plan (plan_file s).answer (decoded (readings_part s) out) (λ n. out)

-- ---- the plan of a file, written with other readings

unfoldable pub rewritten : List ℕ → ℕ → ℕ → Outcome
rewritten s n room = on_plan (plan_file s).answer (written_outcome (plan_written (plan_file s).plan n room)) refused_with

unfoldable pub after_rewriting : List ℕ → List ℤ → List ℕ → List ℕ
after_rewriting s zs out = on_plan (plan_file s).answer (after_writing (plan_file s).plan zs out) (λ n. out)

-- ---- plan file in, answer file out

-- the reader's refusal, the decoder's, or what the search of its readings gives
unfoldable pub file_result : List ℕ → ℕ → ℕ → ℕ → Result
file_result s room words numbers =
    on_plan (plan_file s).answer
    (pick (eqb (readings_number s room) 0) (search_result (plan_file s).plan (readings_of (readings_part s)) words numbers) (refused (readings_number s room)))
    refused

-- "An answer file is 81 and one or more 82, or one 83 alone."
abbrev pub result_bytes : Result → List ℕ
result_bytes (found c ns) = answer_bytes c ns
result_bytes (refused n) = refusal_bytes n

-- "15 .. too short for the bytes .. to be written"
unfoldable pub room_number : List ℕ → ℕ → ℕ
room_number bs room = pick (leb (length bs) room) 0 15

unfoldable pub segment_outcome : Result → ℕ → Outcome
segment_outcome r room = written_outcome (outcome (room_number (result_bytes r) room) (length (result_bytes r)))

unfoldable pub after_segment : Result → List ℕ → List ℕ
after_segment r out = written (room_number (result_bytes r) (length out)) (result_bytes r) out

-- ---- what the program `segment` lends

-- "It lends a workspace of 7,680 words, 16,000 run numbers and no buffer above 64 KiB", and room for the 4,096 readings that a record may have:
-- the answer file that it writes
unfoldable pub program_bytes : List ℕ → List ℕ
program_bytes s = result_bytes (file_result s 4096 7680 16000)

-- bytes at the front of a list, the rest as it was
unfoldable pub at_front : List ℕ → List ℕ → List ℕ
at_front bs out = bs ++ drop (length bs) out
