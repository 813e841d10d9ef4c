-- Reading a plan file: grid, states, edges, labels, readings.
use Rattle.std.specs.Prelude.{ℕ, zero, suc, ◌+◌, List, length, get_or, eqb, ℤ, pos}
use Rattle.integers.specs.Pick.{pick}
use Rattle.integers.specs.Bytes.{signed16}
use Rattle.plan.specs.Build.{Built, Answer, Done, Refused, grid_ok, open_plan, add_edge, add_label, seal_plan, blank, refused_at}
use Rattle.plan.specs.declared.Plan.{Plan}
use Rattle.fields.specs.Fields.{Field, Body, Wrong, row_of, field_at, field_number, part_of, word_at}

-- what reading a plan file gives: the plan, and where the body of its readings starts and how long it is
pub record FileRead : Type 0 where
  pub answer : Answer
  pub plan : Plan
  pub start : ℕ
  pub len : ℕ

-- an unsealed plan with every number 0
abbrev pub no_plan : Plan
no_plan = blank (pos 0) (pos 0) 0 0 0

-- a refused reading: no plan and no readings
unfoldable pub refused_file : ℕ → FileRead
refused_file n = record { answer = Refused n; plan = no_plan; start = 0; len = 0 }

-- the signed number of 16 bits at a place of a body
abbrev pub level_at : List ℕ → ℕ → ℤ
level_at b i = signed16 (word_at b i)

-- the refusal of a grid's body
unfoldable pub grid_number : List ℕ → ℕ
grid_number b = pick (eqb (length b) 4) (pick (grid_ok (level_at b 0) (level_at b 2)) 0 4) 3

-- the plan that the bodies of grid and states open
unfoldable pub open_bodies : List ℕ → List ℕ → Built
open_bodies g b =
    pick (eqb (length g) 4)
    (pick (eqb (length b) 3) (open_plan (level_at g 0) (level_at g 2) (get_or b 0 0) (get_or b 1 0) (get_or b 2 0)) (refused_at no_plan 3))
    (refused_at no_plan 3)

-- the plan with the edge or the label of a body
unfoldable pub edge_body : List ℕ → Plan → Built
edge_body b p = pick (eqb (length b) 6) (add_edge p (get_or b 0 0) (get_or b 1 0) (get_or b 2 0) (word_at b 3) (get_or b 5 0)) (refused_at p 3)

unfoldable pub label_body : List ℕ → Plan → Built
label_body b p = pick (eqb (length b) 5) (add_label p (word_at b 0) (word_at b 2) (get_or b 4 0)) (refused_at p 3)

unfoldable pub entry_body : ℕ → List ℕ → Plan → Built
entry_body tag b p = pick (eqb tag 0x03) (edge_body b p) (label_body b p)

-- a plan call's refusal ends the reading
abbrev pub on_answer : FileRead → Answer → FileRead
on_answer r (Refused n) = refused_file n
on_answer r Done = r

-- the plan p and the readings, whose body is the last of the file
abbrev pub at_end : List ℕ → Plan → ℕ → ℕ → FileRead
at_end s p start len =
    pick (eqb (start + len) (length s)) (record { answer = Done; plan = p; start = start; len = len }) (refused_file (field_number (field_at s (start + len) 4)))

unfoldable pub finish_file : List ℕ → Plan → ℕ → ℕ → FileRead
finish_file s p start len = on_answer (at_end s (seal_plan p).plan start len) (seal_plan p).answer

abbrev pub on_field : (Plan → ℕ → ℕ → FileRead) → List ℕ → Plan → Field → FileRead
on_field next s p (Wrong n) = refused_file n
on_field next s p (Body tag start len) =
    pick (eqb tag 0x05) (finish_file s p start len)
    (on_answer (next (entry_body tag (part_of s start len) p).plan (start + len) (row_of tag).next) (entry_body tag (part_of s start len) p).answer)

-- edges, labels and the readings from a position on, at most k fields
unfoldable pub entries_from : ℕ → List ℕ → Plan → ℕ → ℕ → FileRead
entries_from zero s p at stage = refused_file 1
entries_from (suc k) s p at stage = on_field (entries_from k s) s p (field_at s at stage)

abbrev pub on_opened : List ℕ → ℕ → Built → FileRead
on_opened s at b = on_answer (entries_from (length s + 1) s b.plan at 2) b.answer

abbrev pub on_states : List ℕ → List ℕ → Field → FileRead
on_states s g (Wrong n) = refused_file n
on_states s g (Body t start len) = on_opened s (start + len) (open_bodies g (part_of s start len))

abbrev pub on_grid : List ℕ → Field → FileRead
on_grid s (Wrong n) = refused_file n
on_grid s (Body t start len) =
    pick (eqb (grid_number (part_of s start len)) 0) (on_states s (part_of s start len) (field_at s (start + len) 1)) (refused_file (grid_number (part_of s start len)))

-- the plan of a file, and where its readings stand
unfoldable pub plan_file : List ℕ → FileRead
plan_file s = on_grid s (field_at s 0 0)

-- the readings of a plan file: that part of it, nothing where it is refused
abbrev pub readings_part : List ℕ → List ℕ
readings_part s = part_of s (plan_file s).start (plan_file s).len
