-- The fields of plan files and answer files: a tag, the length of the body in two bytes, the body.
use Rattle.std.specs.Prelude.{ℕ, ◌+◌, ◌-◌, ◌*◌, ◌/◌, ◌%◌, List, [], ◌∷◌, ◌++◌, Bool, true, false, length, get_or, drop, take, ltb, leb, eqb}
use Rattle.integers.specs.Pick.{pick}
use Rattle.integers.specs.Bytes.{word}
use Rattle.plan.specs.Counts.{count_ok}
use Rattle.fields.specs.declared.Row.{Row}

-- a field: its tag, where its body starts and how long it is; or the refusal
pub data Field : Type 0 where
  Body : ℕ → ℕ → ℕ → Field
  Wrong : ℕ → Field

abbrev pub row : ℕ → ℕ → ℕ → ℕ → Row
row first last next len = record { first = first; last = last; next = next; len = len }

-- The table of tags: the stages of a file at which a tag may stand, from first to last, the stage after it, and the length of its body.
-- Stages: 0 grid, 1 states, 2 edges, 3 labels, 4 end of the file, 5 start of an answer, 6 runs. A tag that is not listed stands nowhere.
unfoldable pub row_of : ℕ → Row
row_of tag =
    pick (eqb tag 0x01) (row 0 0 1 4)
    (pick (eqb tag 0x02) (row 1 1 2 3)
    (pick (eqb tag 0x03) (row 2 2 2 6)
    (pick (eqb tag 0x04) (row 2 3 3 5)
    (pick (eqb tag 0x05) (row 2 3 4 0)
    (pick (eqb tag 0x81) (row 5 5 6 8)
    (pick (eqb tag 0x82) (row 6 6 6 8)
    (pick (eqb tag 0x83) (row 5 5 4 1)
    (row 1 0 4 0))))))))

-- refusal 2 does not apply
unfoldable pub may_stand : ℕ → ℕ → Bool
may_stand stage tag = pick (leb (row_of tag).first stage) (leb stage (row_of tag).last) false

-- refusal 3 does not apply: the length is the tag's, and even for readings
unfoldable pub length_fits : ℕ → ℕ → Bool
length_fits tag len = pick (eqb tag 0x05) (eqb (len % 2) 0) (eqb len (row_of tag).len)

-- refusal 9 does not apply
unfoldable pub count_fits : ℕ → ℕ → Bool
count_fits tag len = pick (eqb tag 0x05) (count_ok (len / 2)) true

-- a whole header: 2, 3, 9, then 1 for a cut body
unfoldable pub checked_field : ℕ → ℕ → ℕ → ℕ → ℕ → Field
checked_field stage tag len start left =
    pick (may_stand stage tag) (pick (length_fits tag len) (pick (count_fits tag len) (pick (leb len left) (Body tag start len) (Wrong 1)) (Wrong 9)) (Wrong 3)) (Wrong 2)

-- the field at a position, at a stage of the file: 1 for a cut header, then as the header says
unfoldable pub field_at : List ℕ → ℕ → ℕ → Field
field_at s at stage =
    pick (ltb (length s - at) 3) (Wrong 1)
    (checked_field stage (get_or s at 0) (word (get_or s (at + 1) 0) (get_or s (at + 2) 0)) (at + 3) (length s - at - 3))

-- the refusal of a field, 0 where it has none
abbrev pub field_number : Field → ℕ
field_number (Body t b l) = 0
field_number (Wrong n) = n

-- the len bytes from start, or nothing where they run past the end
unfoldable pub part_of : List ℕ → ℕ → ℕ → List ℕ
part_of s start len = pick (leb (start + len) (length s)) (take len (drop start s)) []

-- the body of a field, as a part of the file; nothing where the field is refused
abbrev pub field_body : List ℕ → Field → List ℕ
field_body s (Body t start len) = part_of s start len
field_body s (Wrong n) = []

-- the number of 16 bits at a place of a body
abbrev pub word_at : List ℕ → ℕ → ℕ
word_at b i = word (get_or b i 0) (get_or b (i + 1) 0)

-- the bytes of a field
abbrev pub field : ℕ → List ℕ → List ℕ
field tag body = tag ∷ (length body / 256 ∷ (length body % 256 ∷ body))

-- the list out with the bytes bs from at on, or as it was where they run past the end
unfoldable pub put_at : List ℕ → ℕ → List ℕ → List ℕ
put_at out at bs = pick (leb (at + length bs) (length out)) (take at out ++ bs ++ drop (at + length bs) out) out

-- the number of eight bytes, and the eight bytes of a number, the highest first
abbrev pub join : ℕ → ℕ → ℕ
join a b = a * 256 + b

unfoldable pub number8 : List ℕ → ℕ
number8 b =
    pick (eqb (length b) 8)
    (join (join (join (join (join (join (join (join 0 (get_or b 0 0)) (get_or b 1 0)) (get_or b 2 0)) (get_or b 3 0)) (get_or b 4 0)) (get_or b 5 0)) (get_or b 6 0)) (get_or b 7 0))
    0

unfoldable pub bytes8 : ℕ → List ℕ
bytes8 n =
    let n₁ = n / 256 in
    let n₂ = n₁ / 256 in
    let n₃ = n₂ / 256 in
    let n₄ = n₃ / 256 in
    let n₅ = n₄ / 256 in
    let n₆ = n₅ / 256 in
    let n₇ = n₆ / 256 in
    n₇ % 256 ∷ (n₆ % 256 ∷ (n₅ % 256 ∷ (n₄ % 256 ∷ (n₃ % 256 ∷ (n₂ % 256 ∷ (n₁ % 256 ∷ (n % 256 ∷ [])))))))
