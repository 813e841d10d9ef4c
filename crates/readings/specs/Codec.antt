-- Readings of 16 bits, two bytes each.
use Rattle.std.specs.Prelude.{ℕ, ◌*◌, ◌/◌, ◌%◌, List, [], ◌∷◌, ◌++◌, length, drop, leb, eqb, ℤ}
use Rattle.integers.specs.Pick.{pick}
use Rattle.plan.specs.Counts.{count_ok}
use Rattle.integers.specs.Bytes.{word, signed16, bits16}

-- the readings of a body
unfoldable pub readings_of : List ℕ → List ℤ
readings_of [] = []
readings_of (h ∷ []) = []
readings_of (h ∷ (l ∷ b)) = signed16 (word h l) ∷ readings_of b

-- the bytes of readings
unfoldable pub bytes_of : List ℤ → List ℕ
bytes_of [] = []
bytes_of (z ∷ zs) = bits16 z / 256 ∷ (bits16 z % 256 ∷ bytes_of zs)

-- decoding a body of len bytes into a list of room readings: 3, 9, 15; 0 where it is not refused
unfoldable pub decode_number : ℕ → ℕ → ℕ
decode_number len room = pick (eqb (len % 2) 0) (pick (count_ok (len / 2)) (pick (leb (len / 2) room) 0 15) 9) 3

-- the list after decoding: its front is the readings, and on refusal it is as before
unfoldable pub decoded : List ℕ → List ℤ → List ℤ
decoded b out = pick (eqb (decode_number (length b) (length out)) 0) (readings_of b ++ drop (length b / 2) out) out

-- encoding n readings into a list of room bytes: 9, 15; 0 where it is not refused
unfoldable pub encode_number : ℕ → ℕ → ℕ
encode_number n room = pick (count_ok n) (pick (leb (2 * n) room) 0 15) 9

-- the bytes after encoding: their front is the readings, and on refusal they are as before
unfoldable pub encoded : List ℤ → List ℕ → List ℕ
encoded zs out = pick (eqb (encode_number (length zs) (length out)) 0) (bytes_of zs ++ drop (2 * length zs) out) out
