-- The rules of an answer's runs, and the refusal numbers.
use Rattle.std.specs.Prelude.{ℕ, zero, suc, ◌+◌, ◌*◌, List, Bool, true, false, get_or, leb, eqb, ℤ, pos, negsuc}
use Rattle.std.specs.Int.Signed.{le_z, lt_z}
use Rattle.integers.specs.Pick.{pick}

-- the number of the last refusal; it rises with each that joins them, and LAST_REFUSAL in code with it
abbrev pub last_refusal : ℕ
last_refusal = 20

-- the refusal numbers that an answer file may hold
unfoldable pub is_refusal : ℕ → Bool
is_refusal n = pick (eqb n 0) false (leb n last_refusal)

-- a run after one whose last reading is prev, 0 before the first run: it starts right after it, ends at 4,096 at most and not before it starts,
-- its state is 0 to 7, its edge 255 in the first run and 0 to 31 later
unfoldable pub run_fits : ℕ → ℕ → ℕ → ℕ → ℕ → Bool
run_fits prev first last state edge =
    pick (eqb first (prev + 1)) (pick (leb first last) (pick (leb last 4096) (pick (leb state 7) (pick (eqb prev 0) (eqb edge 255) (leb edge 31)) false) false) false) false

-- a run number as a natural one; below zero it is none that fits
unfoldable pub whole : ℤ → ℕ
whole (pos n) = n
whole (negsuc n) = 65536

-- a level of 16 bits, signed
unfoldable pub level_fits : ℤ → Bool
level_fits z = pick (lt_z z (negsuc 32767)) false (le_z z (pos 32767))

-- the numbers of run i in a list of five a run: first, last, state, level, edge
abbrev pub number_at : List ℤ → ℕ → ℕ → ℤ
number_at runs i k = get_or runs (5 * i + k) (pos 0)

abbrev pub whole_at : List ℤ → ℕ → ℕ → ℕ
whole_at runs i k = whole (number_at runs i k)

-- the last reading before run i
unfoldable pub last_before : List ℤ → ℕ → ℕ
last_before runs zero = 0
last_before runs (suc i) = whole_at runs i 1

-- run i keeps the rules; the first n runs do
unfoldable pub run_ok : List ℤ → ℕ → Bool
run_ok runs i = pick (run_fits (last_before runs i) (whole_at runs i 0) (whole_at runs i 1) (whole_at runs i 2) (whole_at runs i 4)) (level_fits (number_at runs i 3)) false

unfoldable pub runs_ok : List ℤ → ℕ → Bool
runs_ok runs zero = true
runs_ok runs (suc n) = pick (runs_ok runs n) (run_ok runs n) false
