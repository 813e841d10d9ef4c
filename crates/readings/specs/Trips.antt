-- Lists of bytes and of readings: that they are one to one is proved in proofs/Trips.antt.
use Rattle.std.specs.Prelude.{ℕ, ◌<◌, List, get_or, ℤ, pos}
use Rattle.std.proofs.Common.{SFits}
use Rattle.std.specs.Int.{w16}

-- every element is a byte; a signed number of 16 bits
abbrev pub AllBytes : List ℕ → Type 0
AllBytes b = (i : ℕ) → get_or b i 0 < 256

abbrev pub All16 : List ℤ → Type 0
All16 zs = (i : ℕ) → SFits w16 (get_or zs i (pos 0))
