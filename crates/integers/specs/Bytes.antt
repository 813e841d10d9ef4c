-- Numbers of 16 bits as two bytes, the high one first; signed ones in two's complement.
-- Assumes nothing.
use Rattle.std.specs.Prelude.{ℕ, suc, ◌+◌, ◌-◌, ◌*◌, ◌/◌, ◌%◌, ◌<◌, ◌≤◌, ◌≡◌, ltb, ℤ, pos, negsuc, ◌-ℤ◌}
use Rattle.std.proofs.Common.{arith, ◌∙◌, ap, ⊎_elim, SFits, lt-ltb, le-ltb}
use Rattle.std.specs.Int.{w16}
use Rattle.integers.specs.Pick.{pick}
use Rattle.integers.specs.Rep.{le_or_lt}

-- the number of two bytes, the high one first
abbrev pub word : ℕ → ℕ → ℕ
word high low = high * 256 + low

-- the signed number of 16 bits
unfoldable pub signed16 : ℕ → ℤ
signed16 n = pick (ltb n 32768) (pos n) (pos n -ℤ pos 65536)

-- the 16 bits of a signed number
unfoldable pub bits16 : ℤ → ℕ
bits16 (pos n) = n
bits16 (negsuc n) = 65535 - n

-- the high and the low byte of a number of 16 bits make it, and are those that it was made of
pub word_high : (h l : ℕ) → l < 256 → word h l / 256 ≡ h
word_high h l b = omega arith

pub word_low : (h l : ℕ) → l < 256 → word h l % 256 ≡ l
word_low h l b = omega arith

pub word_back : (n : ℕ) → word (n / 256) (n % 256) ≡ n
word_back n = omega arith

-- the signed numbers of 16 bits and their bits are one to one
pub bits_below : (z : ℤ) → SFits w16 z → bits16 z < 65536
unfolding bits16
bits_below (pos n) f = omega (arith, f.sfits)
bits_below (negsuc n) f = omega arith

module _ (n : ℕ) where
  pub signed_low : n < 32768 → signed16 n ≡ pos n
  unfolding signed16
  signed_low h = rw (lt-ltb n 32768 h)

  pub signed_high : 32768 ≤ n → signed16 n ≡ pos n -ℤ pos 65536
  unfolding signed16
  signed_high h = rw (le-ltb n 32768 h)

  less_turn : n < 65536 → pos n -ℤ pos 65536 ≡ negsuc (65536 - suc n)
  less_turn b = rw (lt-ltb n 65536 b)

pub signed_bits : (z : ℤ) → SFits w16 z → signed16 (bits16 z) ≡ z
unfolding bits16
signed_bits (pos n) f = signed_low n f.sfits
signed_bits (negsuc n) f =
    let h : n < 32768 = f.sfits in
    let e : 65536 - suc (65535 - n) ≡ n = omega arith in
    signed_high (65535 - n) (omega arith) ∙ less_turn (65535 - n) (omega arith) ∙ ap negsuc e

pub bits_signed : (n : ℕ) → n < 65536 → bits16 (signed16 n) ≡ n
unfolding bits16
bits_signed n b = ⊎_elim high low (le_or_lt 32768 n)
  where
    high : 32768 ≤ n → bits16 (signed16 n) ≡ n
    high h = let e : 65535 - (65536 - suc n) ≡ n = omega arith in ap bits16 (signed_high n h ∙ less_turn n b) ∙ e

    low : n < 32768 → bits16 (signed16 n) ≡ n
    low h = ap bits16 (signed_low n h)

pub signed_fits : (n : ℕ) → n < 65536 → SFits w16 (signed16 n)
signed_fits n b = ⊎_elim high low (le_or_lt 32768 n)
  where
    high : 32768 ≤ n → SFits w16 (signed16 n)
    high h = rw (signed_high n h, less_turn n b) (record { sfits = omega arith })

    low : n < 32768 → SFits w16 (signed16 n)
    low h = rw (signed_low n h) (record { sfits = omega arith })
