-- A number of 16 bits as a signed one, and the bytes of a signed one.
-- Assumes nothing.
use Prim.Native.Nat.{ℕ, ◌+◌, ◌/◌, ◌%◌, ◌≤◌, ◌<◌}
use native.Mathlib.Omega.{arith}
use mathlib.Core.Path.{◌≡◌, refl, sym, ◌∙◌, ap}
use mathlib.Core.Logic.{⊎_elim}
use lib.IntN.{ℤ, pos, negsuc, ◌-ℤ◌}
use mir.Facts.{sfits_widen}
use mir.Syntax.{w16, w32}
use mir.Val.{SFits, to_z, of_z}
use mir.ValLaws.{to_z-of_z, to_z_pos}
use Rattle.integers.specs.Bytes.{signed16, bits16, signed_low, signed_high, bits_below}
use Rattle.integers.specs.Rep.{nz, ◌⊖◌, eq_z, sfits_of, le_or_lt}

-- half the range taken away from a number of 16 bits
module _ (m : ℕ) (b : m < 65536) where
  lowered : to_z w32 m -ℤ pos 32768 ≡ pos m -ℤ pos 32768
  lowered = ap (λ (z : ℤ). z -ℤ pos 32768) (to_z_pos w32 m (omega arith))

  lowered_fits : SFits w16 (pos m -ℤ pos 32768)
  lowered_fits = sfits_of w16 (nz m ⊖ nz 32768) (omega arith) (omega arith)

  pub lowered_32 : SFits w32 (to_z w32 m -ℤ pos 32768)
  lowered_32 = rw lowered (sfits_widen tt lowered_fits)

  back : to_z w32 (of_z w32 (to_z w32 m -ℤ pos 32768)) ≡ pos m -ℤ pos 32768
  back = to_z-of_z w32 _ lowered_32 ∙ lowered

  pub lowered_16 : SFits w16 (to_z w32 (of_z w32 (to_z w32 m -ℤ pos 32768)))
  lowered_16 = rw back lowered_fits

  lowered_is : to_z w16 (of_z w16 (to_z w32 (of_z w32 (to_z w32 m -ℤ pos 32768)))) ≡ pos m -ℤ pos 32768
  lowered_is = to_z-of_z w16 _ lowered_16 ∙ back

-- the half taken away from m, which is n turned by it: below the half the turn loses nothing, from the half on the whole range
pub turned_is : (n m : ℕ) → n < 65536 → m ≡ (n + 32768) % 65536 → to_z w16 (of_z w16 (to_z w32 (of_z w32 (to_z w32 m -ℤ pos 32768)))) ≡ signed16 n
turned_is n m b e = lowered_is m (omega arith) ∙ ⊎_elim high low (le_or_lt 32768 n)
  where
    high : 32768 ≤ n → pos m -ℤ pos 32768 ≡ signed16 n
    high h = eq_z (nz m ⊖ nz 32768) (nz n ⊖ nz 65536) (omega arith) ∙ sym (signed_high n h)

    low : n < 32768 → pos m -ℤ pos 32768 ≡ signed16 n
    low h = eq_z (nz m ⊖ nz 32768) (nz n) (omega arith) ∙ sym (signed_low n h)

-- the way back: the machine's bits are those of the specs
pub bits_is : (z : ℤ) → of_z w16 z ≡ bits16 z
unfolding bits16
bits_is (pos n) = refl
bits_is (negsuc n) = omega arith

-- the two bytes that `to_be_bytes` gives
module _ (z : ℤ) (f : SFits w16 z) where
  bits : of_z w16 (to_z w16 (of_z w16 z)) ≡ bits16 z
  bits = ap (of_z w16) (to_z-of_z w16 z f) ∙ bits_is z

  pub high_is : of_z w16 (to_z w16 (of_z w16 z)) / 256 % 256 ≡ bits16 z / 256
  high_is = let b = bits_below z f in omega (arith, bits)

  pub low_is : of_z w16 (to_z w16 (of_z w16 z)) % 256 ≡ bits16 z % 256
  low_is = ap (λ (n : ℕ). n % 256) bits

-- a signed number of 16 bits, widened to 32
pub widened : (x : ℤ) → SFits w16 x → to_z w32 (of_z w32 (to_z w16 (of_z w16 x))) ≡ x
widened x f = ap (λ (z : ℤ). to_z w32 (of_z w32 z)) (to_z-of_z w16 x f) ∙ to_z-of_z w32 x (sfits_widen tt f)
