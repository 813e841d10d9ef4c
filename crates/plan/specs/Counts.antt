-- How many readings a record has (9). Assumes nothing.
use Rattle.std.specs.Prelude.{ℕ, ◌≤◌, ◌<◌, ◌≡◌, refl, Bool, true, false, leb, eqb}
use Rattle.std.proofs.Common.{arith, leb-true}
use Rattle.std.proofs.lemmas.Bool.{eqb-false}
use Rattle.integers.specs.Pick.{pick}

-- some readings, and not more than the most
unfoldable pub count_within : ℕ → ℕ → Bool
count_within most n = pick (eqb n 0) false (leb n most)

-- not "no readings or more than 4,096"
unfoldable pub count_ok : ℕ → Bool
count_ok n = count_within 4096 n

-- not "no readings or more than 65,535", of the record of a moving window (ticket 1 of the change requests, 02)
unfoldable pub long_ok : ℕ → Bool
long_ok n = count_within 65535 n

pub within_is : (most n : ℕ) → count_within most n ≡ true → (0 < n) × (n ≤ most)
unfolding count_within
within_is most n e = go (eqb n 0) refl e
  where
    go : (b : Bool) → eqb n 0 ≡ b → pick b false (leb n most) ≡ true → (0 < n) × (n ≤ most)
    go true q h = let z : ◌≡◌ {A = ℕ} 0 1 = cc in absurd (omega arith)
    go false q h = let k = eqb-false n 0 q in (omega (arith, k), leb-true n most h)

pub count_is : (n : ℕ) → count_ok n ≡ true → (0 < n) × (n ≤ 4096)
unfolding count_ok
count_is n e = within_is 4096 n e

pub long_is : (n : ℕ) → long_ok n ≡ true → (0 < n) × (n ≤ 65535)
unfolding long_ok
long_is n e = within_is 65535 n e
