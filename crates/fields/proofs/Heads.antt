-- The cases of a field's reading, over plain values.
-- Assumes nothing.
use Prim.Native.Nat.{ℕ, ◌+◌, ◌-◌, ◌≤◌, ◌<◌}
use mathlib.Core.Path.{◌≡◌}
use mathlib.Core.Bool.{Bool, true, false}
use mathlib.Core.List.{List}
use lib.ListN.{length, get_or}
use Rattle.integers.specs.Bytes.{word}
use borrow.Author.Tests.{lt-ltb, le-ltb, le-leb, lt-leb}
use Rattle.fields.specs.Fields.{Body, Wrong, may_stand, length_fits, count_fits, checked_field, field_at}

module _ (s : List ℕ) (at stage : ℕ) where
  pub cut_header : length s - at < 3 → Wrong 1 ≡ field_at s at stage
  unfolding field_at checked_field
  cut_header h = rw (lt-ltb _ 3 h)

  module _ (h : 3 ≤ length s - at) (m : Bool) (em : m ≡ may_stand stage (get_or s at 0)) where
    pub wrong_tag : m ≡ false → Wrong 2 ≡ field_at s at stage
    unfolding field_at checked_field
    wrong_tag p = rw (le-ltb _ 3 h, ← em, p)

    module _ (pm : m ≡ true) (len : ℕ) (el : len ≡ word (get_or s (at + 1) 0) (get_or s (at + 2) 0)) (l : Bool) (ef : l ≡ length_fits (get_or s at 0) len) where
      pub wrong_length : l ≡ false → Wrong 3 ≡ field_at s at stage
      unfolding field_at checked_field
      wrong_length p = rw (le-ltb _ 3 h, ← em, pm, ← el, ← ef, p)

      module _ (pl : l ≡ true) (n : Bool) (en : n ≡ count_fits (get_or s at 0) len) where
        pub wrong_count : n ≡ false → Wrong 9 ≡ field_at s at stage
        unfolding field_at checked_field
        wrong_count p = rw (le-ltb _ 3 h, ← em, pm, ← el, ← ef, pl, ← en, p)

        pub cut_body : n ≡ true → length s - at - 3 < len → Wrong 1 ≡ field_at s at stage
        unfolding field_at checked_field
        cut_body p q = rw (le-ltb _ 3 h, ← em, pm, ← el, ← ef, pl, ← en, p, lt-leb _ _ q)

        pub whole_field : n ≡ true → len ≤ length s - at - 3 → Body (get_or s at 0) (at + 3) len ≡ field_at s at stage
        unfolding field_at checked_field
        whole_field p q = rw (le-ltb _ 3 h, ← em, pm, ← el, ← ef, pl, ← en, p, le-leb _ _ q)
