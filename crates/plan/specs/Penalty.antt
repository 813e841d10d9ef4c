-- The sixteen penalties.
use Rattle.std.specs.Prelude.{ℕ, List, [], ◌∷◌, Bool, true, ◌&&◌, leb, get_or}

-- "The sixteen penalties, class 0 to class 15, are .."
abbrev pub penalties : List ℕ
penalties = 0 ∷ 1 ∷ 2 ∷ 5 ∷ 10 ∷ 20 ∷ 50 ∷ 100 ∷ 200 ∷ 500 ∷ 1000 ∷ 2000 ∷ 5000 ∷ 10000 ∷ 20000 ∷ 50000 ∷ []

unfoldable pub penalty : ℕ → ℕ
penalty class = get_or penalties class 0

-- no entry is below the one before it
unfoldable pub never_falls : List ℕ → Bool
never_falls [] = true
never_falls (a ∷ []) = true
never_falls (a ∷ b ∷ l) = leb a b && never_falls (b ∷ l)
