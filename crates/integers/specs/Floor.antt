-- Division of signed numbers, rounded down. Assumes nothing.
use Rattle.std.specs.Prelude.{zero, suc, ◌/◌, ℤ, pos, negsuc}

-- n / d rounded down, since −(a + 1) / d lies below −(a / d) and at or above −(a / d) − 1; 0 where d is not above zero
unfoldable pub floor_div : ℤ → ℤ → ℤ
floor_div n (negsuc b) = pos 0
floor_div n (pos zero) = pos 0
floor_div (pos a) (pos (suc b)) = pos (a / suc b)
floor_div (negsuc a) (pos (suc b)) = negsuc (a / suc b)
