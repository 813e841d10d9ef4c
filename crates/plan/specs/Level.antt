-- Which level may follow a level at a boundary, for each kind of edge.
use Rattle.std.specs.Prelude.{Bool, ◌&&◌, not, leb, ℤ, pos, nat_abs, ◌+ℤ◌, ◌-ℤ◌}
use Rattle.std.specs.Int.Signed.{le_z}
use Rattle.plan.specs.declared.Kind.{Kind}
use Rattle.plan.specs.declared.Kind.TheVariants.{Stay, Any, Up, Down, Abs}

abbrev same_level : ℤ → ℤ → Bool
same_level m m' = le_z m m' && le_z m' m

-- The scope paper (01): "From level m to the next level m': 0 stay, m' = m; 1 any, [..]; 2 up, m' ≥ m + gap; 3 down, m' ≤ m − gap; 4 abs, the
-- distance of m and m' at least gap." The change requests (02), ticket 4: "Kind 1 now requires m' ≠ m. Kinds 2, 3 and 4 with gap 0 still permit
-- equal levels."
unfoldable pub permits : Kind → ℤ → ℤ → Bool
permits Stay m m' = same_level m m'
permits Any m m' = not (same_level m m')
permits (Up gap) m m' = le_z (m +ℤ pos gap) m'
permits (Down gap) m m' = le_z m' (m -ℤ pos gap)
permits (Abs gap) m m' = leb gap (nat_abs (m' -ℤ m))
