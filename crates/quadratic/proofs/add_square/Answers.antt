-- `quadratic::add_square`: the products are bounded. Assumes nothing.
use Prim.Native.Nat.{ℕ, ◌*◌, ◌≤◌}
use Rattle.quadratic.specs.Fine.{prod≤}

bound : (u w : ℕ) → u ≤ 262143 → w ≤ 255 → (u * u ≤ 262143 * 262143) × ((w * u ≤ 255 * 262143) × (w * (u * u) ≤ 255 * (262143 * 262143)))
bound u w h k =
    let uu = prod≤ u u 262143 262143 h h in
    (uu, (prod≤ w u 255 262143 k h, prod≤ w (u * u) 255 (262143 * 262143) k uu))
