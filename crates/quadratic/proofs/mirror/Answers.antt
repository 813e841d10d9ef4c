use Prim.Native.Nat.{ℕ, ◌*◌, ◌≤◌}
use Rattle.quadratic.specs.Quad.{Quad, Small, count_limit}
use Rattle.quadratic.specs.Fine.{prod≤}

bound : (q : Quad) (s : ℕ) → Small q → s ≤ 524287 → (q.a * s ≤ count_limit * 524287) × ((s * s ≤ 524287 * 524287) × ((q.a * (s * s) ≤ count_limit * (524287 * 524287)) × (q.z * s ≤ 549755813888 * 524287)))
bound q s h g =
    let gg = prod≤ s s 524287 524287 g g in
    (prod≤ _ _ _ _ h.count g, (gg, (prod≤ _ _ _ _ h.count gg, prod≤ _ _ _ _ h.sum g)))
