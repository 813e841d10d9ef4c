use Prim.Native.Nat.{ℕ, ◌*◌, ◌≤◌}
use Rattle.quadratic.specs.Quad.{Quad, Small, count_limit}
use Rattle.quadratic.specs.Fine.{prod≤}

bound : (q : Quad) (g : ℕ) → Small q → g ≤ 1023 → (q.a * g ≤ count_limit * 1023) × ((g * g ≤ 1023 * 1023) × ((q.a * (g * g) ≤ count_limit * (1023 * 1023)) × (q.z * g ≤ 549755813888 * 1023)))
bound q g h k =
    let gg = prod≤ g g 1023 1023 k k in
    (prod≤ _ _ _ _ h.count k, (gg, (prod≤ _ _ _ _ h.count gg, prod≤ _ _ _ _ h.sum k)))
