-- The shape of a plan, from the places of its lowest and highest level. Assumes nothing.
use Rattle.curve.specs.declared.levels.Grid.{Grid}
use mathlib.Core.Path.{◌∙◌, ◌≡◌, refl, ap}
use Prim.Native.Nat.{ℕ, ◌+◌, ◌-◌, ◌<◌, ◌^◌}
use native.Mathlib.Omega.{arith}
use lib.IntN.{ℤ, pos, nat_abs, ◌+ℤ◌}
use lib.Signed.{mag}
use mir.Facts.{to_z-of_z}
use mir.Syntax.{w16}
use mir.Val.{SFits, to_z, of_z, hbits}
use Rattle.integers.specs.Rep.{iz, nz, ◌⊕◌, eq_n}
use Rattle.plan.specs.declared.Plan.{Plan}
use Rattle.model.specs.Model.{width, above}
use Rattle.model.proofs.Grid.{above_add}
use Rattle.model.specs.Checked.{Checked}
use Rattle.layer.specs.Layer.{base_of, ShapeOf}

-- a 16-bit number is read back as itself
pub place_is : (z : ℤ) (u : ℕ) → mag z < 2 ^ hbits w16 → pos u ≡ to_z w16 (of_z w16 z) +ℤ pos 163840 → pos u ≡ z +ℤ pos 163840
place_is z u h e = let f : SFits w16 z = record { sfits = h } in rw (to_z-of_z f) at e

module _ {P : Plan} (c : Checked P) (base top : ℕ) (eb : pos base ≡ P.lo +ℤ pos 163840) (et : pos top ≡ P.hi +ℤ pos 163840) where
  pub top_is : top ≡ base + above P.lo P.hi
  top_is =
      let h = eq_n (iz P.lo ⊕ nz (above P.lo P.hi)) (iz P.hi) (above_add P.lo P.hi c.grid) in
      omega (arith, eq_n (nz base) (iz P.lo ⊕ nz 163840) eb, eq_n (nz top) (iz P.hi ⊕ nz 163840) et, h)

  base_is : base ≡ base_of P
  unfolding base_of
  base_is = ap nat_abs eb

  pub shape_is : (g : Grid) → g.levels ≡ top - base + 1 → g.base ≡ base → ShapeOf P (record { states = P.states; grid = g })
  unfolding width
  shape_is g l b = record { states = refl; levels = omega (arith, top_is); base = b ∙ base_is }
