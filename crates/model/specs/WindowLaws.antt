-- What the costs of a moving window are: each is that of its part, and where no number refuses a part, all parts have an allowed segmentation or
-- none has. Assumes nothing.
use Rattle.std.specs.Prelude.{◌≡◌, ℤ, length}
use mathlib.Core.List.{List}
use Prim.Native.Nat.{ℕ, ◌<◌}
use Rattle.std.proofs.Math.ListN.{get_or}
use Rattle.plan.specs.declared.Plan.{Plan}
use Rattle.model.specs.Result.{Result, found, whole, result_of}
use Rattle.model.specs.Window.{part_at}

-- ---- the costs, part by part

module _ (P : Plan) (zs : List ℤ) (w : ℕ) where
  abbrev pub result_at : ℕ → Result
  result_at a = result_of P (part_at zs w a) whole

  -- a list of k costs, each of them that of its part
  pub record Each (k : ℕ) (cs : List ℕ) : Type 0 where
    pub size : length cs ≡ k
    pub cost : (a : ℕ) → a < k → (ns : List ℤ) × (result_at a ≡ found (get_or cs a 0) ns)
