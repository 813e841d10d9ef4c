-- What a writer has found: how long the parts of a plan file are is proved in proofs/Sizes.antt.
use Rattle.std.specs.Prelude.{ℕ, ◌≡◌, true}
use Rattle.plan.specs.Build.{plan_number}
use Rattle.plan.specs.declared.Plan.{Plan}
use Rattle.files.specs.Writer.{Room}

-- what a writer that is not refused has found
pub record Writes (p : Plan) (n room : ℕ) : Type 0 where
  pub passes : plan_number p ≡ 0
  pub sealed : p.sealed ≡ true
  pub space : Room p n room
