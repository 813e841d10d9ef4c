-- The outcome of a writer: the laws about it are in proofs/PutLaws.antt.
use Rattle.std.specs.Prelude.{ℕ, List, ◌++◌, eqb, length, drop, Result, Ok, Err}
use Rattle.integers.specs.Pick.{pick}
use Rattle.plan.specs.declared.reasons.Refusal.{Refusal}
use Rattle.plan.specs.Refusals.{refusal_number}

-- what a writer answers: how many bytes it wrote, or the refusal
pub data Written : Type 0 where
  Bytes : ℕ → Written
  Refused : ℕ → Written

-- the refusal of a writer, 0 where it wrote; how many bytes it wrote
abbrev pub written_number : Written → ℕ
written_number (Bytes n) = 0
written_number (Refused n) = n

abbrev pub written_bytes : Written → ℕ
written_bytes (Bytes n) = n
written_bytes (Refused n) = 0

-- what a writer's result says
abbrev pub written_of : Result ℕ Refusal → Written
written_of (Ok n) = Bytes n
written_of (Err r) = Refused (refusal_number r)

-- the answer of a writer with refusal m, that else writes len bytes
unfoldable pub outcome : ℕ → ℕ → Written
outcome m len = pick (eqb m 0) (Bytes len) (Refused m)

-- what a writer with refusal m, that else writes bs, leaves: the bytes in front and the rest as it was, on refusal all of it
unfoldable pub written : ℕ → List ℕ → List ℕ → List ℕ
written m bs out = pick (eqb m 0) (bs ++ drop (length bs) out) out
