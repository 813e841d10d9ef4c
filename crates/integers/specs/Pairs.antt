-- Pairs of numbers in their order, the first number deciding before the second, as one number: `lex x k`. It is the pair's as long as the second number
-- is below `unit`. Assumes nothing.
use Rattle.std.specs.Prelude.{◌≡◌, ℕ, ◌+◌, ◌*◌, ◌/◌, ◌%◌, ◌<◌}
use Rattle.std.proofs.Common.{arith}

-- above every number of changes: there are at most 2^20
abbrev pub unit : ℕ
unit = 2097152

abbrev pub lex : ℕ → ℕ → ℕ
lex x k = unit * x + k

-- ---- back to the two numbers
pub first_is : (x k : ℕ) → k < unit → lex x k / unit ≡ x
first_is x k h = omega arith

pub second_is : (x k : ℕ) → k < unit → lex x k % unit ≡ k
second_is x k h = omega arith
