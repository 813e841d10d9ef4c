-- What a search and a cost at a point answer, and what becomes of the lists that they are lent. Assumes nothing.
use Rattle.std.specs.Prelude.{List, [], ◌++◌, Bool, true, cond, ℕ, ◌*◌, ◌/◌, eqb, ℤ, length, take, drop, replicate}
use Rattle.plan.specs.declared.Plan.{Plan}
use Rattle.model.specs.Model.{width}
use Rattle.model.specs.Refusals.{search_number, point_number}
use Rattle.model.specs.Result.{Result, found, refused, whole, point, result_of}
use Rattle.search.specs.Lent.{lent}
use Rattle.search.specs.Told.{Found}
use Rattle.search.specs.Told.{Segmentation, Refused}
use Rattle.search.specs.Told.{Cost}
use Rattle.search.specs.Told.{Least, NoCost}

-- "192 × S × L words" (ticket 2 of the change requests, 02) of 64 bits
unfoldable pub work_words : Plan → ℕ
work_words P = 192 * (P.states * width P)

-- "Search: 11, 9, 13, 14, 15, 16": the numbers before 14, then what is lent, then the model's answer
unfoldable pub search_result : Plan → List ℤ → ℕ → ℕ → Result
search_result P zs words room = lent refused (search_number P (length zs)) words (work_words P) room (5 * length zs) (result_of P zs whole)

-- "Cost at a point: 11, 9, state 5, level 4, 14, 16": no list, so that none is needed
unfoldable pub point_result : Plan → List ℤ → ℕ → ℤ → ℕ → Result
point_result P zs s m words = lent refused (point_number P (length zs) s m) words (work_words P) 0 0 (result_of P zs (point s m))

-- the answers as values: the paper's number, or the cost and how many runs there are
abbrev pub found_of : Result → Found
found_of (found c ns) = Segmentation c (length ns / 5)
found_of (refused n) = Refused n

abbrev pub cost_of : Result → Cost
cost_of (found c ns) = Least c
cost_of (refused n) = NoCost n

-- and what each case of an answer tells: the number of the refusal; or the cost, with the runs that stand in front of the lent list (`Right`:
-- `search_tells`, `point_tells`)
abbrev pub found_result : Found → List ℤ → Result
found_result (Segmentation c k) out = found c (take (5 * k) out)
found_result (Refused n) out = refused n

abbrev pub cost_result : Cost → Result
cost_result (Least c) = found c []
cost_result (NoCost n) = refused n

-- "Runs fill the front of their buffer; the rest, and on refusal all of it, stays."
abbrev pub runs_after : Result → List ℤ → List ℤ
runs_after (found c ns) out = ns ++ drop (length ns) out
runs_after (refused n) out = out

-- "After a search or a cost at a point that succeeds or gives 16"
abbrev pub looked : Result → Bool
looked (found c ns) = true
looked (refused n) = eqb n 16

-- "the first .. × S × L words are zero and the others untouched; after other refusals all are untouched", 192 of them "also for what is cleared" (02)
-- of a call that needs n words:
unfoldable pub words_left : ℕ → Bool → List ℕ → List ℕ
words_left n l ws = cond l (replicate n 0 ++ drop n ws) ws

unfoldable pub words_after : Plan → Result → List ℕ → List ℕ
words_after P r ws = words_left (work_words P) (looked r) ws
