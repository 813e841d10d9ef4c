-- What the costs for each number of changes are: the sentences of ticket 5 of the change requests (02), quoted, as the record `Entries`, and where 16
-- comes. For code: an entry by the numbers of `Totals` (`entry_by`), and 16 by those of a search (`table_none_by`, `table_found_by`). Assumes nothing.
use Rattle.std.specs.Prelude.{◌≡◌, List, [], ◌∷◌, ℕ, suc, ◌≤◌, min, ℤ, length, get_or}
use Rattle.plan.specs.declared.Plan.{Plan}
use Rattle.model.specs.Segmentation.{Seg}
use Rattle.model.specs.Model.{cost, change_count, AllowedWhole, First}
use Rattle.model.specs.Neighbourhood.{most_word}

-- ---- what is listed for a number of changes

-- no segmentation of n readings with k changes is allowed
abbrev pub NoneWith : Plan → ℕ → ℕ → Type 0
NoneWith P n k = (g : Seg) → AllowedWhole P n g → change_count P g ≡ k → ⊥

-- "the least cost among allowed whole-record segmentations with exactly k changes, penalties included"
pub record LeastWith (P : Plan) (zs : List ℤ) (k c : ℕ) : Type 0 where
  pub met : (g : Seg) × AllowedWhole P (length zs) g × (change_count P g ≡ k) × (cost P zs g ≡ c)
  pub least : (g : Seg) → AllowedWhole P (length zs) g → change_count P g ≡ k → c ≤ cost P zs g

-- ---- the ticket's sentences

unfoldable pub least_of : List ℕ → ℕ
least_of [] = most_word
least_of (c ∷ cs) = min c (least_of cs)

pub record Entries (P : Plan) (zs : List ℤ) (most : ℕ) (cs : List ℕ) : Type 0 where
  -- "A list of K + 1 numbers is filled"
  pub size : length cs ≡ suc most
  -- "for k from 0 to K the least cost among allowed whole-record segmentations with exactly k changes, penalties included"
  pub met : (k : ℕ) → k ≤ most → (get_or cs k 0 ≡ most_word → ⊥) → (g : Seg) × AllowedWhole P (length zs) g × (change_count P g ≡ k) × (cost P zs g ≡ get_or cs k 0)
  pub least : (g : Seg) (k : ℕ) → AllowedWhole P (length zs) g → change_count P g ≡ k → k ≤ most → (get_or cs k 0 ≤ cost P zs g) × (get_or cs k 0 ≡ most_word → ⊥)
  -- "and the largest unsigned 64-bit number where there is none": there, and only there
  pub none_largest : (k : ℕ) → k ≤ most → NoneWith P (length zs) k → get_or cs k 0 ≡ most_word
  pub largest_none : (k : ℕ) → k ≤ most → get_or cs k 0 ≡ most_word → NoneWith P (length zs) k
  -- "A user can take the smallest entry as the answer's cost whenever that answer has at most K changes."
  pub smallest : (g : Seg) → First P zs g → change_count P g ≤ most → least_of cs ≡ cost P zs g
