-- Lists packed end to end. Assumes nothing.
use Rattle.std.specs.Prelude.{◌≡◌, ◌⊎◌, List, ℕ, zero, suc, ◌+◌, ◌*◌, ◌≤◌, ◌<◌, length, get_or, Option, Some}
use Rattle.model.specs.Labels.{counts}
use Rattle.curve.specs.Pieces.{Held}
use Rattle.curve.specs.Curve.{Curve}

-- n lists over L levels, end to end, from a up to e
pub data Chain (L : ℕ) (ws : List ℕ) (a : ℕ) : ℕ → ℕ → Type 0 where
  nothing : Chain L ws a zero a
  then : {n m e : ℕ} → Chain L ws a n m → (h : Held ws m L) → e ≡ m + 4 * h.formed.count → Chain L ws a (suc n) e

-- the list at o of ws stands at p of ws', whatever it costs
pub record Moved (L : ℕ) (ws : List ℕ) (o : ℕ) (ws' : List ℕ) (p : ℕ) : Type 0 where
  pub curve : (A B base : ℕ) (F : ℕ → ℕ) → Curve A B base L ws o F → Curve A B base L ws' p F

-- every word outside a .. e is as before
pub record Inside (a e : ℕ) (ws ws' : List ℕ) : Type 0 where
  pub size : length ws' ≡ length ws
  pub word : (i : ℕ) → (i < a) ⊎ (e ≤ i) → get_or ws' i 0 ≡ get_or ws i 0

-- n lists, each in 4 · L words, from o on
pub record Row (ws : List ℕ) (o n L : ℕ) : Type 0 where
  pub list : (q : ℕ) → q < n → Held ws (o + q * (4 * L)) L
  pub few : n ≤ 8 * counts
  pub narrow : L ≤ 1024

-- ---- packing

pub record PackReady (ws : List ℕ) (o at limit n L : ℕ) : Type 0 where
  pub row : Row ws o n L
  pub below : o + n * (4 * L) ≤ at
  pub order : at ≤ limit
  pub room : limit ≤ length ws

-- the lists from o on of ws stand packed from a up to e of ws'
pub record Packing (ws ws' : List ℕ) (o a e n L : ℕ) : Type 0 where
  pub chain : Chain L ws' a n e
  pub moved : (q m : ℕ) → q < n → Chain L ws' a q m → Moved L ws (o + q * (4 * L)) ws' m

-- they do, up to the end that is answered, or there was no room and none is answered
pub record Saves (ws ws' : List ℕ) (o a limit n L : ℕ) (r : Option ℕ) : Type 0 where
  pub inside : Inside a limit ws ws'
  pub upto : (e : ℕ) → r ≡ Some e → (e ≤ limit) × Packing ws ws' o a e n L

-- ---- unpacking

pub record UnpackReady (ws : List ℕ) (a o n L : ℕ) : Type 0 where
  pub end : ℕ
  pub chain : Chain L ws a n end
  pub below : o + n * (4 * L) ≤ a
  pub start : a ≤ length ws
  pub few : n ≤ 8 * counts
  pub narrow : L ≤ 1024

-- the lists packed from a on stand in 4 · L words each from o on
pub record Unpacked (ws ws' : List ℕ) (a o n L : ℕ) : Type 0 where
  pub inside : Inside o (o + n * (4 * L)) ws ws'
  pub moved : (q m : ℕ) → q < n → Chain L ws a q m → Moved L ws m ws' (o + q * (4 * L))
