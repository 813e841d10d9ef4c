-- A cost function in the workspace: pieces of four words from o on (the last level of the piece; a, and above it the changes; z; c), their last levels rising,
-- the last one L − 1. What a list says at a level is the quadratic in force there, `piece`. Assumes nothing.
use Rattle.std.specs.Prelude.{◌≡◌, ◌⊎◌, Bool, false, cond, List, ℕ, zero, suc, ◌+◌, ◌*◌, ◌-◌, ◌≤◌, ◌<◌, leb, eqb, length, get_or, drop}
use Rattle.std.proofs.Math.Seq.{paste}
use Rattle.quadratic.specs.Fine.{pick_n}
use Rattle.quadratic.specs.Quad.{Quad, quad, Sized, pick, flat, absent, none, moved, mirrored, better}
use Rattle.curve.specs.declared.Piece.{Piece}
use Rattle.curve.specs.declared.Walk.{Walk}
use Rattle.curve.specs.declared.Two.{Two}

-- the last level of the kth piece of the list at o, and its first
abbrev pub end_of : List ℕ → ℕ → ℕ → ℕ
end_of ws o k = get_or ws (o + 4 * k) 0

unfoldable pub start_of : List ℕ → ℕ → ℕ → ℕ
start_of ws o zero = 0
start_of ws o (suc k) = end_of ws o k + 1

abbrev pub quad_at : List ℕ → ℕ → Quad
quad_at ws i = quad (record { w = get_or ws (i + 1) 0; z = get_or ws (i + 2) 0; c = get_or ws (i + 3) 0 })

-- where the piece in force at level j begins, among the n pieces from o on
unfoldable pub seek : ℕ → List ℕ → ℕ → ℕ → ℕ
seek zero ws o j = o
seek (suc n) ws o j = pick_n (leb j (get_or ws o 0)) o (seek n ws (o + 4) j)

-- the quadratic in force at level j of the list at o, over L levels
unfoldable pub piece : List ℕ → ℕ → ℕ → ℕ → Quad
piece ws o L j = quad_at ws (seek L ws o j)

-- whether the list at o is one piece, none
unfoldable pub none_only : List ℕ → ℕ → ℕ → Bool
none_only ws o L = cond (eqb (get_or ws o 0 + 1) L) (eqb (get_or ws (o + 3) 0) none) false

-- p is the piece to which a walk w has come, it begins below the level end, and w' is the walk past it
pub record Passed (ws : List ℕ) (w w' : Walk) (end : ℕ) (p : Piece) : Type 0 where
  pub inside : w.from < end
  pub index : p.index ≡ w.index
  pub from : p.from ≡ w.from
  pub to : p.to ≡ end_of ws w.list w.index
  pub is : quad p.q ≡ quad_at ws (w.list + 4 * w.index)
  pub next : w' ≡ record { list = w.list; index = w.index + 1; from = p.to + 1 }

-- there is a list over L levels at o
pub record Formed (ws : List ℕ) (o L : ℕ) : Type 0 where
  pub count : ℕ
  pub ends : start_of ws o count ≡ L
  pub rising : (k : ℕ) → k < count → start_of ws o k ≤ end_of ws o k

-- the first n pieces at o are the levels below x, and what is in force at each has P
pub record Built (P : ℕ → Quad → Type 0) (ws : List ℕ) (o n x : ℕ) : Type 0 where
  pub ends : start_of ws o n ≡ x
  pub rising : (k : ℕ) → k < n → start_of ws o k ≤ end_of ws o k
  pub holds : (k : ℕ) → k < n → (j : ℕ) → start_of ws o k ≤ j → j ≤ end_of ws o k → P j (quad_at ws (o + 4 * k))

-- it is F's
abbrev pub Is : (ℕ → Quad) → ℕ → Quad → Type 0
Is F j q = q ≡ F j

-- every word outside the len words at dst is as before
pub record Kept (ws ws' : List ℕ) (dst len : ℕ) : Type 0 where
  pub size : length ws' ≡ length ws
  pub before : (i : ℕ) → i < dst → get_or ws' i 0 ≡ get_or ws i 0
  pub after : (i : ℕ) → dst + len ≤ i → get_or ws' i 0 ≡ get_or ws i 0

-- the m words at o are as before
pub record Same (ws ws' : List ℕ) (o m : ℕ) : Type 0 where
  pub word : (i : ℕ) → o ≤ i → i < o + m → get_or ws' i 0 ≡ get_or ws i 0

-- the lists at o and at p, of len words each, share no word
abbrev pub Apart : ℕ → ℕ → ℕ → Type 0
Apart o p len = (o + len ≤ p) ⊎ (p + len ≤ o)

-- a piece put at a place
pub record Stored (ws ws' : List ℕ) (at end : ℕ) (q : Quad) : Type 0 where
  pub kept : Kept ws ws' at 4
  pub last : get_or ws' at 0 ≡ end
  pub quad : quad_at ws' at ≡ q

-- q's piece up to end, put after the n at dst, or the last one, which is q's, made longer: then there are r
pub record Appended (ws ws' : List ℕ) (dst n end : ℕ) (q : Quad) (r : ℕ) : Type 0 where
  pub count : r ≤ n + 1
  pub grows : n ≤ r
  pub kept : Kept ws ws' dst (4 * r)
  pub built : (F : ℕ → Quad) (x : ℕ) → x ≤ end → ((j : ℕ) → x ≤ j → j ≤ end → q ≡ F j) → Built (Is F) ws dst n x → Built (Is F) ws' dst r (end + 1)

-- the pieces of the levels from x up to y, y not among them, put after the n pieces of those below x: then there are r
pub record Emits (F : ℕ → Quad) (ws ws' : List ℕ) (dst n x y r : ℕ) : Type 0 where
  pub count : n ≤ x → r ≤ y
  pub grows : n ≤ r
  pub kept : Kept ws ws' dst (4 * r)
  pub built : (G : ℕ → Quad) → ((j : ℕ) → x ≤ j → j < y → F j ≡ G j) → Built (Is G) ws dst n x → Built (Is G) ws' dst r y

-- the list at dst is F's, and nothing else is changed
pub record Made (F : ℕ → Quad) (ws ws' : List ℕ) (dst L : ℕ) : Type 0 where
  pub kept : Kept ws ws' dst (4 * L)
  pub formed : Formed ws' dst L
  pub is : (j : ℕ) → j < L → piece ws' dst L j ≡ F j

-- a list at o that is all there
pub record Held (ws : List ℕ) (o L : ℕ) : Type 0 where
  pub formed : Formed ws o L
  pub room : o + 4 * formed.count ≤ length ws

-- and that may be read while len words at dst are written
pub record Lent (ws : List ℕ) (o dst len L : ℕ) : Type 0 where
  pub formed : Formed ws o L
  pub room : o + 4 * formed.count ≤ length ws
  pub apart : (o + 4 * formed.count ≤ dst) ⊎ (dst + len ≤ o)

-- where p is none, q is the better one
abbrev pub Yields : ℕ → Quad → Quad → Type 0
Yields v p q = p.c ≡ none → better v p q ≡ q

-- what becomes of F
abbrev pub shift_of : ℕ → (ℕ → Quad) → ℕ → Quad
shift_of g F j = pick (leb g j) (moved g (F (j - g))) absent

abbrev pub mirror_of : ℕ → ℕ → (ℕ → Quad) → ℕ → Quad
mirror_of s L F j = mirrored s (F (L - 1 - j))

-- the least at every level but the one that has it, where it is the other of two
abbrev pub constant_but : Two → ℕ → Quad
constant_but two j = pick (eqb j two.least.level) (flat two.second.value two.second.changes) (flat two.least.rank.value two.least.rank.changes)

-- it may be mirrored
pub record Turnable (s : ℕ) (q : Quad) : Type 0 where
  pub sized : Sized q
  pub sum : q.z ≤ q.a * s
  pub rest : 2 * (q.z * s) ≤ q.a * (s * s) + q.c

-- a list at o that may be copied to dst, where it needs no more words than it has
pub record Copyable (ws : List ℕ) (o dst L : ℕ) : Type 0 where
  pub formed : Formed ws o L
  pub room : o + 4 * formed.count ≤ length ws
  pub into : dst + 4 * formed.count ≤ length ws
  pub apart : (o + 4 * formed.count ≤ dst) ⊎ (dst + 4 * formed.count ≤ o)

-- the words of the list at o, r pieces, stand at dst, and nothing else is changed
pub record Copied (ws ws' : List ℕ) (o dst L r : ℕ) : Type 0 where
  pub count : (f : Formed ws o L) → r ≡ f.count
  pub kept : Kept ws ws' dst (4 * r)
  pub word : (i : ℕ) → i < 4 * r → get_or ws' (dst + i) 0 ≡ get_or ws (o + i) 0
  pub is : ws' ≡ paste ws dst (drop o ws) (4 * r)
