-- A whole-number quadratic a·v² − 2·z·v + c on places v = m + 163840 of signed levels m, in ℕ: its cost is `up` less `down`. It has a number of changes k,
-- and its value is the pair of both as one number: less is cheaper, or as cheap with fewer changes. Orders of costs are orders of sums. Assumes nothing.
use Rattle.std.specs.Prelude.{◌≡◌, ◌⊎◌, Bool, true, false, cond, ℕ, ◌+◌, ◌*◌, ◌-◌, ◌/◌, ◌%◌, ◌≤◌, ◌<◌, leb, ltb, eqb}
use Rattle.integers.specs.Pairs.{unit, lex}
use Rattle.quadratic.specs.declared.Packed.{Packed}

pub record Quad : Type 0 where
  pub a : ℕ
  pub z : ℕ
  pub c : ℕ
  pub k : ℕ

-- as code keeps it: a and k in one word
abbrev pub quad : Packed → Quad
quad p = record { a = p.w % 4294967296; z = p.z; c = p.c; k = p.w / 4294967296 }

abbrev pub up : Quad → ℕ → ℕ
up q v = q.a * (v * v) + q.c

abbrev pub down : Quad → ℕ → ℕ
down q v = 2 * (q.z * v)

abbrev pub cost : Quad → ℕ → ℕ
cost q v = up q v - down q v

abbrev pub value : Quad → ℕ → ℕ
value q v = lex (cost q v) q.k

-- the cost of what is not there, its value with no change, and the quadratic that has it everywhere
abbrev pub none : ℕ
none = 1152921504606846976

abbrev pub no_value : ℕ
no_value = unit * none

abbrev pub flat : ℕ → ℕ → Quad
flat x k = record { a = 0; z = 0; c = x; k = k }

abbrev pub absent : Quad
absent = flat none 0

-- the most readings, each counted by its weight, and changes that a quadratic may have
abbrev pub count_limit : ℕ
count_limit = 1048576

-- costs that are kept are none or less than this
abbrev pub cost_limit : ℕ
cost_limit = 18014398509481984

-- the ranges within which nothing that is computed wraps
pub record Small (q : Quad) : Type 0 where
  pub count : q.a ≤ count_limit
  pub sum : q.z ≤ 549755813888
  pub rest : q.c < 2305843009213693952
  pub few : q.k ≤ count_limit

-- the ranges of those that are kept: there is room for one more
pub record Sized (q : Quad) : Type 0 where
  pub count : q.a ≤ count_limit
  pub sum : q.z ≤ 549755813888
  pub rest : q.c ≤ 1152921504606846976
  pub few : q.k ≤ count_limit

-- what holds of a quadratic at a place where it is in force: no more than A readings and changes, each reading at most 65535 from v; its cost is not
-- below zero; and it is none, or its cost is less than B
pub record Fine (A B : ℕ) (q : Quad) (v : ℕ) : Type 0 where
  pub count : q.a + q.k ≤ A
  pub left : q.a * v ≤ q.z + 65535 * q.a
  pub right : q.z ≤ q.a * v + 65535 * q.a
  pub whole : down q v ≤ up q v
  pub size : (q ≡ absent) ⊎ (up q v < down q v + B)

-- q at r is at most q at m; less than it
abbrev pub AtMost : Quad → ℕ → ℕ → Type 0
AtMost q r m = up q r + down q m ≤ up q m + down q r

abbrev pub Less : Quad → ℕ → ℕ → Type 0
Less q r m = up q r + down q m < up q m + down q r

-- w is at most l at v; l is less than w at v
abbrev pub Under : Quad → Quad → ℕ → Type 0
Under w l v = up w v + down l v ≤ up l v + down w v

abbrev pub Over : Quad → Quad → ℕ → Type 0
Over w l v = up l v + down w v < up w v + down l v

-- r is the lowest place of [x, y] at which q is least
pub record Lowest (q : Quad) (x y r : ℕ) : Type 0 where
  pub low : x ≤ r
  pub high : r ≤ y
  pub least : (m : ℕ) → x ≤ m → m ≤ y → AtMost q r m
  pub first : (m : ℕ) → x ≤ m → m < r → Less q r m
  pub falls : (m : ℕ) → x ≤ m → m < r → Less q (m + 1) m

-- r is the quotient of p less q by d, rounded down, or the end of [x, y] that is nearest to it
pub record Cut (p q d x y r : ℕ) : Type 0 where
  pub low : x ≤ r
  pub high : r ≤ y
  pub under : (m : ℕ) → x ≤ m → m < r → d * (m + 1) + q ≤ p
  pub over : (m : ℕ) → r ≤ m → m < y → p < d * (m + 1) + q

-- r is where the slope e·(2·v + 1) + 2·g − 2·f turns from below zero within [x, y]
pub record Turns (e f g x y r : ℕ) : Type 0 where
  pub low : x ≤ r
  pub high : r ≤ y
  pub falls : (m : ℕ) → x ≤ m → m < r → e * (2 * m + 1) + 2 * g < 2 * f
  pub rises : (m : ℕ) → r ≤ m → m < y → 2 * f ≤ e * (2 * m + 1) + 2 * g

-- w is at most l from x to r, and r is y or w is over l at the next place
pub record Stays (w l : Quad) (x y r : ℕ) : Type 0 where
  pub low : x ≤ r
  pub high : r ≤ y
  pub under : (m : ℕ) → x ≤ m → m ≤ r → Under w l m
  pub last : r < y → Over w l (r + 1)

-- the last place under within lo and hi, found by halving
pub record Halved (w l : Quad) (lo hi r : ℕ) : Type 0 where
  pub low : lo ≤ r
  pub high : r < hi
  pub under : Under w l r
  pub last : Over w l (r + 1)

abbrev pub pick : Bool → Quad → Quad → Quad
pick true a b = a
pick false a b = b

-- what is done to a quadratic; none stays none where a number is added
abbrev pub raised : ℕ → ℕ → Quad → Quad
raised pen ch q = pick (eqb q.c none) q (record { a = q.a; z = q.z; c = q.c + pen; k = q.k + ch })

abbrev pub pushed : ℕ → ℕ → Quad → Quad
pushed w u q = pick (eqb q.c none) q (record { a = q.a + w; z = q.z + w * u; c = q.c + w * (u * u); k = q.k })

abbrev pub moved : ℕ → Quad → Quad
moved g q = record { a = q.a; z = q.z + q.a * g; c = q.c + (2 * (q.z * g) + q.a * (g * g)); k = q.k }

abbrev pub mirrored : ℕ → Quad → Quad
mirrored s q = record { a = q.a; z = q.a * s - q.z; c = q.a * (s * s) + q.c - 2 * (q.z * s); k = q.k }

-- 1 where the second has fewer changes, so that the first has to be cheaper to come first
abbrev pub late : ℕ → ℕ → ℕ
late i j = cond (ltb j i) 1 0

-- the cheaper one at v, of equal costs the one with fewer changes, the first where these are equal too
abbrev pub better : ℕ → Quad → Quad → Quad
better v p q = pick (leb (up p v + down q v + late p.k q.k) (up q v + down p v)) p q
