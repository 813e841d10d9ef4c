-- What a list has that was looked through at run time. Assumes nothing.
use Rattle.std.specs.Prelude.{◌≡◌, ℕ, ◌+◌, ◌-◌, ◌*◌, ◌%◌, ◌<◌, ◌≤◌, Bool, true, false, not, List, length, refl}
use Rattle.std.proofs.Common.{sym, inl, inr, ⊎_elim, mul-le-mul, arith}
use Rattle.quadratic.specs.Quad.{Quad, Fine, none, absent, count_limit, cost_limit}
use Rattle.quadratic.specs.Fine.{quad_eq}
use Rattle.curve.specs.Pieces.{piece, Built, Same, Apart, Copyable}
use Rattle.curve.specs.Lists.{closed, count_le, count_most_lem}
use Rattle.curve.specs.Lows.{costs}
use Rattle.curve.specs.Curve.{Curve, Limits, curve_wider, curve_copyable}
use Rattle.edges.specs.Edge.{Sound, Ready}

-- a list whose costs are none or below 2^53, with room for 3 changes more
abbrev pub Listed : List ℕ → ℕ → ℕ → ℕ → Type 0
Listed ws o L base = Curve 1048573 9007199254740992 base L ws o (costs base (piece ws o L))

pub record Valid (ws : List ℕ) (o L base : ℕ) : Type 0 where
  pub some : 0 < L
  pub few : L ≤ 1024
  pub limits : Limits count_limit cost_limit base L
  pub narrow : base + L ≤ 196608
  pub room : o + 4 * L ≤ length ws
  pub list : Listed ws o L base

-- the temporary lists and f share no word
pub record Separate (acc next work f L : ℕ) : Type 0 where
  pub f_acc : Apart f acc (4 * L)
  pub f_next : Apart f next (4 * L)
  pub f_work : Apart f work (4 * L)
  pub acc_next : Apart acc next (4 * L)
  pub acc_work : Apart acc work (4 * L)
  pub next_work : Apart next work (4 * L)

-- the first n pieces, looked through
abbrev pub Scanned : List ℕ → ℕ → ℕ → ℕ → ℕ → Type 0
Scanned ws o base n x = Built (λ (j : ℕ) (q : Quad). Fine 1048573 9007199254740992 q (base + j)) ws o n x

pub scanned_all : {ws : List ℕ} {o L base n : ℕ} → o + 4 * L ≤ length ws → Scanned ws o base n L → Listed ws o L base
scanned_all {ws} {o} {L} {base} {n} h b = record {
  held = record { formed = record { count = n; ends = b.ends; rising = b.rising }; room = omega (arith, count_le ws o n b.rising, b.ends) };
  at = λ j k. record { fine = closed b j k; is = refl };
}

pub same_words : (ws : List ℕ) (o m : ℕ) → Same ws ws o m
same_words ws o m = record { word = λ i h k. refl }

-- a test that said no
pub never : {A : Type 0} → ◌≡◌ {A = Bool} false true → A
never e = let z : ◌≡◌ {A = ℕ} 0 1 = cc in absurd (omega arith)

-- the products of numbers in these ranges
pub products : (a z c v k : ℕ) → (a + k ≤ 1048573) × ((z ≤ 549755813888) × (c ≤ 1152921504606846976)) → v < 262144 → (a * v ≤ count_limit * 262143) × ((v * v ≤ 262143 * 262143) × ((a * (v * v) ≤ count_limit * (262143 * 262143)) × (z * v ≤ 549755813888 * 262143)))
products a z c v k h g =
    let w : v ≤ 262143 = omega arith in
    let u : a ≤ count_limit = omega arith in
    let vv = mul-le-mul w w in
    (mul-le-mul u w, (vv, (mul-le-mul u vv, mul-le-mul h.1.0 w)))

-- a constant without changes that costs as much as none is none
pub absent_is : (q : Quad) (v : ℕ) → q.a ≡ 0 → q.z ≤ q.a * v + 65535 * q.a → q.c ≡ none → q.k ≡ 0 → q ≡ absent
absent_is q v e h c k = let u : q.z ≤ 0 * v + 65535 * 0 = rw e at h in quad_eq q absent e (omega arith) c k

pub passed : (b : Bool) → not b ≡ false → b ≡ true
passed true e = refl
passed false e = never (sym e)

-- ---- what the operations ask for
pub within : {ws : List ℕ} {o L base : ℕ} → Valid ws o L base → Limits 1048573 9007199254740992 base L
within v = record { readings = omega arith; cost = omega arith; low = v.limits.low; high = v.limits.high }

pub sound : {ws : List ℕ} {o L base : ℕ} → Valid ws o L base → Sound count_limit cost_limit base L ws o
sound v = curve_wider count_limit cost_limit (omega arith) (omega arith) v.list

pub copyable : {ws : List ℕ} {o L base : ℕ} → Valid ws o L base → (dst : ℕ) → Apart o dst (4 * L) → dst + 4 * L ≤ length ws → Copyable ws o dst L
copyable v dst a r =
    let n = count_most_lem v.list.held.formed in
    curve_copyable dst v.list (omega arith) (⊎_elim (λ h. inl (omega arith)) (λ h. inr (omega arith)) a)

pub ready : {ws : List ℕ} {acc next work f pen L base : ℕ} → Separate acc next work f L → Valid ws acc L base → Valid ws f L base → next + 4 * L ≤ length ws → work + 4 * L ≤ length ws → pen ≤ 1048576 → Ready acc next work f pen base L ws
ready {pen = pen} s a v n w p = record {
  hand = record {
    into = record { f_next = s.f_next; f_work = s.f_work; next_work = s.next_work; room_next = n; room_work = w };
    acc_next = s.acc_next;
    acc_work = s.acc_work;
    f_acc = s.f_acc;
    room_acc = a.room;
  };
  low = omega arith;
  some = v.some;
  limits = v.limits;
  so_far = sound a;
  from = curve_wider (count_limit - 1) (cost_limit - pen) (omega arith) (omega arith) v.list;
}

-- ---- products that do not wrap
pub squared : (x : ℕ) → (x % 65536) * (x % 65536) ≤ 65535 * 65535
squared x = let h : x % 65536 ≤ 65535 = omega arith in mul-le-mul h h

pub weighted : (w x : ℕ) → (w % 256) * ((x % 65536) * (x % 65536)) ≤ 255 * (65535 * 65535)
weighted w x = let h : w % 256 ≤ 255 = omega arith in mul-le-mul h (squared x)
