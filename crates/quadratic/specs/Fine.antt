-- What is in force keeps in range, whatever is done to it, and what its value becomes. Assumes nothing.
use Rattle.std.specs.Prelude.{◌≡◌, refl, ◌⊎◌, Bool, true, false, cond, ℕ, ◌+◌, ◌*◌, ◌-◌, ◌≤◌, ◌<◌, eqb, leb, ltb, ℤ, pos, negsuc, nat_abs, ◌+ℤ◌, ◌-ℤ◌}
use Rattle.std.proofs.Common.{sym, ap, ◌∙◌, subst, inl, inr, ⊎_elim, mul-le-mul, mul-le-mul_left, arith, ne_eqb, le-leb, lt-ltb, le-ltb}
use Rattle.std.proofs.lemmas.Bool.{lt-leb}
use Rattle.integers.specs.Rep.{le_or_lt, iz, nz, ◌⊕◌, ◌⊖◌, eq_n, above, below}
use Rattle.integers.specs.Pairs.{unit, lex}
use Rattle.quadratic.specs.Quad.{Quad, up, down, cost, value, none, no_value, flat, absent, Sized, Fine, pick, raised, pushed, moved, mirrored, late, better, count_limit, cost_limit}

mk : ℕ → ℕ → ℕ → ℕ → Quad
mk a z c k = record { a = a; z = z; c = c; k = k }

pub quad_eq : (p r : Quad) → p.a ≡ r.a → p.z ≡ r.z → p.c ≡ r.c → p.k ≡ r.k → p ≡ r
unfolding mk
quad_eq p r ea ez ec ek =
    ap (λ (x : ℕ). mk x p.z p.c p.k) ea ∙ ap (λ (x : ℕ). mk r.a x p.c p.k) ez ∙ ap (λ (x : ℕ). mk r.a r.z x p.k) ec ∙ ap (λ (x : ℕ). mk r.a r.z r.c x) ek

pub prod≤ : (a b m n : ℕ) → a ≤ m → b ≤ n → a * b ≤ m * n
prod≤ a b m n = mul-le-mul

-- the bounds of the whole search
pub record Bounds (A B v : ℕ) : Type 0 where
  pub readings : A ≤ count_limit
  pub cost : B ≤ cost_limit
  pub place : v < 262144

abbrev pub far : ℕ → ℕ → ℕ
far u v = (u - v) + (v - u)

-- a value with another added; none with a number added is none
abbrev pub pick_n : Bool → ℕ → ℕ → ℕ
pick_n true a b = a
pick_n false a b = b

abbrev pub plus : ℕ → ℕ → ℕ
plus k x = pick_n (eqb x no_value) x (x + k)

module _ {A B v : ℕ} (b : Bounds A B v) {q : Quad} (f : Fine A B q v) where
  av : q.a * v ≤ count_limit * 262143
  av = prod≤ q.a v count_limit 262143 (omega (arith, f.count, b.readings)) (omega (arith, b.place))

  avv : q.a * (v * v) ≤ count_limit * (262143 * 262143)
  avv = prod≤ q.a (v * v) count_limit (262143 * 262143) (omega (arith, f.count, b.readings)) (prod≤ v v 262143 262143 (omega (arith, b.place)) (omega (arith, b.place)))

  pub fine_sized : Sized q
  fine_sized = record {
    count = omega (arith, f.count, b.readings);
    sum = omega (arith, f.right, av, f.count, b.readings);
    rest = ⊎_elim (λ p. omega (arith, ap (λ (x : Quad). x.c) p)) (λ p. omega (arith, p, avv, av, mul-le-mul_left v f.right, b.cost)) f.size;
    few = omega (arith, f.count, b.readings);
  }

  less_none : up q v < down q v + B → q.c < none
  less_none p = omega (arith, p, avv, av, mul-le-mul_left v f.right, b.cost)

  -- none, or a number
  pub kinds : (q ≡ absent) ⊎ ((eqb q.c none ≡ false) × (up q v < down q v + B))
  kinds = ⊎_elim
      (λ p. inl p)
      (λ p. inr (ne_eqb q.c none (λ e. let h = less_none p in omega arith), p))
      f.size

  -- the number of changes leaves the order of pairs
  pub few : q.k < unit
  few = omega (arith, f.count, b.readings)

  not_none : up q v < down q v + B → eqb (value q v) no_value ≡ false
  not_none p = ne_eqb (value q v) no_value (λ e. omega (arith, p, b.cost, few))

-- what is not there
pub value_absent : (v : ℕ) → value absent v ≡ no_value
value_absent v = omega arith

pub value_most : {A B v : ℕ} {q : Quad} → Bounds A B v → Fine A B q v → value q v ≤ no_value
value_most {v = v} b f = ⊎_elim (λ e. subst (λ (p : Quad). value p v ≤ no_value) (sym e) (omega arith)) (λ e. omega (arith, e.1, b.cost, few b f)) (kinds b f)

pub fine_none : (A B v : ℕ) → Fine A B absent v
fine_none A B v = record { count = omega arith; left = omega arith; right = omega arith; whole = omega arith; size = inl refl }

pub fine_flat : (A B v x k : ℕ) → k ≤ A → x < B → Fine A B (flat x k) v
fine_flat A B v x k g h = record { count = omega arith; left = omega arith; right = omega arith; whole = omega arith; size = inr (omega arith) }

pub fine_wider : {A B v : ℕ} {q : Quad} (A' B' : ℕ) → A ≤ A' → B ≤ B' → Fine A B q v → Fine A' B' q v
fine_wider A' B' h g f = record { count = omega (arith, f.count); left = f.left; right = f.right; whole = f.whole; size = ⊎_elim (λ p. inl p) (λ p. inr (omega arith)) f.size }

-- ---- a number added
pub fine_raised : {A B v : ℕ} {q : Quad} (pen ch : ℕ) → Bounds A B v → Fine A B q v → Fine (A + ch) (B + pen) (raised pen ch q) v
fine_raised {A} {B} {v} {q} pen ch b f = ⊎_elim
    (λ e. subst (λ (p : Quad). Fine (A + ch) (B + pen) (raised pen ch p) v) (sym e) (fine_none (A + ch) (B + pen) v))
    (λ e. rw e.0 (let l = e.1 in record { count = omega (arith, f.count); left = f.left; right = f.right; whole = omega (arith, f.whole); size = inr (omega arith) }))
    (kinds b f)

pub value_raised : {A B v : ℕ} {q : Quad} (pen ch : ℕ) → Bounds A B v → Fine A B q v → value (raised pen ch q) v ≡ plus (lex pen ch) (value q v)
value_raised {A} {B} {v} {q} pen ch b f = ⊎_elim
    (λ e. subst (λ (p : Quad). value (raised pen ch p) v ≡ plus (lex pen ch) (value p v)) (sym e) flat_one)
    (λ e. rw (e.0, not_none b f e.1) (omega (arith, f.whole)))
    (kinds b f)
  where
    flat_one : value (raised pen ch absent) v ≡ plus (lex pen ch) (value absent v)
    flat_one = rw (value_absent v)

-- ---- a reading added
pub square : (u v : ℕ) → far u v * far u v + 2 * (u * v) ≡ u * u + v * v
square u v = ⊎_elim
    (λ h. let e : u + (v - u) ≡ v = omega arith in subst (λ w. far u w * far u w + 2 * (u * w) ≡ u * u + w * w) e (lower u (v - u)))
    (λ h. let e : v + (u - v) ≡ u = omega arith in subst (λ w. far w v * far w v + 2 * (w * v) ≡ w * w + v * v) e (upper v (u - v)))
    (le_or_lt u v)
  where
    lower : (u i : ℕ) → far u (u + i) * far u (u + i) + 2 * (u * (u + i)) ≡ u * u + (u + i) * (u + i)
    lower u i = let d : far u (u + i) ≡ i = omega arith in rw d (omega arith)

    upper : (v i : ℕ) → far (v + i) v * far (v + i) v + 2 * ((v + i) * v) ≡ (v + i) * (v + i) + v * v
    upper v i = let d : far (v + i) v ≡ i = omega arith in rw d (omega arith)

-- the greatest square of a distance of 65535
abbrev pub square_most : ℕ
square_most = 4294836225

pub fine_pushed : {A B v : ℕ} {q : Quad} (w u : ℕ) → far u v ≤ 65535 → Bounds A B v → Fine A B q v → Fine (A + w) (B + w * square_most) (pushed w u q) v
fine_pushed {A} {B} {v} {q} w u h b f = ⊎_elim
    (λ e. subst (λ (p : Quad). Fine (A + w) (B + w * square_most) (pushed w u p) v) (sym e) (fine_none (A + w) (B + w * square_most) v))
    (λ e. rw e.0 (record {
      count = omega (arith, f.count);
      left = omega (arith, f.left, mul-le-mul_left w (near h).0);
      right = omega (arith, f.right, mul-le-mul_left w (near h).1);
      whole = omega (arith, f.whole, ap (λ (x : ℕ). w * x) (square u v));
      size = inr (omega (arith, e.1, ap (λ (x : ℕ). w * x) (square u v), mul-le-mul_left w far²));
    }))
    (kinds b f)
  where
    near : far u v ≤ 65535 → (v ≤ u + 65535) × (u ≤ v + 65535)
    near g = (omega arith, omega arith)

    far² : far u v * far u v ≤ 65535 * 65535
    far² = mul-le-mul h h

pub value_pushed : {A B v : ℕ} {q : Quad} (w u : ℕ) → Bounds A B v → Fine A B q v → value (pushed w u q) v ≡ plus (unit * (w * (far u v * far u v))) (value q v)
value_pushed {A} {B} {v} {q} w u b f = ⊎_elim
    (λ e. subst (λ (p : Quad). value (pushed w u p) v ≡ plus (unit * (w * (far u v * far u v))) (value p v)) (sym e) flat_one)
    (λ e. rw (e.0, not_none b f e.1) (omega (arith, f.whole, ap (λ (x : ℕ). w * x) (square u v))))
    (kinds b f)
  where
    flat_one : value (pushed w u absent) v ≡ plus (unit * (w * (far u v * far u v))) (value absent v)
    flat_one = rw (value_absent v)

-- ---- levels moved
moved_is : (a z c g v : ℕ) → a * ((v + g) * (v + g)) + (c + (2 * (z * g) + a * (g * g))) + 2 * (z * v) ≡ a * (v * v) + c + 2 * ((z + a * g) * (v + g))
moved_is a z c g v = omega arith

pub fine_moved : {A B v : ℕ} {q : Quad} (g : ℕ) → Fine A B q v → Fine A B (moved g q) (v + g)
fine_moved {A} {B} {v} {q} g f =
    let m = moved_is q.a q.z q.c g v in
    record {
      count = f.count;
      left = omega (arith, f.left);
      right = omega (arith, f.right);
      whole = omega (arith, f.whole);
      size = ⊎_elim (λ p. inl (ap (moved g) p ∙ quad_eq (moved g absent) absent (omega arith) (omega arith) (omega arith) refl)) (λ p. inr (omega arith)) f.size;
    }

pub value_moved : {A B v : ℕ} {q : Quad} (g : ℕ) → Fine A B q v → value (moved g q) (v + g) ≡ value q v
value_moved {A} {B} {v} {q} g f = omega (arith, f.whole, moved_is q.a q.z q.c g v)

-- ---- levels mirrored: v and w are each other's
module _ {A B v : ℕ} {q : Quad} (w : ℕ) (h : 131070 ≤ w) (f : Fine A B q v) where
  pub mirror_sum : q.z ≤ q.a * (v + w)
  mirror_sum = omega (arith, f.right, mul-le-mul_left q.a h)

  pub mirror_rest : 2 * (q.z * (v + w)) ≤ q.a * ((v + w) * (v + w)) + q.c
  mirror_rest = omega (arith, f.whole, mul-le-mul_left w f.right, mul-le-mul_left (q.a * w) h)

  mirrored_is : up (mirrored (v + w) q) w + down q v ≡ up q v + down (mirrored (v + w) q) w
  mirrored_is = turn q.a q.z q.c (mirrored (v + w) q).z (mirrored (v + w) q).c (omega (arith, mirror_sum)) (omega (arith, mirror_rest))
    where
      turn : (a z c Z C : ℕ) → Z + z ≡ a * (v + w) → C + 2 * (z * (v + w)) ≡ a * ((v + w) * (v + w)) + c → a * (w * w) + C + 2 * (z * v) ≡ a * (v * v) + c + 2 * (Z * w)
      turn a z c Z C e g = omega (arith, ap (λ (t : ℕ). t * w) e)

  pub fine_mirrored : Fine A B (mirrored (v + w) q) w
  fine_mirrored =
      let m = mirrored_is in
      record {
        count = f.count;
        left = omega (arith, f.right);
        right = omega (arith, f.left);
        whole = omega (arith, f.whole);
        size = ⊎_elim (λ p. inl (ap (mirrored (v + w)) p ∙ quad_eq (mirrored (v + w) absent) absent (omega arith) (omega arith) (omega arith) refl)) (λ p. inr (omega arith)) f.size;
      }

  pub value_mirrored : value (mirrored (v + w) q) w ≡ value q v
  value_mirrored = omega (arith, f.whole, mirrored_is)

-- ---- the better of two

pub late_most : (i j : ℕ) → late i j ≤ 1
late_most i j = go (ltb j i)
  where
    go : (b : Bool) → cond b 1 0 ≤ 1
    go true = omega arith
    go false = omega arith

-- a pair is at most another exactly where its cost, with one more if its changes are more, is
pub late_is : (x i y j : ℕ) → i < unit → j < unit → (x + late i j ≤ y → lex x i ≤ lex y j) × (y < x + late i j → lex y j < lex x i)
late_is x i y j hi hj = ⊎_elim
    (λ h. rw (le-ltb j i h) (λ p. omega arith, λ p. omega arith))
    (λ h. rw (lt-ltb j i h) (λ p. omega arith, λ p. omega arith))
    (le_or_lt i j)

pub value_better : {A B v : ℕ} {p q : Quad} → Bounds A B v → Fine A B p v → Fine A B q v → value (better v p q) v ≡ pick_n (leb (value p v) (value q v)) (value p v) (value q v)
value_better {v = v} {p = p} {q = q} b f g = ⊎_elim
    (λ h. rw (le-leb (up p v + down q v + late p.k q.k) (up q v + down p v) h, le-leb (value p v) (value q v) (order.0 (omega (arith, f.whole, g.whole)))))
    (λ h. rw (lt-leb (up p v + down q v + late p.k q.k) (up q v + down p v) h, lt-leb (value p v) (value q v) (order.1 (omega (arith, f.whole, g.whole)))))
    (le_or_lt (up p v + down q v + late p.k q.k) (up q v + down p v))
  where
    order : (cost p v + late p.k q.k ≤ cost q v → value p v ≤ value q v) × (cost q v < cost p v + late p.k q.k → value q v < value p v)
    order = late_is (cost p v) p.k (cost q v) q.k (few b f) (few b g)

pub fine_better : {A B v : ℕ} {p q : Quad} → Fine A B p v → Fine A B q v → Fine A B (better v p q) v
fine_better {A} {B} {v} {p} {q} f g = chosen (leb (up p v + down q v + late p.k q.k) (up q v + down p v))
  where
    chosen : (b : Bool) → Fine A B (pick b p q) v
    chosen true = f
    chosen false = g

-- places are as far apart as the signed levels
pub far_signed : (x m : ℤ) (u v : ℕ) → pos u ≡ x +ℤ pos 163840 → pos v ≡ m +ℤ pos 163840 → nat_abs (x -ℤ m) ≡ far u v
far_signed x m u v ex em =
    let a = eq_n (nz u) (iz x ⊕ nz 163840) ex in
    let b = eq_n (nz v) (iz m ⊕ nz 163840) em in
    size (x -ℤ m) u v (omega (arith, (iz x ⊖ iz m).is))
  where
    size : (z : ℤ) (u v : ℕ) → u + below z ≡ above z + v → nat_abs z ≡ far u v
    size (pos a) u v e = omega arith
    size (negsuc a) u v e = omega arith
