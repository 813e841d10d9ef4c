-- What a list means to the layer above: a function of the level, F, whose values are costs with their changes as one number: none, or a cost less than B; and
-- pieces of at most A readings and changes.
-- Each operation's `Made` gives the result's, and what it requires follows from its lists'. Assumes nothing.
use Rattle.std.specs.Prelude.{◌≡◌, refl, ◌⊎◌, Bool, true, false, List, ℕ, zero, suc, ◌+◌, ◌*◌, ◌-◌, ◌/◌, ◌%◌, ◌≤◌, ◌<◌, leb, eqb, length}
use Rattle.std.proofs.Common.{sym, ap, ◌∙◌, subst, inl, inr, ⊎_elim, mul-le-mul_right, arith, le-leb, eq-eqb}
use Rattle.std.proofs.lemmas.Bool.{lt-leb}
use Rattle.integers.specs.Rep.{le_or_lt}
use Rattle.integers.specs.Pairs.{unit, lex}
use Rattle.quadratic.specs.Quad.{Quad, up, down, value, none, no_value, absent, Small, Sized, Fine, pick, raised, pushed, moved, mirrored, late, better, count_limit, cost_limit}
use Rattle.quadratic.specs.Fine.{pick_n, Bounds, far, plus, square_most, fine_sized, fine_none, fine_flat, fine_wider, fine_raised, value_raised, fine_pushed, value_pushed, fine_moved, value_moved, mirror_sum, mirror_rest, fine_mirrored, value_mirrored, value_better, fine_better, value_most, value_absent, kinds, few}
use Rattle.curve.specs.declared.Two.{Two}
use Rattle.curve.specs.Pieces.{piece, none_only, Kept, Same, Apart, Made, Held, Lent, Copyable, Copied, shift_of, mirror_of, Turnable, Yields}
use Rattle.curve.specs.Lists.{same_built, kept_same, opened, count_most_lem, closed, copied_built, none_only_lem}
use Rattle.curve.specs.Lows.{costs, levelled, TwoLeast, lowest, prefix_of, lowest_new, lowest_old, lowest_among, prefix_new, prefix_old}

-- a piece that costs x at v
pub record Costs (A B v : ℕ) (q : Quad) (x : ℕ) : Type 0 where
  pub fine : Fine A B q v
  pub is : value q v ≡ x

-- none, or a cost less than B with at most A changes
abbrev pub Bounded : ℕ → ℕ → ℕ → Type 0
Bounded A B x = (x ≡ no_value) ⊎ ((x / unit < B) × (x % unit ≤ A))

pub record Curve (A B base L : ℕ) (ws : List ℕ) (o : ℕ) (F : ℕ → ℕ) : Type 0 where
  pub held : Held ws o L
  pub at : (j : ℕ) → j < L → Costs A B (base + j) (piece ws o L j) (F j)

-- the grid's places, and the bounds of the whole search
pub record Limits (A B base L : ℕ) : Type 0 where
  pub readings : A ≤ count_limit
  pub cost : B ≤ cost_limit
  pub low : 131072 ≤ base
  pub high : base + L ≤ 262144

bounds : {A B base L : ℕ} → Limits A B base L → (j : ℕ) → j < L → Bounds A B (base + j)
bounds l j h = record { readings = l.readings; cost = l.cost; place = omega (arith, l.high) }

-- ---- a list that is not written to
pub curve_same : {A B base L : ℕ} {ws ws' : List ℕ} {o : ℕ} {F : ℕ → ℕ} → length ws' ≡ length ws → (c : Curve A B base L ws o F) → Same ws ws' o (4 * c.held.formed.count) → Curve A B base L ws' o F
curve_same {A} {B} {base} {L} {ws} {ws'} {o} {F} e c s =
    let b = same_built s (omega arith) (opened c.held.formed) in
    record {
      held = record { formed = record { count = c.held.formed.count; ends = b.ends; rising = b.rising }; room = omega (arith, c.held.room) };
      at = λ j h. subst (λ (q : Quad). Costs A B (base + j) q (F j)) (sym (closed b j h)) (c.at j h);
    }

pub curve_kept : {A B base L : ℕ} {ws ws' : List ℕ} {dst len o : ℕ} {F : ℕ → ℕ} → Kept ws ws' dst len → (c : Curve A B base L ws o F) → (o + 4 * c.held.formed.count ≤ dst) ⊎ (dst + len ≤ o) → Curve A B base L ws' o F
curve_kept k c a = curve_same k.size c (kept_same (4 * c.held.formed.count) k a)

-- what a list costs, whatever its name
pub curve_costs : {A B base L : ℕ} {ws : List ℕ} {o : ℕ} {F : ℕ → ℕ} → Curve A B base L ws o F → Curve A B base L ws o (costs base (piece ws o L))
curve_costs c = record { held = c.held; at = λ j h. record { fine = (c.at j h).fine; is = refl } }

pub curve_as : {A B base L : ℕ} {ws : List ℕ} {o : ℕ} {F : ℕ → ℕ} (G : ℕ → ℕ) → ((j : ℕ) → j < L → F j ≡ G j) → Curve A B base L ws o F → Curve A B base L ws o G
curve_as G e c = record { held = c.held; at = λ j h. record { fine = (c.at j h).fine; is = (c.at j h).is ∙ e j h } }

pub curve_wider : {A B base L : ℕ} {ws : List ℕ} {o : ℕ} {F : ℕ → ℕ} (A' B' : ℕ) → A ≤ A' → B ≤ B' → Curve A B base L ws o F → Curve A' B' base L ws o F
curve_wider A' B' h g c = record { held = c.held; at = λ j k. record { fine = fine_wider A' B' h g (c.at j k).fine; is = (c.at j k).is } }

-- ---- what is required
pub curve_lent : {A B base L : ℕ} {ws : List ℕ} {o : ℕ} {F : ℕ → ℕ} (dst len : ℕ) (c : Curve A B base L ws o F) → (o + 4 * c.held.formed.count ≤ dst) ⊎ (dst + len ≤ o) → Lent ws o dst len L
curve_lent dst len c a = record { formed = c.held.formed; room = c.held.room; apart = a }

-- full lists that share no word
pub near : {A B base L : ℕ} {ws : List ℕ} {o : ℕ} {F : ℕ → ℕ} (dst : ℕ) (c : Curve A B base L ws o F) → Apart o dst (4 * L) → (o + 4 * c.held.formed.count ≤ dst) ⊎ (dst + 4 * L ≤ o)
near dst c = ⊎_elim (λ h. inl (omega (arith, count_most_lem c.held.formed))) (λ h. inr h)

-- it may be read while the full list at dst is written
pub curve_reads : {A B base L : ℕ} {ws : List ℕ} {o : ℕ} {F : ℕ → ℕ} (dst : ℕ) → Curve A B base L ws o F → Apart o dst (4 * L) → Lent ws o dst (4 * L) L
curve_reads {L = L} dst c a = curve_lent dst (4 * L) c (near dst c a)

module _ {A B base L : ℕ} (l : Limits A B base L) {ws : List ℕ} {o : ℕ} {F : ℕ → ℕ} (c : Curve A B base L ws o F) where
  pub curve_sized : (j : ℕ) → j < L → Sized (piece ws o L j)
  curve_sized j h = fine_sized (bounds l j h) (c.at j h).fine

  pub curve_whole : (j : ℕ) → j < L → Small (piece ws o L j) × (down (piece ws o L j) (base + j) ≤ up (piece ws o L j) (base + j))
  curve_whole j h = let s = curve_sized j h in (record { count = s.count; sum = s.sum; rest = omega (arith, s.rest); few = s.few }, (c.at j h).fine.whole)

  pub curve_fine : (j : ℕ) → j < L → Fine count_limit cost_limit (piece ws o L j) (base + j)
  curve_fine j h = fine_wider count_limit cost_limit l.readings l.cost (c.at j h).fine

  value_none : (j : ℕ) → j < L → piece ws o L j ≡ absent → F j ≡ no_value
  value_none j h e = sym (c.at j h).is ∙ subst (λ (q : Quad). value q (base + j) ≡ no_value) (sym e) (value_absent (base + j))

  -- each value is none, or a cost less than B
  pub curve_value : (j : ℕ) → j < L → Bounded A B (F j)
  curve_value j h = ⊎_elim
      (λ e. inl (value_none j h e))
      (λ e. let k = few (bounds l j h) (c.at j h).fine in inr (omega (arith, e.1, (c.at j h).fine.whole, (c.at j h).is), omega (arith, (c.at j h).fine.count, (c.at j h).is)))
      (kinds (bounds l j h) (c.at j h).fine)

  pub curve_most : (j : ℕ) → j < L → F j ≤ no_value
  curve_most j h = ⊎_elim (λ e. omega arith) (λ e. omega (arith, l.cost, e.0)) (curve_value j h)

  -- a piece whose constant is none is none
  none_there : (j : ℕ) → j < L → (piece ws o L j).c ≡ none → F j ≡ no_value
  none_there j h p = ⊎_elim
      (λ e. value_none j h e)
      (λ e. let z : eqb none none ≡ false = rw p at e.0 in let y : ◌≡◌ {A = ℕ} 0 1 = cc (eq-eqb none none refl) in absurd (omega arith))
      (kinds (bounds l j h) (c.at j h).fine)

  pub curve_none : none_only ws o L ≡ true → (j : ℕ) → j < L → F j ≡ no_value
  curve_none e j h = none_there j h (none_only_lem c.held (omega arith) e j h)

  pub curve_turnable : (j : ℕ) → j < L → Turnable (2 * base + (L - 1)) (piece ws o L j)
  curve_turnable j h =
      let e : base + j + (base + (L - 1 - j)) ≡ 2 * base + (L - 1) = omega arith in
      let w : 131070 ≤ base + (L - 1 - j) = omega (arith, l.low) in
      record { sized = curve_sized j h; sum = rw e at (mirror_sum (base + (L - 1 - j)) w (c.at j h).fine); rest = rw e at (mirror_rest (base + (L - 1 - j)) w (c.at j h).fine) }

-- where the first of two is none, the second is the better: none is above every cost
none_yields : {A B v : ℕ} {q : Quad} → Bounds A B v → Fine A B q v → better v absent q ≡ q
none_yields {v = v} {q = q} b f = ⊎_elim
    (λ e. subst (λ (p : Quad). better v absent p ≡ p) (sym e) (one (leb (up absent v + down absent v + late 0 0) (up absent v + down absent v)) absent))
    (λ e. ap (λ (t : Bool). pick t absent q) (lt-leb (up absent v + down q v + late 0 q.k) (up q v + down absent v) (omega (arith, e.1, b.cost))))
    (kinds b f)
  where
    one : (t : Bool) (p : Quad) → pick t p p ≡ p
    one true p = refl
    one false p = refl

-- ---- what is taken from g with pen and ch changes added stays within A and B
module _ {A B C D base L : ℕ} (pen ch : ℕ) (ha : D + ch ≤ A) (hb : C + pen ≤ B) (l : Limits A B base L) {ws : List ℕ} {g : ℕ} {G : ℕ → ℕ} (cg : Curve D C base L ws g G) where
  within : (j : ℕ) → j < L → Bounds D C (base + j)
  within j h = record { readings = omega (arith, l.readings); cost = omega (arith, l.cost); place = omega (arith, l.high) }

  fine_added : (j : ℕ) → j < L → Fine A B (raised pen ch (piece ws g L j)) (base + j)
  fine_added j h = fine_wider A B ha hb (fine_raised pen ch (within j h) (cg.at j h).fine)

  pub curve_raised : (j : ℕ) → j < L → Sized (raised pen ch (piece ws g L j))
  curve_raised j h = fine_sized (bounds l j h) (fine_added j h)

  pub curve_yields : {f : ℕ} {F : ℕ → ℕ} → Curve A B base L ws f F → (j : ℕ) → j < L → Yields (base + j) (piece ws f L j) (raised pen ch (piece ws g L j))
  curve_yields {f} {F} cf j h n = ⊎_elim
      (λ e. subst (λ (p : Quad). better (base + j) p (raised pen ch (piece ws g L j)) ≡ raised pen ch (piece ws g L j)) (sym e) (none_yields (bounds l j h) (fine_added j h)))
      (λ e. let z : eqb none none ≡ false = rw n at e.0 in let y : ◌≡◌ {A = ℕ} 0 1 = cc (eq-eqb none none refl) in absurd (omega arith))
      (kinds (bounds l j h) (cf.at j h).fine)

-- ---- what is made
made_curve : {A B base L : ℕ} {ws ws' : List ℕ} {dst : ℕ} {P : ℕ → Quad} (F : ℕ → ℕ) → dst + 4 * L ≤ length ws → Made P ws ws' dst L → ((j : ℕ) → j < L → Costs A B (base + j) (P j) (F j)) → Curve A B base L ws' dst F
made_curve {A} {B} {base} F r m f = record {
  held = record { formed = m.formed; room = omega (arith, m.kept.size, count_most_lem m.formed) };
  at = λ j h. subst (λ (q : Quad). Costs A B (base + j) q (F j)) (sym (m.is j h)) (f j h);
}

-- a value at each level
pub curve_flats : {A B base L : ℕ} (F : ℕ → ℕ) {ws ws' : List ℕ} {dst : ℕ} → ((j : ℕ) → j < L → Bounded A B (F j)) → dst + 4 * L ≤ length ws → Made (λ (j : ℕ). levelled (F j)) ws ws' dst L → Curve A B base L ws' dst F
curve_flats {A} {B} {base} F k r m = made_curve F r m (λ j h. record { fine = fine_level (F j) (base + j) (k j h); is = omega arith })
  where
    fine_level : (x v : ℕ) → Bounded A B x → Fine A B (levelled x) v
    fine_level x v = ⊎_elim (λ e. rw e (fine_none A B v)) (λ e. fine_flat A B v (x / unit) (x % unit) e.1 e.0)

-- one value everywhere
pub curve_flat : {A B base L x : ℕ} {ws ws' : List ℕ} {dst : ℕ} → Bounded A B x → dst + 4 * L ≤ length ws → Made (λ (j : ℕ). levelled x) ws ws' dst L → Curve A B base L ws' dst (λ (j : ℕ). x)
curve_flat {x = x} k = curve_flats (λ (j : ℕ). x) (λ j h. k)

abbrev pub less : ℕ → ℕ → ℕ
less x y = pick_n (leb x y) x y

pub curve_least : {A B C D base L : ℕ} {ws ws' : List ℕ} {f g dst : ℕ} {F G : ℕ → ℕ} (pen ch : ℕ) → D + ch ≤ A → C + pen ≤ B → Limits A B base L → Curve A B base L ws f F → Curve D C base L ws g G → dst + 4 * L ≤ length ws
    → Made (λ (j : ℕ). better (base + j) (piece ws f L j) (raised pen ch (piece ws g L j))) ws ws' dst L → Curve A B base L ws' dst (λ (j : ℕ). less (F j) (plus (lex pen ch) (G j)))
curve_least {A} {B} {C} {D} {base} {L} {ws} {ws'} {f} {g} {dst} {F} {G} pen ch ha hb l cf cg r m = made_curve (λ (j : ℕ). less (F j) (plus (lex pen ch) (G j))) r m each
  where
    each : (j : ℕ) → j < L → Costs A B (base + j) (better (base + j) (piece ws f L j) (raised pen ch (piece ws g L j))) (less (F j) (plus (lex pen ch) (G j)))
    each j h =
        let q = fine_added pen ch ha hb l cg j h in
        record { fine = fine_better (cf.at j h).fine q; is = value_better (bounds l j h) (cf.at j h).fine q ∙ rw (value_raised pen ch (within pen ch ha hb l cg j h) (cg.at j h).fine, (cf.at j h).is, (cg.at j h).is) refl }

pub curve_loss : {A B base L : ℕ} {ws ws' : List ℕ} {f dst : ℕ} {F : ℕ → ℕ} (w u : ℕ) → ((j : ℕ) → j < L → far u (base + j) ≤ 65535) → Limits A B base L → Curve A B base L ws f F → dst + 4 * L ≤ length ws
    → Made (λ (j : ℕ). pushed w u (piece ws f L j)) ws ws' dst L → Curve (A + w) (B + w * square_most) base L ws' dst (λ (j : ℕ). plus (unit * (w * (far u (base + j) * far u (base + j)))) (F j))
curve_loss {base = base} {F = F} w u d l c r m = made_curve (λ (j : ℕ). plus (unit * (w * (far u (base + j) * far u (base + j)))) (F j)) r m
    (λ j h. record { fine = fine_pushed w u (d j h) (bounds l j h) (c.at j h).fine; is = value_pushed w u (bounds l j h) (c.at j h).fine ∙ ap (plus (unit * (w * (far u (base + j) * far u (base + j))))) (c.at j h).is })

pub curve_shift : {A B base L : ℕ} {ws ws' : List ℕ} {f dst : ℕ} {F : ℕ → ℕ} (g : ℕ) → Curve A B base L ws f F → dst + 4 * L ≤ length ws
    → Made (shift_of g (piece ws f L)) ws ws' dst L → Curve A B base L ws' dst (λ (j : ℕ). pick_n (leb g j) (F (j - g)) no_value)
curve_shift {A} {B} {base} {L} {ws} {ws'} {f} {dst} {F} g c r m = made_curve (λ (j : ℕ). pick_n (leb g j) (F (j - g)) no_value) r m
    (λ j h. ⊎_elim
    (λ k. rw (le-leb g j k) (let e : base + (j - g) + g ≡ base + j = omega arith in subst (λ (v : ℕ). Costs A B v (moved g (piece ws f L (j - g))) (F (j - g))) e (record { fine = fine_moved g (c.at (j - g) (omega arith)).fine; is = value_moved g (c.at (j - g) (omega arith)).fine ∙ (c.at (j - g) (omega arith)).is })))
    (λ k. rw (lt-leb g j k) (record { fine = fine_none A B (base + j); is = omega arith }))
    (le_or_lt g j))

pub curve_mirror : {A B base L : ℕ} {ws ws' : List ℕ} {f dst : ℕ} {F : ℕ → ℕ} → Limits A B base L → Curve A B base L ws f F → dst + 4 * L ≤ length ws
    → Made (mirror_of (2 * base + (L - 1)) L (piece ws f L)) ws ws' dst L → Curve A B base L ws' dst (λ (j : ℕ). F (L - 1 - j))
curve_mirror {A} {B} {base} {L} {ws} {ws'} {f} {dst} {F} l c r m = made_curve (λ (j : ℕ). F (L - 1 - j)) r m
    (λ j h.
    let e : base + (L - 1 - j) + (base + j) ≡ 2 * base + (L - 1) = omega arith in
    let w : 131070 ≤ base + j = omega (arith, l.low) in
    let k = c.at (L - 1 - j) (omega arith) in
    subst (λ (s : ℕ). Costs A B (base + j) (mirrored s (piece ws f L (L - 1 - j))) (F (L - 1 - j))) e (record { fine = fine_mirrored (base + j) w k.fine; is = value_mirrored (base + j) w k.fine ∙ k.is }))

pub lowest_same : (G H : ℕ → ℕ) (j : ℕ) → ((i : ℕ) → i < j → G i ≡ H i) → lowest G j ≡ lowest H j
unfolding lowest
lowest_same G H zero e = refl
lowest_same G H (suc j) e = rw (e j (omega arith), lowest_same G H j (λ i h. e i (omega arith)))

-- the least so far
pub curve_prefix : {A B base L : ℕ} {ws ws' : List ℕ} {f dst : ℕ} {F : ℕ → ℕ} → Limits A B base L → Curve A B base L ws f F → dst + 4 * L ≤ length ws
    → Made (prefix_of base (piece ws f L)) ws ws' dst L → Curve A B base L ws' dst (λ (j : ℕ). lowest F (j + 1))
curve_prefix {A} {B} {base} {L} {ws} {ws'} {f} {dst} {F} l c r m = made_curve (λ (j : ℕ). lowest F (j + 1)) r m each
  where
    G : ℕ → ℕ
    G = costs base (piece ws f L)

    size : (j : ℕ) → j < L → Fine A B (levelled (G j)) (base + j)
    size j h = ⊎_elim
        (λ e. subst (λ (q : Quad). Fine A B (levelled (value q (base + j))) (base + j)) (sym e) (rw (value_absent (base + j)) (fine_none A B (base + j))))
        (λ e. let k = few (bounds l j h) (c.at j h).fine in fine_flat A B (base + j) (G j / unit) (G j % unit) (omega (arith, (c.at j h).fine.count)) (omega (arith, e.1, (c.at j h).fine.whole)))
        (kinds (bounds l j h) (c.at j h).fine)

    any : (b v x : ℕ) → Fine A B (levelled b) v → Fine A B (levelled b) x
    any b v x k = record { count = k.count; left = omega arith; right = omega arith; whole = omega arith; size = ⊎_elim (λ p. inl p) (λ p. inr (omega arith)) k.size }

    same : (j : ℕ) → j < L → lowest G (j + 1) ≡ lowest F (j + 1)
    same j h = lowest_same G F (j + 1) (λ i k. (c.at i (omega arith)).is)

    each : (j : ℕ) → j < L → Costs A B (base + j) (prefix_of base (piece ws f L) j) (lowest F (j + 1))
    each j h = ⊎_elim
        (λ k. rw (prefix_old base (piece ws f L) j (lowest G j) refl k) (record {
          fine = ⊎_elim
              (λ t. absurd (omega (arith, t, value_most (bounds l j h) (c.at j h).fine)))
              (λ a. rw a.is (any (G a.at) (base + a.at) (base + j) (size a.at (omega (arith, a.inside)))))
              (lowest_among G j);
          is = let z : value (levelled (lowest G j)) (base + j) ≡ lowest G j = omega arith in z ∙ sym (lowest_old G j k) ∙ same j h;
        }))
        (λ k. rw (prefix_new base (piece ws f L) j k) (record { fine = (c.at j h).fine; is = sym (lowest_new G j k) ∙ same j h }))
        (le_or_lt (lowest G j) (G j))

-- the two least
pub curve_two : {A B base L : ℕ} {ws : List ℕ} {o : ℕ} {F : ℕ → ℕ} {r : Two} → Curve A B base L ws o F → TwoLeast (costs base (piece ws o L)) L r → TwoLeast F L r
curve_two c t = record {
  least = λ m h. omega (arith, t.least m h, (c.at m h).is);
  first = λ m h. ⊎_elim (λ k. absurd (omega (arith, k.1))) (λ k. omega (arith, t.first m h, (c.at m (omega (arith, k.0))).is)) t.is;
  is = ⊎_elim (λ k. inl k) (λ k. inr (k.0, k.1 ∙ (c.at _ k.0).is)) t.is;
  others = λ m h n. omega (arith, t.others m h n, (c.at m h).is);
  second = ⊎_elim (λ k. inl k) (λ b. inr (record { at = b.at; inside = b.inside; other = b.other; is = b.is ∙ (c.at b.at b.inside).is })) t.second;
  changes = t.changes;
  second_changes = t.second_changes;
}

-- lists side by side, by their numbers, share no word
pub slots_apart : (len i k : ℕ) → (i ≡ k → ⊥) → Apart (i * len) (k * len) len
slots_apart len i k n = ⊎_elim (λ h. inr (above i k h)) (λ h. inl (above k i h)) (split i k n)
  where
    split : (i k : ℕ) → (i ≡ k → ⊥) → (k < i) ⊎ (i < k)
    split i k n = ⊎_elim (λ h. inr (omega arith)) (λ h. inl h) (le_or_lt i k)

    above : (i k : ℕ) → k < i → k * len + len ≤ i * len
    above i k h = omega (arith, mul-le-mul_right len h)

-- a copy may be made where there is room for the pieces that exist
pub curve_copyable : {A B base L : ℕ} {ws : List ℕ} {o : ℕ} {F : ℕ → ℕ} (dst : ℕ) (c : Curve A B base L ws o F) → dst + 4 * c.held.formed.count ≤ length ws
    → (o + 4 * c.held.formed.count ≤ dst) ⊎ (dst + 4 * c.held.formed.count ≤ o) → Copyable ws o dst L
curve_copyable dst c r a = record { formed = c.held.formed; room = c.held.room; into = r; apart = a }

-- a copy, of as many pieces
pub copied_curve : {A B base L : ℕ} {ws ws' : List ℕ} {o dst r : ℕ} {F : ℕ → ℕ} → dst + 4 * r ≤ length ws → Copied ws ws' o dst L r → Curve A B base L ws o F → Curve A B base L ws' dst F
copied_curve {A} {B} {base} {L} {ws} {ws'} {o} {dst} {r} {F} h m c =
    let b = copied_built c.held.formed m in
    record {
      held = record { formed = record { count = r; ends = b.ends; rising = b.rising }; room = omega (arith, m.kept.size) };
      at = λ j k. subst (λ (q : Quad). Costs A B (base + j) q (F j)) (sym (closed b j k)) (c.at j k);
    }
