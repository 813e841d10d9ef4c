-- What the stores of the functions come to. Assumes nothing.
use mathlib.Core.Path.{◌≡◌, refl, sym, ap, ◌∙◌, subst}
use mathlib.Core.Logic.{◌⊎◌, inl, inr, ⊎_elim}
use mathlib.Core.List.{List, ◌++◌}
use Prim.Native.Nat.{ℕ, ◌+◌, ◌*◌, ◌-◌, ◌≤◌, ◌<◌, min, max}
use native.Mathlib.Omega.{arith}
use lib.ListN.{length, get_or, set, take, drop, length-set, length-drop, get_or-append}
use lib.Seq.{paste, get_or-set_same, get_or-set_other, get_or-take, get_or-drop, get_or-append-add, length-take-le, length-paste, length_paste_head, ext_get_or}
use Rattle.integers.specs.Rep.{le_or_lt}
use mathlib.Core.Bool.{Bool, true, false}
use lib.Dec.{eqb, leb}
use borrow.Author.Tests.{le-leb, lt-leb}
use Rattle.quadratic.specs.Fine.{quad_eq}
use Rattle.quadratic.specs.declared.Packed.{Packed}
use Rattle.quadratic.specs.Quad.{Quad, quad, Small, Sized, pick, better, raised, none, flat, absent, moved}
use Rattle.curve.specs.Pieces.{end_of, start_of, quad_at, piece, Formed, Built, Is, Kept, Same, Stored, Appended, Emits, Lent, shift_of, Yields}
use Rattle.curve.specs.Lists.{last_or, start_next, start_zero, count_le, end_lt, piece_at, same_quad, built_put, built_longer, kept_same, kept_refl, kept_then, kept_wider, kept_lent, same_end, opened, count_same, emits_none, emits_append}

-- ---- the less and the greater of two numbers are among them
pub min_is : (r e h : ℕ) → r ≡ min e h → ((r ≤ e) × (r ≤ h)) × ((r ≡ e) ⊎ (r ≡ h))
min_is r e h q = ((omega arith, omega arith), ⊎_elim (λ g. inl (omega arith)) (λ g. inr (omega arith)) (le_or_lt e h))

pub max_is : (r e h : ℕ) → r ≡ max e h → ((e ≤ r) × (h ≤ r)) × ((r ≡ e) ⊎ (r ≡ h))
max_is r e h q = ((omega arith, omega arith), ⊎_elim (λ g. inr (omega arith)) (λ g. inl (omega arith)) (le_or_lt e h))

pub set_kept : (ws : List ℕ) (i v : ℕ) → Kept ws (set ws i v) i 1
set_kept ws i v = record { size = simp length-set; before = λ j h. get_or-set_other ws i j v 0 (λ e. omega arith); after = λ j h. get_or-set_other ws i j v 0 (λ e. omega arith) }

module _ (ws : List ℕ) (at : ℕ) (end : ℕ) (q : Packed) (h : at + 4 ≤ length ws) where
  w1 : List ℕ
  w1 = set ws at end

  w2 : List ℕ
  w2 = set (set ws at end) (at + 1) q.w

  w3 : List ℕ
  w3 = set (set (set ws at end) (at + 1) q.w) (at + 2) q.z

  put4 : List ℕ
  put4 = set (set (set (set ws at end) (at + 1) q.w) (at + 2) q.z) (at + 3) q.c

  other : (l : List ℕ) (i j v : ℕ) → (j ≡ i → ⊥) → get_or (set l i v) j 0 ≡ get_or l j 0
  other l i j v ne = get_or-set_other l i j v 0 ne

  ea : get_or (set (set (set (set ws at end) (at + 1) q.w) (at + 2) q.z) (at + 3) q.c) (at + 1) 0 ≡ q.w
  unfolding w1 w2 w3
  ea = other w3 (at + 3) (at + 1) q.c (λ e. omega arith) ∙ other w2 (at + 2) (at + 1) q.z (λ e. omega arith) ∙ get_or-set_same w1 (at + 1) q.w 0 (simp length-set (omega arith))

  ez : get_or (set (set (set (set ws at end) (at + 1) q.w) (at + 2) q.z) (at + 3) q.c) (at + 2) 0 ≡ q.z
  unfolding w1 w2 w3
  ez = other w3 (at + 3) (at + 2) q.c (λ e. omega arith) ∙ get_or-set_same w2 (at + 2) q.z 0 (simp length-set (omega arith))

  ec : get_or (set (set (set (set ws at end) (at + 1) q.w) (at + 2) q.z) (at + 3) q.c) (at + 3) 0 ≡ q.c
  unfolding w1 w2 w3
  ec = get_or-set_same w3 (at + 3) q.c 0 (simp length-set (omega arith))

  ee : get_or (set (set (set (set ws at end) (at + 1) q.w) (at + 2) q.z) (at + 3) q.c) at 0 ≡ end
  unfolding w1 w2 w3
  ee = other w3 (at + 3) at q.c (λ e. omega arith) ∙ other w2 (at + 2) at q.z (λ e. omega arith) ∙ other w1 (at + 1) at q.w (λ e. omega arith) ∙ get_or-set_same ws at end 0 (omega arith)

  pub stored : Stored ws (set (set (set (set ws at end) (at + 1) q.w) (at + 2) q.z) (at + 3) q.c) at end (quad q)
  unfolding w1 w2 w3
  stored = record {
    kept = kept_then (kept_then (kept_then (kept_wider at 4 (set_kept ws at end) (omega arith) (omega arith)) (set_kept w1 (at + 1) q.w) (omega arith) (omega arith)) (set_kept w2 (at + 2) q.z) (omega arith) (omega arith)) (set_kept w3 (at + 3) q.c) (omega arith) (omega arith);
    last = ee;
    quad = rw (ea, ez, ec);
  }

-- a constant as code keeps it
pub flat_packed : (c k : ℕ) → quad (record { w = 4294967296 * k; z = 0; c = c }) ≡ flat c k
flat_packed c k = quad_eq (quad (record { w = 4294967296 * k; z = 0; c = c })) (flat c k) (omega arith) refl refl (omega arith)

-- ---- append
pub appended_new : (ws ws' : List ℕ) (dst n end : ℕ) (q : Quad) → Stored ws ws' (dst + 4 * n) end q → Appended ws ws' dst n end q (n + 1)
appended_new ws ws' dst n end q s = record {
  count = omega arith;
  grows = omega arith;
  kept = kept_wider dst (4 * (n + 1)) s.kept (omega arith) (omega arith);
  built = λ F x g f b. built_put ws' end b (kept_same (4 * n) s.kept (inl (omega arith))) s.last g (λ j u v. s.quad ∙ f j u v);
}

pub appended_longer : (ws : List ℕ) (dst m end : ℕ) (q : Quad) → dst + 4 * (m + 2) ≤ length ws → quad_at ws (dst + 4 * m) ≡ q → Appended ws (set ws (dst + 4 * m) end) dst (m + 1) end q (m + 1)
appended_longer ws dst m end q l e = record {
  count = omega arith;
  grows = omega arith;
  kept = kept_wider dst (4 * (m + 1)) (set_kept ws (dst + 4 * m) end) (omega arith) (omega arith);
  built = λ F x g f b. built_longer (set ws (dst + 4 * m) end) m end b (kept_same (4 * m) (set_kept ws (dst + 4 * m) end) (inl (omega arith)))
      (get_or-set_same ws (dst + 4 * m) end 0 (omega arith)) g
      (words (dst + 4 * m))
      (λ j u v. e ∙ f j u v);
}
  where
    words : (i : ℕ) → quad_at (set ws i end) i ≡ quad_at ws i
    words i = rw (get_or-set_other ws i (i + 1) end 0 (λ e. omega arith), get_or-set_other ws i (i + 2) end 0 (λ e. omega arith), get_or-set_other ws i (i + 3) end 0 (λ e. omega arith))

pub appended_back : (ws : List ℕ) (dst n end : ℕ) (q : Quad) → 0 < n → dst + 4 * (n + 1) ≤ length ws → quad_at ws (dst + 4 * (n - 1)) ≡ q → Appended ws (set ws (dst + 4 * (n - 1)) end) dst n end q n
appended_back ws dst n end q p l e =
    let s : n - 1 + 1 ≡ n = omega arith in
    subst (λ (k : ℕ). Appended ws (set ws (dst + 4 * (n - 1)) end) dst k end q k) s (appended_longer ws dst (n - 1) end q (omega arith) e)

-- ---- the better of two
pub small : {q : Quad} → Sized q → Small q
small s = record { count = s.count; sum = s.sum; rest = omega (arith, s.rest); few = s.few }

-- with something more, as one of two is compared
abbrev pub with : Quad → ℕ → Quad
with q n = record { a = q.a; z = q.z; c = n; k = q.k }

small_pick : (b : Bool) (pen ch : ℕ) (q : Quad) → Sized (pick b q (record { a = q.a; z = q.z; c = q.c + pen; k = q.k + ch })) → Small q
small_pick true pen ch q s = small s
small_pick false pen ch q s = record { count = s.count; sum = s.sum; rest = omega (arith, s.rest); few = omega (arith, s.few) }

pub small_raised : (pen ch : ℕ) (q : Quad) → Sized (raised pen ch q) → Small q
small_raised pen ch q s = small_pick (eqb q.c none) pen ch q s

-- ---- reading along a list: x is a level of the ith piece, or the list is at its end
pub record At (ws : List ℕ) (o L i x : ℕ) : Type 0 where
  pub formed : Formed ws o L
  pub inside : i ≤ formed.count
  pub low : start_of ws o i ≤ x
  pub high : i < formed.count → x ≤ end_of ws o i

pub at_start : {ws : List ℕ} {o L : ℕ} → Formed ws o L → At ws o L 0 0
at_start {ws} {o} f = record { formed = f; inside = omega arith; low = omega (arith, start_zero ws o); high = λ h. omega arith }

-- what the piece there is
pub record Here (ws : List ℕ) (o L i x : ℕ) : Type 0 where
  pub index : i < L
  pub within : (f : Formed ws o L) → i < f.count
  pub start : start_of ws o i ≤ x
  pub from : x ≤ end_of ws o i
  pub to : end_of ws o i < L
  pub is : (j : ℕ) → x ≤ j → j ≤ end_of ws o i → piece ws o L j ≡ quad_at ws (o + 4 * i)

pub here : {ws : List ℕ} {o L i x : ℕ} → At ws o L i x → x < L → Here ws o L i x
here {ws} {o} {L} {i} {x} a h = record {
  index = omega (arith, less, inside);
  within = λ g. omega (arith, inside, count_same f g);
  start = a.low;
  from = a.high inside;
  to = omega (arith, end_lt ws o f.count f.rising i f.count inside (omega arith), f.ends);
  is = λ j p q. piece_at ws o L f.count i j f.rising less inside (omega (arith, a.low)) q;
}
  where
    f : Formed ws o L
    f = a.formed

    less : f.count ≤ L
    less = omega (arith, count_le ws o f.count f.rising, f.ends)

    inside : i < f.count
    inside = ⊎_elim (λ p. absurd (past p)) (λ p. p) (le_or_lt f.count i)
      where
        past : f.count ≤ i → ⊥
        past p = let e : i ≡ f.count = omega (arith, a.inside) in let l : start_of ws o f.count ≤ x = rw e at a.low in omega (arith, f.ends)

pub at_step : {ws : List ℕ} {o L i x : ℕ} (y r : ℕ) → At ws o L i x → x < L → x ≤ y → y ≤ end_of ws o i → ((end_of ws o i ≡ y) × (r ≡ i + 1)) ⊎ ((end_of ws o i ≡ y → ⊥) × (r ≡ i)) → At ws o L r (y + 1)
at_step {ws} {o} {L} {i} {x} y r a h g k (inl p) =
    let n : start_of ws o (i + 1) ≡ y + 1 = start_next ws o i ∙ ap (λ (m : ℕ). m + 1) p.0 in
    rw p.1 (record {
      formed = a.formed;
      inside = in_next;
      low = omega arith;
      high = λ u. omega (arith, a.formed.rising (i + 1) u);
    })
  where
    in_next : i + 1 ≤ a.formed.count
    in_next = ⊎_elim (λ q. absurd (past q)) (λ q. omega arith) (le_or_lt a.formed.count i)
      where
        past : a.formed.count ≤ i → ⊥
        past q = let e : i ≡ a.formed.count = omega (arith, a.inside) in let l : start_of ws o a.formed.count ≤ x = rw e at a.low in omega (arith, a.formed.ends)
at_step {ws} {o} {L} {i} {x} y r a h g k (inr p) =
    let n = p.0 in
    rw p.1 (record { formed = a.formed; inside = a.inside; low = omega (arith, a.low); high = λ u. omega arith })

-- the same, read where the list at dst has been written to
pub record Seen (ws₀ ws : List ℕ) (o L i x : ℕ) : Type 0 where
  pub index : i < L
  pub within : (f : Formed ws₀ o L) → i < f.count
  pub room : o + 4 * i + 4 ≤ length ws
  pub from : x ≤ end_of ws o i
  pub to : end_of ws o i < L
  pub ends : end_of ws o i ≡ end_of ws₀ o i
  pub there : quad_at ws (o + 4 * i) ≡ quad_at ws₀ (o + 4 * i)
  pub is : (j : ℕ) → x ≤ j → j ≤ end_of ws o i → piece ws₀ o L j ≡ quad_at ws (o + 4 * i)
  pub step : (y r : ℕ) → x ≤ y → y ≤ end_of ws o i → ((end_of ws o i ≡ y) × (r ≡ i + 1)) ⊎ ((end_of ws o i ≡ y → ⊥) × (r ≡ i)) → At ws₀ o L r (y + 1)

pub seen : {ws₀ ws : List ℕ} {dst len o L i x m : ℕ} → Kept ws₀ ws dst m → m ≤ len → Lent ws₀ o dst len L → At ws₀ o L i x → x < L → Seen ws₀ ws o L i x
seen {ws₀} {ws} {dst} {len} {o} {L} {i} {x} k h l a g = record {
  index = s.index;
  within = s.within;
  room = omega (arith, k.size, l.room, s.within l.formed);
  from = rw e s.from;
  to = rw e s.to;
  ends = e;
  there = same_quad m i (omega (arith, s.within l.formed));
  is = λ j p q. s.is j p (rw e at q) ∙ sym (same_quad m i (omega (arith, s.within l.formed)));
  step = λ y r p q w. at_step y r a g p (rw e at q) (rw e at w);
}
  where
    s : Here ws₀ o L i x
    s = here a g

    m : Same ws₀ ws o (4 * l.formed.count)
    m = kept_lent k h l

    e : end_of ws o i ≡ end_of ws₀ o i
    e = same_end m i (omega (arith, s.within l.formed))

pub raised_same : (pen ch : ℕ) {p q : Quad} → p ≡ q → raised pen ch p ≡ raised pen ch q
raised_same pen ch e = ap (raised pen ch) e

pub better_same : (v : ℕ) {p p' q q' : Quad} → p ≡ p' → q ≡ q' → better v p q ≡ better v p' q'
better_same v {p} {p'} {q} {q'} e g = ap (λ (t : Quad). better v t q) e ∙ ap (λ (t : Quad). better v p' t) g

pub yields_same : (v : ℕ) {p p' q q' : Quad} → p ≡ p' → q ≡ q' → Yields v p q → Yields v p' q'
yields_same v d e h n = sym (better_same v d e) ∙ h (ap (λ (x : Quad). x.c) d ∙ n) ∙ e

pub start_pos : (ws : List ℕ) (o k : ℕ) → 0 < k → start_of ws o k ≡ end_of ws o (k - 1) + 1
start_pos ws o k h = let e : k - 1 + 1 ≡ k = omega arith in rw e at (start_next ws o (k - 1))

pub counted : {ws : List ℕ} {o L i x : ℕ} → At ws o L i x → start_of ws o i ≡ L → Built (Is (piece ws o L)) ws o i L
counted a e = let b = opened a.formed in record { ends = e; rising = λ k h. b.rising k (omega (arith, a.inside)); holds = λ k h. b.holds k (omega (arith, a.inside)) }

pub emits_one : {ws ws' : List ℕ} {dst n r : ℕ} {q : Quad} (x y : ℕ) → n ≤ x → x < y → Appended ws ws' dst n (y - 1) q r → Emits (λ (j : ℕ). q) ws ws' dst n x y r
emits_one {ws} {ws'} {dst} {n} {r} {q} x y g h a =
    let e : y - 1 + 1 ≡ y = omega arith in
    subst (λ (t : ℕ). Emits (λ (j : ℕ). q) ws ws' dst n x t r) e (emits_append g (omega arith) (omega arith) (emits_none (λ (j : ℕ). q) ws dst n x) a (λ j u v. refl))

-- ---- shifted
pub shift_none : (g j : ℕ) (F : ℕ → Quad) → j < g → absent ≡ shift_of g F j
shift_none g j F h = sym (ap (λ (b : Bool). pick b (moved g (F (j - g))) absent) (lt-leb g j h))

pub shift_moved : (g j : ℕ) (F : ℕ → Quad) (q : Quad) → g ≤ j → F (j - g) ≡ q → moved g q ≡ shift_of g F j
shift_moved g j F q h e = sym (ap (λ (b : Bool). pick b (moved g (F (j - g))) absent) (le-leb g j h) ∙ ap (λ (t : Quad). moved g t) e)

pub shift_same : (g j L : ℕ) (F G : ℕ → Quad) → ((i : ℕ) → i < L → F i ≡ G i) → j < L → shift_of g F j ≡ shift_of g G j
shift_same g j L F G f h = ap (λ (t : Quad). pick (leb g j) (moved g t) absent) (f (j - g) (omega arith))

pub at_most : {ws : List ℕ} {o L i x : ℕ} → At ws o L i x → (f : Formed ws o L) → i ≤ f.count
at_most a f = omega (arith, a.inside, count_same a.formed f)

-- ---- copying word for word
pub record Copying (ws₀ ws : List ℕ) (o dst n i : ℕ) : Type 0 where
  pub kept : Kept ws₀ ws dst (4 * n)
  pub word : (k : ℕ) → k < i → get_or ws (dst + k) 0 ≡ get_or ws₀ (o + k) 0

pub copying_none : (ws : List ℕ) (o dst n : ℕ) → Copying ws ws o dst n 0
copying_none ws o dst n = record { kept = kept_refl ws dst (4 * n); word = λ k h. absurd (omega arith) }

pub copying_more : {ws₀ ws : List ℕ} {o dst n i : ℕ} → i < 4 * n → dst + i < length ws → (o + 4 * n ≤ dst) ⊎ (dst + 4 * n ≤ o) → Copying ws₀ ws o dst n i → Copying ws₀ (set ws (dst + i) (get_or ws (o + i) 0)) o dst n (i + 1)
copying_more {ws₀} {ws} {o} {dst} {n} {i} h g a c = record {
  kept = kept_then c.kept (set_kept ws (dst + i) (get_or ws (o + i) 0)) (omega arith) (omega arith);
  word = λ k p. ⊎_elim
      (λ e. rw e (get_or-set_same ws (dst + i) (get_or ws (o + i) 0) 0 g ∙ (kept_same (4 * n) c.kept a).word (o + i) (omega arith) (omega arith)))
      (λ e. get_or-set_other ws (dst + i) (dst + k) (get_or ws (o + i) 0) 0 (λ q. omega arith) ∙ c.word k e)
      (last_or p);
}

-- the whole list after a copy
pub copied_is : {ws ws' : List ℕ} (o dst n : ℕ) → o + n ≤ length ws → dst + n ≤ length ws → Kept ws ws' dst n → ((i : ℕ) → i < n → get_or ws' (dst + i) 0 ≡ get_or ws (o + i) 0) → ws' ≡ paste ws dst (drop o ws) n
copied_is {ws} {ws'} o dst n from to k w = ext_get_or 0 ws' (paste ws dst (drop o ws) n) (k.size ∙ sym (length-paste ws dst (drop o ws) n to there)) (λ i h. ⊎_elim (λ p. same_from i p) (λ p. same_before i p) (le_or_lt dst i))
  where
    there : n ≤ length (drop o ws)
    there = omega (arith, length-drop o ws)

    head : List ℕ
    head = take dst ws ++ take n (drop o ws)

    m : length head ≡ dst + n
    m = length_paste_head ws dst (drop o ws) n (omega arith) there

    t : length (take dst ws) ≡ dst
    t = length-take-le dst ws (omega arith)

    same_before : (i : ℕ) → i < dst → get_or ws' i 0 ≡ get_or (head ++ drop (dst + n) ws) i 0
    same_before i p =
        k.before i p ∙ sym (get_or-take dst ws i 0 p) ∙ sym (get_or-append (take dst ws) (take n (drop o ws)) 0 i (omega (arith, t))) ∙ sym (get_or-append head (drop (dst + n) ws) 0 i (omega (arith, m)))

    same_from : (i : ℕ) → dst ≤ i → get_or ws' i 0 ≡ get_or (head ++ drop (dst + n) ws) i 0
    same_from i p = ⊎_elim after inside (le_or_lt (dst + n) i)
      where
        after : dst + n ≤ i → get_or ws' i 0 ≡ get_or (head ++ drop (dst + n) ws) i 0
        after q =
            let e : dst + n + (i - (dst + n)) ≡ i = omega arith in
            let x : length head + (i - (dst + n)) ≡ i = omega (arith, m) in
            k.after i q ∙ ap (λ (j : ℕ). get_or ws j 0) (sym e) ∙ sym (get_or-drop (dst + n) ws (i - (dst + n)) 0) ∙ sym (get_or-append-add head (drop (dst + n) ws) (i - (dst + n)) 0) ∙ ap (λ (j : ℕ). get_or (head ++ drop (dst + n) ws) j 0) x

        inside : i < dst + n → get_or ws' i 0 ≡ get_or (head ++ drop (dst + n) ws) i 0
        inside q =
            let e : dst + (i - dst) ≡ i = omega arith in
            let x : length (take dst ws) + (i - dst) ≡ i = omega (arith, t) in
            ap (λ (j : ℕ). get_or ws' j 0) (sym e) ∙ w (i - dst) (omega arith) ∙ sym (get_or-drop o ws (i - dst) 0) ∙ sym (get_or-take n (drop o ws) (i - dst) 0 (omega arith)) ∙ sym (get_or-append-add (take dst ws) (take n (drop o ws)) (i - dst) 0)
            ∙ ap (λ (j : ℕ). get_or head j 0) x ∙ sym (get_or-append head (drop (dst + n) ws) 0 i (omega (arith, m)))
