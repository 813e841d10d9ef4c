-- Laws of lists of pieces. Assumes nothing.
use Rattle.std.specs.Prelude.{◌≡◌, refl, ◌⊎◌, Bool, true, false, cond, List, ℕ, zero, suc, ◌+◌, ◌*◌, ◌≤◌, ◌<◌, eqb, length, get_or}
use Rattle.std.proofs.Common.{sym, ap, ◌∙◌, subst, inl, inr, ⊎_elim, arith, le-leb, eqb-true}
use Rattle.std.proofs.lemmas.Bool.{lt-leb}
use Rattle.integers.specs.Rep.{le_or_lt}
use Rattle.quadratic.specs.Quad.{Quad, none}
use Rattle.curve.specs.Pieces.{end_of, start_of, quad_at, seek, piece, none_only, Formed, Built, Is, Kept, Same, Appended, Emits, Made, Held, Lent, Copied}

pub start_next : (ws : List ℕ) (o k : ℕ) → start_of ws o (k + 1) ≡ end_of ws o k + 1
unfolding start_of
start_next ws o k = let e : k + 1 ≡ suc k = omega arith in ap (start_of ws o) e

pub start_zero : (ws : List ℕ) (o : ℕ) → start_of ws o 0 ≡ 0
unfolding start_of
start_zero ws o = refl

-- ---- the same words
pub same_end : {ws ws' : List ℕ} {o m : ℕ} → Same ws ws' o m → (k : ℕ) → 4 * k < m → end_of ws' o k ≡ end_of ws o k
same_end {o = o} s k h = s.word (o + 4 * k) (omega arith) (omega arith)

pub same_start : {ws ws' : List ℕ} {o m : ℕ} → Same ws ws' o m → (k : ℕ) → 4 * k ≤ m → start_of ws' o k ≡ start_of ws o k
unfolding start_of
same_start s zero h = refl
same_start s (suc k) h = ap (λ (n : ℕ). n + 1) (same_end s k (omega arith))

pub same_quad : {ws ws' : List ℕ} {o m : ℕ} → Same ws ws' o m → (k : ℕ) → 4 * k + 4 ≤ m → quad_at ws' (o + 4 * k) ≡ quad_at ws (o + 4 * k)
same_quad {o = o} s k h = rw (s.word (o + 4 * k + 1) (omega arith) (omega arith), s.word (o + 4 * k + 2) (omega arith) (omega arith), s.word (o + 4 * k + 3) (omega arith) (omega arith))

pub same_built : {P : ℕ → Quad → Type 0} {ws ws' : List ℕ} {o n x m : ℕ} → Same ws ws' o m → 4 * n ≤ m → Built P ws o n x → Built P ws' o n x
same_built {o = o} {n = n} s h b = record {
  ends = same_start s n h ∙ b.ends;
  rising = λ k g. rw (same_start s k (omega arith), same_end s k (omega arith)) (b.rising k g);
  holds = λ k g j p q. rw (same_quad s k (omega arith))
      (b.holds k g j (rw (same_start s k (omega arith)) at p) (rw (same_end s k (omega arith)) at q));
}

-- ---- building
pub built_none : {P : ℕ → Quad → Type 0} (ws : List ℕ) (o : ℕ) → Built P ws o 0 0
built_none ws o = record { ends = start_zero ws o; rising = λ k h. absurd (omega arith); holds = λ k h. absurd (omega arith) }

pub last_or : {k n : ℕ} → k < n + 1 → (k ≡ n) ⊎ (k < n)
last_or {k} {n} h = ⊎_elim (λ p. inl (omega arith)) (λ p. inr p) (le_or_lt n k)

-- one piece more
pub built_put : {P : ℕ → Quad → Type 0} {ws : List ℕ} (ws' : List ℕ) {o n x : ℕ} (e : ℕ) → Built P ws o n x → Same ws ws' o (4 * n) → end_of ws' o n ≡ e → x ≤ e
    → ((j : ℕ) → x ≤ j → j ≤ e → P j (quad_at ws' (o + 4 * n))) → Built P ws' o (n + 1) (e + 1)
built_put {P} {ws} ws' {o} {n} {x} e b s ee h f = record {
  ends = start_next ws' o n ∙ ap (λ (m : ℕ). m + 1) ee;
  rising = λ k g. ⊎_elim
      (λ p. rw p (omega (arith, ee, t.ends)))
      (λ p. t.rising k p)
      (last_or g);
  holds = λ k g. ⊎_elim
      (λ p. subst (λ (i : ℕ). (j : ℕ) → start_of ws' o i ≤ j → j ≤ end_of ws' o i → P j (quad_at ws' (o + 4 * i))) (sym p) (λ j u v. f j (omega (arith, t.ends)) (omega (arith, ee))))
      (λ p. t.holds k p)
      (last_or g);
}
  where
    t : Built P ws' o n x
    t = same_built s (omega arith) b

-- one piece fewer
pub built_less : {P : ℕ → Quad → Type 0} {ws : List ℕ} {o m x : ℕ} → Built P ws o (m + 1) x → Built P ws o m (start_of ws o m)
built_less b = record { ends = refl; rising = λ k h. b.rising k (omega arith); holds = λ k h. b.holds k (omega arith) }

-- the last piece, made longer
pub built_longer : {P : ℕ → Quad → Type 0} {ws : List ℕ} (ws' : List ℕ) {o x : ℕ} (m e : ℕ) → Built P ws o (m + 1) x → Same ws ws' o (4 * m) → end_of ws' o m ≡ e → x ≤ e
    → quad_at ws' (o + 4 * m) ≡ quad_at ws (o + 4 * m) → ((j : ℕ) → x ≤ j → j ≤ e → P j (quad_at ws (o + 4 * m))) → Built P ws' o (m + 1) (e + 1)
built_longer {P} {ws} ws' {o} {x} m e b s ee h eq f =
    built_put ws' e (built_less b) s ee (omega (arith, r, n, b.ends))
    (λ j u v. rw eq (⊎_elim (λ p. b.holds m (omega arith) j u p) (λ p. f j (omega (arith, n, b.ends)) v) (le_or_lt j (end_of ws o m))))
  where
    n : start_of ws o (m + 1) ≡ end_of ws o m + 1
    n = start_next ws o m

    r : start_of ws o m ≤ end_of ws o m
    r = b.rising m (omega arith)

-- ---- how many, and where
pub count_le : (ws : List ℕ) (o n : ℕ) → ((k : ℕ) → k < n → start_of ws o k ≤ end_of ws o k) → n ≤ start_of ws o n
unfolding start_of
count_le ws o zero r = omega arith
count_le ws o (suc n) r = omega (arith, r n (omega arith), count_le ws o n (λ k h. r k (omega arith)))

-- a piece ends before a later one starts
pub end_lt : (ws : List ℕ) (o n : ℕ) → ((k : ℕ) → k < n → start_of ws o k ≤ end_of ws o k) → (i k : ℕ) → i < k → k ≤ n → end_of ws o i < start_of ws o k
unfolding start_of
end_lt ws o n r i zero h g = absurd (omega arith)
end_lt ws o n r i (suc k) h g = ⊎_elim
    (λ p. rw p (omega arith))
    (λ p. omega (arith, end_lt ws o n r i k p (omega arith), r k (omega arith)))
    (last_or {k = i} {n = k} (omega arith))

-- each level below x has a piece
pub record Cover (ws : List ℕ) (o n j : ℕ) : Type 0 where
  pub at : ℕ
  pub inside : at < n
  pub low : start_of ws o at ≤ j
  pub high : j ≤ end_of ws o at

pub cover : (ws : List ℕ) (o n j : ℕ) → j < start_of ws o n → Cover ws o n j
unfolding start_of
cover ws o zero j h = absurd (omega arith)
cover ws o (suc n) j h = ⊎_elim
    (λ p. record { at = n; inside = omega arith; low = p; high = omega arith })
    (λ p. let c = cover ws o n j p in record { at = c.at; inside = omega (arith, c.inside); low = c.low; high = c.high })
    (le_or_lt (start_of ws o n) j)

pub seek_at : (ws : List ℕ) (n o k j : ℕ) → ((i : ℕ) → i < k → end_of ws o i < j) → j ≤ end_of ws o k → k < n → seek n ws o j ≡ o + 4 * k
unfolding seek
seek_at ws zero o k j f h g = absurd (omega arith)
seek_at ws (suc n) o zero j f h g =
    let z : o + 4 * 0 ≡ o = omega arith in
    let h' : j ≤ get_or ws o 0 = rw z at h in
    rw (le-leb j (get_or ws o 0) h') (sym z)
seek_at ws (suc n) o (suc k) j f h g =
    let z : o + 4 * 0 ≡ o = omega arith in
    let first : get_or ws o 0 < j = rw z at (f 0 (omega arith)) in
    rw (lt-leb j (get_or ws o 0) first)
    (seek_at ws n (o + 4) k j (λ i p. rw (next i) (f (suc i) (omega arith))) (rw (next k) h) (omega arith) ∙ next k)
  where
    next : (i : ℕ) → o + 4 + 4 * i ≡ o + 4 * suc i
    next i = omega arith

pub piece_at : (ws : List ℕ) (o L n k j : ℕ) → ((k : ℕ) → k < n → start_of ws o k ≤ end_of ws o k) → n ≤ L → k < n → start_of ws o k ≤ j → j ≤ end_of ws o k → piece ws o L j ≡ quad_at ws (o + 4 * k)
unfolding piece
piece_at ws o L n k j r hn g p q =
    rw (seek_at ws L o k j (λ i u. lt (end_lt ws o n r i k u (omega arith))) q (omega arith))
  where
    lt : {m : ℕ} → m < start_of ws o k → m < j
    lt u = omega arith

-- a list and what is in force
pub opened : {ws : List ℕ} {o L : ℕ} (f : Formed ws o L) → Built (Is (piece ws o L)) ws o f.count L
opened {ws} {o} {L} f = record {
  ends = f.ends;
  rising = f.rising;
  holds = λ k h j p q. sym (piece_at ws o L f.count k j f.rising (omega (arith, count_le ws o f.count f.rising, f.ends)) h p q);
}

pub formed : {P : ℕ → Quad → Type 0} {ws : List ℕ} {o n L : ℕ} → Built P ws o n L → Formed ws o L
formed {n = n} b = record { count = n; ends = b.ends; rising = b.rising }

pub closed : {P : ℕ → Quad → Type 0} {ws : List ℕ} {o n L : ℕ} → Built P ws o n L → (j : ℕ) → j < L → P j (piece ws o L j)
closed {P} {ws} {o} {n} {L} b j h =
    let c = cover ws o n j (omega (arith, b.ends)) in
    rw (piece_at ws o L n c.at j b.rising (omega (arith, count_le ws o n b.rising, b.ends)) c.inside c.low c.high)
    (b.holds c.at c.inside j c.low c.high)

-- ---- what is kept
pub kept_refl : (ws : List ℕ) (dst len : ℕ) → Kept ws ws dst len
kept_refl ws dst len = record { size = refl; before = λ i h. refl; after = λ i h. refl }

pub kept_then : {ws ws' ws'' : List ℕ} {dst len p m : ℕ} → Kept ws ws' dst len → Kept ws' ws'' p m → dst ≤ p → p + m ≤ dst + len → Kept ws ws'' dst len
kept_then a b l h = record {
  size = b.size ∙ a.size;
  before = λ i g. b.before i (omega arith) ∙ a.before i g;
  after = λ i g. b.after i (omega arith) ∙ a.after i g;
}

pub kept_wider : {ws ws' : List ℕ} {p m : ℕ} (dst len : ℕ) → Kept ws ws' p m → dst ≤ p → p + m ≤ dst + len → Kept ws ws' dst len
kept_wider {ws} dst len b l h = kept_then (kept_refl ws dst len) b l h

pub kept_same : {ws ws' : List ℕ} {dst len o : ℕ} (m : ℕ) → Kept ws ws' dst len → (o + m ≤ dst) ⊎ (dst + len ≤ o) → Same ws ws' o m
kept_same m k (inl h) = record { word = λ i p q. k.before i (omega arith) }
kept_same m k (inr h) = record { word = λ i p q. k.after i (omega arith) }

pub kept_built : {ws ws' : List ℕ} {dst len o L : ℕ} → Kept ws ws' dst len → (f : Formed ws o L) → (o + 4 * f.count ≤ dst) ⊎ (dst + len ≤ o) → Built (Is (piece ws o L)) ws' o f.count L
kept_built k f a = same_built (kept_same (4 * f.count) k a) (omega arith) (opened f)

abbrev pub kept_formed : {ws ws' : List ℕ} {dst len o L : ℕ} → Kept ws ws' dst len → (f : Formed ws o L) → (o + 4 * f.count ≤ dst) ⊎ (dst + len ≤ o) → Formed ws' o L
kept_formed k f a = record { count = f.count; ends = (kept_built k f a).ends; rising = (kept_built k f a).rising }

-- what a list says is not changed by a write elsewhere
pub kept_piece : {ws ws' : List ℕ} {dst len o L : ℕ} → Kept ws ws' dst len → (f : Formed ws o L) → (o + 4 * f.count ≤ dst) ⊎ (dst + len ≤ o) → (j : ℕ) → j < L → piece ws' o L j ≡ piece ws o L j
kept_piece k f a = closed (kept_built k f a)

-- a list is of one length, at most L
pub count_most_lem : {ws : List ℕ} {o L : ℕ} (f : Formed ws o L) → f.count ≤ L
count_most_lem {ws} {o} f = omega (arith, count_le ws o f.count f.rising, f.ends)

pub built_most : {P : ℕ → Quad → Type 0} {ws : List ℕ} {o L k x : ℕ} (f : Formed ws o L) → Built P ws o k x → x ≤ L → k ≤ f.count
built_most {P} {ws} {o} {L} {k} {x} f b h = ⊎_elim (λ p. p) (λ p. absurd (more p)) (le_or_lt k f.count)
  where
    more : f.count < k → ⊥
    more p = omega (arith, end_lt ws o k b.rising f.count k p (omega arith), b.rising f.count p, f.ends, b.ends)

pub count_same : {ws : List ℕ} {o L : ℕ} (f g : Formed ws o L) → f.count ≡ g.count
count_same f g = omega (arith, built_most f (opened g) (omega arith), built_most g (opened f) (omega arith))

pub count_is : {P : ℕ → Quad → Type 0} {ws : List ℕ} {o L r : ℕ} → Built P ws o r L → (f : Formed ws o L) → r ≡ f.count
count_is {r = r} b f = omega (arith, built_most f b (omega arith), built_most (record { count = r; ends = b.ends; rising = b.rising }) (opened f) (omega arith))

-- ---- the first piece
pub record First (ws : List ℕ) (o L : ℕ) : Type 0 where
  pub room : o + 4 ≤ length ws
  pub to : get_or ws o 0 < L
  pub is : (j : ℕ) → j ≤ get_or ws o 0 → piece ws o L j ≡ quad_at ws o

pub first : {ws : List ℕ} {o L : ℕ} → Held ws o L → 0 < L → First ws o L
first {ws} {o} {L} h l = record {
  room = omega (arith, h.room, some);
  to = rw z at (omega_lt (end_lt ws o f.count f.rising 0 f.count some (omega arith)) f.ends);
  is = λ j p. rw z at (piece_at ws o L f.count 0 j f.rising (count_most_lem f) some (omega (arith, start_zero ws o)) (rw z p));
}
  where
    f : Formed ws o L
    f = h.formed

    z : o + 4 * 0 ≡ o
    z = omega arith

    omega_lt : {e s : ℕ} → e < s → s ≡ L → e < L
    omega_lt p q = omega arith

    some : 0 < f.count
    some = ⊎_elim (λ p. absurd (nil p)) (λ p. p) (le_or_lt f.count 0)
      where
        nil : f.count ≤ 0 → ⊥
        nil p = let e : f.count ≡ 0 = omega arith in let q : start_of ws o 0 ≡ L = rw e at f.ends in omega (arith, start_zero ws o)

-- a list that is one piece, none, is none at every level
pub none_only_lem : {ws : List ℕ} {o L : ℕ} → Held ws o L → 0 < L → none_only ws o L ≡ true → (j : ℕ) → j < L → (piece ws o L j).c ≡ none
unfolding none_only
none_only_lem {ws} {o} {L} h l e j k = go (eqb (get_or ws o 0 + 1) L) refl (eqb (get_or ws (o + 3) 0) none) refl e
  where
    go : (a : Bool) → eqb (get_or ws o 0 + 1) L ≡ a → (b : Bool) → eqb (get_or ws (o + 3) 0) none ≡ b → cond a b false ≡ true → (piece ws o L j).c ≡ none
    go true p true q r = ap (λ (t : Quad). t.c) ((first h l).is j (omega (arith, eqb-true (get_or ws o 0 + 1) L p))) ∙ eqb-true (get_or ws (o + 3) 0) none q
    go true p false q r = let y : ◌≡◌ {A = ℕ} 0 1 = cc in absurd (omega arith)
    go false p b q r = let y : ◌≡◌ {A = ℕ} 0 1 = cc in absurd (omega arith)

-- ---- emitting
pub emits_none : (F : ℕ → Quad) (ws : List ℕ) (dst n x : ℕ) → Emits F ws ws dst n x x n
emits_none F ws dst n x = record { count = λ h. h; grows = omega arith; kept = kept_refl ws dst (4 * n); built = λ G e b. b }

pub emits_then : {F : ℕ → Quad} {ws ws' ws'' : List ℕ} {dst n x y r z s : ℕ} → x ≤ y → y ≤ z → Emits F ws ws' dst n x y r → Emits F ws' ws'' dst r y z s → Emits F ws ws'' dst n x z s
emits_then {dst = dst} {s = s} h g a b = record {
  count = λ p. b.count (a.count p);
  grows = omega (arith, a.grows, b.grows);
  kept = kept_then (kept_wider dst (4 * s) a.kept (omega arith) (omega (arith, b.grows))) b.kept (omega arith) (omega arith);
  built = λ G e q. b.built G (λ j u v. e j (omega arith) v) (a.built G (λ j u v. e j u (omega arith)) q);
}

pub emits_append : {F : ℕ → Quad} {ws ws' ws'' : List ℕ} {dst n x y k e r : ℕ} {q : Quad} → n ≤ x → x ≤ y → y ≤ e → Emits F ws ws' dst n x y k → Appended ws' ws'' dst k e q r
    → ((j : ℕ) → y ≤ j → j ≤ e → q ≡ F j) → Emits F ws ws'' dst n x (e + 1) r
emits_append {dst = dst} {y = y} {r = r} m h g a b f = record {
  count = λ p. omega (arith, b.count, a.count p);
  grows = omega (arith, a.grows, b.grows);
  kept = kept_then (kept_wider dst (4 * r) a.kept (omega arith) (omega (arith, b.grows))) b.kept (omega arith) (omega arith);
  built = λ G u c. b.built G y g (λ j p q. f j p q ∙ u j (omega arith) (omega arith)) (a.built G (λ j p q. u j p (omega arith)) c);
}

pub emits_as : {F H : ℕ → Quad} {ws ws' : List ℕ} {dst n x y r : ℕ} → ((j : ℕ) → x ≤ j → j < y → F j ≡ H j) → Emits F ws ws' dst n x y r → Emits H ws ws' dst n x y r
emits_as e a = record { count = a.count; grows = a.grows; kept = a.kept; built = λ G g b. a.built G (λ j u v. e j u v ∙ g j u v) b }

pub made : {F : ℕ → Quad} {ws ws' : List ℕ} {dst L r : ℕ} → Emits F ws ws' dst 0 0 L r → Made F ws ws' dst L
made {F} {ws} {ws'} {dst} {L} {r} a =
    let b = a.built F (λ j u v. refl) (built_none ws dst) in
    record { kept = kept_wider dst (4 * L) a.kept (omega arith) (omega (arith, a.count (omega arith))); formed = formed b; is = closed b }

-- a list that is lent is as it was
pub kept_lent : {ws ws' : List ℕ} {o dst len L m : ℕ} → Kept ws ws' dst m → m ≤ len → (l : Lent ws o dst len L) → Same ws ws' o (4 * l.formed.count)
kept_lent k h l = kept_same (4 * l.formed.count) k (⊎_elim (λ p. inl p) (λ p. inr (omega arith)) l.apart)

pub lent_kept : {ws ws' : List ℕ} {o dst len L m : ℕ} → Kept ws ws' dst m → m ≤ len → Lent ws o dst len L → Lent ws' o dst len L
lent_kept k h l = record {
  formed = kept_formed k l.formed (⊎_elim (λ p. inl p) (λ p. inr (omega arith)) l.apart);
  room = omega (arith, l.room, k.size);
  apart = l.apart;
}

pub lent_piece : {ws ws' : List ℕ} {o dst len L m : ℕ} → Kept ws ws' dst m → m ≤ len → Lent ws o dst len L → (j : ℕ) → j < L → piece ws' o L j ≡ piece ws o L j
lent_piece k h l = kept_piece k l.formed (⊎_elim (λ p. inl p) (λ p. inr (omega arith)) l.apart)

-- ---- a copy
-- the list at o of ws, word for word at dst of ws'
pub copied_built : {ws ws' : List ℕ} {o dst L r : ℕ} → Formed ws o L → Copied ws ws' o dst L r → Built (Is (piece ws o L)) ws' dst r L
unfolding start_of
copied_built {ws} {ws'} {o} {dst} {L} {r} f m = record {
  ends = start r (omega arith) ∙ b.ends;
  rising = λ k h. rw (start k (omega arith), end k h) (b.rising k h);
  holds = λ k h j p q. rw (quad k h) (b.holds k h j (rw (start k (omega arith)) at p) (rw (end k h) at q));
}
  where
    b : Built (Is (piece ws o L)) ws o r L
    b = rw (m.count f) (opened f)

    end : (k : ℕ) → k < r → end_of ws' dst k ≡ end_of ws o k
    end k h = m.word (4 * k) (omega arith)

    start : (k : ℕ) → k ≤ r → start_of ws' dst k ≡ start_of ws o k
    start zero h = refl
    start (suc k) h = ap (λ (n : ℕ). n + 1) (end k (omega arith))

    quad : (k : ℕ) → k < r → quad_at ws' (dst + 4 * k) ≡ quad_at ws (o + 4 * k)
    quad k h = rw (word 1 (omega arith), word 2 (omega arith), word 3 (omega arith))
      where
        word : (i : ℕ) → i < 4 → get_or ws' (dst + 4 * k + i) 0 ≡ get_or ws (o + 4 * k + i) 0
        word i g =
            let a : dst + (4 * k + i) ≡ dst + 4 * k + i = omega arith in
            let e : o + (4 * k + i) ≡ o + 4 * k + i = omega arith in
            rw (a, e) at (m.word (4 * k + i) (omega arith))
