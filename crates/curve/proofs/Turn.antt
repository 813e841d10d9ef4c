-- A list turned round: its pieces read from the first to the last, and written from the last place to the first. Assumes nothing.
use mathlib.Core.Path.{◌≡◌, sym, ap, ◌∙◌, subst}
use mathlib.Core.Logic.{⊎_elim}
use mathlib.Core.List.{List}
use Prim.Native.Nat.{ℕ, ◌+◌, ◌*◌, ◌-◌, ◌≤◌, ◌<◌}
use native.Mathlib.Omega.{arith}
use native.Mathlib.Decide.{dec_lt}
use Rattle.integers.specs.Rep.{le_or_lt}
use Rattle.quadratic.specs.Quad.{Quad, mirrored}
use Rattle.curve.specs.Pieces.{end_of, start_of, quad_at, piece, Formed, Built, Is, Kept, Stored, Made, mirror_of}
use Rattle.curve.specs.Lists.{start_next, start_zero, end_lt, piece_at, kept_refl, kept_then, kept_wider, count_most_lem, formed, closed}
use Rattle.curve.proofs.Laws.{start_pos}

-- the first r pieces of the list at f stand mirrored as the last r of the m at dst
pub record Turned (s L : ℕ) (ws ws' : List ℕ) (f dst m r : ℕ) : Type 0 where
  pub kept : Kept ws ws' dst (4 * m)
  pub end : (k i : ℕ) → k + (i + 1) ≡ m → i < r → end_of ws' dst k ≡ L - 1 - start_of ws f i
  pub quad : (k i : ℕ) → k + (i + 1) ≡ m → i < r → quad_at ws' (dst + 4 * k) ≡ mirrored s (quad_at ws (f + 4 * i))

pub turned_none : (s L : ℕ) (ws : List ℕ) (f dst m : ℕ) → Turned s L ws ws f dst m 0
turned_none s L ws f dst m = record { kept = kept_refl ws dst (4 * m); end = λ k i e h. absurd (omega arith); quad = λ k i e h. absurd (omega arith) }

pub turned_more : {s L : ℕ} {ws ws' ws'' : List ℕ} {f dst m : ℕ} {q : Quad} (n r x : ℕ) → n + (r + 1) ≡ m → Turned s L ws ws' f dst m r → Stored ws' ws'' (dst + 4 * n) (L - 1 - x) q
    → x ≡ start_of ws f r → q ≡ mirrored s (quad_at ws (f + 4 * r)) → Turned s L ws ws'' f dst m (r + 1)
turned_more {s} {L} {ws} {ws'} {ws''} {f} {dst} {m} {q} n r x g t w ex eq = record {
  kept = kept_then t.kept w.kept (omega arith) (omega arith);
  end = λ k i e h. end k i e h (dec_lt i r);
  quad = λ k i e h. quad k i e h (dec_lt i r);
}
  where
    end : (k i : ℕ) → k + (i + 1) ≡ m → i < r + 1 → Dec (i < r) → end_of ws'' dst k ≡ L - 1 - start_of ws f i
    end k i e h (yes d) = w.kept.after (dst + 4 * k) (omega arith) ∙ t.end k i e d
    end k i e h (no d) =
        let a : k ≡ n = omega arith in
        let b : r ≡ i = omega arith in
        ap (end_of ws'' dst) a ∙ w.last ∙ ap (λ (y : ℕ). L - 1 - y) (ex ∙ ap (start_of ws f) b)

    quad : (k i : ℕ) → k + (i + 1) ≡ m → i < r + 1 → Dec (i < r) → quad_at ws'' (dst + 4 * k) ≡ mirrored s (quad_at ws (f + 4 * i))
    quad k i e h (yes d) =
        rw (w.kept.after (dst + 4 * k + 1) (omega arith), w.kept.after (dst + 4 * k + 2) (omega arith), w.kept.after (dst + 4 * k + 3) (omega arith)) (t.quad k i e d)
    quad k i e h (no d) =
        let a : k ≡ n = omega arith in
        let b : r ≡ i = omega arith in
        ap (λ (y : ℕ). quad_at ws'' (dst + 4 * y)) a ∙ w.quad ∙ eq ∙ ap (λ (y : ℕ). mirrored s (quad_at ws (f + 4 * y))) b

module _ {s L : ℕ} {ws ws' : List ℕ} {f dst : ℕ} (l : Formed ws f L) (t : Turned s L ws ws' f dst l.count l.count) where
  -- a piece of the list at f lies below L, and the next begins after it
  below : (i : ℕ) → i < l.count → end_of ws f i < L
  below i h = omega (arith, end_lt ws f l.count l.rising i l.count h (omega arith), l.ends)

  -- where the pieces at dst begin
  start : (k i : ℕ) → k + i ≡ l.count → start_of ws' dst k ≡ L - start_of ws f i
  start k i e = go (dec_lt 0 k)
    where
      go : Dec (0 < k) → start_of ws' dst k ≡ L - start_of ws f i
      go (yes h) =
          let b : i < l.count = omega arith in
          omega (arith, start_pos ws' dst k h, t.end (k - 1) i (omega arith) b, l.rising i b, below i b)
      go (no h) =
          let z : k ≡ 0 = omega arith in
          let y : i ≡ l.count = omega arith in
          ap (start_of ws' dst) z ∙ omega (arith, start_zero ws' dst, ap (start_of ws f) y, l.ends)

  turned : Built (Is (mirror_of s L (piece ws f L))) ws' dst l.count L
  turned = record {
    ends = omega (arith, start l.count 0 (omega arith), start_zero ws f);
    rising = λ k h.
        let i : ℕ = l.count - 1 - k in
        let b : i < l.count = omega arith in
        omega (arith, start k (i + 1) (omega arith), t.end k i (omega arith) b, start_next ws f i, l.rising i b, below i b);
    holds = λ k h j u v.
        let i : ℕ = l.count - 1 - k in
        let b : i < l.count = omega arith in
        let g = start k (i + 1) (omega arith) in
        let d = t.end k i (omega arith) b in
        t.quad k i (omega arith) b
        ∙ ap (mirrored s) (sym (piece_at ws f L l.count i (L - 1 - j) l.rising (count_most_lem l) b (omega (arith, d, l.rising i b, below i b)) (omega (arith, g, start_next ws f i, below i b))));
  }

  pub turned_made : Made (mirror_of s L (piece ws f L)) ws ws' dst L
  turned_made = record { kept = kept_wider dst (4 * L) t.kept (omega arith) (omega (arith, count_most_lem l)); formed = formed turned; is = closed turned }

-- ---- on the way: the next piece of the m is the ith, which begins at x

pub record Turning (s L : ℕ) (ws ws' : List ℕ) (f dst m i x : ℕ) : Type 0 where
  pub whole : Built (Is (piece ws f L)) ws f m L
  pub begins : x ≡ start_of ws f i
  pub most : i ≤ m
  pub turned : Turned s L ws ws' f dst m i

pub turning_none : {L : ℕ} {ws : List ℕ} {f m : ℕ} (s dst : ℕ) → Built (Is (piece ws f L)) ws f m L → Turning s L ws ws f dst m 0 0
turning_none {L} {ws} {f} {m} s dst b = record { whole = b; begins = sym (start_zero ws f); most = omega arith; turned = turned_none s L ws f dst m }

-- the next piece
pub turning_more : {s L : ℕ} {ws ws' ws'' : List ℕ} {f dst m i x e : ℕ} {q : Quad} → Turning s L ws ws' f dst m i x → i < m → Stored ws' ws'' (dst + 4 * (m - 1 - i)) (L - 1 - x) q
    → q ≡ mirrored s (quad_at ws (f + 4 * i)) → end_of ws f i + 1 ≡ e → Turning s L ws ws'' f dst m (i + 1) e
turning_more {f = f} {m = m} {i} {x} t h w e g = record {
  whole = t.whole;
  begins = sym g ∙ sym (start_next _ f i);
  most = omega arith;
  turned = turned_more (m - 1 - i) i x (omega arith) t.turned w t.begins e;
}

pub turned_all : {s L : ℕ} {ws ws' : List ℕ} {f dst m i x : ℕ} → Turning s L ws ws' f dst m i x → L ≤ x → Made (mirror_of s L (piece ws f L)) ws ws' dst L
turned_all {s} {L} {ws} {ws'} {f} {dst} {m} {i} {x} t h =
    turned_made (record { count = m; ends = t.whole.ends; rising = t.whole.rising }) (subst (λ (r : ℕ). Turned s L ws ws' f dst m r) all t.turned)
  where
    all : i ≡ m
    all = ⊎_elim (λ p. omega (arith, t.most)) (λ p. absurd (omega (arith, t.begins, t.whole.rising i p, end_lt ws f m t.whole.rising i m p (omega arith), t.whole.ends))) (le_or_lt m i)
