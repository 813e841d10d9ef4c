-- Lists packed end to end. Assumes nothing.
use mathlib.Core.Path.{◌≡◌, refl, sym, ◌∙◌, subst}
use mathlib.Core.Logic.{inl, inr, ⊎_elim}
use mathlib.Core.List.{List}
use Prim.Native.Nat.{ℕ, suc, ◌+◌, ◌*◌, ◌≤◌, ◌<◌}
use native.Mathlib.Omega.{arith}
use native.Mathlib.Nat.{mul-le-mul_right}
use native.Mathlib.Numerals.{add-one}
use lib.ListN.{length, get_or}
use Rattle.integers.specs.Rep.{le_or_lt}
use Rattle.curve.specs.Pieces.{Formed, Built, Is, Held, Kept, Same, Copyable, Copied, piece}
use Rattle.curve.specs.Lists.{opened, same_built, count_same, count_most_lem, count_is, copied_built}
use Rattle.curve.specs.Curve.{curve_same, copied_curve}
use Rattle.saved.specs.Packed.{Chain, Moved, Inside, PackReady, Packing, UnpackReady, Unpacked}
use Rattle.saved.specs.Packed.Chain.{nothing, then}

-- ---- what is kept

pub inside_refl : (a e : ℕ) (ws : List ℕ) → Inside a e ws ws
inside_refl a e ws = record { size = refl; word = λ i h. refl }

pub inside_wider : {a e : ℕ} {ws ws' : List ℕ} (b f : ℕ) → b ≤ a → e ≤ f → Inside a e ws ws' → Inside b f ws ws'
inside_wider b f h g m = record { size = m.size; word = λ i. ⊎_elim (λ p. m.word i (inl (omega arith))) (λ p. m.word i (inr (omega arith))) }

pub inside_then : {a e : ℕ} {ws ws' ws'' : List ℕ} → Inside a e ws ws' → Inside a e ws' ws'' → Inside a e ws ws''
inside_then m w = record { size = w.size ∙ m.size; word = λ i h. w.word i h ∙ m.word i h }

pub kept_inside : {a e dst len : ℕ} {ws ws' : List ℕ} → a ≤ dst → dst + len ≤ e → Kept ws ws' dst len → Inside a e ws ws'
kept_inside h g k = record { size = k.size; word = λ i. ⊎_elim (λ p. k.before i (omega arith)) (λ p. k.after i (omega arith)) }

-- ---- one list

abbrev pub held_same : {ws ws' : List ℕ} {o L : ℕ} → length ws' ≡ length ws → (h : Held ws o L) → Same ws ws' o (4 * h.formed.count) → Held ws' o L
held_same e h s = record {
  formed = record { count = h.formed.count; ends = (same_built s (omega arith) (opened h.formed)).ends; rising = (same_built s (omega arith) (opened h.formed)).rising };
  room = omega (arith, h.room);
}

pub moved_then : {L : ℕ} {ws ws' ws'' : List ℕ} {o p q : ℕ} → Moved L ws o ws' p → Moved L ws' p ws'' q → Moved L ws o ws'' q
moved_then m w = record { curve = λ A B base F c. w.curve A B base F (m.curve A B base F c) }

-- a list whose words are as before
pub moved_same : {L : ℕ} {ws ws' : List ℕ} {o : ℕ} → length ws' ≡ length ws → (h : Held ws o L) → Same ws ws' o (4 * h.formed.count) → Moved L ws o ws' o
moved_same {L} {ws} {ws'} {o} e h s = record { curve = λ A B base F c. curve_same e c (subst (λ (n : ℕ). Same ws ws' o (4 * n)) (count_same h.formed c.held.formed) s) }

pub moved_copy : {L : ℕ} {ws ws' : List ℕ} {o dst r : ℕ} → dst + 4 * r ≤ length ws → Copied ws ws' o dst L r → Moved L ws o ws' dst
moved_copy h m = record { curve = λ A B base F c. copied_curve h m c }

abbrev pub held_copy : {L : ℕ} {ws ws' : List ℕ} {o dst r : ℕ} → dst + 4 * r ≤ length ws → Formed ws o L → Copied ws ws' o dst L r → Held ws' dst L
held_copy {r = r} h f m = record { formed = record { count = r; ends = (copied_built f m).ends; rising = (copied_built f m).rising }; room = omega (arith, m.kept.size) }

-- ---- chains

pub chain_low : {L : ℕ} {ws : List ℕ} {a n e : ℕ} → Chain L ws a n e → a ≤ e
chain_low nothing = omega arith
chain_low (then c h x) = omega (arith, chain_low c)

-- a chain has one end
pub chain_one : {L : ℕ} {ws : List ℕ} {a n e e' : ℕ} → Chain L ws a n e → Chain L ws a n e' → e ≡ e'
chain_one nothing nothing = refl
chain_one {L} {ws} (then c h x) (then c' h' x') = go (chain_one c c') h h' x x'
  where
    go : {m m' e e' : ℕ} → m ≡ m' → (h : Held ws m L) (h' : Held ws m' L) → e ≡ m + 4 * h.formed.count → e' ≡ m' + 4 * h'.formed.count → e ≡ e'
    go {m} {m'} {e} {e'} p = subst (λ (y : ℕ). (h : Held ws m L) (h' : Held ws y L) → e ≡ m + 4 * h.formed.count → e' ≡ y + 4 * h'.formed.count → e ≡ e') p (λ h h' x x'. omega (arith, count_same h.formed h'.formed))

-- the list at m, which ends by e
pub record ListBy (L : ℕ) (ws : List ℕ) (m e : ℕ) : Type 0 where
  pub held : Held ws m L
  pub by : m + 4 * held.formed.count ≤ e

-- the list after q others of a chain of n
pub chain_next : {L : ℕ} {ws : List ℕ} {a n e q m : ℕ} → Chain L ws a n e → Chain L ws a q m → q < n → ListBy L ws m e
chain_next nothing d h = absurd (omega arith)
chain_next {L} {ws} {a} {n} {e} {q} {m} (then {n = n'} {m = m'} c k x) d h = ⊎_elim
    (λ p. let s : q ≡ n' = omega arith in
    subst (λ (y : ℕ). ListBy L ws y e) (chain_one c (subst (λ (y : ℕ). Chain L ws a y m) s d)) (record { held = k; by = omega arith }))
    (λ p. let b = chain_next c d p in record { held = b.held; by = omega (arith, b.by) })
    (le_or_lt n' q)

-- its first q lists
pub record Part (L : ℕ) (ws : List ℕ) (a q : ℕ) : Type 0 where
  pub end : ℕ
  pub chain : Chain L ws a q end

pub chain_part : {L : ℕ} {ws : List ℕ} {a n e : ℕ} (q : ℕ) → Chain L ws a n e → q ≤ n → Part L ws a q
chain_part {L} {ws} {a} {n} {e} q nothing h = record { end = e; chain = subst (λ (y : ℕ). Chain L ws a y e) (let s : 0 ≡ q = omega arith in s) nothing }
chain_part {L} {ws} {a} {n} {e} q (then {n = n'} c k x) h = ⊎_elim
    (λ p. chain_part q c p)
    (λ p. record { end = e; chain = subst (λ (y : ℕ). Chain L ws a y e) (let s : suc n' ≡ q = omega arith in s) (then c k x) })
    (le_or_lt q n')

-- a chain whose words are as before
pub chain_same : {L : ℕ} {ws ws' : List ℕ} {a n e : ℕ} → length ws' ≡ length ws → ((i : ℕ) → a ≤ i → i < e → get_or ws' i 0 ≡ get_or ws i 0) → Chain L ws a n e → Chain L ws' a n e
chain_same s f nothing = nothing
chain_same {a = a} s f (then c h x) = then (chain_same s (λ i p q. f i p (omega arith)) c) (held_same s h (record { word = λ i p q. f i (omega (arith, chain_low c)) (omega arith) })) x

-- one list more
pub chain_more : {L : ℕ} {ws : List ℕ} {a n m e : ℕ} → Chain L ws a n m → (h : Held ws m L) → e ≡ m + 4 * h.formed.count → Chain L ws a (n + 1) e
chain_more {L} {ws} {a} {n} {m} {e} c h x = rw (add-one n) (then c h x)

-- what holds of each number below q, and of q, holds below q + 1
last_case : {P : ℕ → Type 0} {q : ℕ} → ((i : ℕ) → i < q → P i) → P q → (i : ℕ) → i < q + 1 → P i
last_case {P} {q} f g i h = ⊎_elim (λ p. let s : q ≡ i = omega arith in subst P s g) (λ p. f i p) (le_or_lt q i)

-- ---- packing

pub packing_none : (ws : List ℕ) (o a L : ℕ) → Packing ws ws o a a 0 L
packing_none ws o a L = record { chain = nothing; moved = λ q m h. absurd (omega arith) }

module _ {ws : List ℕ} {o a limit n L : ℕ} (ready : PackReady ws o a limit n L) {q : ℕ} (h : q < n) where
  pub place_low : o + q * (4 * L) + 4 * L ≤ a
  place_low = omega (arith, mul-le-mul_right (4 * L) h, ready.below)

  module _ {w : List ℕ} (m : Inside a limit ws w) where
    as_before : Same ws w (o + q * (4 * L)) (4 * (ready.row.list q h).formed.count)
    as_before = record { word = λ i p r. m.word i (inl (omega (arith, place_low, count_most_lem (ready.row.list q h).formed))) }

    -- the list that is packed next
    pub source : Held w (o + q * (4 * L)) L
    source = held_same m.size (ready.row.list q h) as_before

    module _ {r to : ℕ} (b : Built (Is (piece w (o + q * (4 * L)) L)) w (o + q * (4 * L)) r L) (low : a ≤ to) (fits : to + 4 * r ≤ limit) where
      pub pack_copies : Copyable w (o + q * (4 * L)) to L × (L ≤ 262144)
      pack_copies =
          let e = count_is b source.formed in (
            record {
              formed = source.formed;
              room = source.room;
              into = omega (arith, ready.room, m.size);
              apart = inl (omega (arith, place_low, count_most_lem source.formed));
            },
            omega (arith, ready.row.narrow),
          )

      module _ {w' : List ℕ} {r' : ℕ} (c : Copied w w' (o + q * (4 * L)) to L r') (p : Packing ws w o a to q L) where
        same_count : r' ≡ r
        same_count = c.count source.formed ∙ sym (count_is b source.formed)

        pub pack_inside : Inside a limit ws w'
        pack_inside = inside_then m (kept_inside low (omega (arith, same_count)) c.kept)

        space : to + 4 * r' ≤ length w
        space = omega (arith, same_count, ready.room, m.size)

        chain_still : Chain L w' a q to
        chain_still = chain_same c.kept.size (λ i x y. c.kept.before i y) p.chain

        pub pack_more : Packing ws w' o a (to + 4 * r) (q + 1) L
        pack_more = record {
          chain = chain_more chain_still (held_copy space source.formed c) (omega (arith, same_count));
          moved = λ q' m' g. last_case {P = λ (i : ℕ). (m : ℕ) → Chain L w' a i m → Moved L ws (o + i * (4 * L)) w' m} old new q' g m';
        }
          where
            old : (i : ℕ) → i < q → (m : ℕ) → Chain L w' a i m → Moved L ws (o + i * (4 * L)) w' m
            old i g m' d =
                let b = chain_next chain_still d g in
                let d' = chain_same (sym c.kept.size) (λ j x y. sym (c.kept.before j (omega (arith, b.by)))) d in
                let b' = chain_next p.chain d' g in
                moved_then (p.moved i m' g d') (moved_same c.kept.size b'.held (record { word = λ j x y. c.kept.before j (omega (arith, b'.by)) }))

            new : (m : ℕ) → Chain L w' a q m → Moved L ws (o + q * (4 * L)) w' m
            new m' d = subst (λ (y : ℕ). Moved L ws (o + q * (4 * L)) w' y) (chain_one chain_still d) (moved_then (moved_same m.size (ready.row.list q h) as_before) (moved_copy space c))

-- ---- unpacking

pub unpacked_none : (ws : List ℕ) (a o L : ℕ) → Unpacked ws ws a o 0 L
unpacked_none ws a o L = record { inside = inside_refl _ _ ws; moved = λ q m h. absurd (omega arith) }

module _ {ws : List ℕ} {a o n L : ℕ} (ready : UnpackReady ws a o n L) {q : ℕ} (h : q < n) {from : ℕ} (d : Chain L ws a q from) {w : List ℕ} (m : Unpacked ws w a o q L) where
  pub room_low : o + q * (4 * L) + 4 * L ≤ a
  room_low = omega (arith, mul-le-mul_right (4 * L) h, ready.below)

  listed : ListBy L ws from ready.end
  listed = chain_next ready.chain d h

  saved_still : Same ws w from (4 * listed.held.formed.count)
  saved_still = record { word = λ i x y. m.inside.word i (inr (omega (arith, room_low, chain_low d))) }

  stored : Held w from L
  stored = held_same m.inside.size listed.held saved_still

  pub unpack_copies : Copyable w from (o + q * (4 * L)) L × (L ≤ 262144)
  unpack_copies = (
    record {
      formed = stored.formed;
      room = stored.room;
      into = omega (arith, room_low, ready.start, m.inside.size, count_most_lem stored.formed);
      apart = inr (omega (arith, room_low, chain_low d, count_most_lem stored.formed));
    },
    omega (arith, ready.narrow),
  )

  module _ {w' : List ℕ} {r : ℕ} (c : Copied w w' from (o + q * (4 * L)) L r) where
    its_count : r ≡ listed.held.formed.count
    unfolding stored
    its_count = c.count stored.formed

    pub unpack_room : from + 4 * r ≤ length ws
    unpack_room = omega (arith, its_count, listed.held.room)

    pub unpack_chain : Chain L ws a (q + 1) (from + 4 * r)
    unpack_chain = chain_more d listed.held (omega (arith, its_count))

    pub unpack_more : Unpacked ws w' a o (q + 1) L
    unpack_more = record {
      inside = inside_then (inside_wider o (o + (q + 1) * (4 * L)) (omega arith) (omega arith) m.inside) (kept_inside (omega arith) (omega (arith, its_count, count_most_lem listed.held.formed)) c.kept);
      moved = λ q' m' g. last_case {P = λ (i : ℕ). (m : ℕ) → Chain L ws a i m → Moved L ws m w' (o + i * (4 * L))} old new q' g m';
    }
      where
        old : (i : ℕ) → i < q → (m : ℕ) → Chain L ws a i m → Moved L ws m w' (o + i * (4 * L))
        old i g m' e = record {
          curve = λ A B base F x.
              let y = (m.moved i m' g e).curve A B base F x in
              curve_same c.kept.size y (record { word = λ j u v. c.kept.before j (omega (arith, count_most_lem y.held.formed, mul-le-mul_right (4 * L) g)) });
        }

        new : (m : ℕ) → Chain L ws a q m → Moved L ws m w' (o + q * (4 * L))
        new m' e = subst (λ (y : ℕ). Moved L ws y w' (o + q * (4 * L))) (chain_one d e)
            (moved_then (moved_same m.inside.size listed.held saved_still) (moved_copy (omega (arith, room_low, ready.start, m.inside.size, its_count, count_most_lem listed.held.formed)) c))
