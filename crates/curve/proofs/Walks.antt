-- A walk over the pieces of a list: where it is, and what its next piece is. The list is ws₀'s, and is read where the list at dst may have been written to.
-- Assumes nothing.
use mathlib.Core.Path.{◌≡◌, refl, sym, ap, ◌∙◌, subst}
use mathlib.Core.Logic.{inl}
use mathlib.Core.List.{List}
use Prim.Native.Nat.{ℕ, ◌+◌, ◌*◌, ◌≤◌, ◌<◌}
use native.Mathlib.Omega.{arith}
use lib.ListN.{length}
use Rattle.quadratic.specs.Quad.{quad}
use Rattle.curve.specs.declared.Piece.{Piece}
use Rattle.curve.specs.declared.Walk.{Walk}
use Rattle.curve.specs.Pieces.{end_of, quad_at, piece, Formed, Held, Kept, Lent, Passed}
use Rattle.curve.proofs.Laws.{At, Here, here, at_start, at_step, Seen, seen}

-- w is a walk over the list at o
pub record Walking (ws : List ℕ) (o L : ℕ) (w : Walk) : Type 0 where
  pub list : w.list ≡ o
  pub most : w.from ≤ L
  pub at : At ws o L w.index w.from

pub walking_none : {ws : List ℕ} {o L : ℕ} → Formed ws o L → Walking ws o L (record { list = o; index = 0; from = 0 })
walking_none f = record { list = refl; most = omega arith; at = at_start f }

-- a list that nothing is written beside
pub seen_held : {ws : List ℕ} {o L i x : ℕ} → Held ws o L → At ws o L i x → x < L → Seen ws ws o L i x
seen_held {ws} {o} {L} {i} {x} l a h = record {
  index = s.index;
  within = s.within;
  room = omega (arith, s.within l.formed, l.room);
  from = s.from;
  to = s.to;
  ends = refl;
  there = refl;
  is = s.is;
  step = λ y r p q w. at_step y r a h p q w;
}
  where
    s : Here ws o L i x
    s = here a h

-- one that is read while the words at dst are written
pub sees : {ws₀ ws : List ℕ} {o L dst len m : ℕ} {w : Walk} → Walking ws₀ o L w → Kept ws₀ ws dst m → m ≤ len → Lent ws₀ o dst len L → w.from < L → Seen ws₀ ws o L w.index w.from
sees w k h l g = seen k h l w.at g

-- what a walk gives
pub record Given (ws : List ℕ) (o L end : ℕ) (w w' : Walk) (p : Piece) : Type 0 where
  pub inside : p.from < end
  pub index : p.index ≡ w.index
  pub most : p.index < L
  pub within : (f : Formed ws o L) → p.index < f.count
  pub begins : p.from ≡ w.from
  pub order : p.from ≤ p.to
  pub to : p.to < L
  pub ends : p.to ≡ end_of ws o p.index
  pub there : quad p.q ≡ quad_at ws (o + 4 * p.index)
  pub is : (j : ℕ) → p.from ≤ j → j ≤ p.to → piece ws o L j ≡ quad p.q
  pub after : w'.from ≡ p.to + 1
  pub counts : w'.index ≡ p.index + 1
  pub walking : Walking ws o L w'

module _ {ws₀ ws : List ℕ} {o L : ℕ} {w : Walk} (k : Walking ws₀ o L w) (s : w.from < L → Seen ws₀ ws o L w.index w.from) where
  -- there is room for the next piece
  pub walk_room : (end : ℕ) → end ≤ L → L ≤ 262144 → w.from < end → (w.list + 4 * w.index + 4 ≤ length ws) × (end_of ws w.list w.index < 262144)
  walk_room end g m h =
      let t : Seen ws₀ ws o L w.index w.from = s (omega arith) in
      (rw k.list t.room, rw k.list (omega (arith, t.to)))

  -- the next piece is one of the list's
  pub given : {end : ℕ} {w' : Walk} {p : Piece} → end ≤ L → Passed ws w w' end p → Given ws₀ o L end w w' p
  given {end} {w'} {p} g r = record {
    inside = omega (arith, r.inside, r.from);
    index = r.index;
    most = omega (arith, r.index, t.index);
    begins = r.from;
    order = omega (arith, r.from, to, t.from);
    to = omega (arith, to, t.to);
    within = λ f. omega (arith, r.index, t.within f);
    ends = rw r.index (to ∙ t.ends);
    there = rw r.index (rw k.list at r.is ∙ t.there);
    is = λ j u v. t.is j (omega (arith, r.from)) (omega (arith, to)) ∙ sym (rw k.list at r.is);
    after = ap (λ (x : Walk). x.from) r.next;
    counts = omega (arith, ap (λ (x : Walk). x.index) r.next, r.index);
    walking = subst (Walking ws₀ o L) (sym r.next) (record {
      list = k.list;
      most = omega (arith, to, t.to);
      at = rw to (t.step (end_of ws o w.index) (w.index + 1) t.from (omega arith) (inl (refl, refl)));
    });
  }
    where
      t : Seen ws₀ ws o L w.index w.from
      t = s (omega (arith, r.inside))

      to : p.to ≡ end_of ws o w.index
      to = rw k.list at r.to
