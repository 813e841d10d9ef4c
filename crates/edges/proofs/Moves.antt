-- The lists of an edge, one after the other. Assumes nothing.
use mathlib.Core.Path.{◌≡◌, refl, sym, ap, ◌∙◌}
use mathlib.Core.Logic.{inl, inr, ⊎_elim}
use mathlib.Core.Bool.{Bool, true, false, cond}
use mathlib.Core.List.{List}
use Prim.Native.Nat.{ℕ, ◌+◌, ◌*◌, ◌-◌, ◌≤◌, ◌<◌, min}
use native.Mathlib.Omega.{arith}
use lib.Dec.{leb, ltb}
use lib.ListN.{length}
use borrow.Author.Tests.{le-leb, lt-leb, lt-ltb, le-ltb}
use Rattle.integers.specs.Rep.{le_or_lt}
use Rattle.integers.specs.Pairs.{unit, lex}
use Rattle.quadratic.specs.Quad.{better, raised, pushed, flat, none, no_value, count_limit, cost_limit}
use Rattle.quadratic.specs.Fine.{pick_n, far}
use Rattle.curve.specs.declared.Two.{Two}
use Rattle.curve.specs.Pieces.{piece, none_only, Made, shift_of, mirror_of, constant_but}
use Rattle.curve.specs.Lows.{least_of, lowest, prefix_of, costs, TwoLeast}
use Rattle.curve.specs.Curve.{Curve, Limits, curve_as, curve_prefix, curve_shift, curve_mirror, curve_least, curve_loss, curve_costs, curve_none, curve_most, curve_value}
use Rattle.plan.specs.declared.Kind.{Kind}
use Rattle.plan.specs.declared.Kind.TheVariants.{Stay, Any, Up, Down, Abs}
use Rattle.model.specs.Index.{no_cost, prefix_min, suffix_min, up_min, down_min, edge_min}
use Rattle.model.proofs.Index.{edge_min_lem, edge_min_none}
use Rattle.model.specs.Model.{change_of}
use Rattle.model.specs.Held.{raise}
use Rattle.edges.proofs.Others.{any_inside, least_curve, others_curve, least_seen}
use Rattle.edges.specs.Edge.{Into, Joint, Sound, Ready, Moved, StandsFor, Joined, Taken, WithLoss, kept_off, spared_refl, spared_then, spared_curve, spared_swap, apart_swap, hand_swap, min_regroup, raise_min, raise_none, less_min, plus_raise, lowest_prefix}

pub lower_limits : {A B base L : ℕ} (D C : ℕ) → D ≤ A → C ≤ B → Limits A B base L → Limits D C base L
lower_limits D C g h l = record { readings = omega (arith, l.readings); cost = omega (arith, l.cost); low = l.low; high = l.high }

pick_cond : (b : Bool) (x y : ℕ) → (b ≡ true → x ≡ y) → pick_n b x no_value ≡ cond b y no_cost
pick_cond true x y h = h refl
pick_cond false x y h = refl

module _ {A B base L : ℕ} (l : Limits A B base L) {ws : List ℕ} {f : ℕ} {G : ℕ → ℕ} (c : Curve A B base L ws f G) where
  -- a running minimum is the model's
  pub up_is : (gap j : ℕ) → j < L → pick_n (leb gap j) (lowest G (j - gap + 1)) no_value ≡ up_min gap G j
  unfolding up_min
  up_is gap j h = pick_cond (leb gap j) _ _ (λ e. lowest_prefix G (j - gap) (λ i g. curve_most l c i (omega arith)))

  pub down_is : (gap j : ℕ) → j < L → pick_n (leb gap (L - 1 - j)) (lowest (λ (i : ℕ). G (L - 1 - i)) (L - 1 - j - gap + 1)) no_value ≡ down_min L gap G j
  unfolding down_min suffix_min
  down_is gap j h =
      pick_cond (leb gap (L - 1 - j)) _ _ (λ e. lowest_prefix (λ (i : ℕ). G (L - 1 - i)) (L - 1 - j - gap) (λ i g. curve_most l c (L - 1 - i) (omega arith)) ∙ ap (prefix_min (λ (i : ℕ). G (L - 1 - i))) place)
      ∙ ap (λ (b : Bool). cond b (prefix_min (λ (i : ℕ). G (L - 1 - i)) (L - 1 - (j + gap))) no_cost) test
    where
      place : L - 1 - j - gap ≡ L - 1 - (j + gap)
      place = omega arith

      test : leb gap (L - 1 - j) ≡ ltb (j + gap) L
      test = ⊎_elim
          (λ g. le-leb gap (L - 1 - j) g ∙ sym (lt-ltb (j + gap) L (omega arith)))
          (λ g. lt-leb gap (L - 1 - j) g ∙ sym (le-ltb (j + gap) L (omega arith)))
          (le_or_lt gap (L - 1 - j))

-- ---- up: the running minimum, shifted
module _ {ws w1 : List ℕ} {base L f next work : ℕ} (h : Into f next work L (length ws)) (m1 : Made (prefix_of base (piece ws f L)) ws w1 next L) where
  pub up1 : {A B : ℕ} {G : ℕ → ℕ} → Limits A B base L → Curve A B base L ws f G → Curve A B base L w1 next (λ (j : ℕ). lowest G (j + 1))
  up1 l c = curve_prefix l c h.room_next m1

  pub up_moved : {w2 : List ℕ} (gap : ℕ) → Made (shift_of gap (piece w1 next L)) w1 w2 work L → Moved (up_min gap) base L ws w2 f next work
  up_moved gap m2 = record {
    spared = record { size = m2.kept.size ∙ m1.kept.size; word = λ i x y z. kept_off L m2.kept i y ∙ kept_off L m1.kept i x };
    curve = λ A B G l c. curve_as (up_min gap G) (up_is l c gap) (curve_shift gap (up1 l c) (omega (arith, h.room_work, m1.kept.size)) m2);
  }

-- ---- down: the same in the mirror
module _ {ws w1 : List ℕ} {base L f next work : ℕ} (h : Into f next work L (length ws)) (m1 : Made (mirror_of (2 * base + (L - 1)) L (piece ws f L)) ws w1 next L) where
  pub down1 : {A B : ℕ} {G : ℕ → ℕ} → Limits A B base L → Curve A B base L ws f G → Curve A B base L w1 next (λ (j : ℕ). G (L - 1 - j))
  down1 l c = curve_mirror l c h.room_next m1

  module _ {w2 : List ℕ} (m2 : Made (prefix_of base (piece w1 next L)) w1 w2 work L) where
    pub down2 : {A B : ℕ} {G : ℕ → ℕ} → Limits A B base L → Curve A B base L ws f G → Curve A B base L w2 work (λ (j : ℕ). lowest (λ (i : ℕ). G (L - 1 - i)) (j + 1))
    down2 l c = curve_prefix l (down1 l c) (omega (arith, h.room_work, m1.kept.size)) m2

    module _ {w3 : List ℕ} (gap : ℕ) (m3 : Made (shift_of gap (piece w2 work L)) w2 w3 next L) where
      pub down3 : {A B : ℕ} {G : ℕ → ℕ} → Limits A B base L → Curve A B base L ws f G → Curve A B base L w3 next (λ (j : ℕ). pick_n (leb gap j) (lowest (λ (i : ℕ). G (L - 1 - i)) (j - gap + 1)) no_value)
      down3 l c = curve_shift gap (down2 l c) (omega (arith, h.room_next, m1.kept.size, m2.kept.size)) m3

      pub down_moved : {w4 : List ℕ} → Made (mirror_of (2 * base + (L - 1)) L (piece w3 next L)) w3 w4 work L → Moved (down_min L gap) base L ws w4 f next work
      down_moved m4 = record {
        spared = record { size = m4.kept.size ∙ m3.kept.size ∙ m2.kept.size ∙ m1.kept.size; word = λ i x y z. kept_off L m4.kept i y ∙ kept_off L m3.kept i x ∙ kept_off L m2.kept i y ∙ kept_off L m1.kept i x };
        curve = λ A B G l c. curve_as (down_min L gap G) (down_is l c gap) (curve_mirror l (down3 l c) (omega (arith, h.room_work, m1.kept.size, m2.kept.size, m3.kept.size)) m4);
      }

-- ---- the least of two
pub joined : {ws w1 : List ℕ} {pen ch base L g acc next : ℕ} → Joint acc next g L (length ws) → Made (λ (j : ℕ). better (base + j) (piece ws acc L j) (raised pen ch (piece ws g L j))) ws w1 next L → Joined pen ch base L ws w1 g acc next
joined {pen = pen} {ch} h m = record {
  kept = m.kept;
  curve = λ A B C D F G l g k ca cg. curve_as (λ (j : ℕ). min (F j) (raise (G j) (lex pen ch))) (λ j i. less_min (F j) _ ∙ ap (min (F j)) (plus_raise (lex pen ch) (G j) (curve_most (lower_limits D C (omega arith) (omega arith) l) cg j i))) (curve_least pen ch g k l ca cg h.room_next m);
}

-- ---- an edge: moved, then joined
module _ {pen base L f acc next work : ℕ} {ws : List ℕ} (y : Ready acc next work f pen base L ws) where
  pub ready_stay : Joint acc next f L (length ws)
  ready_stay = record { acc_next = y.hand.acc_next; g_next = y.hand.into.f_next; room_next = y.hand.into.room_next }

  pub stay_taken : {w1 : List ℕ} → Joined pen 0 base L ws w1 f acc next → Taken (λ (G : ℕ → ℕ). G) pen 0 base L ws w1 f acc next work next
  stay_taken {w1} j = record {
    place = inr refl;
    spared = record { size = j.kept.size; word = λ i a b c. kept_off L j.kept i b };
    curve = λ A B C D F G l g h ca cf. j.curve A B C D F G l g h ca cf;
  }

  -- ---- any: at the level of the least the second least, or the least there too
  module _ {r : Two} (t : TwoLeast (costs base (piece ws f L)) L r) where
    pub others_stand : {w1 : List ℕ} → Made (constant_but r) ws w1 work L → StandsFor (edge_min L Any) pen 1 base L ws w1 f acc next work
    others_stand m = record {
      spared = record { size = m.kept.size; word = λ i a b c. kept_off L m.kept i b };
      curve = λ A B C D F G l g h ca cf. (edge_min L Any G, (others_curve y.some t (lower_limits D C (omega arith) (omega arith) l) cf y.hand.into.room_work m, λ j i. refl));
    }

    pub least_stands : {w1 : List ℕ} → costs base (piece ws acc L) r.least.level ≤ least_of r + lex pen 1 → Made (λ (j : ℕ). flat r.least.rank.value r.least.rank.changes) ws w1 work L → StandsFor (edge_min L Any) pen 1 base L ws w1 f acc next work
    least_stands e m = record {
      spared = record { size = m.kept.size; word = λ i a b c. kept_off L m.kept i b };
      curve = λ A B C D F G l g h ca cf. let n = lower_limits D C (omega arith) (omega arith) l in let i = any_inside y.some t in
          ((λ (j : ℕ). least_of r), (least_curve y.some t n cf y.hand.into.room_work m, least_seen y.some t n cf (lex pen 1) F (curve_most l ca r.least.level i) (omega (arith, (ca.at r.least.level i).is))));
    }

  -- f by E stands for itself
  pub moved_stands : {E : (ℕ → ℕ) → ℕ → ℕ} {w1 : List ℕ} → Moved E base L ws w1 f next work → StandsFor E pen 1 base L ws w1 f acc next work
  moved_stands {E} m = record { spared = m.spared; curve = λ A B C D F G l g h ca cf. (E G, (m.curve D C G (lower_limits D C (omega arith) (omega arith) l) cf, λ j i. refl)) }

  module _ {E : (ℕ → ℕ) → ℕ → ℕ} {w1 : List ℕ} (m : StandsFor E pen 1 base L ws w1 f acc next work) where
    acc_moved : {A B : ℕ} {F : ℕ → ℕ} → Curve A B base L ws acc F → Curve A B base L w1 acc F
    acc_moved c = spared_curve m.spared y.hand.acc_next y.hand.acc_work y.hand.acc_work c

    pub stands_joint : Joint acc next work L (length w1)
    stands_joint = record { acc_next = y.hand.acc_next; g_next = apart_swap next work (4 * L) y.hand.into.next_work; room_next = omega (arith, y.hand.into.room_next, m.spared.size) }

    pub stands_acc : Sound count_limit cost_limit base L w1 acc
    stands_acc = curve_costs (acc_moved y.so_far)

    pub stands_work : Sound (count_limit - 1) (cost_limit - pen) base L w1 work
    stands_work = curve_costs (m.curve _ _ _ _ _ _ y.limits (omega arith) (omega (arith, y.low)) y.so_far y.from).1.0

    pub stands_taken : {w2 : List ℕ} → Joined pen 1 base L w1 w2 work acc next → Taken E pen 1 base L ws w2 f acc next work next
    stands_taken {w2} j = record {
      place = inr refl;
      spared = record { size = j.kept.size ∙ m.spared.size; word = λ i a b c. kept_off L j.kept i b ∙ m.spared.word i b c c };
      curve = λ A B C D F G l g h ca cf. let (H, (cw, e)) = m.curve A B C D F G l g h ca cf in curve_as (λ (j : ℕ). min (F j) (raise (E G j) (lex pen 1))) e (j.curve A B C D F H l g h (acc_moved ca) cw);
    }

  -- ---- one after the other
  module _ {E : (ℕ → ℕ) → ℕ → ℕ} {w1 : List ℕ} (k : Taken E pen 1 base L ws w1 f acc next work next) where
    from_taken : {A B : ℕ} {G : ℕ → ℕ} → Curve A B base L ws f G → Curve A B base L w1 f G
    from_taken c = spared_curve k.spared y.hand.f_acc y.hand.into.f_next y.hand.into.f_work c

    -- the two have changed places
    pub taken_ready : Ready next acc work f pen base L w1
    taken_ready = record {
      hand = rw k.spared.size (hand_swap y.hand);
      low = y.low;
      some = y.some;
      limits = y.limits;
      so_far = curve_costs (k.curve _ _ _ _ _ _ y.limits (omega arith) (omega (arith, y.low)) y.so_far y.from);
      from = curve_costs (from_taken y.from);
    }

    pub taken_both : {D : (ℕ → ℕ) → ℕ → ℕ} (H : (ℕ → ℕ) → ℕ → ℕ) {w2 : List ℕ} → Taken D pen 1 base L w1 w2 f next acc work acc
        → ((A C : ℕ) (G : ℕ → ℕ) → Limits A C base L → C + pen ≤ none → Curve A C base L ws f G → (j : ℕ) → j < L → min (raise (E G j) (lex pen 1)) (raise (D G j) (lex pen 1)) ≡ raise (H G j) (lex pen 1))
        → Taken H pen 1 base L ws w2 f acc next work acc
    taken_both H d e = record {
      place = inl refl;
      spared = spared_then k.spared (spared_swap d.spared);
      curve = λ A B C N F G l g h ca cf. curve_as (λ (j : ℕ). min (F j) (raise (H G j) (lex pen 1)))
          (λ j i. min_regroup (F j) _ _ _ (e N C G (lower_limits N C (omega arith) (omega arith) l) (omega (arith, l.cost)) cf j i))
          (d.curve A B C N _ G l g h (k.curve A B C N F G l g h ca cf) (from_taken cf));
    }

-- ---- each kind
module _ {A C base L : ℕ} {ws : List ℕ} {f : ℕ} {G : ℕ → ℕ} (l : Limits A C base L) (c : Curve A C base L ws f G) (pen : ℕ) (h : C + pen ≤ none) where
  -- what an edge offers is no_value, or has room for the penalty
  edge_room : (k : Kind) (j : ℕ) → j < L → edge_min L k G j < no_value → edge_min L k G j + lex pen 1 ≤ no_value
  edge_room k j g p =
      let (i, q, a, e) = (edge_min_lem L k G).met j g p in
      ⊎_elim (λ n. absurd (omega arith)) (λ n. omega (arith, l.readings)) (curve_value l c i q)

  pub abs_is : (gap j : ℕ) → j < L → min (raise (up_min gap G j) (lex pen 1)) (raise (down_min L gap G j) (lex pen 1)) ≡ raise (edge_min L (Abs gap) G j) (lex pen 1)
  unfolding edge_min
  abs_is gap j g = raise_min (up_min gap G j) (down_min L gap G j) (lex pen 1) (edge_room (Up gap) j g) (edge_room (Down gap) j g)

pub taken_as : {E : (ℕ → ℕ) → ℕ → ℕ} (D : (ℕ → ℕ) → ℕ → ℕ) {pen ch base L f acc next work r : ℕ} {ws w1 : List ℕ} → ((G : ℕ → ℕ) (j : ℕ) → E G j ≡ D G j) → Taken E pen ch base L ws w1 f acc next work r → Taken D pen ch base L ws w1 f acc next work r
taken_as D {pen} {ch} e k = record {
  place = k.place;
  spared = k.spared;
  curve = λ A B C N F G l g h ca cf. curve_as (λ (j : ℕ). min (F j) (raise (D G j) (lex pen ch))) (λ j i. ap (λ (x : ℕ). min (F j) (raise x (lex pen ch))) (e G j)) (k.curve A B C N F G l g h ca cf);
}

module _ {pen base L f acc next work r : ℕ} {ws w1 : List ℕ} where
  pub stay_edge : (k : Kind) → k ≡ Stay → Taken (λ (G : ℕ → ℕ). G) pen 0 base L ws w1 f acc next work r → Taken (edge_min L k) pen (change_of k) base L ws w1 f acc next work r
  unfolding edge_min change_of
  stay_edge k e = rw e (taken_as (edge_min L Stay) (λ G j. refl))

  pub any_edge : (k : Kind) → k ≡ Any → Taken (edge_min L Any) pen 1 base L ws w1 f acc next work r → Taken (edge_min L k) pen (change_of k) base L ws w1 f acc next work r
  unfolding change_of
  any_edge k e t = rw e t

  pub up_edge : (k : Kind) (g : ℕ) → k ≡ Up g → Taken (up_min g) pen 1 base L ws w1 f acc next work r → Taken (edge_min L k) pen (change_of k) base L ws w1 f acc next work r
  unfolding edge_min change_of
  up_edge k g e = rw e (taken_as (edge_min L (Up g)) (λ G j. refl))

  pub down_edge : (k : Kind) (g : ℕ) → k ≡ Down g → Taken (down_min L g) pen 1 base L ws w1 f acc next work r → Taken (edge_min L k) pen (change_of k) base L ws w1 f acc next work r
  unfolding edge_min change_of
  down_edge k g e = rw e (taken_as (edge_min L (Down g)) (λ G j. refl))

pub abs_edge : {pen base L f acc next work : ℕ} {ws w1 w2 : List ℕ} (k : Kind) (g : ℕ) → k ≡ Abs g → Ready acc next work f pen base L ws → Taken (up_min g) pen 1 base L ws w1 f acc next work next → Taken (down_min L g) pen 1 base L w1 w2 f next acc work acc → Taken (edge_min L k) pen (change_of k) base L ws w2 f acc next work acc
unfolding change_of
abs_edge {pen} {L = L} k g e y a b = rw e (taken_both y a (edge_min L (Abs g)) b (λ A C G l h c j i. abs_is l c pen h g j i))

-- a list that is no_value everywhere
pub none_taken : {pen base L f acc next work : ℕ} {ws : List ℕ} (k : Kind) → none_only ws f L ≡ true → Taken (edge_min L k) pen (change_of k) base L ws ws f acc next work acc
none_taken {pen} {base} {L} {f} {acc} {next} {work} {ws} k e = record {
  place = inl refl;
  spared = spared_refl acc next work L ws;
  curve = λ A B C D F G l g h ca cf. curve_as (λ (j : ℕ). min (F j) (raise (edge_min L k G j) (lex pen (change_of k)))) (λ j i. left (F j) (edge_min L k G j) (curve_most l ca j i) (offers (lower_limits D C (omega arith) (omega arith) l) cf j i)) ca;
}
  where
    left : (x y : ℕ) → x ≤ no_value → no_value ≤ y → x ≡ min x (raise y (lex pen (change_of k)))
    left x y a b = let z : raise y (lex pen (change_of k)) ≡ y = raise_none y (lex pen (change_of k)) b in rw z (omega arith)

    offers : {A C : ℕ} {G : ℕ → ℕ} → Limits A C base L → Curve A C base L ws f G → (j : ℕ) → j < L → no_value ≤ edge_min L k G j
    offers {G = G} l c j i = edge_min_none L k G j i (λ x g p. omega (arith, curve_none l c e x g))

-- ---- the loss of a reading
pub with_loss : {w u base L f dst : ℕ} {ws ws' : List ℕ} → 131072 ≤ base → base + L ≤ 196608 → (131072 ≤ u) × (u < 196608) → dst + 4 * L ≤ length ws → Made (λ (j : ℕ). pushed w u (piece ws f L j)) ws ws' dst L → WithLoss w u base L ws ws' f dst
with_loss {w} {u} {base} h g p r m = record {
  kept = m.kept;
  curve = λ A B F l c. curve_as (λ (j : ℕ). raise (F j) (unit * (w * (far u (base + j) * far u (base + j))))) (λ j i. plus_raise (unit * (w * (far u (base + j) * far u (base + j)))) (F j) (curve_most l c j i)) (curve_loss w u (λ j i. omega arith) l c r m);
}
