-- The layers as code holds them: for each count, state and level index one number for a cost and a number of changes (`pair_of`), `no_cost` or more where
-- there is none. What code has to show: its first lists have the values of `first_table`, and its next ones those of `next_table` of the ones before. Then
-- `first_holding` and `next_holding` give `Holding`: each number is that of the least cost there and its changes. Where a layer is made of several, one for
-- each number of changes of an edge, `from_holding` is what `next_holding` is for one. Of a step back it shows the lowest edge and the lowest level before it
-- that meet the number, and `step_back` gives the step of the model. Assumes nothing.
use Rattle.std.proofs.Math.Path.{◌≡◌, refl, sym, ap, subst}
use Rattle.std.proofs.Common.{◌∙◌, inl, inr, mul-le-mul_left}
use Rattle.std.proofs.Math.Option.{Option, none, some, some-injective}
use Rattle.std.specs.Prelude.{List, Bool, ◌&&◌, eqb, ℤ, ◌+ℤ◌, get_or}
use Rattle.std.proofs.Math.Bool.{true, false, cond}
use Prim.Native.Nat.{ℕ, zero, suc, ◌+◌, ◌*◌, ◌/◌, ◌%◌, ◌≤◌, ◌<◌, min}
use native.Mathlib.Omega.{arith}
use Rattle.std.proofs.Math.Decide.{dec_le, dec_lt}
use Rattle.std.proofs.Math.Dec.{ltb}
use borrow.Author.Tests.{ltb-true, ltb-false, lt-ltb, le-ltb}
use Rattle.std.proofs.Math.IntN.{pos}
use Rattle.std.proofs.Math.ListN.{get_or-eq_default}
use Rattle.std.specs.Int.Signed.{le_z}
use Rattle.integers.specs.Pairs.{unit}
use Rattle.plan.specs.declared.Plan.{Plan}
use Rattle.plan.proofs.Rising.{penalty_rises}
use Rattle.plan.specs.declared.Kind.{Kind}
use Rattle.plan.specs.declared.Kind.TheVariants.{Stay, Any, Up, Down, Abs}
use Rattle.model.specs.Cost.{Cost, ◌⊕◌, ◌≼◌, cost_of}
use Rattle.model.proofs.Cost.{≼-mono, assoc, meet_left, meet_right, meet_add}
use Rattle.model.specs.Segmentation.{Seg, first, next, readings}
use Rattle.model.specs.Rank.{first_cost, step_cost, rank}
use Rattle.model.proofs.Rank.{rank_is}
use Rattle.model.proofs.Bools.{and_yes}
use Rattle.model.proofs.Grid.{index_grid}
use Rattle.model.specs.Least.{least_below, lower, given, plus, first_hit, Upto}
use Rattle.model.proofs.Least.{least_is, least_none, given_met, plus_met, first_hit_is}
use Rattle.model.specs.Model.{edge_at, change_of, width, penalties, penalty, penalty_of, loss_at, in_set, on_grid, Follows, cost, change_count, Allowed}
use Rattle.model.specs.Labels.{label_on, label_test, count_after, counts, used_at}
use Rattle.model.proofs.Labels.{used_most, kept_used, led_used}
use Rattle.model.specs.Nodes.{Node, node}
use Rattle.model.proofs.Nodes.{sound}
use Rattle.model.specs.Opt.{opt, start_test, step_test, step_from, offer, before}
use Rattle.model.proofs.Opt.{opt_layers, offer_met, opt_step}
use Rattle.model.specs.Checked.{Checked}
use Rattle.model.specs.Index.{pair_of, no_cost, held, MinAt, edge_min, permits_at}
use Rattle.model.proofs.Index.{edge_min_lem, pair_mono, pair_back, pair_one, pair_is, held_some, some_held, none_held, permits_index}
use Rattle.model.specs.Held.{Holding, HoldingOf, Low, Table, by_edge, edge_least, edge_most, edge_weight, first_table, from_count, leads_at, min_below, next_from, next_table, penalty_most, raise}

-- ---- numbers for costs and changes

-- where nothing is carried, pairs are added as their numbers are
pair_add : (a b : ℕ) → a % unit + b % unit < unit → pair_of (a + b) ≡ pair_of a ⊕ pair_of b
unfolding ◌⊕◌
pair_add a b h = pair_is (a + b) (a / unit + b / unit) (a % unit + b % unit) h (omega arith)

pub held_min : (a b : ℕ) → held (min a b) ≡ lower (held a) (held b)
held_min a b = go (dec_lt a no_cost) (dec_lt b no_cost) (dec_le a b)
  where
    go : Dec (a < no_cost) → Dec (b < no_cost) → Dec (a ≤ b) → held (min a b) ≡ lower (held a) (held b)
    go (yes h) (yes k) (yes d) = let e : min a b ≡ a = omega arith in rw (e, some_held a h, some_held b k, meet_left (pair_of a) (pair_of b) (pair_mono a b d)) refl
    go (yes h) (yes k) (no d) = let e : min a b ≡ b = omega arith in rw (e, some_held a h, some_held b k, meet_right (pair_of a) (pair_of b) (pair_mono b a (omega arith))) refl
    go (yes h) (no k) d = let e : min a b ≡ a = omega arith in rw (e, some_held a h, none_held b (omega arith)) refl
    go (no h) (yes k) d = let e : min a b ≡ b = omega arith in rw (e, some_held b k, none_held a (omega arith)) refl
    go (no h) (no k) d = rw (none_held a (omega arith), none_held b (omega arith)) (none_held (min a b) (omega arith))

pub held_none : held no_cost ≡ none
held_none = none_held no_cost (omega arith)

pub held_least : (n : ℕ) (f : ℕ → ℕ) → held (min_below n f) ≡ least_below n (λ i. held (f i))
unfolding min_below least_below
held_least zero f = held_none
held_least (suc n) f = held_min (min_below n f) (f n) ∙ rw (held_least n f) refl

pub held_raise : (v x : ℕ) → (v < no_cost → (v % unit + x % unit < unit) × (v + x < no_cost)) → held (raise v x) ≡ plus (held v) (pair_of x)
unfolding raise
held_raise v x h = go (dec_lt v no_cost)
  where
    go : Dec (v < no_cost) → held (cond (ltb v no_cost) (v + x) v) ≡ plus (held v) (pair_of x)
    go (yes k) = rw (lt-ltb v no_cost k, some_held v k) (some_held (v + x) (h k).1 ∙ ap some (pair_add v x (h k).0))
    go (no k) = rw (le-ltb v no_cost (omega arith), none_held v (omega arith)) refl

pub held_given : (b : Bool) (v : ℕ) → held (cond b v no_cost) ≡ given b (held v)
held_given true v = refl
held_given false v = held_none

pub min_met : (n : ℕ) (f : ℕ → ℕ) → min_below n f < no_cost → (i : ℕ) × (i < n) × (f i ≡ min_below n f)
unfolding min_below
min_met zero f h = absurd (omega arith)
min_met (suc n) f h = go (dec_le (min_below n f) (f n)) (min_met n f)
  where
    go : Dec (min_below n f ≤ f n) → (min_below n f < no_cost → (i : ℕ) × (i < n) × (f i ≡ min_below n f)) → (i : ℕ) × (i < suc n) × (f i ≡ min (min_below n f) (f n))
    go (yes k) ih = let (i, l, e) = ih (omega arith) in (i, omega arith, omega arith)
    go (no k) ih = (n, omega arith, omega arith)

pub min_none : (n : ℕ) (f : ℕ → ℕ) → min_below n f ≤ no_cost
unfolding min_below
min_none zero f = omega arith
min_none (suc n) f = omega (arith, min_none n f)

pub least_ext : (n : ℕ) (f g : ℕ → Option Cost) → ((i : ℕ) → i < n → f i ≡ g i) → least_below n f ≡ least_below n g
unfolding least_below
least_ext zero f g h = refl
least_ext (suc n) f g h = rw (least_ext n f g (λ i k. h i (omega arith)), h n (omega arith)) refl

plus_lower : (a b : Option Cost) (x : Cost) → plus (lower a b) x ≡ lower (plus a x) (plus b x)
plus_lower none b x = refl
plus_lower (some a) none x = refl
plus_lower (some a) (some b) x = ap some (meet_add a b x)

plus_least : (n : ℕ) (f : ℕ → Option Cost) (x : Cost) → plus (least_below n f) x ≡ least_below n (λ i. plus (f i) x)
unfolding least_below
plus_least zero f x = refl
plus_least (suc n) f x = plus_lower (least_below n f) (f n) x ∙ rw (plus_least n f x) refl

plus_twice : (a : Option Cost) (x y : Cost) → plus (plus a x) y ≡ plus a (x ⊕ y)
plus_twice none x y = refl
plus_twice (some a) x y = ap some (assoc a x y)

none_given : (b : Bool) (o : Option Cost) → given (b && false) o ≡ none
none_given true o = refl
none_given false o = refl

-- the least over the permitted indices, something added
least_permitted : (L : ℕ) (x : Kind) (f r : ℕ → ℕ) (j : ℕ) (w : Cost) → j < L → MinAt L x f r
    → least_below L (λ i. given (permits_at x i j && true) (plus (held (f i)) w)) ≡ plus (held (r j)) w
least_permitted L x f r j w hj y = least_is L (λ i. given (permits_at x i j && true) (plus (held (f i)) w)) (plus (held (r j)) w) met low
  where
    met : (c : Cost) → plus (held (r j)) w ≡ some c → (i : ℕ) × (i < L) × (given (permits_at x i j && true) (plus (held (f i)) w) ≡ some c)
    met c p =
        let (d, q, e) = plus_met (held (r j)) w c p in
        let (h, k) = held_some (r j) d q in
        let (i, hi, a, v) = y.met j hj h in
        (i, hi, rw (a, v) p)

    low : (i : ℕ) (d : Cost) → i < L → given (permits_at x i j && true) (plus (held (f i)) w) ≡ some d → (c : Cost) × (plus (held (r j)) w ≡ some c) × (c ≼ d)
    low i d hi p =
        let (a, q) = given_met (permits_at x i j && true) (plus (held (f i)) w) d p in
        let (d', q', e) = plus_met (held (f i)) w d q in
        let (h, k) = held_some (f i) d' q' in
        let l = y.least i j hi hj (and_yes (permits_at x i j) true a).0 h in
        let e' : pair_of (f i) ⊕ w ≡ d = ap (λ (z : Cost). z ⊕ w) k ∙ e in
        (pair_of (r j) ⊕ w, rw (some_held (r j) (omega arith)) refl, subst (λ (z : Cost). pair_of (r j) ⊕ w ≼ z) e' (≼-mono w (pair_mono (r j) (f i) l)))

-- then the count before is one that is used
pub leads_used : (P : Plan) (t e k s : ℕ) → leads_at P t e k s ≡ true → from_count P t e k < used_at P t
unfolding leads_at from_count
leads_used P t e k s h = led_used (label_on P t) t (edge_at P e).kind k (eqb s (edge_at P e).to) (eqb k (count_after (label_on P t) t (edge_at P e).kind (from_count P t e k))) h

pub leads_count : (P : Plan) (t e k s : ℕ) → leads_at P t e k s ≡ true → from_count P t e k < counts
leads_count P t e k s h = omega (arith, leads_used P t e k s h, used_most (label_on P t))

-- a label's rule that is kept bounds the count before
kept_few : (P : Plan) (t : ℕ) (x : Kind) (k : ℕ) → label_test (label_on P t) t x k ≡ true → k < counts
kept_few P t x k h = omega (arith, kept_used (label_on P t) t x k h, used_most (label_on P t))

-- ---- the first layer

module _ (P : Plan) (zs : List ℤ) (small : (m : ℤ) → on_grid P m ≡ true → unit * loss_at zs 0 m < no_cost) (grid : le_z P.lo P.hi ≡ true) where
  pub first_holding : Holding P zs 1 (first_table P zs)
  unfolding first_table opt start_test first_cost cost_of
  first_holding = record { at = λ k s j hk hs hj. at k s j (P.lo +ℤ pos j) (index_grid P grid j hj) }
    where
      and_same : (a b : Bool) (x : Option Cost) → given (a && b) x ≡ given (a && (true && b)) x
      and_same true b x = refl
      and_same false b x = refl

      at : (k s j : ℕ) (m : ℤ) → on_grid P m ≡ true
          → held (cond (in_set P.start s && eqb k 0) (unit * loss_at zs 0 m) no_cost) ≡ given (in_set P.start s && (on_grid P m && eqb k 0)) (some (loss_at zs 0 m, 0))
      at k s j m on =
          held_given (in_set P.start s && eqb k 0) (unit * loss_at zs 0 m)
          ∙ rw (some_held (unit * loss_at zs 0 m) (small m on), pair_is (unit * loss_at zs 0 m) (loss_at zs 0 m) 0 (omega arith) (omega arith), on) (and_same (in_set P.start s) (eqb k 0) (some (loss_at zs 0 m, 0)))

-- the penalties never fall, so the last one is the most of those that are built in
pub penalty_most_lem : (class : ℕ) → penalty class ≤ penalty_most
unfolding penalty
penalty_most_lem class = go (dec_le class 15)
  where
    go : Dec (class ≤ 15) → get_or penalties class 0 ≤ penalty_most
    go (yes h) = let l : get_or penalties class 0 ≤ 50000 = penalty_rises class 15 h (omega arith) in omega arith
    go (no h) = let e : get_or penalties class 0 ≡ 0 = get_or-eq_default penalties 0 {n = class} (omega arith) in omega arith

pub penalty_low : (P : Plan) (e : ℕ) → penalty_of P e ≤ penalty_most
penalty_low P e = penalty_most_lem (edge_at P e).class

-- an edge has at most one change
pub change_low : (k : Kind) → change_of k ≤ 1
unfolding change_of
change_low Stay = omega arith
change_low Any = omega arith
change_low (Up gap) = omega arith
change_low (Down gap) = omega arith
change_low (Abs gap) = omega arith

-- so there are fewer changes than readings
pub changes_few : (P : Plan) (g : Seg) → change_count P g < readings g
unfolding change_count readings
changes_few P (first s m) = omega arith
changes_few P (next g e m) = omega (arith, changes_few P g, change_low (edge_at P e).kind)

pub weight_low : (P : Plan) (e : ℕ) → edge_weight P e ≤ edge_most
weight_low P e = omega (arith, penalty_low P e, change_low (edge_at P e).kind)

-- as one number
pub number_low : (W t v : ℕ) → Low W t (pair_of v) → v ≤ t * (unit * W + edge_most)
number_low W t v (a, b) = omega (arith, mul-le-mul_left unit a)

-- where there is room for the numbers there are few readings
room_few : (W t : ℕ) → suc t * (unit * W + edge_most) < no_cost → suc t < unit
room_few W t h = omega arith

module _ (P : Plan) (zs : List ℤ) (ch : Checked P) (W : ℕ) (losses : (t : ℕ) (m : ℤ) → on_grid P m ≡ true → loss_at zs t m ≤ W) where
  pub cost_low : (g : Seg) → Follows P g → cost P zs g ≤ readings g * (W + penalty_most)
  unfolding cost readings Follows
  cost_low (first s m) f = omega (arith, losses 0 m f.1)
  cost_low (next g e m) f = omega (arith, cost_low g f.0, losses (readings g) m f.4, penalty_low P e)

  -- what a segmentation costs
  pub rank_low : (t : ℕ) (g : Seg) → Allowed P t g → Low W t (rank P zs g)
  rank_low t g a = rw (rank_is P zs g, ← a.count) (cost_low g a.follows, omega (arith, changes_few P g))

  pub opt_low : (t : ℕ) (v : Node) (c : Cost) → opt P zs t v ≡ some c → Low W t c
  unfolding opt
  opt_low zero v c p = let z : ◌≡◌ {A = ℕ} 0 1 = cc in absurd (omega arith)
  opt_low (suc t) v c p =
      let (g, a, k, w) = sound P zs ch (opt P zs) (opt_layers P zs) t p in
      subst (Low W (suc t)) w (rank_low (suc t) g a)

  -- ---- one step

  -- an edge and the reading after it as one number
  step_pair : (t e : ℕ) (m : ℤ) → pair_of (edge_weight P e + unit * loss_at zs t m) ≡ step_cost P zs t e m
  unfolding step_cost cost_of
  step_pair t e m = pair_is (edge_weight P e + unit * loss_at zs t m) (penalty_of P e + loss_at zs t m) (change_of (edge_at P e).kind) (omega (arith, change_low (edge_at P e).kind)) (omega arith)

  -- of one layer and its numbers
  module _ (t : ℕ) (F : Node → Option Cost) (H : Table) (hold : HoldingOf P F H) where
    -- what an edge offers from a level, in held numbers
    offer_held : (k s j e i : ℕ) → j < width P → e < P.edgecount → i < width P
        → offer P zs t F (node k s (P.lo +ℤ pos j)) e i
        ≡ given (permits_at (edge_at P e).kind i j && leads_at P t e k s) (plus (held (H (from_count P t e k) (edge_at P e).from i)) (step_cost P zs t e (P.lo +ℤ pos j)))
    unfolding offer step_test before leads_at from_count
    offer_held k s j e i hj he hi =
        rw (permits_index (edge_at P e).kind P.lo i j, index_grid P ch.grid i hi, index_grid P ch.grid j hj)
        (go (permits_at (edge_at P e).kind i j) (label_test (label_on P t) t x k') refl (eqb k (count_after (label_on P t) t x k')) (eqb s (edge_at P e).to))
      where
        x : Kind
        x = (edge_at P e).kind

        k' : ℕ
        k' = from_count P t e k

        rest : Cost
        rest = step_cost P zs t e (P.lo +ℤ pos j)

        o : Option Cost
        o = F (node k' (edge_at P e).from (P.lo +ℤ pos i))

        go : (a b : Bool) → label_test (label_on P t) t x k' ≡ b → (d f : Bool)
            → given (a && (true && (true && (b && (d && f))))) (plus o rest) ≡ given (a && (f && (b && d))) (plus (held (H k' (edge_at P e).from i)) rest)
        go false b p d f = refl
        go true false p d true = refl
        go true false p d false = refl
        go true true p true true = rw (hold.at k' (edge_at P e).from i (kept_few P t x k' p) (ch.edge e he).from_below hi) refl
        go true true p true false = refl
        go true true p false true = refl
        go true true p false false = refl

    module _ (low : (v : Node) (c : Cost) → F v ≡ some c → Low W t c) where
      held_low : (k s i : ℕ) → k < counts → s < P.states → i < width P → H k s i < no_cost → Low W t (pair_of (H k s i))
      held_low k s i hk hs hi l = low (node k s (P.lo +ℤ pos i)) (pair_of (H k s i)) (sym (hold.at k s i hk hs hi) ∙ some_held (H k s i) l)

      -- what an edge offers is low
      edge_low : (e k j : ℕ) → e < P.edgecount → from_count P t e k < counts → j < width P → edge_least P t H k j e < no_cost → Low W t (pair_of (edge_least P t H k j e))
      edge_low e k j he hk hj l =
          let (i, hi, a, w) = (edge_min_lem (width P) (edge_at P e).kind (H (from_count P t e k) (edge_at P e).from)).met j hj l in
          subst (λ (x : ℕ). Low W t (pair_of x)) w (held_low (from_count P t e k) (edge_at P e).from i hk (ch.edge e he).from_below hi (omega arith))

      by_edge_low : (k s j e : ℕ) → e < P.edgecount → j < width P → by_edge P t H k s j e < no_cost → by_edge P t H k s j e ≤ t * (unit * W + edge_most) + edge_most
      unfolding by_edge raise
      by_edge_low k s j e he hj l = go (leads_at P t e k s) refl (ltb (edge_least P t H k j e) no_cost) refl l
        where
          go : (b : Bool) → leads_at P t e k s ≡ b → (c : Bool) → ltb (edge_least P t H k j e) no_cost ≡ c → cond b (cond c (edge_least P t H k j e + edge_weight P e) (edge_least P t H k j e)) no_cost < no_cost
              → cond b (cond c (edge_least P t H k j e + edge_weight P e) (edge_least P t H k j e)) no_cost ≤ t * (unit * W + edge_most) + edge_most
          go true p true q l =
              let h = edge_low e k j he (leads_count P t e k s p) hj (ltb-true (edge_least P t H k j e) no_cost q) in
              omega (arith, weight_low P e, number_low W t (edge_least P t H k j e) h)
          go true p false q l = absurd (omega (arith, ltb-false (edge_least P t H k j e) no_cost q))
          go false p c q l = absurd (omega arith)

      -- the least of what an edge offers is what code makes of it
      edge_offers : suc t * (unit * W + edge_most) < no_cost → (k s j e : ℕ) → j < width P → e < P.edgecount
          → plus (held (by_edge P t H k s j e)) (pair_of (unit * loss_at zs t (P.lo +ℤ pos j))) ≡ least_below (width P) (offer P zs t F (node k s (P.lo +ℤ pos j)) e)
      unfolding by_edge
      edge_offers room k s j e hj he =
          ap (λ (o : Option Cost). plus o loss) (held_given (leads_at P t e k s) (raise least (edge_weight P e))) ∙ go (leads_at P t e k s) refl
          ∙ sym (least_ext (width P) _ _ (λ i hi. offer_held k s j e i hj he hi))
        where
          x : Kind
          x = (edge_at P e).kind

          m : ℤ
          m = P.lo +ℤ pos j

          loss : Cost
          loss = pair_of (unit * loss_at zs t m)

          f : ℕ → ℕ
          f = H (from_count P t e k) (edge_at P e).from

          least : ℕ
          least = edge_least P t H k j e

          -- nothing is carried, and the sum is below none
          fits : leads_at P t e k s ≡ true → least < no_cost → (least % unit + edge_weight P e % unit < unit) × (least + edge_weight P e < no_cost)
          fits p l =
              let (a, b) = edge_low e k j he (leads_count P t e k s p) hj l in
              (omega (arith, b, change_low x, room_few W t room), omega (arith, number_low W t least (a, b), weight_low P e))

          both : pair_of (edge_weight P e) ⊕ loss ≡ step_cost P zs t e m
          both = sym (pair_add (edge_weight P e) (unit * loss_at zs t m) (omega arith)) ∙ step_pair t e m

          go : (b : Bool) → leads_at P t e k s ≡ b
              → plus (given b (held (raise least (edge_weight P e)))) loss ≡ least_below (width P) (λ i. given (permits_at x i j && b) (plus (held (f i)) (step_cost P zs t e m)))
          go false p = sym (least_none (width P) _ (λ i hi. none_given (permits_at x i j) _))
          go true p =
              ap (λ (o : Option Cost). plus o loss) (held_raise least (edge_weight P e) (fits p)) ∙ plus_twice (held least) (pair_of (edge_weight P e)) loss ∙ ap (plus (held least)) both
              ∙ sym (least_permitted (width P) x f (edge_min (width P) x f) j (step_cost P zs t e m) hj (edge_min_lem (width P) x f))

  -- of a family of layers, one for each number of changes that an edge may have
  module _ (t : ℕ) (F : ℕ → Node → Option Cost) (T : ℕ → Table) (hold : (c : ℕ) → HoldingOf P (F c) (T c))
      (low : (c : ℕ) (v : Node) (d : Cost) → F c v ≡ some d → Low W t d) (room : suc t * (unit * W + edge_most) < no_cost) where
    abbrev by : ℕ → ℕ → ℕ → ℕ → ℕ
    by k s j e = by_edge P t (T (change_of (edge_at P e).kind)) k s j e

    by_low : (k s j e : ℕ) → e < P.edgecount → j < width P → by k s j e < no_cost → by k s j e ≤ t * (unit * W + edge_most) + edge_most
    by_low k s j e =
        let x = change_of (edge_at P e).kind in
        by_edge_low t (F x) (T x) (hold x) (low x) k s j e

    -- the least of them and a loss are below none
    sum_low : (k s j : ℕ) → j < width P → min_below P.edgecount (by k s j) < no_cost → min_below P.edgecount (by k s j) + unit * loss_at zs t (P.lo +ℤ pos j) < no_cost
    sum_low k s j hj l =
        let (e, he, w) = min_met P.edgecount (by k s j) l in
        omega (arith, by_low k s j e he hj (omega arith), losses t (P.lo +ℤ pos j) (index_grid P ch.grid j hj))

    -- what code makes of the layers of t readings is the step from them
    pub from_holding : HoldingOf P (step_from P zs t F) (next_from P zs t T)
    unfolding next_from step_from
    from_holding = record { at = at }
      where
        at : (k s j : ℕ) → k < counts → s < P.states → j < width P
            → held (raise (min_below P.edgecount (by k s j)) (unit * loss_at zs t (P.lo +ℤ pos j)))
            ≡ least_below P.edgecount (λ e. least_below (width P) (offer P zs t (F (change_of (edge_at P e).kind)) (node k s (P.lo +ℤ pos j)) e))
        at k s j hk hs hj =
            let loss : ℕ = unit * loss_at zs t (P.lo +ℤ pos j) in
            let f = by k s j in
            held_raise (min_below P.edgecount f) loss (λ l. (omega arith, sum_low k s j hj l))
            ∙ ap (λ (o : Option Cost). plus o (pair_of loss)) (held_least P.edgecount f)
            ∙ plus_least P.edgecount (λ e. held (f e)) (pair_of loss)
            ∙ least_ext P.edgecount _ _ (λ e he. let x = change_of (edge_at P e).kind in edge_offers t (F x) (T x) (hold x) (low x) room k s j e hj he)

    -- no number is above the one that means none
    pub from_most : (k s j : ℕ) → j < width P → next_from P zs t T k s j ≤ no_cost
    unfolding next_from raise
    from_most k s j hj = go (ltb least no_cost) refl
      where
        least : ℕ
        least = min_below P.edgecount (by k s j)

        go : (b : Bool) → ltb least no_cost ≡ b → cond b (least + unit * loss_at zs t (P.lo +ℤ pos j)) least ≤ no_cost
        go true e = omega (arith, sum_low k s j hj (ltb-true least no_cost e))
        go false e = min_none P.edgecount (by k s j)

  module _ (t : ℕ) (t-pos : 1 ≤ t) (H : Table) (hold : Holding P zs t H) (room : suc t * (unit * W + edge_most) < no_cost) where
    -- what code makes of the layer of t readings is that of one more
    pub next_holding : Holding P zs (suc t) (next_table P zs t H)
    next_holding = record { at = λ k s j hk hs hj. (from_holding t (λ c. opt P zs t) (λ c. H) (λ c. hold) (λ c. opt_low t) room).at k s j hk hs hj ∙ sym (opt_step P zs t (node k s (P.lo +ℤ pos j)) t-pos) }

    pub next_most : (k s j : ℕ) → j < width P → next_table P zs t H k s j ≤ no_cost
    next_most = from_most t (λ c. opt P zs t) (λ c. H) (λ c. hold) (λ c. opt_low t) room

    -- ---- the step back

    module _ (k s j : ℕ) (hk : k < counts) (hs : s < P.states) (hj : j < width P) (c : ℕ) (value_is : opt P zs (suc t) (node k s (P.lo +ℤ pos j)) ≡ some (pair_of c)) where
      abbrev v : Node
      v = node k s (P.lo +ℤ pos j)

      abbrev rest : ℕ → ℕ
      rest e = edge_weight P e + unit * loss_at zs t (P.lo +ℤ pos j)

      abbrev held_before : ℕ → ℕ → ℕ
      held_before e i = H (from_count P t e k) (edge_at P e).from i

      -- what an edge adds to a number is what it adds to a cost
      sum_is : (e i : ℕ) → e < P.edgecount → i < width P → leads_at P t e k s ≡ true → held_before e i < no_cost
          → pair_of (held_before e i) ⊕ step_cost P zs t e (P.lo +ℤ pos j) ≡ pair_of (held_before e i + rest e)
      sum_is e i he hi l h =
          let (a, b) = held_low t (opt P zs t) H hold (opt_low t) (from_count P t e k) (edge_at P e).from i (leads_count P t e k s l) (ch.edge e he).from_below hi h in
          ap (λ (x : Cost). pair_of (held_before e i) ⊕ x) (sym (step_pair t e (P.lo +ℤ pos j)))
          ∙ sym (pair_add (held_before e i) (rest e) (omega (arith, b, change_low (edge_at P e).kind, room_few W t room)))

      some_offer : (e i d : ℕ) → e < P.edgecount → i < width P → offer P zs t (opt P zs t) v e i ≡ some (pair_of d)
          → (permits_at (edge_at P e).kind i j ≡ true) × (leads_at P t e k s ≡ true) × (held_before e i < no_cost) × (held_before e i + rest e ≡ d)
      some_offer e i d he hi p =
          let m : ℤ = P.lo +ℤ pos j in
          let (a, q) = given_met (permits_at (edge_at P e).kind i j && leads_at P t e k s) (plus (held (held_before e i)) (step_cost P zs t e m)) (pair_of d) (sym (offer_held t (opt P zs t) H hold k s j e i hj he hi) ∙ p) in
          let (b, l) = and_yes (permits_at (edge_at P e).kind i j) (leads_at P t e k s) a in
          let (x, r, w) = plus_met (held (held_before e i)) (step_cost P zs t e m) (pair_of d) q in
          let (y, z) = held_some (held_before e i) x r in
          (b, l, y, pair_one (held_before e i + rest e) d (sym (sum_is e i he hi l y) ∙ ap (λ (c : Cost). c ⊕ step_cost P zs t e m) z ∙ w))

      offer_some : (e i : ℕ) → e < P.edgecount → i < width P → permits_at (edge_at P e).kind i j ≡ true → leads_at P t e k s ≡ true → held_before e i < no_cost
          → offer P zs t (opt P zs t) v e i ≡ some (pair_of (held_before e i + rest e))
      offer_some e i he hi a l h = offer_held t (opt P zs t) H hold k s j e i hj he hi ∙ rw (a, l, some_held (held_before e i) h) (ap some (sum_is e i he hi l h))

      -- no offer is below the node's value
      no_less : (e i d : ℕ) → e < P.edgecount → offer P zs t (opt P zs t) v e i ≡ some (pair_of d) → c ≤ d
      no_less e i d he p =
          let (x, a, q, w) = offer_met P zs t (opt P zs t) v e i (pair_of d) he p in
          let (c', q', l) = ((opt_layers P zs).step t t-pos).least a q in
          let z : c' ≡ pair_of c = some-injective c' (pair_of c) (sym q' ∙ value_is) in
          pair_back c d (subst (λ (y : Cost). y ≼ pair_of d) z (subst (λ (y : Cost). c' ≼ y) w l))

      -- an edge whose least over the permitted levels meets the value
      abbrev Meets : ℕ → Type 0
      Meets e = (leads_at P t e k s ≡ true) × (edge_least P t H k j e < no_cost) × (edge_least P t H k j e + rest e ≡ c)

      offer_meets : (e i : ℕ) → e < P.edgecount → i < width P → offer P zs t (opt P zs t) v e i ≡ some (pair_of c) → Meets e × (held_before e i ≡ edge_least P t H k j e)
      offer_meets e i he hi p =
          let (a, l, h, w) = some_offer e i c he hi p in
          let x = edge_min_lem (width P) (edge_at P e).kind (H (from_count P t e k) (edge_at P e).from) in
          let b = x.least i j hi hj a h in
          let (i', hi', a', w') = x.met j hj (omega arith) in
          let q = no_less e i' (held_before e i' + rest e) he (offer_some e i' he hi' a' l (omega arith)) in
          ((l, omega arith, omega arith), omega arith)

      -- code takes the lowest edge that meets the value, and there the lowest permitted level with the least
      pub step_back : (e i : ℕ) → e < P.edgecount → i < width P → Meets e → ((e' : ℕ) → e' < e → Meets e' → ⊥)
          → permits_at (edge_at P e).kind i j ≡ true → held_before e i ≡ edge_least P t H k j e
          → ((i' : ℕ) → i' < i → permits_at (edge_at P e).kind i' j ≡ true → held_before e i' ≡ edge_least P t H k j e → ⊥)
          → first_hit P.edgecount (width P) (offer P zs t (opt P zs t) v) (pair_of c) ≡ some (e, i)
      step_back e i he hi (l, h, w) first_edge a q first-level =
          first_hit_is P.edgecount (width P) (offer P zs t (opt P zs t) v) (pair_of c) e i he hi
          (offer_some e i he hi a l (omega arith) ∙ ap (λ (x : ℕ). some (pair_of x)) {x = held_before e i + rest e} {y = c} (omega arith))
          (λ e' i' he' hi' p. upto e' i' he' hi' p (dec_lt e e') (dec_lt e' e) (dec_le i i'))
        where
          upto : (e' i' : ℕ) → e' < P.edgecount → i' < width P → offer P zs t (opt P zs t) v e' i' ≡ some (pair_of c) → Dec (e < e') → Dec (e' < e) → Dec (i ≤ i') → Upto e i e' i'
          upto e' i' he' hi' p (yes x) d d' = inl x
          upto e' i' he' hi' p (no x) (yes y) d' = absurd (first_edge e' y (offer_meets e' i' he' hi' p).0)
          upto e' i' he' hi' p (no x) (no y) (yes z) = inr (omega arith, z)
          upto e' i' he' hi' p (no x) (no y) (no z) =
              let u : e' ≡ e = omega arith in
              let p' : offer P zs t (opt P zs t) v e i' ≡ some (pair_of c) = subst (λ (y : ℕ). offer P zs t (opt P zs t) v y i' ≡ some (pair_of c)) u p in
              absurd (first-level i' (omega arith) (some_offer e i' c he hi' p').0 (offer_meets e i' he hi' p').1)
