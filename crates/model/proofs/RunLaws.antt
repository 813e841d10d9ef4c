-- What the list of runs tells of its segmentation: it covers the record (`runs_tile`); each reading is in a run that has its state and level
-- (`reading_run`, `run_of`); and it determines the segmentation (`runs_one`). Assumes nothing.
use Rattle.std.specs.Prelude.{◌≡◌, Bool, cond, ltb, eqb, ℤ, pos, length, get_or}
use Rattle.std.proofs.Math.Path.{refl, sym, ap, subst}
use Rattle.std.proofs.Common.{◌∙◌, inr, length-append, get_or-append-add}
use Rattle.std.proofs.Math.Logic.{inl}
use mathlib.Core.List.{List, [], ◌∷◌, ◌++◌, append_assoc, reverse, reverse_aux, reverse-reverse}
use Rattle.std.proofs.Math.Bool.{true, false}
use Prim.Native.Nat.{ℕ, zero, suc, ◌+◌, ◌*◌, ◌≤◌, ◌<◌}
use native.Mathlib.Omega.{arith}
use Rattle.std.proofs.Math.Decide.{ℕ_discrete, dec_lt}
use borrow.Author.Tests.{ltb-false, lt-ltb, le-ltb, eqb-true}
use Rattle.std.specs.Int.Signed.{le_z}
use Rattle.std.proofs.Math.ListN.{get_or-append}
use Rattle.plan.specs.declared.Plan.{Plan}
use Rattle.plan.specs.declared.Kind.{Kind}
use Rattle.plan.specs.declared.Kind.TheVariants.{Stay, Any, Up, Down, Abs}
use Rattle.plan.specs.Build.{kind_number, plan_number}
use Rattle.model.specs.Segmentation.{Seg, first, next, readings, last_level, readings_pos}
use Rattle.model.specs.Model.{edge_at, permits, last_state, Follows}
use Rattle.model.specs.Run.{Run, run, is_stay, joins, back_from, runs, five, numbers, run_numbers}
use Rattle.model.proofs.Bools.{clash, and_yes}
use Rattle.model.proofs.Grid.{le_z_both}
use Rattle.model.specs.Lists.{In}
use Rattle.model.proofs.Lists.{in_reverse}
use Rattle.model.specs.Checked.{Checked}
use Rattle.model.proofs.Checked.{checked}
use Rattle.model.specs.RunLaws.{RunOf, RunOk, Tiles, last_edge, prefix}

-- there are no more runs than readings
pub few_runs : (P : Plan) (n : ℕ) (g : Seg) → length (back_from P n g) ≤ readings g
unfolding back_from readings
few_runs P n (first s m) = omega arith
few_runs P n (next g e m) = go (joins (edge_at P e)) (few_runs P n g) (few_runs P (readings g) g)
  where
    go : (b : Bool) → length (back_from P n g) ≤ readings g → length (back_from P (readings g) g) ≤ readings g
        → length (cond b (back_from P n g) (run (suc (readings g)) n (edge_at P e).to m e ∷ back_from P (readings g) g)) ≤ suc (readings g)
    go true h k = omega arith
    go false h k = omega arith

module _ (P : Plan) (ch : Checked P) where
  tile_back : (g : Seg) (n : ℕ) (rs : List Run) (z : ℕ) → Follows P g → readings g ≤ n → Tiles P (suc n) rs z → Tiles P 1 (reverse_aux (back_from P n g) rs) z
  unfolding back_from readings Follows
  tile_back (first s m) n rs z f h k =
      (record { starts_at = refl; not_empty = h; state_below = ch.starts s f.0; on_grid_lem = f.1; enters = inl (refl, refl) }, k)
  tile_back (next g e m) n rs z f h k = go (joins (edge_at P e)) (tile_back g n rs z f.0 (omega arith) k) (λ x. tile_back g (readings g) _ z f.0 (omega arith) x)
    where
      r : Run
      r = run (suc (readings g)) n (edge_at P e).to m e

      ok : RunOk P (suc (readings g)) r
      ok = record { starts_at = refl; not_empty = h; state_below = (ch.edge e f.1).to_below; on_grid_lem = f.4; enters = inr (omega (arith, readings_pos g), f.1) }

      go : (b : Bool) → Tiles P 1 (reverse_aux (back_from P n g) rs) z → (Tiles P (suc (readings g)) (r ∷ rs) z → Tiles P 1 (reverse_aux (back_from P (readings g) g) (r ∷ rs)) z)
          → Tiles P 1 (reverse_aux (cond b (back_from P n g) (r ∷ back_from P (readings g) g)) rs) z
      go true x y = x
      go false x y = y (ok, k)

  pub runs_tile : (g : Seg) → Follows P g → Tiles P 1 (runs P g) (readings g)
  unfolding runs
  runs_tile g f = tile_back g (readings g) [] (readings g) f (omega arith) refl

prefix_before : (t : ℕ) (g : Seg) (e : ℕ) (m : ℤ) → t ≤ readings g → prefix t (next g e m) ≡ prefix t g
unfolding prefix
prefix_before t g e m h = rw (le-ltb (readings g) t h) refl

prefix_all : (t : ℕ) (g : Seg) → readings g ≤ t → prefix t g ≡ g
unfolding prefix readings
prefix_all t (first s m) h = refl
prefix_all t (next g e m) h = rw (lt-ltb (readings g) t h) refl

prefix_twice : (a b : ℕ) (g : Seg) → a ≤ b → prefix a (prefix b g) ≡ prefix a g
unfolding prefix
prefix_twice a b (first s m) h = refl
prefix_twice a b (next g e m) h = go (ltb (readings g) b) refl (prefix_twice a b g h)
  where
    go : (c : Bool) → ltb (readings g) b ≡ c → prefix a (prefix b g) ≡ prefix a g → prefix a (cond c (next g e m) (prefix b g)) ≡ prefix a (next g e m)
    go true i ih = refl
    go false i ih = ih ∙ sym (prefix_before a g e m (omega (arith, ltb-false (readings g) b i)))

-- a stay edge keeps the level
stay_level : (k : Kind) (m m' : ℤ) → is_stay k ≡ true → permits k m m' ≡ true → m ≡ m'
unfolding is_stay permits
stay_level Stay m m' h p = let (a, b) = and_yes (le_z m m') (le_z m' m) p in le_z_both m m' a b
stay_level Any m m' h p = clash h
stay_level (Up gap) m m' h p = clash h
stay_level (Down gap) m m' h p = clash h
stay_level (Abs gap) m m' h p = clash h

-- an edge that joins keeps state and level
joins_keeps : (P : Plan) (g : Seg) (e : ℕ) (m : ℤ) → Follows P (next g e m) → joins (edge_at P e) ≡ true → ((edge_at P e).to ≡ last_state P g) × (m ≡ last_level g)
unfolding joins Follows
joins_keeps P g e m f j =
    let (a, b) = and_yes (is_stay (edge_at P e).kind) (eqb (edge_at P e).from (edge_at P e).to) j in
    (sym (eqb-true (edge_at P e).from (edge_at P e).to b) ∙ f.2, sym (stay_level (edge_at P e).kind (last_level g) m a f.3))

-- g is the front of G, and the readings of G after it up to n are joined to its last one
record Open (P : Plan) (G g : Seg) (n : ℕ) : Type 0 where
  front : prefix (readings g) G ≡ g
  reaches : (readings g ≤ n) × (n ≤ readings G)
  on : (t : ℕ) → readings g < t → t ≤ n
      → (last_state P (prefix t G) ≡ last_state P g) × (last_level (prefix t G) ≡ last_level g) × (joins (edge_at P (last_edge (prefix t G))) ≡ true)

module _ (P : Plan) (G : Seg) where
  -- a run starts at the last reading of g
  run_open : (g : Seg) (n : ℕ) → Open P G g n → (1 < readings g → joins (edge_at P (last_edge g)) ≡ false)
      → RunOf P G (run (readings g) n (last_state P g) (last_level g) (last_edge g))
  run_open g n o starts = record {
    inside = (readings_pos g, o.reaches.0, o.reaches.1);
    at = λ t h k. at t h k (ℕ_discrete t (readings g));
    entered = ap last_edge o.front;
    longest = starts;
    joined = λ t h k. (o.on t h k).2;
  }
    where
      at : (t : ℕ) → readings g ≤ t → t ≤ n → Dec (t ≡ readings g) → (last_state P (prefix t G) ≡ last_state P g) × (last_level (prefix t G) ≡ last_level g)
      at t h k (yes i) = rw (i, o.front) (refl, refl)
      at t h k (no i) = let (s, m, j) = o.on t (omega arith) k in (s, m)

  module _ (g : Seg) (e : ℕ) (m : ℤ) (n : ℕ) (o : Open P G (next g e m) n) where
    front_before : prefix (readings g) G ≡ g
    unfolding readings
    front_before =
        sym (prefix_twice (readings g) (suc (readings g)) G (omega arith)) ∙ ap (prefix (readings g)) o.front
        ∙ prefix_before (readings g) g e m (omega arith) ∙ prefix_all (readings g) g (omega arith)

    open_joined : Follows P (next g e m) → joins (edge_at P e) ≡ true → Open P G g n
    unfolding readings last_edge last_state last_level
    open_joined f j = record { front = front_before; reaches = (omega (arith, o.reaches), o.reaches.1); on = λ t h k. on t h k (ℕ_discrete t (suc (readings g))) }
      where
        keeps : ((edge_at P e).to ≡ last_state P g) × (m ≡ last_level g)
        keeps = joins_keeps P g e m f j

        on : (t : ℕ) → readings g < t → t ≤ n → Dec (t ≡ suc (readings g))
            → (last_state P (prefix t G) ≡ last_state P g) × (last_level (prefix t G) ≡ last_level g) × (joins (edge_at P (last_edge (prefix t G))) ≡ true)
        on t h k (yes i) = rw (i, o.front) (keeps.0, keeps.1, j)
        on t h k (no i) = let (a, b, c) = o.on t (omega arith) k in (a ∙ keeps.0, b ∙ keeps.1, c)

    open_new : Open P G g (readings g)
    unfolding readings
    open_new = record { front = front_before; reaches = (omega arith, omega (arith, o.reaches)); on = λ t h k. absurd (omega arith) }

  each_run : (g : Seg) (n : ℕ) → Open P G g n → Follows P g → (r : Run) → In r (back_from P n g) → RunOf P G r
  unfolding back_from readings last_edge last_state last_level Follows
  each_run (first s m) n o f r (inl i) = subst (λ (x : Run). RunOf P G x) (sym i) (run_open (first s m) n o (λ h. absurd (omega arith)))
  each_run (first s m) n o f r (inr h) = absurd h
  each_run (next g e m) n o f r h = go (joins (edge_at P e)) refl h (each_run g n) (each_run g (readings g))
    where
      go : (b : Bool) → joins (edge_at P e) ≡ b → In r (cond b (back_from P n g) (run (suc (readings g)) n (edge_at P e).to m e ∷ back_from P (readings g) g))
          → (Open P G g n → Follows P g → (r : Run) → In r (back_from P n g) → RunOf P G r)
          → (Open P G g (readings g) → Follows P g → (r : Run) → In r (back_from P (readings g) g) → RunOf P G r) → RunOf P G r
      go true j k ih ih' = ih (open_joined g e m n o f j) f.0 r k
      go false j (inl i) ih ih' = subst (λ (x : Run). RunOf P G x) (sym i) (run_open (next g e m) n o (λ h. j))
      go false j (inr k) ih ih' = ih' (open_new g e m n o) f.0 r k

module _ (P : Plan) where
  pub run_of : (g : Seg) → Follows P g → (r : Run) → In r (runs P g) → RunOf P g r
  unfolding runs
  run_of g f r h =
      each_run P g g (readings g)
      (record { front = prefix_all (readings g) g (omega arith); reaches = (omega arith, omega arith); on = λ t h k. absurd (omega arith) })
      f r (in_reverse r (back_from P (readings g) g) h)

  tile_at : (a : ℕ) (rs : List Run) (n t : ℕ) → Tiles P a rs n → a ≤ t → t ≤ n → (r : Run) × In r rs × (r.start ≤ t) × (t ≤ r.last)
  tile_at a [] n t h k l = absurd (omega arith)
  tile_at a (r ∷ rs) n t (o, h) k l = go (dec_lt r.last t) (tile_at (suc r.last) rs n t h)
    where
      go : Dec (r.last < t) → (r.last < t → t ≤ n → (x : Run) × In x rs × (x.start ≤ t) × (t ≤ x.last)) → (x : Run) × In x (r ∷ rs) × (x.start ≤ t) × (t ≤ x.last)
      go (yes d) ih = let (x, i, p, q) = ih d l in (x, inr i, p, q)
      go (no d) ih = (r, inl refl, omega (arith, o.starts_at), omega arith)

  -- each reading is in a run, which has its state and level
  pub reading_run : plan_number P ≡ 0 → (g : Seg) → Follows P g → (t : ℕ) → 1 ≤ t → t ≤ readings g
      → (r : Run) × In r (runs P g) × (r.start ≤ t) × (t ≤ r.last) × (last_state P (prefix t g) ≡ r.state) × (last_level (prefix t g) ≡ r.level)
  reading_run built g f t h k =
      let (r, i, p, q) = tile_at 1 (runs P g) (readings g) t (runs_tile P (checked P built) g f) h k in
      let (s, m) = (run_of g f r i).at t p q in
      (r, i, p, q, s, m)

-- ---- the run list determines the segmentation: of the plan's edges one at most stays in a state

stay_number : (k : Kind) → is_stay k ≡ true → kind_number k ≡ 0
unfolding is_stay
stay_number Stay h = refl
stay_number Any h = clash h
stay_number (Up gap) h = clash h
stay_number (Down gap) h = clash h
stay_number (Abs gap) h = clash h

module _ (P : Plan) (ch : Checked P) where
  -- two edges that join in one state are one
  one_stay : (e e' : ℕ) → e < P.edgecount → e' < P.edgecount → joins (edge_at P e) ≡ true → joins (edge_at P e') ≡ true → (edge_at P e).from ≡ (edge_at P e').from → e ≡ e'
  unfolding joins
  one_stay e e' h h' j j' q =
      let (a, b) = and_yes (is_stay (edge_at P e).kind) (eqb (edge_at P e).from (edge_at P e).to) j in
      let (a', b') = and_yes (is_stay (edge_at P e').kind) (eqb (edge_at P e').from (edge_at P e').to) j' in
      let t : (edge_at P e).to ≡ (edge_at P e').to = sym (eqb-true _ _ b) ∙ q ∙ eqb-true _ _ b' in
      let k : kind_number (edge_at P e).kind ≡ kind_number (edge_at P e').kind = stay_number _ a ∙ sym (stay_number _ a') in
      ch.distinct e e' h h' q t k

  start_low : (n : ℕ) (g : Seg) (r : Run) → In r (back_from P n g) → r.start ≤ readings g
  unfolding back_from readings
  start_low n (first s m) r (inl i) = rw i (omega arith)
  start_low n (first s m) r (inr h) = absurd h
  start_low n (next g e m) r h = go (joins (edge_at P e)) h (start_low n g r) (start_low (readings g) g r)
    where
      go : (b : Bool) → In r (cond b (back_from P n g) (run (suc (readings g)) n (edge_at P e).to m e ∷ back_from P (readings g) g))
          → (In r (back_from P n g) → r.start ≤ readings g) → (In r (back_from P (readings g) g) → r.start ≤ readings g) → r.start ≤ suc (readings g)
      go true k ih ih' = omega (arith, ih k)
      go false (inl i) ih ih' = rw i (omega arith)
      go false (inr k) ih ih' = omega (arith, ih' k)

  -- the open run ends at n
  last_run : (n : ℕ) (g : Seg) → (r : Run) × (rs : List Run) × (back_from P n g ≡ r ∷ rs) × (r.last ≡ n)
  unfolding back_from
  last_run n (first s m) = (run 1 n s m 255, [], refl, refl)
  last_run n (next g e m) = go (joins (edge_at P e)) (last_run n g)
    where
      go : (b : Bool) → (r : Run) × (rs : List Run) × (back_from P n g ≡ r ∷ rs) × (r.last ≡ n)
          → (r : Run) × (rs : List Run) × (cond b (back_from P n g) (run (suc (readings g)) n (edge_at P e).to m e ∷ back_from P (readings g) g) ≡ r ∷ rs) × (r.last ≡ n)
      go true ih = ih
      go false ih = (run (suc (readings g)) n (edge_at P e).to m e, back_from P (readings g) g, refl, refl)

  back_one : (n : ℕ) (g g' : Seg) → Follows P g → Follows P g' → readings g ≡ readings g' → back_from P n g ≡ back_from P n g' → g ≡ g'
  unfolding back_from readings Follows
  back_one n (first s m) (first s' m') f f' k w =
      let r : run 1 n s m 255 ≡ run 1 n s' m' 255 = cc in
      let i : s ≡ s' = ap (λ (x : Run). x.state) r in
      let j : m ≡ m' = ap (λ (x : Run). x.level) r in
      cc
  back_one n (first s m) (next g' e' m') f f' k w = absurd (omega (arith, readings_pos g'))
  back_one n (next g e m) (first s' m') f f' k w = absurd (omega (arith, readings_pos g))
  back_one n (next g e m) (next g' e' m') f f' k w =
      go (joins (edge_at P e)) refl (joins (edge_at P e')) refl (back_one n g g' f.0 f'.0 (omega arith)) (back_one (readings g) g g' f.0 f'.0 (omega arith)) w
    where
      q : readings g ≡ readings g'
      q = omega arith

      r : Run
      r = run (suc (readings g)) n (edge_at P e).to m e

      r' : Run
      r' = run (suc (readings g')) n (edge_at P e').to m' e'

      go : (b : Bool) → joins (edge_at P e) ≡ b → (b' : Bool) → joins (edge_at P e') ≡ b'
          → (back_from P n g ≡ back_from P n g' → g ≡ g') → (back_from P (readings g) g ≡ back_from P (readings g) g' → g ≡ g')
          → cond b (back_from P n g) (r ∷ back_from P (readings g) g) ≡ cond b' (back_from P n g') (r' ∷ back_from P (readings g') g') → next g e m ≡ next g' e' m'
      go true j true j' one one' v =
          let i : g ≡ g' = one v in
          let x : e ≡ e' = one_stay e e' f.1 f'.1 j j' (f.2 ∙ ap (last_state P) i ∙ sym f'.2) in
          let y : m ≡ m' = (joins_keeps P g e m f j).1 ∙ ap last_level i ∙ sym (joins_keeps P g' e' m' f' j').1 in
          cc
      go true j false j' one one' v = absurd (omega (arith, start_low n g r' (subst (λ (rs : List Run). In r' rs) (sym v) (inl refl))))
      go false j true j' one one' v = absurd (omega (arith, start_low n g' r (subst (λ (rs : List Run). In r rs) v (inl refl))))
      go false j false j' one one' v =
          let h : r ≡ r' = cc in
          let t : back_from P (readings g) g ≡ back_from P (readings g') g' = cc in
          let i : g ≡ g' = one' (t ∙ ap (λ (c : ℕ). back_from P c g') (sym q)) in
          let x : e ≡ e' = ap (λ (x : Run). x.edge) h in
          let y : m ≡ m' = ap (λ (x : Run). x.level) h in
          cc

-- ---- the numbers of the runs, five each

pub numbers_length : (rs : List Run) → length (numbers rs) ≡ 5 * length rs
unfolding numbers
numbers_length [] = refl
numbers_length (r ∷ rs) = omega (arith, length-append (five r) (numbers rs), numbers_length rs)

pub numbers_append : (rs rs' : List Run) → numbers (rs ++ rs') ≡ numbers rs ++ numbers rs'
unfolding numbers
numbers_append [] rs' = refl
numbers_append (r ∷ rs) rs' = ap (λ (x : List ℤ). five r ++ x) (numbers_append rs rs') ∙ sym (append_assoc (five r) (numbers rs) (numbers rs'))

-- number f of run i
pub numbers_get : (rs : List Run) (i f : ℕ) (r : Run) → i < length rs → f < 5 → get_or (numbers rs) (5 * i + f) (pos 0) ≡ get_or (five (get_or rs i r)) f (pos 0)
unfolding numbers
numbers_get [] i f r h k = absurd (omega arith)
numbers_get (x ∷ rs) zero f r h k =
    let e : 5 * 0 + f ≡ f = omega arith in
    rw e (get_or-append (five x) (numbers rs) (pos 0) f k)
numbers_get (x ∷ rs) (suc i) f r h k =
    let e : 5 * suc i + f ≡ length (five x) + (5 * i + f) = omega arith in
    rw e (get_or-append-add (five x) (numbers rs) (5 * i + f) (pos 0) ∙ numbers_get rs i f r (omega arith) k)

numbers_one : (rs rs' : List Run) → numbers rs ≡ numbers rs' → rs ≡ rs'
unfolding numbers
numbers_one [] [] e = refl
numbers_one [] (r' ∷ rs') e = cc
numbers_one (r ∷ rs) [] e = cc
numbers_one (r ∷ rs) (r' ∷ rs') e =
    let a : r.start ≡ r'.start = cc in
    let b : r.last ≡ r'.last = cc in
    let c : r.state ≡ r'.state = cc in
    let d : r.level ≡ r'.level = cc in
    let f : r.edge ≡ r'.edge = cc in
    let t : numbers rs ≡ numbers rs' = cc in
    let h : r ≡ r' = λ i. record { start = a i; last = b i; state = c i; level = d i; edge = f i } in
    let k : rs ≡ rs' = numbers_one rs rs' t in
    cc

-- the run numbers determine the segmentation
pub runs_one : (P : Plan) → plan_number P ≡ 0 → (g g' : Seg) → Follows P g → Follows P g' → run_numbers P g ≡ run_numbers P g' → g ≡ g'
unfolding run_numbers runs
runs_one P built g g' f f' w =
    let c = checked P built in
    let q : back_from P (readings g) g ≡ back_from P (readings g') g' = sym (reverse-reverse (back_from P (readings g) g)) ∙ ap reverse (numbers_one (runs P g) (runs P g') w) ∙ reverse-reverse (back_from P (readings g') g') in
    let (r, rs, a, b) = last_run P c (readings g) g in
    let (r', rs', a', b') = last_run P c (readings g') g' in
    let h : r ≡ r' = cc in
    let k : readings g ≡ readings g' = sym b ∙ ap (λ (x : Run). x.last) h ∙ b' in
    back_one P c (readings g) g g' f f' k (q ∙ ap (λ (i : ℕ). back_from P i g') (sym k))
