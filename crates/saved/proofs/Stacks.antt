-- The stack of saved layers: its table, and what its entries hold. Assumes nothing.
use mathlib.Core.Path.{◌≡◌, refl, sym, ◌∙◌, ap, subst}
use mathlib.Core.Logic.{inr, ⊎_elim}
use mathlib.Core.List.{List}
use Prim.Native.Nat.{ℕ, zero, suc, ◌+◌, ◌-◌, ◌*◌, ◌/◌, ◌%◌, ◌≤◌, ◌<◌}
use native.Mathlib.Omega.{arith}
use native.Mathlib.Nat.{mul-le-mul, mul-le-mul_right, div-add-mod', mod-lt}
use native.Mathlib.Numerals.{add-one}
use lib.IntN.{ℤ}
use lib.ListN.{length, get_or, set, length-set, take}
use lib.Seq.{get_or-set_same, get_or-set_other, get_or-take, length-take-le}
use Rattle.integers.specs.Rep.{le_or_lt}
use Rattle.plan.specs.declared.Plan.{Plan}
use Rattle.model.specs.Model.{width}
use Rattle.model.specs.Checked.{Checked}
use Rattle.model.specs.Labels.{label_on, used_at}
use Rattle.model.proofs.Labels.{used_most}
use Rattle.model.specs.Ends.{table_at}
use Rattle.curve.specs.Pieces.{Held}
use Rattle.curve.specs.Lists.{count_same}
use Rattle.curve.specs.Curve.{Curve, curve_same}
use Rattle.model.specs.Held.{Table}
use Rattle.layer.specs.Layer.{reading_most, count_most, base_of, list_at, LayerOf, Layer}
use Rattle.saved.specs.Packed.{Chain, Inside, Row, Packing, Unpacked}
use Rattle.saved.specs.declared.Saved.{Saved}
use Rattle.saved.specs.Walk.{most_slots, stack_at, limit, Packed, Entry, Stack, saved_at, time_of, off_of, Dropped}
use Rattle.saved.proofs.Chains.{chain_low, chain_next, chain_part, chain_same}

-- ---- one layer

-- the number of a list among those of its layer, which has n counts
list_number : (n S k s : ℕ) → k < n → s < S → k * S + s < n * S
list_number n S k s hk hs = omega (arith, mul-le-mul_right S hk)

-- its lists in their order
pub layer_row : {P : Plan} {t : ℕ} {H : Table} {ws : List ℕ} {o : ℕ} → Checked P → LayerOf P t H ws o → Row ws o (used_at P t * P.states) (width P)
unfolding list_at
layer_row {P} {t} {H} {ws} {o} ch y = record {
  list = λ q g.
      let e : q / P.states * P.states + q % P.states ≡ q = div-add-mod' q P.states in
      let m : q % P.states < P.states = mod-lt q ch.some_states in
      let k : q / P.states < used_at P t = ⊎_elim (λ p. absurd (omega (arith, mul-le-mul_right P.states p))) (λ p. p) (le_or_lt (used_at P t) (q / P.states)) in
      subst (λ (x : ℕ). Held ws (o + x * (4 * width P)) (width P)) e (y.list (q / P.states) (q % P.states) k m).held;
  few = omega (arith, mul-le-mul (used_most (label_on P t)) ch.few_states);
  narrow = ch.narrow;
}

module _ {P : Plan} {zs : List ℤ} {t : ℕ} where
  pub layer_packed : {ws ws' : List ℕ} {o a e : ℕ} → Layer P zs t ws o → Packing ws ws' o a e (used_at P t * P.states) (width P) → Packed P zs t ws' a e
  unfolding list_at
  layer_packed y p = record {
    chain = p.chain;
    list = λ k s m hk hs d. (p.moved (k * P.states + s) m (list_number (used_at P t) P.states k s hk hs) d).curve _ _ _ _ (y.list k s hk hs);
  }

  pub packed_layer : {ws ws' : List ℕ} {o a e : ℕ} → Packed P zs t ws a e → Unpacked ws ws' a o (used_at P t * P.states) (width P) → Layer P zs t ws' o
  unfolding list_at
  packed_layer y p = record {
    list = λ k s hk hs.
        let n = list_number (used_at P t) P.states k s hk hs in
        let d = chain_part (k * P.states + s) y.chain (omega arith) in
        (p.moved (k * P.states + s) d.end n d.chain).curve _ _ _ _ (y.list k s d.end hk hs d.chain);
  }

  pub packed_same : {ws ws' : List ℕ} {a e : ℕ} → length ws' ≡ length ws → ((i : ℕ) → a ≤ i → i < e → get_or ws' i 0 ≡ get_or ws i 0) → Packed P zs t ws a e → Packed P zs t ws' a e
  packed_same {ws} {ws'} {a} {e} z f y = record { chain = there; list = each }
    where
      there : Chain (width P) ws' a (used_at P t * P.states) e
      there = chain_same z f y.chain

      each : (k s m : ℕ) → k < used_at P t → s < P.states → Chain (width P) ws' a (k * P.states + s) m → Curve (t * count_most) (t * reading_most) (base_of P) (width P) ws' m (table_at P zs t k s)
      each k s m hk hs d =
          let n = list_number (used_at P t) P.states k s hk hs in
          let b = chain_next there d n in
          let d' = chain_same (sym z) (λ i u v. sym (f i u (omega (arith, b.by)))) d in
          let c = y.list k s m hk hs d' in
          let b' = chain_next y.chain d' n in
          curve_same z c (record { word = λ i u v. f i (omega (arith, chain_low d')) (omega (arith, b'.by, count_same c.held.formed b'.held.formed)) })

-- ---- the stack

-- what stands before an entry that is written
saved_before : (T : List Saved) (n : ℕ) (x : Saved) (i : ℕ) → i < n → saved_at (set T n x) i ≡ saved_at T i
saved_before T n x i h = get_or-set_other T n i x _ (λ q. omega arith)

off_before : (T : List Saved) (n : ℕ) (x : Saved) (P : Plan) (i : ℕ) → i ≤ n → off_of P (set T n x) i ≡ off_of P T i
off_before T n x P zero h = refl
off_before T n x P (suc i) h = ap (λ (y : Saved). y.end) (saved_before T n x i (omega arith))

-- where the entries before the one at i end, seen in the first n
off_front : (P : Plan) (T : List Saved) (n i : ℕ) → i ≤ n → off_of P (take n T) i ≡ off_of P T i
off_front P T n zero h = refl
off_front P T n (suc i) h = ap (λ (y : Saved). y.end) (get_or-take n T i _ (omega arith))

off_taken : (P : Plan) (T : List Saved) (n : ℕ) → n ≤ length T → off_of P (take n T) (length (take n T)) ≡ off_of P T n
off_taken P T n h = ap (λ (i : ℕ). off_of P (take n T) i) (length-take-le n T h) ∙ off_front P T n n (omega arith)

module _ {P : Plan} {zs : List ℤ} {n : ℕ} {T : List Saved} where
  module _ {ws : List ℕ} (k : Stack P zs n T ws) where
    rises : (i : ℕ) → i < n → off_of P T i ≤ off_of P T (suc i)
    rises i h = chain_low (k.entry i h).packed.chain

    pub off_low : (i : ℕ) → i ≤ n → stack_at P ≤ off_of P T i
    off_low zero h = omega arith
    off_low (suc i) h = omega (arith, off_low i (omega arith), rises i (omega arith))

    off_top : (d i : ℕ) → i + d ≡ n → off_of P T i ≤ off_of P T n
    off_top zero i h = let e : i ≡ n = omega arith in rw e (omega arith)
    off_top (suc d) i h = omega (arith, rises i (omega arith), off_top d (suc i) (omega arith))

    pub off_high : (i : ℕ) → i ≤ n → off_of P T i ≤ off_of P T n
    off_high i h = off_top (n - i) i (omega arith)

    pub stack_same : {ws' : List ℕ} → length ws' ≡ length ws → ((i : ℕ) → stack_at P ≤ i → i < off_of P T n → get_or ws' i 0 ≡ get_or ws i 0) → Stack P zs n T ws'
    stack_same z f = record {
      size = k.size;
      few = k.few;
      top = k.top;
      entry = λ i h. let y = k.entry i h in record {
        some = y.some;
        most = y.most;
        packed = packed_same z (λ j u v. f j (omega (arith, off_low i (omega arith))) (omega (arith, off_high (suc i) (omega arith)))) y.packed;
      };
    }

    -- ---- the first n entries as a list of their own

    pub taken_count : length (take n T) ≡ n
    taken_count = length-take-le n T (omega (arith, k.size, k.few))

    pub taken_off : off_of P (take n T) (length (take n T)) ≡ off_of P T n
    taken_off = off_taken P T n (omega (arith, k.size, k.few))

    pub taken_time : 0 < n → time_of (take n T) (length (take n T) - 1) ≡ time_of T (n - 1)
    taken_time h = ap (λ (i : ℕ). time_of (take n T) (i - 1)) taken_count ∙ ap (λ (y : Saved). y.time) (get_or-take n T (n - 1) _ (omega arith))

    pub taken_below : 0 < n → off_of P (take (length (take n T) - 1) (take n T)) (length (take (length (take n T) - 1) (take n T))) ≡ off_of P T (n - 1)
    taken_below h = off_taken P (take n T) (length (take n T) - 1) (omega arith) ∙ ap (λ (i : ℕ). off_of P (take n T) (i - 1)) taken_count ∙ off_front P T n (n - 1) (omega arith)

    -- what changes words below the stack only leaves it as it is
    pub stack_kept : {ws' : List ℕ} {m : ℕ} → m ≡ n → Inside 0 (stack_at P) ws ws' → Stack P zs m T ws'
    stack_kept {ws'} e i = subst (λ (x : ℕ). Stack P zs x T ws') (sym e) (stack_same i.size (λ j u v. i.word j (inr u)))

    -- one entry more, of the layer after t readings, packed up to e
    module _ (t e : ℕ) (few : n < most_slots) where
      abbrev one : Saved
      one = record { time = t; end = e }

      abbrev T' : List Saved
      T' = set T n one

      one_at : saved_at T' n ≡ one
      one_at = get_or-set_same T n one _ (omega (arith, k.size))

      before : (i : ℕ) → i < n → Entry P zs (time_of T' i) ws (off_of P T' i) (off_of P T' (suc i))
      before i h = rw (ap (λ (x : Saved). x.time) (saved_before T n one i h), off_before T n one P i (omega arith), off_before T n one P (suc i) (omega arith)) (k.entry i h)

      pub stack_pushed : 1 ≤ t → t ≤ length zs → e ≤ limit P → Packed P zs t ws (off_of P T n) e → Stack P zs (n + 1) T' ws
      stack_pushed some most fits y = rw (add-one n) (record {
        size = length-set T n one ∙ k.size;
        few = omega arith;
        top = rw (ap (λ (x : Saved). x.end) one_at) fits;
        entry = λ i h. ⊎_elim (λ q. let w : n ≡ i = omega arith in subst (λ (x : ℕ). Entry P zs (time_of T' x) ws (off_of P T' x) (off_of P T' (suc x))) w last) (λ q. before i q) (le_or_lt n i);
      })
        where
          last : Entry P zs (time_of T' n) ws (off_of P T' n) (off_of P T' (suc n))
          last = rw (ap (λ (x : Saved). x.time) one_at, off_before T n one P n (omega arith), ap (λ (x : Saved). x.end) one_at) (record { some = some; most = most; packed = y })

    -- what is left of the first n entries is left of the table
    pub dropped_taken : {t r : ℕ} → Dropped (take n T) (length (take n T)) t r → Dropped T n t r
    dropped_taken {t} {r} d = record {
      count = omega (arith, d.count, taken_count);
      top = λ h. rw (sym (ap (λ (y : Saved). y.time) (get_or-take n T (r - 1) (record { time = 0; end = 0 }) (omega (arith, d.count, taken_count))))) (d.top h);
    }

    pub stack_dropped : {t r : ℕ} → Dropped T n t r → Stack P zs r T ws
    stack_dropped {t} {r} d = record {
      size = k.size;
      few = omega (arith, d.count, k.few);
      top = omega (arith, off_high r d.count, k.top);
      entry = λ i h. k.entry i (omega (arith, d.count));
    }

pub stack_empty : {P : Plan} {zs : List ℤ} (T : List Saved) (ws : List ℕ) → length T ≡ most_slots → stack_at P ≤ limit P → Stack P zs 0 T ws
stack_empty T ws z h = record { size = z; few = omega arith; top = h; entry = λ i g. absurd (omega arith) }
