-- One edge taken into the least so far. What an edge makes of a list is the model's `edge_min`; the penalty and the change are added by its `raise`.
-- Assumes nothing.
use Rattle.std.specs.Prelude.{◌≡◌, refl, ◌⊎◌, List, ℕ, zero, suc, ◌+◌, ◌*◌, ◌-◌, ◌≤◌, ◌<◌, min, length, get_or, ℤ, ◌+ℤ◌}
use Rattle.std.proofs.Common.{sym, ◌∙◌, inl, inr, ⊎_elim, arith, le-leb, lt-ltb, le-ltb, eq-eqb, ne_eqb}
use Rattle.std.proofs.lemmas.Bool.{lt-leb}
use Rattle.std.proofs.Math.IntN.{pos}
use Rattle.integers.specs.Rep.{le_or_lt, iz, nz, ◌⊕◌, eq_n, eq_z}
use Rattle.integers.specs.Pairs.{unit, lex}
use Rattle.quadratic.specs.Quad.{no_value, count_limit, cost_limit}
use Rattle.quadratic.specs.Fine.{plus, far, far_signed, square_most}
use Rattle.curve.specs.Pieces.{piece, Kept, Apart}
use Rattle.curve.specs.Lists.{count_most_lem}
use Rattle.curve.specs.Lows.{costs, lowest, lowest_zero, lowest_new, lowest_old}
use Rattle.curve.specs.Curve.{Curve, Limits, less, curve_same}
use Rattle.model.specs.Index.{no_cost, prefix_min}
use Rattle.model.specs.Held.{raise}
use Rattle.model.specs.Model.{square, loss_at}

-- a list that may be taken: at most A readings and changes, its costs none or less than B
abbrev pub Sound : ℕ → ℕ → ℕ → ℕ → List ℕ → ℕ → Type 0
Sound A B base L ws o = Curve A B base L ws o (costs base (piece ws o L))

-- ---- which words are changed

-- the word i is outside the list at o
abbrev pub Off : ℕ → ℕ → ℕ → Type 0
Off o L i = (i < o) ⊎ (o + 4 * L ≤ i)

-- every word outside the lists at a, b and c is as before
pub record Spared (a b c L : ℕ) (ws ws' : List ℕ) : Type 0 where
  pub size : length ws' ≡ length ws
  pub word : (i : ℕ) → Off a L i → Off b L i → Off c L i → get_or ws' i 0 ≡ get_or ws i 0

-- ---- which lists share no word

-- f is read while next and work are written
pub record Into (f next work L size : ℕ) : Type 0 where
  pub f_next : Apart f next (4 * L)
  pub f_work : Apart f work (4 * L)
  pub next_work : Apart next work (4 * L)
  pub room_next : next + 4 * L ≤ size
  pub room_work : work + 4 * L ≤ size

-- acc and g are read while next is written
pub record Joint (acc next g L size : ℕ) : Type 0 where
  pub acc_next : Apart acc next (4 * L)
  pub g_next : Apart g next (4 * L)
  pub room_next : next + 4 * L ≤ size

-- the temporary lists and f share no word: acc is the least so far, the next one goes to next, and work is one to work in
pub record Hand (acc next work f L size : ℕ) : Type 0 where
  pub into : Into f next work L size
  pub acc_next : Apart acc next (4 * L)
  pub acc_work : Apart acc work (4 * L)
  pub f_acc : Apart f acc (4 * L)
  pub room_acc : acc + 4 * L ≤ size

-- what is asked for an edge from the list at f: there is room for the penalty and for one change
pub record Ready (acc next work f pen base L : ℕ) (ws : List ℕ) : Type 0 where
  pub hand : Hand acc next work f L (length ws)
  pub low : pen ≤ cost_limit
  pub some : 0 < L
  pub limits : Limits count_limit cost_limit base L
  pub so_far : Sound count_limit cost_limit base L ws acc
  pub from : Sound (count_limit - 1) (cost_limit - pen) base L ws f

-- ---- the contracts

-- work is f by E; next and work are written
pub record Moved (E : (ℕ → ℕ) → ℕ → ℕ) (base L : ℕ) (ws ws' : List ℕ) (f next work : ℕ) : Type 0 where
  pub spared : Spared next work work L ws ws'
  pub curve : (A B : ℕ) (G : ℕ → ℕ) → Limits A B base L → Curve A B base L ws f G → Curve A B base L ws' work (E G)

-- beside acc, and with pen and ch changes added, work is as good as f by E; no list but next and work is written
pub record StandsFor (E : (ℕ → ℕ) → ℕ → ℕ) (pen ch base L : ℕ) (ws ws' : List ℕ) (f acc next work : ℕ) : Type 0 where
  pub spared : Spared next work work L ws ws'
  pub curve : (A B C D : ℕ) (F G : ℕ → ℕ) → Limits A B base L → D + ch ≤ A → C + pen ≤ B → Curve A B base L ws acc F → Curve D C base L ws f G
      → (H : ℕ → ℕ) × (Curve D C base L ws' work H × ((j : ℕ) → j < L → min (F j) (raise (H j) (lex pen ch)) ≡ min (F j) (raise (E G j) (lex pen ch))))

-- next is the least of acc and of g with pen and ch changes added
pub record Joined (pen ch base L : ℕ) (ws ws' : List ℕ) (g acc next : ℕ) : Type 0 where
  pub kept : Kept ws ws' next (4 * L)
  pub curve : (A B C D : ℕ) (F G : ℕ → ℕ) → Limits A B base L → D + ch ≤ A → C + pen ≤ B → Curve A B base L ws acc F → Curve D C base L ws g G
      → Curve A B base L ws' next (λ (j : ℕ). min (F j) (raise (G j) (lex pen ch)))

-- r is one of the two places
abbrev pub OneOf : ℕ → ℕ → ℕ → Type 0
OneOf a b r = (r ≡ a) ⊎ (r ≡ b)

-- r is acc or next, and there is now the least of acc and of f by E with pen and ch changes added
pub record Taken (E : (ℕ → ℕ) → ℕ → ℕ) (pen ch base L : ℕ) (ws ws' : List ℕ) (f acc next work r : ℕ) : Type 0 where
  pub place : OneOf acc next r
  pub spared : Spared acc next work L ws ws'
  pub curve : (A B C D : ℕ) (F G : ℕ → ℕ) → Limits A B base L → D + ch ≤ A → C + pen ≤ B → Curve A B base L ws acc F → Curve D C base L ws f G
      → Curve A B base L ws' r (λ (j : ℕ). min (F j) (raise (E G j) (lex pen ch)))

-- dst is the list at f with w times the square of the distance from u
pub record WithLoss (w u base L : ℕ) (ws ws' : List ℕ) (f dst : ℕ) : Type 0 where
  pub kept : Kept ws ws' dst (4 * L)
  pub curve : (A B : ℕ) (F : ℕ → ℕ) → Limits A B base L → Curve A B base L ws f F → Curve (A + w) (B + w * square_most) base L ws' dst (λ (j : ℕ). raise (F j) (unit * (w * (far u (base + j) * far u (base + j)))))

-- ---- laws of what is spared
pub spared_refl : (a b c L : ℕ) (ws : List ℕ) → Spared a b c L ws ws
spared_refl a b c L ws = record { size = refl; word = λ i x y z. refl }

pub spared_then : {a b c L : ℕ} {ws ws' ws'' : List ℕ} → Spared a b c L ws ws' → Spared a b c L ws' ws'' → Spared a b c L ws ws''
spared_then p q = record { size = q.size ∙ p.size; word = λ i x y z. q.word i x y z ∙ p.word i x y z }

-- a write to one list
pub kept_off : {o : ℕ} (L : ℕ) {ws ws' : List ℕ} → Kept ws ws' o (4 * L) → (i : ℕ) → Off o L i → get_or ws' i 0 ≡ get_or ws i 0
kept_off L k i = ⊎_elim (λ h. k.before i h) (λ h. k.after i h)

-- a list elsewhere is as it was
pub spared_curve : {A B base L a b c o : ℕ} {ws ws' : List ℕ} {F : ℕ → ℕ} → Spared a b c L ws ws' → Apart o a (4 * L) → Apart o b (4 * L) → Apart o c (4 * L) → Curve A B base L ws o F → Curve A B base L ws' o F
spared_curve {L = L} {a} {b} {c} {o} p x y z k = curve_same p.size k (record { word = λ i h g. p.word i (off a i h (omega (arith, count_most_lem k.held.formed)) x) (off b i h (omega (arith, count_most_lem k.held.formed)) y) (off c i h (omega (arith, count_most_lem k.held.formed)) z) })
  where
    off : (d i : ℕ) → o ≤ i → i < o + 4 * L → Apart o d (4 * L) → Off d L i
    off d i h g = ⊎_elim (λ q. inl (omega arith)) (λ q. inr (omega arith))

-- what is written lies within the words from s on
pub spared_kept : {a b c L : ℕ} {ws ws' : List ℕ} (s n : ℕ) → (s ≤ a) × (a + 4 * L ≤ s + n) → (s ≤ b) × (b + 4 * L ≤ s + n) → (s ≤ c) × (c + 4 * L ≤ s + n) → Spared a b c L ws ws' → Kept ws ws' s n
spared_kept s n x y z p = record {
  size = p.size;
  before = λ i h. p.word i (inl (omega arith)) (inl (omega arith)) (inl (omega arith));
  after = λ i h. p.word i (inr (omega arith)) (inr (omega arith)) (inr (omega arith));
}

-- ---- laws of order
pub apart_swap : (o p len : ℕ) → Apart o p len → Apart p o len
apart_swap o p len = ⊎_elim (λ h. inr h) (λ h. inl h)

pub hand_swap : {a b w f L n : ℕ} → Hand a b w f L n → Hand b a w f L n
hand_swap {a} {b} {L = L} h = record {
  into = record { f_next = h.f_acc; f_work = h.into.f_work; next_work = h.acc_work; room_next = h.room_acc; room_work = h.into.room_work };
  acc_next = apart_swap a b (4 * L) h.acc_next;
  acc_work = h.into.next_work;
  f_acc = h.into.f_next;
  room_acc = h.into.room_next;
}

pub spared_swap : {a b w L : ℕ} {ws ws' : List ℕ} → Spared b a w L ws ws' → Spared a b w L ws ws'
spared_swap s = record { size = s.size; word = λ i x y z. s.word i y x z }

-- p and q are a and b, in this order or the other
abbrev pub Order : ℕ → ℕ → ℕ → ℕ → Type 0
Order a b p q = ((p ≡ a) × (q ≡ b)) ⊎ ((p ≡ b) × (q ≡ a))

-- the other of two places
pub order_other : (a b p : ℕ) → OneOf a b p → Order a b p (a + b - p)
order_other a b p = ⊎_elim (λ e. inl (e, omega arith)) (λ e. inr (e, omega arith))

pub order_place : {a b p q r : ℕ} → Order a b p q → OneOf p q r → OneOf a b r
order_place o x = ⊎_elim
    (λ e. ⊎_elim (λ g. inl (g ∙ e.0)) (λ g. inr (g ∙ e.1)) x)
    (λ e. ⊎_elim (λ g. inr (g ∙ e.0)) (λ g. inl (g ∙ e.1)) x)
    o

pub hand_order : {a b p q w f L n : ℕ} → Order a b p q → Hand a b w f L n → Hand p q w f L n
hand_order o h = ⊎_elim (λ e. rw (e.0, e.1) h) (λ e. rw (e.0, e.1) (hand_swap h)) o

pub spared_order : {a b p q w L : ℕ} {ws ws' : List ℕ} → Order a b p q → Spared p q w L ws ws' → Spared a b w L ws ws'
spared_order {a} {b} {p} {q} {w} {L} {ws} {ws'} o s = ⊎_elim
    (λ e. rw (← e.0, ← e.1) s)
    (λ e. spared_swap (rw (← e.0, ← e.1) s))
    o

-- ---- the model's numbers and the lists'
pub less_min : (x y : ℕ) → less x y ≡ min x y
less_min x y = ⊎_elim (λ h. rw (le-leb x y h) (omega arith)) (λ h. rw (lt-leb x y h) (omega arith)) (le_or_lt x y)

pub plus_raise : (k x : ℕ) → x ≤ no_value → plus k x ≡ raise x k
unfolding raise
plus_raise k x h = ⊎_elim
    (λ g. let e : x ≡ no_value = omega arith in rw (eq-eqb x no_value e, le-ltb x no_cost (omega arith)))
    (λ g. rw (ne_eqb x no_value (λ e. omega arith), lt-ltb x no_cost (omega arith)))
    (le_or_lt no_value x)

pub lowest_prefix : (G : ℕ → ℕ) (j : ℕ) → ((i : ℕ) → i ≤ j → G i ≤ no_value) → lowest G (j + 1) ≡ prefix_min G j
unfolding prefix_min
lowest_prefix G zero f = lowest_new G 0 (omega (arith, lowest_zero G, f 0 (omega arith)))
lowest_prefix G (suc j) f =
    let z : suc j ≡ j + 1 = omega arith in
    let e : lowest G (suc j) ≡ prefix_min G j = rw z (lowest_prefix G j (λ i h. f i (omega arith))) in
    ⊎_elim
    (λ h. lowest_old G (suc j) h ∙ (omega arith))
    (λ h. lowest_new G (suc j) h ∙ (omega arith))
    (le_or_lt (lowest G (suc j)) (G (suc j)))

pub raise_none : (x k : ℕ) → no_value ≤ x → raise x k ≡ x
unfolding raise
raise_none x k h = rw (le-ltb x no_cost (omega arith))

pub raise_some : (x k : ℕ) → x < no_value → raise x k ≡ x + k
unfolding raise
raise_some x k h = rw (lt-ltb x no_cost (omega arith))

pub min_regroup : (x y z w : ℕ) → min y z ≡ w → min (min x y) z ≡ min x w
min_regroup x y z w e = omega arith

-- the penalty is added to the lesser
pub raise_min : (x y k : ℕ) → (x < no_value → x + k ≤ no_value) → (y < no_value → y + k ≤ no_value) → min (raise x k) (raise y k) ≡ raise (min x y) k
raise_min x y k f g = ⊎_elim
    (λ h. ⊎_elim
    (λ i. rw (raise_none x k h, raise_none y k i) (sym (raise_none (min x y) k (omega arith))))
    (λ i. rw (raise_none x k h, raise_some y k i) (omega (arith, g i, raise_some (min x y) k (omega arith))))
    (le_or_lt no_value y))
    (λ h. ⊎_elim
    (λ i. rw (raise_some x k h, raise_none y k i) (omega (arith, f h, raise_some (min x y) k (omega arith))))
    (λ i. rw (raise_some x k h, raise_some y k i) (omega (arith, raise_some (min x y) k (omega arith))))
    (le_or_lt no_value y))
    (le_or_lt no_value x)

-- ---- the loss of a reading: its place is u, and that of the lowest level is base
module _ (zs : List ℤ) (t : ℕ) (lo : ℤ) (u base : ℕ) (at : pos u ≡ get_or zs t (pos 0) +ℤ pos 163840) (from : pos base ≡ lo +ℤ pos 163840) where
  pub loss_place : (j : ℕ) → far u (base + j) * far u (base + j) ≡ loss_at zs t (lo +ℤ pos j)
  unfolding loss_at square
  loss_place j =
      let e = far_signed (get_or zs t (pos 0)) (lo +ℤ pos j) u (base + j) at (eq_z (nz (base + j)) (iz lo ⊕ nz j ⊕ nz 163840) (omega (arith, eq_n (nz base) (iz lo ⊕ nz 163840) from))) in
      rw e
