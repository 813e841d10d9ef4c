-- Lists made one after the other. Assumes nothing.
use mathlib.Core.Path.{◌≡◌, refl, ◌∙◌, ap, subst}
use mathlib.Core.List.{List}
use mathlib.Core.Option.{Option}
use mathlib.Core.Logic.{◌⊎◌, inl, inr, ⊎_elim}
use Prim.Native.Nat.{ℕ, suc, ◌+◌, ◌*◌, ◌≤◌, ◌<◌}
use native.Mathlib.Omega.{arith}
use native.Mathlib.Nat.{mul-le-mul_right}
use native.Mathlib.Numerals.{add-one}
use lib.IntN.{ℤ}
use lib.ListN.{length, get_or}
use Rattle.integers.specs.Rep.{le_or_lt}
use Rattle.plan.specs.declared.Plan.{Plan}
use Rattle.plan.specs.declared.Label.{Label}
use Rattle.model.specs.Model.{width}
use Rattle.model.specs.Labels.{label_on, counts, used_at}
use Rattle.model.proofs.Labels.{used_most}
use Rattle.model.specs.Held.{Table}
use Rattle.curve.specs.Lists.{count_most_lem}
use Rattle.curve.specs.Curve.{Curve, curve_same}
use Rattle.edges.specs.Edge.{Off}
use Rattle.layer.specs.declared.Shape.{Shape}
use Rattle.layer.specs.Layer.{reading_most, count_most, base_of, list_at, layer_words, LayerOf, Sources}
use Rattle.layer.specs.Next.{NextReady, NextList, Lists, One, OfCount, Counts, Aside, StepReady, Stepped, FirstReady, StartReady}
use Rattle.layer.proofs.Next.{list_within}

-- ---- places

-- a word of one list is outside the others
off_list : (o S L k s k' s' : ℕ) → ((k ≡ k') × (s ≡ s') → ⊥) → s < S → s' < S → (i : ℕ) → list_at o S L k s ≤ i → i < list_at o S L k s + 4 * L → Off (list_at o S L k' s') L i
unfolding list_at
off_list o S L k s k' s' n hs hs' i a b = ⊎_elim (λ h. go h) (λ h. inl (omega (arith, mul-le-mul_right (4 * L) h))) (le_or_lt (k' * S + s') (k * S + s))
  where
    same : k * S + s ≡ k' * S + s' → (k ≡ k') × (s ≡ s')
    same e = ⊎_elim
        (λ h. ⊎_elim (λ q. let w : k ≡ k' = omega arith in (w, omega (arith, ap (λ (x : ℕ). x * S) w))) (λ q. absurd (omega (arith, mul-le-mul_right S q))) (le_or_lt k' k))
        (λ h. absurd (omega (arith, mul-le-mul_right S h)))
        (le_or_lt k k')

    go : k' * S + s' ≤ k * S + s → Off (o + (k' * S + s') * (4 * L)) L i
    go h = ⊎_elim (λ q. absurd (n (same (omega arith)))) (λ q. inr (omega (arith, mul-le-mul_right (4 * L) q))) (le_or_lt (k * S + s) (k' * S + s'))

-- a list whose words are as before is the same list
kept_list : {A B base L : ℕ} {ws ws' : List ℕ} {o : ℕ} {F : ℕ → ℕ} → length ws' ≡ length ws → ((i : ℕ) → o ≤ i → i < o + 4 * L → get_or ws' i 0 ≡ get_or ws i 0) → Curve A B base L ws o F → Curve A B base L ws' o F
kept_list e f c = curve_same e c (record { word = λ i h g. f i h (omega (arith, count_most_lem c.held.formed)) })

-- ---- lists

module _ (P : Plan) (t : ℕ) (H : Table) (o free : ℕ) where
  pub one_list : {k s : ℕ} {ws ws' : List ℕ} (t' : ℕ) → t ≡ suc t' → NextList P t' H (list_at o P.states (width P) k s) free k s ws ws' → Lists (One k s) P t H o free ws ws'
  one_list {k} {s} {ws} {ws'} t' e m = record {
    size = m.beside.size;
    word = λ i f g. m.beside.word i (f k s (refl, refl)) g;
    list = λ k' s' q. rw (q.0, q.1, e) m.list;
  }

  pub lists_as : {Q : ℕ → ℕ → Type 0} (R : ℕ → ℕ → Type 0) {ws ws' : List ℕ} → ((k s : ℕ) → Q k s → R k s) → ((k s : ℕ) → R k s → Q k s) → Lists Q P t H o free ws ws' → Lists R P t H o free ws ws'
  lists_as R f g m = record { size = m.size; word = λ i h. m.word i (λ k s q. h k s (f k s q)); list = λ k s r. m.list k s (g k s r) }

  -- lists of two sets, one after the other
  pub both_lists : {Q R : ℕ → ℕ → Type 0} {ws ws' ws'' : List ℕ} → o + layer_words P ≤ free → ((k s : ℕ) → Q k s → (k < counts) × (s < P.states)) → ((k s : ℕ) → R k s → s < P.states)
      → ((k s : ℕ) → Q k s → R k s → ⊥) → Lists Q P t H o free ws ws' → Lists R P t H o free ws' ws'' → Lists (λ (k s : ℕ). Q k s ⊎ R k s) P t H o free ws ws''
  both_lists {Q} {R} {ws} {ws'} {ws''} u hq hr n m w = record {
    size = w.size ∙ m.size;
    word = λ i f g. w.word i (λ k s r. f k s (inr r)) g ∙ m.word i (λ k s q. f k s (inl q)) g;
    list = λ k s. ⊎_elim (λ q. first k s q) (λ r. w.list k s r);
  }
    where
      first : (k s : ℕ) → Q k s → Curve (t * count_most) (t * reading_most) (base_of P) (width P) ws'' (list_at o P.states (width P) k s) (H k s)
      first k s q =
          let b = list_within o P.states (width P) k s (hq k s q).0 (hq k s q).1 in
          kept_list w.size
          (λ i h g. w.word i (λ k' s' r. off_list o P.states (width P) k s k' s' (λ e. n k s q (rw (e.0, e.1) r)) (hq k s q).1 (hr k' s' r) i h g) (inl (omega arith)))
          (m.list k s q)

-- ---- the step

-- a layer whose words are as before is the same layer
pub layer_same : {P : Plan} {t : ℕ} {H : Table} {ws ws' : List ℕ} {o : ℕ} → length ws' ≡ length ws → ((i : ℕ) → o ≤ i → i < o + layer_words P → get_or ws' i 0 ≡ get_or ws i 0) → LayerOf P t H ws o → LayerOf P t H ws' o
layer_same {P} {t} {H} {ws} {ws'} {o} e f l = record {
  list = λ k s hk hs.
      let w = list_within o P.states (width P) k s (omega (arith, used_most (label_on P t))) hs in
      kept_list e (λ i h h'. f i (omega arith) (omega arith)) (l.list k s hk hs);
}

-- so is one apart from the lists that are made
pub layer_kept : {P : Plan} {t o : ℕ} {H : Table} {ws : List ℕ} {next free : ℕ} → Aside P o next free → LayerOf P t H ws o
    → {Q : ℕ → ℕ → Type 0} {t' : ℕ} {H' : Table} {ws' : List ℕ} → ((k s : ℕ) → Q k s → (k < counts) × (s < P.states)) → Lists Q P t' H' next free ws ws' → LayerOf P t H ws' o
layer_kept {P} {t} {o} {H} {ws} {next} {free} b l hq m = layer_same m.size (λ i h h'. m.word i (λ k' s' q. elsewhere k' s' (hq k' s' q) i h h') (inl (omega (arith, b.below)))) l
  where
    elsewhere : (k' s' : ℕ) → (k' < counts) × (s' < P.states) → (i : ℕ) → o ≤ i → i < o + layer_words P → Off (list_at next P.states (width P) k' s') (width P) i
    elsewhere k' s' h i p q =
        let w = list_within next P.states (width P) k' s' h.0 h.1 in
        ⊎_elim (λ e. inl (omega arith)) (λ e. inr (omega arith)) b.apart

module _ {P : Plan} {zs : List ℤ} {t cur moved next free : ℕ} {g : Shape} {ws : List ℕ} (a : StepReady P zs t cur moved next free g ws) where
  -- the layers that are read are as they were
  pub sources_kept : {T : ℕ → Table} {Q : ℕ → ℕ → Type 0} {t' : ℕ} {H : Table} {ws' : List ℕ} → ((k s : ℕ) → Q k s → (k < counts) × (s < P.states)) → Lists Q P t' H next free ws ws'
      → Sources P t T ws cur moved → Sources P t T ws' cur moved
  sources_kept hq m l = record { stays = layer_kept a.stays l.stays hq m; changes = layer_kept a.changes l.changes hq m }

  pub still_ready : {Q : ℕ → ℕ → Type 0} {t' : ℕ} {H : Table} {ws' : List ℕ} → ((k s : ℕ) → Q k s → (k < counts) × (s < P.states)) → Lists Q P t' H next free ws ws' → StepReady P zs t cur moved next free g ws'
  still_ready hq m = record {
    task = a.task;
    more = a.more;
    tables = a.tables;
    sources = sources_kept hq m a.sources;
    stays = a.stays;
    changes = a.changes;
    under = a.under;
    room = omega (arith, a.room, m.size);
    place = a.place;
  }

  pub list_ready : {o : Option Label} {k s : ℕ} → o ≡ label_on P t → k < counts → s < P.states → (dst : ℕ) → dst ≡ list_at next P.states (width P) k s → NextReady P zs o t cur moved dst free k s g ws
  list_ready {o} {k} {s} e hk hs dst d =
      let b = list_within next P.states (width P) k s hk hs in
      record {
        task = a.task;
        on = e;
        more = a.more;
        tables = a.tables;
        sources = a.sources;
        count = hk;
        state = hs;
        below = a.stays.below;
        moved_below = a.changes.below;
        under = omega (arith, a.under);
        room = a.room;
        place = a.place;
      }

module _ {P : Plan} (t : ℕ) {H : Table} (o free : ℕ) (under : o + layer_words P ≤ free) {ws ws' ws'' : List ℕ} where
  -- one list more of a count
  pub count_more : {k n : ℕ} → k < counts → n < P.states → Lists (OfCount k n) P (suc t) H o free ws ws' → NextList P t H (list_at o P.states (width P) k n) free k n ws' ws''
      → Lists (OfCount k (n + 1)) P (suc t) H o free ws ws''
  count_more {k} {n} hk hn m w =
      lists_as P (suc t) H o free (OfCount k (n + 1)) (λ k' s'. ⊎_elim (λ q. (q.0, omega (arith, q.1))) (λ q. (q.0, omega (arith, q.1)))) (λ k' s' q. ⊎_elim (λ p. inr (q.0, omega (arith, q.1))) (λ p. inl (q.0, p)) (le_or_lt n s'))
      (both_lists P (suc t) H o free under (λ k' s' q. (omega (arith, q.0), omega (arith, q.1))) (λ k' s' q. omega (arith, q.1)) (λ k' s' p q. omega (arith, p.1, q.1)) m (one_list P (suc t) H o free t refl w))

  -- one count more
  pub counts_more : {n : ℕ} → n < counts → Lists (Counts P n) P (suc t) H o free ws ws' → Lists (OfCount n P.states) P (suc t) H o free ws' ws'' → Lists (Counts P (n + 1)) P (suc t) H o free ws ws''
  counts_more {n} hn m w =
      lists_as P (suc t) H o free (Counts P (n + 1)) (λ k' s'. ⊎_elim (λ q. (omega (arith, q.0), q.1)) (λ q. (omega (arith, q.0), q.1))) (λ k' s' q. ⊎_elim (λ p. inr (omega (arith, q.0), q.1)) (λ p. inl (p, q.1)) (le_or_lt n k'))
      (both_lists P (suc t) H o free under (λ k' s' q. (omega (arith, q.0), q.1)) (λ k' s' q. q.1) (λ k' s' p q. omega (arith, p.0, q.0)) m w)

pub next_used : (P : Plan) {k n : ℕ} (t : ℕ) → k ≡ n → n ≡ used_at P (t + 1) → k ≡ used_at P (suc t)
next_used P t e h = e ∙ h ∙ ap (used_at P) (add-one t)

pub stepped : {P : Plan} {t : ℕ} {H : Table} {o free n : ℕ} {ws ws' : List ℕ} → n ≡ used_at P t → n ≤ counts → Lists (Counts P n) P t H o free ws ws' → Stepped P t H o free ws ws'
stepped {P} {t} {H} {o} {free} {n} {ws} {ws'} e few m = record {
  size = m.size;
  word = λ i f. m.word i (λ k s q. let b = list_within o P.states (width P) k s (omega (arith, q.0)) q.1 in ⊎_elim (λ h. inl (omega arith)) (λ h. inr (omega arith)) f);
  layer = record { list = λ k s hk hs. m.list k s (omega arith, hs) };
}

module _ {P : Plan} {zs : List ℤ} {o free : ℕ} {g : Shape} {ws : List ℕ} (a : StartReady P zs o free g ws) where
  pub still_start : {Q : ℕ → ℕ → Type 0} {t : ℕ} {H : Table} {ws' : List ℕ} → Lists Q P t H o free ws ws' → StartReady P zs o free g ws'
  still_start m = record { task = a.task; more = a.more; under = a.under; room = omega (arith, a.room, m.size); place = a.place }

  pub first_list_ready : {k s : ℕ} → k < counts → s < P.states → (dst : ℕ) → dst ≡ list_at o P.states (width P) k s → FirstReady P zs dst free k s g ws
  first_list_ready {k} {s} hk hs dst d =
      let b = list_within o P.states (width P) k s hk hs in
      record { task = a.task; more = a.more; state = hs; under = omega (arith, a.under); room = a.room }

-- a list made at the place that code computed
pub made_at : {P : Plan} {t : ℕ} {H : Table} {dst dst' free k s : ℕ} {ws ws' : List ℕ} → dst ≡ dst' → NextList P t H dst free k s ws ws' → NextList P t H dst' free k s ws ws'
made_at {P} {t} {H} {dst} {dst'} {free} {k} {s} {ws} {ws'} e m = subst (λ (x : ℕ). NextList P t H x free k s ws ws') e m
