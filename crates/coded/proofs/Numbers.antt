-- Numbers of edges and labels read back, and lists of them one longer. Assumes nothing.
use mathlib.Core.Path.{◌≡◌, refl, sym, ◌∙◌, ap}
use mathlib.Core.Logic.{⊎_elim}
use mathlib.Core.List.{List, [], ◌∷◌, ◌++◌}
use Prim.Native.Nat.{ℕ, zero, suc, ◌+◌, ◌-◌, ◌*◌, ◌/◌, ◌%◌, ◌<◌}
use native.Mathlib.Omega.{arith}
use native.Mathlib.Decide.{dec_lt}
use lib.ListN.{length, get_or, set, length-set, length-append, get_or-append}
use lib.Seq.{get_or-set_same, get_or-set_other, get_or-append-add, ext_get_or}
use Rattle.plan.specs.declared.Kind.{Kind}
use Rattle.plan.specs.declared.Kind.TheVariants.{Stay, Any, Up, Down, Abs}
use Rattle.plan.specs.declared.Edge.{Edge}
use Rattle.plan.specs.declared.Label.{Label}
use Rattle.plan.specs.declared.Plan.{Plan}
use Rattle.plan.specs.Build.{kind_number, gap_of}
use Rattle.plan.proofs.ByNumber.{no_kind}
use Rattle.integers.specs.Rep.{le_or_lt}
use Rattle.model.specs.Model.{edge_at, label_at}
use Rattle.coded.specs.Coded.{kind_with, edge_in, label_in, edge_number, label_number, LabelsFrom, Numbered, listed, code_of, Written}

kind_back : (k : Kind) → kind_with (kind_number k) (gap_of k) ≡ k
kind_back Stay = refl
kind_back Any = refl
kind_back (Up g) = refl
kind_back (Down g) = refl
kind_back (Abs g) = refl

kind_low : (k : Kind) → kind_number k < 256
kind_low k = ⊎_elim (λ h. omega arith) (λ h. no_kind k h) (le_or_lt (kind_number k) 4)

abbrev pub mk : ℕ → ℕ → Kind → ℕ → Edge
mk f t k c = record { from = f; to = t; kind = k; class = c }

pub edge_number_is : (e : Edge) (n g : ℕ) → n ≡ kind_number e.kind → g ≡ gap_of e.kind → e.from + 256 * e.to + 65536 * e.class + 16777216 * n + 4294967296 * g ≡ edge_number e
edge_number_is e n g en eg = omega arith

pub edge_back : (e : Edge) (n g : ℕ) → n ≡ kind_number e.kind → g ≡ gap_of e.kind → e.from < 256 → e.to < 256 → e.class < 256 → g < 65536
    → edge_in (e.from + 256 * e.to + 65536 * e.class + 16777216 * n + 4294967296 * g) ≡ e
unfolding edge_in
edge_back e n g en eg bf bt bc bg =
    let w : ℕ = e.from + 256 * e.to + 65536 * e.class + 16777216 * n + 4294967296 * g in
    let bn : n < 256 = omega (arith, kind_low e.kind) in
    let h1 : w % 256 ≡ e.from = omega arith in
    let d2 : w / 256 ≡ e.to + 256 * (e.class + 256 * n + 65536 * g) = omega arith in
    let d3 : w / 65536 ≡ e.class + 256 * (n + 256 * g) = omega arith in
    let d4 : w / 16777216 ≡ n + 256 * g = omega arith in
    let d5 : w / 4294967296 ≡ g = omega arith in
    let h2 : w / 256 % 256 ≡ e.to = ap (λ (x : ℕ). x % 256) d2 ∙ omega arith in
    let h3 : w / 65536 % 256 ≡ e.class = ap (λ (x : ℕ). x % 256) d3 ∙ omega arith in
    let h4 : w / 16777216 % 256 ≡ n = ap (λ (x : ℕ). x % 256) d4 ∙ omega arith in
    let h5 : w / 4294967296 % 65536 ≡ g = ap (λ (x : ℕ). x % 65536) d5 ∙ omega arith in
    ap (λ (x : ℕ). mk x (w / 256 % 256) (kind_with (w / 16777216 % 256) (w / 4294967296 % 65536)) (w / 65536 % 256)) h1
    ∙ ap (λ (x : ℕ). mk e.from x (kind_with (w / 16777216 % 256) (w / 4294967296 % 65536)) (w / 65536 % 256)) h2
    ∙ ap (λ (x : ℕ). mk e.from e.to (kind_with (w / 16777216 % 256) (w / 4294967296 % 65536)) x) h3
    ∙ ap (λ (x : ℕ). mk e.from e.to (kind_with x (w / 4294967296 % 65536)) e.class) (h4 ∙ en)
    ∙ ap (λ (x : ℕ). mk e.from e.to (kind_with (kind_number e.kind) x) e.class) (h5 ∙ eg)
    ∙ ap (λ (x : Kind). mk e.from e.to x e.class) (kind_back e.kind)

abbrev pub mk_label : ℕ → ℕ → ℕ → Label
mk_label p q c = record { p = p; q = q; c = c }

pub label_back : (l : Label) → l.p < 65536 → l.q < 65536 → l.c < 256 → label_in (l.p + 65536 * l.q + 4294967296 * l.c) ≡ l
unfolding label_in
label_back l bp bq bc =
    let w : ℕ = l.p + 65536 * l.q + 4294967296 * l.c in
    let h1 : w % 65536 ≡ l.p = omega arith in
    let d2 : w / 65536 ≡ l.q + 65536 * l.c = omega arith in
    let d3 : w / 4294967296 ≡ l.c = omega arith in
    let h2 : w / 65536 % 65536 ≡ l.q = ap (λ (x : ℕ). x % 65536) d2 ∙ omega arith in
    let h3 : w / 4294967296 % 256 ≡ l.c = ap (λ (x : ℕ). x % 256) d3 ∙ omega arith in
    ap (λ (x : ℕ). mk_label x (w / 65536 % 65536) (w / 4294967296 % 256)) h1
    ∙ ap (λ (x : ℕ). mk_label l.p x (w / 4294967296 % 256)) h2
    ∙ ap (λ (x : ℕ). mk_label l.p l.q x) h3

-- ---- a number read

pub edge_read : (w : ℕ) (k : Kind) → k ≡ kind_with (w / 16777216 % 256) (w / 4294967296 % 65536) → mk (w % 256) (w / 256 % 256) k (w / 65536 % 256) ≡ edge_in w
unfolding edge_in
edge_read w k e = ap (λ (x : Kind). mk (w % 256) (w / 256 % 256) x (w / 65536 % 256)) e

pub label_read : (w : ℕ) → mk_label (w % 65536) (w / 65536 % 65536) (w / 4294967296 % 256) ≡ label_in w
unfolding label_in
label_read w = refl

-- ---- one more in the list

-- ---- the list is the plan's

listed_length : (f : ℕ → ℕ) (i n : ℕ) → length (listed f i n) ≡ n
unfolding listed
listed_length f i zero = refl
listed_length f i (suc n) = ap suc (listed_length f (i + 1) n)

listed_get : (f : ℕ → ℕ) (i n k j : ℕ) → i + k ≡ j → k < n → get_or (listed f i n) k 0 ≡ f j
unfolding listed
listed_get f i zero k j e h = absurd (omega arith)
listed_get f i (suc n) zero j e h = let q : i ≡ j = omega arith in ap f q
listed_get f i (suc n) (suc k) j e h = listed_get f (i + 1) n k j (omega arith) (omega arith)

numbered_is : (P : Plan) (code : List ℕ) → length code ≡ 98 → Numbered P 32 64 code → get_or code 96 0 ≡ P.edgecount → get_or code 97 0 ≡ P.labelcount → code ≡ code_of P
numbered_is P code z f e l = ext_get_or 0 code (code_of P) (z ∙ sym size) same
  where
    edges : List ℕ
    edges = listed (λ (i : ℕ). edge_number (edge_at P i)) 0 32

    labels : List ℕ
    labels = listed (λ (i : ℕ). label_number (label_at P i)) 0 64

    two : List ℕ
    two = P.edgecount ∷ P.labelcount ∷ []

    n : length edges ≡ 32
    n = listed_length (λ (i : ℕ). edge_number (edge_at P i)) 0 32

    m : length (edges ++ labels) ≡ 96
    m = length-append edges labels ∙ omega (arith, n, listed_length (λ (i : ℕ). label_number (label_at P i)) 0 64)

    size : length (code_of P) ≡ 98
    size = length-append (edges ++ labels) two ∙ omega (arith, m)

    front : (i : ℕ) → i < 96 → get_or code i 0 ≡ get_or (edges ++ labels) i 0
    front i h = go (dec_lt i 32)
      where
        go : Dec (i < 32) → get_or code i 0 ≡ get_or (edges ++ labels) i 0
        go (yes d) = f.edge i d ∙ sym (listed_get (λ (k : ℕ). edge_number (edge_at P k)) 0 32 i i (omega arith) d) ∙ sym (get_or-append edges labels 0 i (omega (arith, n)))
        go (no d) =
            let q : 32 + (i - 32) ≡ i = omega arith in
            let e : length edges + (i - 32) ≡ i = omega (arith, n) in
            ap (λ (k : ℕ). get_or code k 0) (sym q) ∙ f.label (i - 32) (omega arith) ∙ sym (listed_get (λ (k : ℕ). label_number (label_at P k)) 0 64 (i - 32) (i - 32) (omega arith) (omega arith))
            ∙ sym (get_or-append-add edges labels (i - 32) 0) ∙ ap (λ (k : ℕ). get_or (edges ++ labels) k 0) e

    -- the counts, which stand after the rest
    behind : (i j : ℕ) → i ≡ 96 + j → get_or code (96 + j) 0 ≡ get_or two j 0 → get_or code i 0 ≡ get_or (code_of P) i 0
    behind i j q h =
        let w : length (edges ++ labels) + j ≡ i = omega (arith, m) in
        ap (λ (k : ℕ). get_or code k 0) q ∙ h ∙ sym (get_or-append-add (edges ++ labels) two j 0) ∙ ap (λ (k : ℕ). get_or (code_of P) k 0) w

    same : (i : ℕ) → i < length code → get_or code i 0 ≡ get_or (code_of P) i 0
    same i h = go (dec_lt i 96) (dec_lt i 97)
      where
        go : Dec (i < 96) → Dec (i < 97) → get_or code i 0 ≡ get_or (code_of P) i 0
        go (yes d) d' = front i d ∙ sym (get_or-append (edges ++ labels) two 0 i (omega (arith, m)))
        go (no d) (yes d') = behind i 0 (omega arith) e
        go (no d) (no d') = behind i 1 (omega arith) l

-- the counts put behind them
pub counts_put : (P : Plan) (a b : ℕ) (code : List ℕ) → LabelsFrom P 64 code → Numbered P 32 64 code → a ≡ P.edgecount → b ≡ P.labelcount → Written P (set (set code 96 a) 97 b)
counts_put P a b code f m ea eb = record {
  is = numbered_is P code' size (record { edge = λ i h. same i (omega arith) ∙ m.edge i h; label = λ i h. same (32 + i) (omega arith) ∙ m.label i h }) edges labels;
  coded = record {
    front = record { size = size; edges = λ i h. ap edge_in (same i (omega arith)) ∙ f.front.edges i h };
    labels = λ i h. ap label_in (same (32 + i) (omega arith)) ∙ f.labels i h;
    edge_count = edges;
    label_count = labels;
  };
}
  where
    code' : List ℕ
    code' = set (set code 96 a) 97 b

    size : length code' ≡ 98
    size = length-set (set code 96 a) 97 b ∙ length-set code 96 a ∙ f.front.size

    same : (i : ℕ) → i < 96 → get_or code' i 0 ≡ get_or code i 0
    same i h = get_or-set_other (set code 96 a) 97 i b 0 (λ z. omega arith) ∙ get_or-set_other code 96 i a 0 (λ z. omega arith)

    edges : get_or code' 96 0 ≡ P.edgecount
    edges = get_or-set_other (set code 96 a) 97 96 b 0 (λ z. omega arith) ∙ get_or-set_same code 96 a 0 (omega (arith, f.front.size)) ∙ ea

    labels : get_or code' 97 0 ≡ P.labelcount
    labels = get_or-set_same (set code 96 a) 97 b 0 (omega (arith, length-set code 96 a, f.front.size)) ∙ eb
