-- Writing a plan file.
use Rattle.std.specs.Prelude.{ℕ, zero, suc, ◌+◌, ◌*◌, ◌/◌, ◌%◌, ◌≤◌, List, [], ◌∷◌, ◌++◌, true, ◌≡◌, length, get_or, leb, eqb, ℤ}
use Rattle.integers.specs.Pick.{pick}
use Rattle.readings.specs.Codec.{bytes_of}
use Rattle.plan.specs.Counts.{count_ok}
use Rattle.plan.specs.Build.{plan_number, kind_number, gap_of, no_edge, no_label}
use Rattle.plan.specs.declared.Edge.{Edge}
use Rattle.plan.specs.declared.Label.{Label}
use Rattle.plan.specs.declared.Plan.{Plan}
use Rattle.fields.specs.Fields.{field}
use Rattle.fields.specs.Put.{Written, outcome, written}

-- the fields of a plan
abbrev pub grid_field : ℤ → ℤ → List ℕ
grid_field lo hi = field 0x01 (bytes_of (lo ∷ (hi ∷ [])))

abbrev pub states_field : ℕ → ℕ → ℕ → List ℕ
states_field s a b = field 0x02 (s ∷ (a ∷ (b ∷ [])))

abbrev pub edge_field : Edge → List ℕ
edge_field e = field 0x03 (e.from ∷ (e.to ∷ (kind_number e.kind ∷ (gap_of e.kind / 256 ∷ (gap_of e.kind % 256 ∷ (e.class ∷ []))))))

abbrev pub label_field : Label → List ℕ
label_field l = field 0x04 (l.p / 256 ∷ (l.p % 256 ∷ (l.q / 256 ∷ (l.q % 256 ∷ (l.c ∷ [])))))

-- the first n edges; the first n labels
unfoldable pub edges_bytes : List Edge → ℕ → List ℕ
edges_bytes es zero = []
edges_bytes es (suc n) = edges_bytes es n ++ edge_field (get_or es n no_edge)

unfoldable pub labels_bytes : List Label → ℕ → List ℕ
labels_bytes ls zero = []
labels_bytes ls (suc n) = labels_bytes ls n ++ label_field (get_or ls n no_label)

-- all fields of a plan but the readings
unfoldable pub head_bytes : Plan → List ℕ
head_bytes p = grid_field p.lo p.hi ++ states_field p.states p.start p.end ++ edges_bytes p.edges p.edgecount ++ labels_bytes p.labels p.labelcount

-- the file of a plan with readings
unfoldable pub plan_bytes : Plan → List ℤ → List ℕ
plan_bytes p zs = head_bytes p ++ field 0x05 (bytes_of zs)

-- how long it is, with n readings
unfoldable pub plan_length : Plan → ℕ → ℕ
plan_length p n = 16 + 9 * p.edgecount + 8 * p.labelcount + 2 * n

-- what storing the file in room bytes asks
pub record Room (p : Plan) (n room : ℕ) : Type 0 where
  pub edges : p.edgecount ≤ 32
  pub labels : p.labelcount ≤ 64
  pub counts : count_ok n ≡ true
  pub fits : 16 + 9 * p.edgecount + 8 * p.labelcount + 2 * n ≤ room

-- writing n readings into room bytes: the plan's own number, 11, 9, 15; 0 where it is not refused
unfoldable pub write_number : Plan → ℕ → ℕ → ℕ
write_number p n room =
    pick (eqb (plan_number p) 0)
    (pick p.sealed (pick (count_ok n) (pick (leb (plan_length p n) room) 0 15) 9) 11)
    (plan_number p)

-- the writer's answer, and the bytes after it
abbrev pub plan_written : Plan → ℕ → ℕ → Written
plan_written p n room = outcome (write_number p n room) (plan_length p n)

abbrev pub after_writing : Plan → List ℤ → List ℕ → List ℕ
after_writing p zs out = written (write_number p (length zs) (length out)) (plan_bytes p zs) out
