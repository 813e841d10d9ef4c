-- The whole example of the scope document, computed: the plan file.
-- Assumes nothing.
use Prim.Native.Nat.{ℕ}
use mathlib.Core.List.{List, [], ◌∷◌}
use mathlib.Core.Path.{◌≡◌, refl}
use mathlib.Core.Bool.{true}
use lib.ListN.{set, replicate}
use lib.IntN.{pos}
use Rattle.integers.specs.Bytes.{signed16, bits16}
use Rattle.readings.specs.Codec.{readings_of, bytes_of}
use Rattle.plan.specs.Counts.{count_ok, count_within}
use Rattle.plan.specs.Build.{Done, open_plan, add_edge, add_label, seal_plan, plan_number, change_number, open_number, edges_number, labels_number, entry_number, label_number, edge_step, edge_of, has_edge, any_below, first_below, no_edge, no_label}
use Rattle.plan.specs.declared.Plan.{Plan}
use Rattle.plan.specs.declared.Kind.TheVariants.{Any}
use Rattle.fields.specs.Fields.{row_of, may_stand, length_fits, count_fits, checked_field, field_at, part_of}
use Rattle.fields.specs.Put.{Bytes, outcome, written}
use Rattle.files.specs.Reader.{plan_file, entries_from, finish_file, entry_body, edge_body, label_body, grid_number, open_bodies, refused_file}
use Rattle.files.specs.Writer.{plan_bytes, head_bytes, edges_bytes, labels_bytes, plan_length, write_number, plan_written, after_writing}

abbrev example : List ℕ
example =
    0x01 ∷ 0 ∷ 4 ∷ 0 ∷ 0 ∷ 0 ∷ 9 ∷
    0x02 ∷ 0 ∷ 3 ∷ 1 ∷ 1 ∷ 1 ∷
    0x03 ∷ 0 ∷ 6 ∷ 0 ∷ 0 ∷ 0 ∷ 0 ∷ 0 ∷ 0 ∷
    0x03 ∷ 0 ∷ 6 ∷ 0 ∷ 0 ∷ 1 ∷ 0 ∷ 0 ∷ 4 ∷
    0x05 ∷ 0 ∷ 4 ∷ 0 ∷ 3 ∷ 0 ∷ 4 ∷ []

-- one state, a stay of class 0, any of class 4
abbrev plan : Plan
plan = record {
  lo = pos 0;
  hi = pos 9;
  states = 1;
  start = 1;
  end = 1;
  edges = set (set (replicate 32 no_edge) 0 no_edge) 1 (record { from = 0; to = 0; kind = Any; class = 4 });
  edgecount = 2;
  labels = replicate 64 no_label;
  labelcount = 0;
  sealed = true;
}

example_read : plan_file example ≡ record { answer = Done; plan = plan; start = 34; len = 4 }
unfolding plan_file field_at checked_field row_of may_stand length_fits count_fits count_ok count_within part_of entries_from finish_file entry_body edge_body label_body grid_number open_bodies refused_file signed16 open_plan add_edge add_label seal_plan plan_number change_number open_number edges_number labels_number entry_number label_number edge_step edge_of has_edge any_below first_below
example_read = refl

example_readings : readings_of (part_of example 34 4) ≡ pos 3 ∷ (pos 4 ∷ [])
unfolding readings_of part_of signed16
example_readings = refl

-- written into 40 bytes of value 7: the file in front, the rest as it was
example_written : (plan_written plan 2 40 ≡ Bytes 38) × (after_writing plan (pos 3 ∷ (pos 4 ∷ [])) (replicate 40 7) ≡ mathlib.Core.List.◌++◌ example (7 ∷ (7 ∷ [])))
unfolding outcome written write_number plan_length plan_bytes head_bytes edges_bytes labels_bytes bytes_of bits16 count_ok count_within plan_number open_number edges_number labels_number entry_number label_number edge_step edge_of has_edge any_below first_below
example_written = (refl, refl)
