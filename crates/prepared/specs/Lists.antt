-- What a preparation of a path holds: the bounds of its samples and of its rows.
use Rattle.std.specs.Prelude.{◌≡◌, ℕ, ◌-◌, Bool, true, false, cond, ◌&&◌, List, ◌++◌, length, map, take, drop, pos, ◌==◌, count_by, nat_lt, nat_le, slice_index_or, unsigned_abs}
use Rattle.std.specs.List.{range_with_len}
use Rattle.torque.specs.declared.row.Row.{Row}
use Rattle.torque.specs.Rows.{weight}
use Rattle.motion.specs.declared.steps.Step.{Step}
use Rattle.motion.specs.Ramps.{no_step}
use Rattle.motion.specs.Torques.{on_left_of, on_right_of}
use Rattle.frame.specs.Paths.{Path}
use Rattle.sources.specs.Sources.{speed_steps, offsets_of}
use Rattle.prepared.specs.declared.bounds.SampleBounds.{SampleBounds}
use Rattle.prepared.specs.declared.bounds.RowBounds.{RowBounds}

-- how many rows lie at gaps with a lower number
unfoldable pub rows_before : ℕ → List Row → ℕ
rows_before g rows = count_by (λ (r : Row). nat_lt r.gap g) rows

-- how far sample i may lie above the one before, 0 for the first
abbrev pub up_to : List Step → ℕ → ℕ
up_to steps i = cond (i == 0) 0 (slice_index_or steps (i - 1) no_step).up

-- how far sample i may lie above the one after, 0 for the last
abbrev pub down_from : List Step → ℕ → ℕ
down_from steps i = (slice_index_or steps i no_step).down

-- the bounds of sample i
abbrev pub bounds_at : Path → ℕ → SampleBounds
bounds_at p i = record { up = up_to (speed_steps p) i; down = down_from (speed_steps p) i; offset = slice_index_or (offsets_of p) i (pos 0); first_row = rows_before i p.rows }

-- the bounds of a path's samples, one for each
unfoldable pub sample_bounds_of : Path → List SampleBounds
sample_bounds_of p = map (bounds_at p) (range_with_len 0 (length p.samples))

-- a row at spacing h as its two inequalities
abbrev pub bounds_of_row : ℕ → Row → RowBounds
bounds_of_row h r = record { before = unsigned_abs (weight h r); after = unsigned_abs r.d; left = (on_left_of h r).constant; right = (on_right_of h r).constant }

-- the bounds of a path's rows, one for each
unfoldable pub row_bounds_of : Path → List RowBounds
row_bounds_of p = map (bounds_of_row p.header.spacing) p.rows

-- ---- the memory

-- memory whose first cells are a list and whose rest is as it was
abbrev pub begun_with : {A : Type 0} → List A → List A → List A
begun_with front memory = front ++ drop (length front) memory

-- the first cells of memory are a list
abbrev pub Begins : {A : Type 0} → List A → List A → Type 0
Begins front memory = take (length front) memory ≡ front

-- memory after a yes, or after a no
abbrev pub written : {A : Type 0} → Bool → List A → List A → List A
written true front memory = begun_with front memory
written false front memory = memory

-- whether memories of so many cells hold the bounds of a path
abbrev pub has_room : Path → ℕ → ℕ → Bool
has_room p samples rows = nat_le p.header.samples samples && nat_le p.header.rows rows
