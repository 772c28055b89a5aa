-- Where the records of a frame lie: a header of 15 bytes, then n samples, n − 1 gaps and t torque rows.
use Rattle.std.specs.Prelude.{ℕ, ◌+◌, ◌-◌, ◌*◌}

abbrev pub samples_at : ℕ
samples_at = 15

abbrev pub gaps_at : (n : ℕ) → ℕ
gaps_at n = 15 + 20 * n

abbrev pub rows_at : (n : ℕ) → ℕ
rows_at n = 15 + 20 * n + 12 * (n - 1)

abbrev pub frame_size_of : (n t : ℕ) → ℕ
frame_size_of n t = 15 + 20 * n + 12 * (n - 1) + 24 * t
