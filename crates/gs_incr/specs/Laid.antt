-- Records that are laid over a timing: for each net a record, or none.

use Rattle.std.specs.Prelude.{ℕ, ◌≡◌, ◌<◌, ◌≤◌, ◌==◌, List, map, length, slice_index, slice_index_or, Option, None, Some, unwrap_or, if◌then◌else◌}
use Rattle.std.specs.List.{range_with_len}
use Rattle.gs_design.specs.Times.{time_at}
use Rattle.gs_design.specs.declared.time.NetTime.{NetTime}

abbrev pub laid_at : List (Option NetTime) → ℕ → Option NetTime
laid_at laid n = slice_index_or laid n None

-- a timing with the records over it
abbrev pub time_over : (base : List NetTime) → List (Option NetTime) → ℕ → NetTime
time_over base laid n = unwrap_or (laid_at laid n) (time_at base n)

abbrev pub times_over : (base : List NetTime) → List (Option NetTime) → List NetTime
times_over base laid = map (time_over base laid) (range_with_len 0 (length base))

-- How they lie in memory: a net has the record in its row where its mark is the number of the present turn.
abbrev pub record_laid : (turn : ℕ) → (marks : List ℕ) → (records : List NetTime) → ℕ → Option NetTime
record_laid turn marks records n = if slice_index marks n == turn then Some (time_at records n) else None

abbrev pub records_laid : (turn : ℕ) → (marks : List ℕ) → (records : List NetTime) → List (Option NetTime)
records_laid turn marks records = map (record_laid turn marks records) (range_with_len 0 (length marks))

-- each net has a mark and a row, and no mark is of a later turn
pub record AreMarks (turn : ℕ) (marks : List ℕ) (records : List NetTime) : Type 0 where
  pub as_many : length records ≡ length marks
  pub past : (n : ℕ) → n < length marks → slice_index marks n ≤ turn
