-- Comments and continued line ends.
use Rattle.std.specs.Prelude.{◌≡◌, ◌≢◌, ◌⊎◌, ℕ, ◌+◌, ◌-◌, ◌<◌, ◌≤◌, List, length, slice_index}

-- so many of these bytes are the rest of a line, up to its newline or to the end of the text
pub record IsRestOfLine (len : ℕ) (bs : List ℕ) : Type 0 where
  pub one_line : (k : ℕ) → k < len → slice_index bs k ≢ 10
  pub ends : (len ≡ length bs) ⊎ (slice_index bs len ≡ 10)

-- so many of these bytes are a comment between a slash and a star, and the first star and slash after these
pub record IsBlockComment (len : ℕ) (bs : List ℕ) : Type 0 where
  pub size : 4 ≤ len
  pub slash : slice_index bs 0 ≡ 47
  pub star : slice_index bs 1 ≡ 42
  pub closing_star : slice_index bs (len - 2) ≡ 42
  pub closing_slash : slice_index bs (len - 1) ≡ 47
  pub first : (k : ℕ) → 2 ≤ k → k + 2 < len → slice_index bs k ≡ 42 → slice_index bs (k + 1) ≢ 47

-- they are a comment that begins with two slashes and ends with its line
pub record IsSlashComment (len : ℕ) (bs : List ℕ) : Type 0 where
  pub slash : slice_index bs 0 ≡ 47
  pub slashes : slice_index bs 1 ≡ 47
  pub rest : IsRestOfLine len bs

-- they are a comment that begins with a hash and ends with its line, also where a backslash stands last
pub record IsHashComment (len : ℕ) (bs : List ℕ) : Type 0 where
  pub hash : slice_index bs 0 ≡ 35
  pub rest : IsRestOfLine len bs

-- they are a backslash and the newline that it stands directly before
pub record IsContinuation (len : ℕ) (bs : List ℕ) : Type 0 where
  pub size : len ≡ 2
  pub backslash : slice_index bs 0 ≡ 92
  pub newline : slice_index bs 1 ≡ 10
