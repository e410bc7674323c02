-- Rounding a fraction of whole numbers, once, to the nearest whole number, ties away from zero.
use Rattle.std.specs.Prelude.{ℕ, ◌+◌, ◌-◌, ◌*◌, ◌/◌, ◌≤◌}

-- the whole number nearest to a / b
unfoldable pub nearest : ℕ → ℕ → ℕ
nearest a b = (2 * a + b) / (2 * b)

-- w is the greatest whole number that is at most one half above a / b
pub record IsNearest (a b w : ℕ) : Type 0 where
  pub within : (2 * w - 1) * b ≤ 2 * a
  pub greatest : (v : ℕ) → (2 * v - 1) * b ≤ 2 * a → v ≤ w
