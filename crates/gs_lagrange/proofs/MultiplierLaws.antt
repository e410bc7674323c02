-- Multipliers are held.

use Rattle.std.proofs.Common.{ℕ, ◌≤◌, ℤ, pos, ◌+ℤ◌, nat_abs, arith}
use Rattle.std.specs.Int.{int_div_euclid, int_max, int_min}
use Rattle.std.proofs.lemmas.Int.{clamps, ints}
use Rattle.gs_lagrange.specs.Multiplier.{raised}

held_by : (z : ℤ) → nat_abs (int_max (int_min z (pos 16777216)) (pos 0)) ≤ 16777216
held_by z = omega (arith, ints, clamps)

pub raised_held : (m : ℕ) (late : ℤ) → raised m late ≤ 16777216
raised_held m late = held_by (pos m +ℤ int_div_euclid late (pos 64))
