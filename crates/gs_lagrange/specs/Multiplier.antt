-- The multipliers of endpoints: they rise while the endpoint is late, and fall while it is early.

use Rattle.std.specs.Prelude.{ℕ, List, map, length, slice_index, unwrap_or, ℤ, pos, ◌+ℤ◌, ◌-ℤ◌, nat_abs}
use Rattle.std.specs.Int.{int_div_euclid, int_max, int_min}
use Rattle.std.specs.List.{range_with_len}
use Rattle.gs_design.specs.Limits.{bound_of, held_of}
use Rattle.gs_design.specs.declared.design.Design.{Design}
use Rattle.gs_design.specs.declared.limit.Limit.TheVariants.{Setup}
use Rattle.gs_design.specs.declared.time.NetTime.{NetTime}

-- by how much what is held at an endpoint is above its bound; it is negative where the bound is above
abbrev pub lateness_of : Design → List NetTime → (end : ℕ) → ℤ
lateness_of d t e = held_of d t (Setup e) -ℤ unwrap_or (bound_of d t (Setup e)) (pos 0)

-- a multiplier and a 64th of the lateness, rounded down, held within 0 and 2 ^ 24
abbrev pub raised : (multiplier : ℕ) → (lateness : ℤ) → ℕ
raised m late = nat_abs (int_max (int_min (pos m +ℤ int_div_euclid late (pos 64)) (pos 16777216)) (pos 0))

abbrev pub raised_all : Design → List NetTime → (multipliers : List ℕ) → List ℕ
raised_all d t ms = map (λ e. raised (slice_index ms e) (lateness_of d t e)) (range_with_len 0 (length d.ends))
