-- The spot at which a query falls on an axis, as the code holds it.
use Rattle.std.specs.Prelude.{ℕ, ◌+◌, ◌<◌, ◌≤◌, List, ℤ, pos, ◌+ℤ◌, ◌-ℤ◌, ◌*ℤ◌, ◌<ℤ◌, nat_abs, if◌then◌else◌}
use Rattle.gs_quantity.specs.Lookup.{at, segment_of, is_single, corner_of, nearest_of}
use Rattle.gs_quantity.specs.declared.lookup.axis.Spot.{Spot}

-- a query between two neighbouring points, or beyond them
abbrev pub spot_between : ℕ → ℤ → ℤ → ℤ → Spot
spot_between i low high x = record { low = i; high = i + 1; before = x -ℤ low; after = high -ℤ x; span = high -ℤ low }

abbrev pub spot_at : Spot
spot_at = record { low = 0; high = 0; before = pos 0; after = pos 1; span = pos 1 }

-- where a query falls on an axis; on an axis of one point both sides are this point
abbrev pub spot_of : List ℤ → ℤ → Spot
spot_of xs x =
    if is_single xs then spot_at
    else spot_between (segment_of xs x) (at xs (segment_of xs x)) (at xs (segment_of xs x + 1)) x

-- what lookup keeps of a spot's numbers
pub record IsSpot (count : ℕ) (s : Spot) : Type 0 where
  pub low_in : s.low < count
  pub high_in : s.high < count
  pub before_small : nat_abs s.before ≤ 137438953472
  pub after_small : nat_abs s.after ≤ 137438953472
  pub span_some : pos 0 <ℤ s.span
  pub span_small : nat_abs s.span ≤ 137438953472

-- two values weighed by the distances to the other's point
abbrev pub mix_of : Spot → ℤ → ℤ → ℤ
mix_of s low high = low *ℤ s.after +ℤ high *ℤ s.before

abbrev pub value_at : List ℤ → ℕ → Spot → Spot → ℤ
value_at zs width a b =
    nearest_of
    (mix_of b
    (mix_of a (corner_of zs width a.low b.low) (corner_of zs width a.high b.low))
    (mix_of a (corner_of zs width a.low b.high) (corner_of zs width a.high b.high)))
    (a.span *ℤ b.span)
