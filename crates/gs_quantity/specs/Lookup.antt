-- Lookup in a table of values over slew points `xs` and load points `ys`, row by row over `xs`, as the tables of a Liberty
-- library are read: straight lines between neighbouring points and beyond the first and the last, the exact fraction
-- rounded once, ties upward.
use Rattle.std.specs.Prelude.{ℕ, zero, suc, ◌≡◌, ◌+◌, ◌-◌, ◌*◌, ◌<◌, ◌≤◌, ◌==◌, Bool, List, length, slice_index_or, ℤ, pos, neg_ℤ, ◌+ℤ◌, ◌-ℤ◌, ◌*ℤ◌, ◌≤ℤ◌, ◌<ℤ◌, nat_abs, int_lt, if◌then◌else◌}
use Rattle.gs_quantity.specs.declared.limits.TheConstants.{TABLE_LIMIT, RANGE_LIMIT}
use Rattle.std.specs.Int.{int_div_euclid, int_min, int_max}

-- the quantity at a place
abbrev pub at : List ℤ → ℕ → ℤ
at xs i = slice_index_or xs i (pos 0)

-- 1 to 64 points, each above the one before it, with magnitudes below 2 ^ 34
pub record IsAxis (xs : List ℤ) : Type 0 where
  pub some : 0 < length xs
  pub few : length xs ≤ 64
  pub rising : (i : ℕ) → i + 1 < length xs → at xs i <ℤ at xs (i + 1)
  pub narrow : (i : ℕ) → i < length xs → nat_abs (at xs i) < TABLE_LIMIT

-- two axes and a value for each pair of their points
pub record IsTable (xs ys zs : List ℤ) : Type 0 where
  pub slews : IsAxis xs
  pub loads : IsAxis ys
  pub shape : length zs ≡ length xs * length ys
  pub narrow : (i : ℕ) → i < length zs → nat_abs (at zs i) < TABLE_LIMIT

-- z held within low .. high
abbrev pub held_in : ℤ → ℤ → ℤ → ℤ
held_in low high z = int_min (int_max z low) high

-- a query below 0 counts as 0, one above 2 ^ 36 as 2 ^ 36
abbrev pub held_query : ℤ → ℤ
held_query x = held_in (pos 0) (pos RANGE_LIMIT) x

-- the greatest i up to a place with xs[i] at or below x, or 0
abbrev pub greatest_to : List ℤ → ℤ → ℕ → ℕ
greatest_to xs x zero = 0
greatest_to xs x (suc i) = if int_lt x (at xs (suc i)) then greatest_to xs x i else suc i

-- the segment of a query: such an i with a point after it
abbrev pub segment_of : List ℤ → ℤ → ℕ
segment_of xs x = greatest_to xs x (length xs - 2)

-- On an axis of one point both places are that point's, and all weight lies on it.
abbrev pub is_single : List ℤ → Bool
is_single xs = length xs == 1

-- the places of the two points about a query, x0 and x1
abbrev pub low_of : List ℤ → ℤ → ℕ
low_of xs x = if is_single xs then 0 else segment_of xs x

abbrev pub high_of : List ℤ → ℤ → ℕ
high_of xs x = if is_single xs then 0 else segment_of xs x + 1

-- x1 - x, the weight of a value at x0
abbrev pub after_of : List ℤ → ℤ → ℤ
after_of xs x = if is_single xs then pos 1 else at xs (segment_of xs x + 1) -ℤ x

-- x - x0, the weight of a value at x1
abbrev pub before_of : List ℤ → ℤ → ℤ
before_of xs x = if is_single xs then pos 0 else x -ℤ at xs (segment_of xs x)

-- x1 - x0
abbrev pub span_of : List ℤ → ℤ → ℤ
span_of xs x = if is_single xs then pos 1 else at xs (segment_of xs x + 1) -ℤ at xs (segment_of xs x)

-- the greatest whole w with 2 * w * q at most 2 * n + q
unfoldable pub nearest_of : ℤ → ℤ → ℤ
nearest_of n q = int_div_euclid (pos 2 *ℤ n +ℤ q) (pos 2 *ℤ q)

-- w is the greatest whole number with 2 * w * q at most 2 * n + q: n / q rounded, ties upward
pub record IsNearestUp (n q w : ℤ) : Type 0 where
  pub within : (w *ℤ (pos 2 *ℤ q)) ≤ℤ (pos 2 *ℤ n +ℤ q)
  pub greatest : (v : ℤ) → (v *ℤ (pos 2 *ℤ q)) ≤ℤ (pos 2 *ℤ n +ℤ q) → v ≤ℤ w

-- the value at a slew's place and a load's place, in a table of so many loads
abbrev pub corner_of : List ℤ → ℕ → ℕ → ℕ → ℤ
corner_of zs width i j = at zs (i * width + j)

-- z0 * (x1 - x) + z1 * (x - x0), the values at the place j of the loads
abbrev pub along_slews : List ℤ → List ℤ → List ℤ → ℤ → ℕ → ℤ
along_slews xs ys zs x j =
    corner_of zs (length ys) (low_of xs x) j *ℤ after_of xs x +ℤ corner_of zs (length ys) (high_of xs x) j *ℤ before_of xs x

-- (z00 * (x1 - x) + z10 * (x - x0)) * (y1 - y) + (z01 * (x1 - x) + z11 * (x - x0)) * (y - y0)
unfoldable pub numerator_of : List ℤ → List ℤ → List ℤ → ℤ → ℤ → ℤ
numerator_of xs ys zs x y =
    along_slews xs ys zs x (low_of ys y) *ℤ after_of ys y +ℤ along_slews xs ys zs x (high_of ys y) *ℤ before_of ys y

-- (x1 - x0) * (y1 - y0)
unfoldable pub denominator_of : List ℤ → List ℤ → ℤ → ℤ → ℤ
denominator_of xs ys x y = span_of xs x *ℤ span_of ys y

-- the least value: delays are signed, slews are not
abbrev pub least_of : Bool → ℤ
least_of signed = if signed then neg_ℤ (pos RANGE_LIMIT) else pos 0

-- the exact value at a query, rounded
unfoldable pub rounded_of : List ℤ → List ℤ → List ℤ → ℤ → ℤ → ℤ
rounded_of xs ys zs x y = nearest_of (numerator_of xs ys zs x y) (denominator_of xs ys x y)

abbrev pub look_of : List ℤ → List ℤ → List ℤ → ℤ → ℤ → Bool → ℤ
look_of xs ys zs x y signed = held_in (least_of signed) (pos RANGE_LIMIT) (rounded_of xs ys zs (held_query x) (held_query y))

-- In the rule's own words: r is the greatest whole number w with 2 * w * q at most 2 * n + q, held within the range, where
-- n / q is the value at the query.
pub record IsLook (xs ys zs : List ℤ) (x y : ℤ) (signed : Bool) (r : ℤ) : Type 0 where
  pub whole : ℤ
  pub nearest : IsNearestUp (numerator_of xs ys zs (held_query x) (held_query y)) (denominator_of xs ys (held_query x) (held_query y)) whole
  pub held : r ≡ held_in (least_of signed) (pos RANGE_LIMIT) whole
