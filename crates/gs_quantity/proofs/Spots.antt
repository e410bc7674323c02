-- The numbers of a spot are small.
use Rattle.std.proofs.Common.{ℕ, ◌+◌, ◌<◌, ◌≤◌, ◌≡◌, ℤ, pos, ◌-ℤ◌, ◌<ℤ◌, nat_abs, subst, sym, arith}
use Rattle.std.proofs.lemmas.Int.{ints}
use Rattle.std.proofs.Common.{Bool, true, false, if◌then◌else◌, refl, ap, ◌∙◌, ◌+ℤ◌, List, length, ◌*ℤ◌}
use Rattle.gs_quantity.specs.declared.limits.TheConstants.{TABLE_LIMIT, RANGE_LIMIT}
use Rattle.gs_quantity.specs.Lookup.{at, corner_of, segment_of, is_single, low_of, high_of, after_of, before_of, span_of, nearest_of, numerator_of, denominator_of, rounded_of, IsNearestUp}
use Rattle.gs_quantity.specs.Spots.{spot_between, spot_at, spot_of, value_at, IsSpot}
use Rattle.gs_quantity.proofs.Quotient.{nearest_is, positive_product}
use Rattle.gs_quantity.specs.declared.lookup.axis.Spot.{Spot}

abs_sub : (a b : ℤ) (m n : ℕ) → nat_abs a ≤ m → nat_abs b ≤ n → nat_abs (a -ℤ b) ≤ m + n
abs_sub a b m n h k = grind (arith, ints)

pub spot_small : (n i : ℕ) (low high x : ℤ) (s : Spot) → s ≡ spot_between i low high x → i + 1 < n → nat_abs low < TABLE_LIMIT → nat_abs high < TABLE_LIMIT
    → nat_abs x ≤ RANGE_LIMIT → low <ℤ high → IsSpot n s
spot_small n i low high x s e lt hl hh hx up = subst (IsSpot n) (sym e) record {
  low_in = omega arith;
  high_in = lt;
  before_small = omega (arith, abs_sub x low RANGE_LIMIT TABLE_LIMIT hx (omega arith));
  after_small = omega (arith, abs_sub high x TABLE_LIMIT RANGE_LIMIT (omega arith) hx);
  span_some = omega (arith, ints, up);
  span_small = omega (arith, abs_sub high low TABLE_LIMIT TABLE_LIMIT (omega arith) (omega arith));
}

-- a field of one of two spots
low_if : (b : Bool) (r s : Spot) → (if b then r else s).low ≡ (if b then r.low else s.low)
low_if true r s = refl
low_if false r s = refl

high_if : (b : Bool) (r s : Spot) → (if b then r else s).high ≡ (if b then r.high else s.high)
high_if true r s = refl
high_if false r s = refl

before_if : (b : Bool) (r s : Spot) → (if b then r else s).before ≡ (if b then r.before else s.before)
before_if true r s = refl
before_if false r s = refl

after_if : (b : Bool) (r s : Spot) → (if b then r else s).after ≡ (if b then r.after else s.after)
after_if true r s = refl
after_if false r s = refl

span_if : (b : Bool) (r s : Spot) → (if b then r else s).span ≡ (if b then r.span else s.span)
span_if true r s = refl
span_if false r s = refl

spot_low : (xs : List ℤ) (x : ℤ) → (spot_of xs x).low ≡ low_of xs x
spot_low xs x = low_if (is_single xs) spot_at (spot_between (segment_of xs x) (at xs (segment_of xs x)) (at xs (segment_of xs x + 1)) x)

spot_high : (xs : List ℤ) (x : ℤ) → (spot_of xs x).high ≡ high_of xs x
spot_high xs x = high_if (is_single xs) spot_at (spot_between (segment_of xs x) (at xs (segment_of xs x)) (at xs (segment_of xs x + 1)) x)

spot_before : (xs : List ℤ) (x : ℤ) → (spot_of xs x).before ≡ before_of xs x
spot_before xs x = before_if (is_single xs) spot_at (spot_between (segment_of xs x) (at xs (segment_of xs x)) (at xs (segment_of xs x + 1)) x)

spot_after : (xs : List ℤ) (x : ℤ) → (spot_of xs x).after ≡ after_of xs x
spot_after xs x = after_if (is_single xs) spot_at (spot_between (segment_of xs x) (at xs (segment_of xs x)) (at xs (segment_of xs x + 1)) x)

spot_span : (xs : List ℤ) (x : ℤ) → (spot_of xs x).span ≡ span_of xs x
spot_span xs x = span_if (is_single xs) spot_at (spot_between (segment_of xs x) (at xs (segment_of xs x)) (at xs (segment_of xs x + 1)) x)

-- the value that two spots give is the rounded value at the query
pub rounded_from : (xs ys zs : List ℤ) (x y v : ℤ) (a b : Spot) → v ≡ value_at zs (length ys) a b → a ≡ spot_of xs x → b ≡ spot_of ys y → v ≡ rounded_of xs ys zs x y
unfolding rounded_of numerator_of denominator_of
rounded_from xs ys zs x y v a b e ea eb =
    let al : a.low ≡ low_of xs x = ap (λ s. s.low) ea ∙ spot_low xs x in
    let ah : a.high ≡ high_of xs x = ap (λ s. s.high) ea ∙ spot_high xs x in
    let ab : a.before ≡ before_of xs x = ap (λ s. s.before) ea ∙ spot_before xs x in
    let aa : a.after ≡ after_of xs x = ap (λ s. s.after) ea ∙ spot_after xs x in
    let as_ : a.span ≡ span_of xs x = ap (λ s. s.span) ea ∙ spot_span xs x in
    let bl : b.low ≡ low_of ys y = ap (λ s. s.low) eb ∙ spot_low ys y in
    let bh : b.high ≡ high_of ys y = ap (λ s. s.high) eb ∙ spot_high ys y in
    let bb : b.before ≡ before_of ys y = ap (λ s. s.before) eb ∙ spot_before ys y in
    let ba : b.after ≡ after_of ys y = ap (λ s. s.after) eb ∙ spot_after ys y in
    let bs : b.span ≡ span_of ys y = ap (λ s. s.span) eb ∙ spot_span ys y in
    e ∙ (λ i. nearest_of
    ((corner_of zs (length ys) (al i) (bl i) *ℤ aa i +ℤ corner_of zs (length ys) (ah i) (bl i) *ℤ ab i) *ℤ ba i
    +ℤ (corner_of zs (length ys) (al i) (bh i) *ℤ aa i +ℤ corner_of zs (length ys) (ah i) (bh i) *ℤ ab i) *ℤ bb i)
    (as_ i *ℤ bs i))

positive_span : (xs : List ℤ) (x : ℤ) (n : ℕ) (a : Spot) → a ≡ spot_of xs x → IsSpot n a → pos 0 <ℤ span_of xs x
positive_span xs x n a e h = subst (λ z. pos 0 <ℤ z) (ap (λ s. s.span) e ∙ spot_span xs x) h.span_some

-- and so the number that the rule asks for
pub nearest_from : (xs ys zs : List ℤ) (x y v : ℤ) (m n : ℕ) (a b : Spot) → v ≡ value_at zs (length ys) a b → a ≡ spot_of xs x → b ≡ spot_of ys y
    → IsSpot m a → IsSpot n b → IsNearestUp (numerator_of xs ys zs x y) (denominator_of xs ys x y) v
unfolding rounded_of denominator_of
nearest_from xs ys zs x y v m n a b e ea eb ha hb =
    let some : pos 0 <ℤ (span_of xs x *ℤ span_of ys y) =
    positive_product (span_of xs x) (span_of ys y) (positive_span xs x m a ea ha) (positive_span ys y n b eb hb) in
    subst (λ w. IsNearestUp (numerator_of xs ys zs x y) (denominator_of xs ys x y) w) (sym (rounded_from xs ys zs x y v a b e ea eb))
    (nearest_is (numerator_of xs ys zs x y) (denominator_of xs ys x y) some)
