-- The whole number nearest to a fraction, ties upward.
use Rattle.std.proofs.Common.{ℕ, suc, ◌+◌, ◌*◌, ◌/◌, ◌<◌, ◌≤◌, ◌≡◌, ◌∙◌, refl, ap, ℤ, pos, negsuc, ◌+ℤ◌, ◌*ℤ◌, ◌≤ℤ◌, ◌<ℤ◌, false, int_lt, nat_abs, arith}
use Rattle.std.proofs.Math.IntN.{pos-*ℤ-pos, negsuc-*ℤ-pos}
use Rattle.std.proofs.lemmas.Int.{ints}
use Rattle.std.proofs.lemmas.Nat.{div-add-mod', mod_below, le-div, div_below, mul-le}
use Rattle.std.proofs.lemmas.Bool.{true≢false}
use Rattle.std.specs.Int.{int_div_euclid}
use Rattle.gs_quantity.specs.Lookup.{nearest_of, IsNearestUp}

-- the quotient that a product shows
pub quotient_is : (t d w : ℕ) → 0 < d → w * d ≤ t → t < w * d + d → w ≡ t / d
quotient_is t d w some low high =
    let least : w ≤ t / d = le-div w t d some low in
    let most : t / d < w + 1 = div_below t d (w + 1) some (omega arith) in
    omega (arith, least, most)

-- the quotient of numbers that aren't negative
pub floor_is : (top bottom : ℤ) (q : ℕ) → int_lt top (pos 0) ≡ false → pos 0 <ℤ bottom → q ≡ nat_abs top / nat_abs bottom → pos q ≡ int_div_euclid top bottom
floor_is (pos a) (pos b) q h k e = ap pos e
floor_is (pos a) (negsuc b) q h k e = absurd (omega (arith, ints, k))
floor_is (negsuc a) b q h k e = absurd (true≢false h)

pub nearest_sides : (over under doubled sum twice : ℤ) → doubled ≡ pos 2 *ℤ over → sum ≡ doubled +ℤ under → twice ≡ pos 2 *ℤ under → int_div_euclid sum twice ≡ nearest_of over under
unfolding nearest_of
nearest_sides over under doubled sum twice d s t = λ i. int_div_euclid ((s ∙ ap (λ z. z +ℤ under) d) i) (t i)

euclid_within : (z : ℤ) (d : ℕ) → 0 < d → (int_div_euclid z (pos d) *ℤ pos d) ≤ℤ z
euclid_within (pos a) d h = rw pos-*ℤ-pos (omega (arith, ints, div-add-mod' a d))
euclid_within (negsuc a) d h = rw negsuc-*ℤ-pos (omega (arith, ints, div-add-mod' a d, mod_below a d h))

euclid_greatest : (z : ℤ) (d : ℕ) (v : ℤ) → 0 < d → (v *ℤ pos d) ≤ℤ z → v ≤ℤ int_div_euclid z (pos d)
euclid_greatest (pos a) d (pos b) h p =
    let e : b * d ≤ a = omega (arith, ints, rw pos-*ℤ-pos at p) in omega (arith, ints, le-div b a d h e)
euclid_greatest (pos a) d (negsuc b) h p = omega (arith, ints)
euclid_greatest (negsuc a) d (pos b) h p = absurd (omega (arith, ints, rw pos-*ℤ-pos at p))
euclid_greatest (negsuc a) d (negsuc b) h p =
    let e : a < suc b * d = omega (arith, ints, rw negsuc-*ℤ-pos at p) in omega (arith, ints, div_below a d (suc b) h e)

up_at : (n q : ℤ) (d : ℕ) → 0 < d → pos 2 *ℤ q ≡ pos d → IsNearestUp n q (int_div_euclid (pos 2 *ℤ n +ℤ q) (pos 2 *ℤ q))
up_at n q d some e = record {
  within = rw e (euclid_within (pos 2 *ℤ n +ℤ q) d some);
  greatest = λ v h. rw e (euclid_greatest (pos 2 *ℤ n +ℤ q) d v some (rw e at h));
}

-- it is the greatest whole number that is at most one half above the fraction
pub nearest_is : (n q : ℤ) → pos 0 <ℤ q → IsNearestUp n q (nearest_of n q)
unfolding nearest_of
nearest_is n (pos q) h = up_at n (pos q) (2 * q) (omega (arith, ints, h)) refl
nearest_is n (negsuc q) h = absurd (omega (arith, ints, h))

pub positive_product : (a b : ℤ) → pos 0 <ℤ a → pos 0 <ℤ b → pos 0 <ℤ (a *ℤ b)
positive_product (pos a) (pos b) h k = rw pos-*ℤ-pos (omega (arith, ints, mul-le 1 1 a b (omega (arith, ints, h)) (omega (arith, ints, k))))
positive_product (pos a) (negsuc b) h k = absurd (omega (arith, ints, k))
positive_product (negsuc a) b h k = absurd (omega (arith, ints, h))
