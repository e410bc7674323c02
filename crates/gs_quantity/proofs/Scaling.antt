-- Digits times a power of ten, rounded once, and how few of them decide.
use Rattle.std.proofs.Common.{ℕ, zero, suc, get_or, ◌+◌, ◌-◌, ◌*◌, ◌^◌, ◌<◌, ◌≤◌, ◌≡◌, ◌∙◌, ap, sym, refl, subst, Bool, true, false, inl, inr, min, List, length, take, drop, Option, Some, None, nat_abs, arith}
use Rattle.std.proofs.lemmas.Bool.{cases_lt, lt-ltb, le-ltb}
use Rattle.std.proofs.lemmas.List.{length-drop}
use Rattle.std.proofs.lemmas.Nat.{mul-le, pow-add}
use Rattle.std.proofs.Math.Nat.{pow-suc, one-le-pow, pow-le-pow_right}
use Rattle.std.specs.Char.{digit_value}
use Rattle.std.specs.Str.{all_ascii_digits}
use Rattle.std.specs.Str.Parse.{digits_value}
use Rattle.gs_quantity.specs.declared.limits.TheConstants.{NUMBER_LIMIT}
use Rattle.gs_quantity.specs.Nearest.{nearest}
use Rattle.gs_quantity.specs.Decimal.{Decimal, digits_of, raised, lowered, scaled, IsScaled, magnitude_of, IsMagnitude, IsFar, signed_of, rounded_by, IsBounded}
use Rattle.gs_quantity.proofs.Digits.{value_split, value_below, digits_drop, digit_at, digit_is}
use Rattle.gs_quantity.proofs.Rounding.{nearest_is, nearest_one, nearest_whole, nearest_cancel, nearest_up, nearest_down, nearest_none, zeros_far}

pub ten_pow : (k : ℕ) → 0 < 10 ^ k
ten_pow k = let ten : 0 < 10 = omega arith in omega (arith, one-le-pow k 10 ten)

-- zeros behind a number only raise it
pub zeros_grow : (n k m : ℕ) → m ≤ n → m ≤ n * 10 ^ k
zeros_grow n k m h = omega (arith, mul-le n 1 n (10 ^ k) (omega arith) (ten_pow k))

pub bounded_same : (r : Option ℕ) (v w : ℕ) → v ≡ w → IsBounded r v → IsBounded r w
bounded_same r v w e h = subst (λ n. IsBounded r n) e h

round_at : (d : ℕ) (q p r : ℕ) → r < p → d < 10 → nearest ((q * 10 + d) * p + r) (10 * p) ≡ rounded_by q d
round_at d q p r h k = elim (cases_lt d 5) [
  | inl low ↦ rw (lt-ltb d 5 low) (nearest_down q d p r h low)
  | inr high ↦ rw (le-ltb d 5 high) (nearest_up q d p r h (omega arith) high)
]

digit_small : (xs : List ℕ) (i : ℕ) → all_ascii_digits xs ≡ true → i < length xs → digit_value (get_or xs i 0) < 10
digit_small xs i h lt = let d = digit_is (get_or xs i 0) (digit_at xs i h lt) in omega (arith, d.0, d.1, d.2)

pub rounded_same : (a b m n : ℕ) → a ≡ b → m ≡ n → rounded_by a m ≡ rounded_by b n
rounded_same a b m n e f = λ i. rounded_by (e i) (f i)

-- the first digits, rounded by the next one
pub shortened : (xs : List ℕ) (k : ℕ) → all_ascii_digits xs ≡ true → 0 < k → k ≤ length xs
    → rounded_by (digits_value 10 (take (length xs - k) xs)) (digit_value (get_or xs (length xs - k) 0)) ≡ nearest (digits_value 10 xs) (10 ^ k)
shortened xs k ds some within =
    let lt : length xs - k < length xs = omega arith in
    let e = value_split xs (length xs - k) lt in
    let n : length xs - (length xs - k) - 1 ≡ k - 1 = omega arith in
    let p : 10 ^ k ≡ 10 * 10 ^ (k - 1) = (let one : k ≡ suc (k - 1) = omega arith in ap (λ m. 10 ^ m) one ∙ (omega (arith, pow-suc 10 (k - 1)))) in
    let r : digits_value 10 (drop (length xs - k + 1) xs) < 10 ^ (k - 1) =
    (let m : length (drop (length xs - k + 1) xs) ≡ k - 1 = omega (arith, length-drop (length xs - k + 1) xs) in
    rw m at (value_below (drop (length xs - k + 1) xs) (digits_drop xs (length xs - k + 1) ds))) in
    let small = digit_small xs (length xs - k) ds lt in
    sym (rw (p, e, n) (round_at (digit_value (get_or xs (length xs - k) 0)) (digits_value 10 (take (length xs - k) xs)) (10 ^ (k - 1)) (digits_value 10 (drop (length xs - k + 1) xs)) r small))

rounded_up : (n d : ℕ) → n ≤ rounded_by n d
rounded_up n d = elim (cases_lt d 5) [ inl low ↦ rw (lt-ltb d 5 low) (omega arith) | inr high ↦ rw (le-ltb d 5 high) (omega arith) ]

pub shortened_far : (xs : List ℕ) (k : ℕ) → all_ascii_digits xs ≡ true → 0 < k → k ≤ length xs
    → NUMBER_LIMIT ≤ digits_value 10 (take (length xs - k) xs) → NUMBER_LIMIT ≤ nearest (digits_value 10 xs) (10 ^ k)
shortened_far xs k ds some within far =
    omega (arith, shortened xs k ds some within, rounded_up (digits_value 10 (take (length xs - k) xs)) (digit_value (get_or xs (length xs - k) 0)))

-- where the power of ten is a whole number
pub scaled_up : (xs : List ℕ) (up down : ℕ) → down ≤ up → digits_value 10 xs * 10 ^ (up - down) ≡ scaled xs up down
unfolding scaled
scaled_up xs up down h =
    let e : up ≡ down + (up - down) = omega arith in
    let p : 10 ^ up ≡ 10 ^ down * 10 ^ (up - down) = ap (λ n. 10 ^ n) e ∙ pow-add 10 down (up - down) in
    sym (rw p (nearest_whole (digits_value 10 xs) (10 ^ (up - down)) (10 ^ down) (ten_pow down)))

-- and where it is one over a whole number
pub scaled_down : (xs : List ℕ) (up down : ℕ) → up ≤ down → nearest (digits_value 10 xs) (10 ^ (down - up)) ≡ scaled xs up down
unfolding scaled
scaled_down xs up down h =
    let e : down ≡ up + (down - up) = omega arith in
    let p : 10 ^ down ≡ 10 ^ up * 10 ^ (down - up) = ap (λ n. 10 ^ n) e ∙ pow-add 10 up (down - up) in
    sym (rw p (nearest_cancel (digits_value 10 xs) (10 ^ up) (10 ^ (down - up)) (ten_pow up) (ten_pow (down - up))))

-- with more places than digits nothing is left
pub scaled_none : (xs : List ℕ) (up down : ℕ) → all_ascii_digits xs ≡ true → up + length xs < down → scaled xs up down ≡ 0
scaled_none xs up down ds h =
    let ten : 0 < 10 = omega arith in
    let more : suc (length xs) ≤ down - up = omega arith in
    let p : 10 ^ suc (length xs) ≤ 10 ^ (down - up) = pow-le-pow_right ten more in
    sym (scaled_down xs up down (omega arith)) ∙ nearest_none (digits_value 10 xs) (10 ^ (down - up)) (omega (arith, value_below xs ds, pow-suc 10 (length xs), p))

-- an exponent that is read up to a great number only
pub down_capped : (xs : List ℕ) (up places p m : ℕ) → all_ascii_digits xs ≡ true → up + length xs < places + m
    → scaled xs up (places + min p m) ≡ scaled xs up (places + p)
down_capped xs up places p m ds far = elim (cases_lt m p) [
  | inl more ↦ scaled_none xs up (places + min p m) ds (omega arith) ∙ sym (scaled_none xs up (places + p) ds (omega arith))
  | inr less ↦ ap (λ n. scaled xs up (places + n)) (let e : min p m ≡ p = omega arith in e)
]

up_far_at : (r : Option ℕ) (xs : List ℕ) (a b down v : ℕ) → digits_value 10 xs ≡ v → down + 12 < a → down + 12 < b → IsBounded r (v * 10 ^ (a - down)) → IsBounded r (v * 10 ^ (b - down))
up_far_at r xs a b down zero e ha hb h =
    bounded_same r (0 * 10 ^ (a - down)) (0 * 10 ^ (b - down)) (omega arith) h
up_far_at None xs a b down (suc v) e ha hb h = zeros_far (suc v) (b - down) (omega arith) (omega arith)
up_far_at (Some x) xs a b down (suc v) e ha hb h = absurd (omega (arith, h.1, zeros_far (suc v) (a - down) (omega arith) (omega arith)))

pub up_far : (r : Option ℕ) (xs : List ℕ) (a b down : ℕ) → down + 12 < a → down + 12 < b → IsBounded r (scaled xs a down) → IsBounded r (scaled xs b down)
up_far r xs a b down ha hb h =
    bounded_same r _ _ (scaled_up xs b down (omega arith)) (up_far_at r xs a b down (digits_value 10 xs) refl ha hb (bounded_same r _ _ (sym (scaled_up xs a down (omega arith))) h))

pub up_capped : (r : Option ℕ) (xs : List ℕ) (up down p m : ℕ) → down + 12 < m → IsBounded r (scaled xs (up + min p m) down) → IsBounded r (scaled xs (up + p) down)
up_capped r xs up down p m far h = elim (cases_lt m p) [
  | inl more ↦ up_far r xs (up + min p m) (up + p) down (omega arith) (omega arith) h
  | inr less ↦ bounded_same r _ _ (ap (λ n. scaled xs (up + n) down) (let e : min p m ≡ p = omega arith in e)) h
]

-- in the words of the rule
pub scaled_is : (xs : List ℕ) (up down : ℕ) → IsScaled xs up down (scaled xs up down)
unfolding scaled IsScaled
scaled_is xs up down = nearest_is (digits_value 10 xs * 10 ^ up) (10 ^ down) (ten_pow down)

pub scaled_one : (xs : List ℕ) (up down v w : ℕ) → IsScaled xs up down v → IsScaled xs up down w → v ≡ w
unfolding IsScaled
scaled_one xs up down v w h k = nearest_one (digits_value 10 xs * 10 ^ up) (10 ^ down) v w h k

pub abs_signed : (negative : Bool) (n : ℕ) → nat_abs (signed_of negative n) ≡ n
abs_signed true zero = refl
abs_signed true (suc n) = refl
abs_signed false n = refl

pub is_magnitude : (d : Decimal) (tens n : ℕ) → n ≡ magnitude_of d tens → IsMagnitude d tens n
is_magnitude d tens n e = subst (λ m. IsMagnitude d tens m) (sym e) (scaled_is (digits_of d) (raised d tens) (lowered d))

pub far_from : (d : Decimal) (tens : ℕ) → NUMBER_LIMIT ≤ magnitude_of d tens → IsFar (Some d) tens
far_from d tens h = λ w k. omega (arith, h, scaled_one (digits_of d) (raised d tens) (lowered d) (magnitude_of d tens) w (scaled_is (digits_of d) (raised d tens) (lowered d)) k)
