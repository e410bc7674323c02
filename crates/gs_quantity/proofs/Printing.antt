-- A printed number reads back.
use Rattle.std.proofs.Common.{ℕ, suc, get_or, ◌+◌, ◌/◌, ◌%◌, ◌^◌, ◌<◌, ◌≤◌, ◌≡◌, ◌∙◌, sym, refl, inl, inr, Bool, true, false, nat_eq, List, [], ◌∷◌, ◌++◌, length, take_all, Some, Ok, ℤ, pos, negsuc, nat_abs, arith}
use Rattle.std.proofs.lemmas.Bool.{eqb-true, ne_eqb, cases_lt, lt-ltb}
use Rattle.std.proofs.lemmas.Fmt.{digits_decimal, digits_value-decimal, length-decimal-le, decimal_nonempty}
use Rattle.std.proofs.lemmas.List.{get_or_append_left, length-drop, drop_all}
use Rattle.std.proofs.lemmas.List.Folds.{prefix_len-append}
use Rattle.std.proofs.lemmas.Nat.{div-add-mod', mod_below}
use Rattle.std.proofs.lemmas.Str.Parse.{numerals_by_value, tells_all_ascii_digits, IsNumeralModel}
use Rattle.std.proofs.Math.Nat.{pow-le-pow_right}
use Rattle.std.proofs.Math.Seq.{drop-append_seam, take-append_seam}
use Rattle.std.specs.Fmt.{decimal}
use Rattle.std.specs.List.{prefix_len}
use Rattle.std.specs.Char.{is_ascii_digit}
use Rattle.std.specs.Str.{all_ascii_digits}
use Rattle.std.specs.Str.Parse.{digits_value, starts_with_minus, without_leading_sign}
use Rattle.gs_quantity.specs.declared.limits.TheConstants.{NUMBER_LIMIT}
use Rattle.gs_quantity.specs.Decimal.{digits_at, after_digits, unsigned_of, reading, read_of, scaled, in_range, signed_of}
use Rattle.gs_quantity.specs.Print.{six_digits, magnitude_text, micro_text}
use Rattle.gs_quantity.proofs.Digits.{all_at_front, value_append, value_below, value_split, digits_drop, digit_at, digit_is}
use Rattle.gs_quantity.proofs.Scaling.{scaled_up}

own : IsNumeralModel (λ ds. all_ascii_digits ds ≡ true) (digits_value 10)
own = numerals_by_value _ tells_all_ascii_digits

-- digits, and then something that is none
front_of : (xs ys : List ℕ) → all_ascii_digits xs ≡ true → prefix_len is_ascii_digit ys ≡ 0 → prefix_len is_ascii_digit (xs ++ ys) ≡ length xs
front_of xs ys h k = rw (prefix_len-append is_ascii_digit xs ys, all_at_front xs, h, k) (omega arith)

whole_of : (xs ys : List ℕ) → all_ascii_digits xs ≡ true → prefix_len is_ascii_digit ys ≡ 0 → digits_at (xs ++ ys) ≡ xs
whole_of xs ys h k = rw (front_of xs ys h k) (take-append_seam xs ys)

after_of : (xs ys : List ℕ) → all_ascii_digits xs ≡ true → prefix_len is_ascii_digit ys ≡ 0 → after_digits (xs ++ ys) ≡ ys
after_of xs ys h k = rw (whole_of xs ys h k) (drop-append_seam xs ys)

unsigned_text : (b : Bool) (xs ys : List ℕ) → all_ascii_digits xs ≡ true → all_ascii_digits ys ≡ true → 0 < length ys
    → unsigned_of b (xs ++ 46 ∷ ys) ≡ Some (record { negative = b; whole = xs; part = ys; power_negative = false; power = [] })
unsigned_text b xs ys hx hy some =
    let none : prefix_len is_ascii_digit (46 ∷ ys) ≡ 0 = refl in
    let all : prefix_len is_ascii_digit ys ≡ length ys = eqb-true (prefix_len is_ascii_digit ys) (length ys) (all_at_front ys ∙ hy) in
    let digits : digits_at ys ≡ ys = rw all (take_all (length ys) ys (omega arith)) in
    let rest : after_digits ys ≡ [] = rw digits (drop_all (length ys) ys (omega arith)) in
    let apart : nat_eq (length xs + length ys) 0 ≡ false = ne_eqb (length xs + length ys) 0 (λ e. omega (arith, e)) in
    rw (after_of xs (46 ∷ ys) hx none, whole_of xs (46 ∷ ys) hx none, rest, digits, apart) refl

-- a number's text is digits, and not empty
digits_are : (n : ℕ) → n < 2 ^ 64 → all_ascii_digits (decimal n) ≡ true
digits_are n h = digits_decimal own n h

value_is : (n : ℕ) → n < 2 ^ 64 → digits_value 10 (decimal n) ≡ n
value_is n h = digits_value-decimal own n h

-- a number of a million or more has seven digits at least
seven : (k : ℕ) → 1000000 < 10 ^ k → 7 ≤ k
seven k h = elim (cases_lt k 7) [
  | inl low ↦ absurd (omega (arith, h, (let ten : 0 < 10 = omega arith in let le : k ≤ 6 = omega arith in let p : 10 ^ k ≤ 10 ^ 6 = pow-le-pow_right ten le in p)))
  | inr high ↦ high
]

pub six_of : (m : ℕ) → m < 1000000 → (all_ascii_digits (six_digits m) ≡ true) × (length (six_digits m) ≡ 6) × (digits_value 10 (six_digits m) ≡ m)
six_of m h =
    let ds : List ℕ = decimal (1000000 + m) in
    let all : all_ascii_digits (decimal (1000000 + m)) ≡ true = digits_are (1000000 + m) (omega arith) in
    let value : digits_value 10 (decimal (1000000 + m)) ≡ 1000000 + m = value_is (1000000 + m) (omega arith) in
    let short : length (decimal (1000000 + m)) ≤ 7 = length-decimal-le 7 (1000000 + m) (omega arith) (omega arith) (omega arith) in
    let below : digits_value 10 (decimal (1000000 + m)) < 10 ^ length (decimal (1000000 + m)) = value_below (decimal (1000000 + m)) all in
    let long : 7 ≤ length (decimal (1000000 + m)) = seven (length (decimal (1000000 + m))) (omega (arith, below, value)) in
    let seven : length (decimal (1000000 + m)) ≡ 7 = omega arith in
    let rest : all_ascii_digits (six_digits m) ≡ true = digits_drop (decimal (1000000 + m)) 1 all in
    let six : length (six_digits m) ≡ 6 = omega (arith, length-drop 1 (decimal (1000000 + m)), seven) in
    let split = value_split (decimal (1000000 + m)) 0 (omega (arith, seven)) in
    let low : digits_value 10 (six_digits m) < 10 ^ 6 = rw six at (value_below (six_digits m) rest) in
    let parts = rw seven at split in
    (rest, six, omega (arith, parts, low, value))

-- what begins with a digit has no sign
plain : (xs : List ℕ) → 48 ≤ get_or xs 0 0 → (starts_with_minus xs ≡ false) × (without_leading_sign xs ≡ xs)
plain xs h =
    let minus : nat_eq (get_or xs 0 0) 45 ≡ false = ne_eqb (get_or xs 0 0) 45 (λ e. omega (arith, e)) in
    let plus : nat_eq (get_or xs 0 0) 43 ≡ false = ne_eqb (get_or xs 0 0) 43 (λ e. omega (arith, e)) in
    (minus, rw (minus, plus) refl)

begins_with_digit : (n : ℕ) → n < NUMBER_LIMIT → 48 ≤ get_or (magnitude_text n) 0 0
begins_with_digit n h =
    let w : ℕ = n / 1000000 in
    let small : n / 1000000 < 2 ^ 64 = omega arith in
    let some : 0 < length (decimal (n / 1000000)) = decimal_nonempty (n / 1000000) small in
    let d = digit_is (get_or (decimal (n / 1000000)) 0 0) (digit_at (decimal (n / 1000000)) 0 (digits_are (n / 1000000) small) some) in
    rw (get_or_append_left (decimal (n / 1000000)) (46 ∷ six_digits (n % 1000000)) 0 0 some) d.1

in_range_of : (n : ℕ) → n < NUMBER_LIMIT → in_range n ≡ Some n
in_range_of n h = rw (lt-ltb n NUMBER_LIMIT h) refl

magnitude_is : (n : ℕ) → n < NUMBER_LIMIT → scaled (decimal (n / 1000000) ++ six_digits (n % 1000000)) 6 6 ≡ n
magnitude_is n h =
    let small : n / 1000000 < 2 ^ 64 = omega arith in
    let six = six_of (n % 1000000) (mod_below n 1000000 (omega arith)) in
    let e = value_append (decimal (n / 1000000)) (six_digits (n % 1000000)) in
    let f = rw (six.1, six.2, value_is (n / 1000000) small) at e in
    sym (scaled_up (decimal (n / 1000000) ++ six_digits (n % 1000000)) 6 6 (omega arith)) ∙ omega (arith, f, div-add-mod' n 1000000)

text_value : (b : Bool) (n : ℕ) → n < NUMBER_LIMIT → reading (unsigned_of b (magnitude_text n)) 0 ≡ Ok (signed_of b n)
text_value b n h =
    let small : n / 1000000 < 2 ^ 64 = omega arith in
    let six = six_of (n % 1000000) (mod_below n 1000000 (omega arith)) in
    let some : 0 < length (six_digits (n % 1000000)) = omega (arith, six.1) in
    rw (
      unsigned_text b (decimal (n / 1000000)) (six_digits (n % 1000000)) (digits_are (n / 1000000) small) six.0 some,
      six.1,
      magnitude_is n h,
      in_range_of n h,
    ) refl

pub reads_back : (z : ℤ) → nat_abs z < NUMBER_LIMIT → read_of (micro_text z) 0 ≡ Ok z
reads_back (pos n) h =
    let p = plain (magnitude_text n) (begins_with_digit n h) in
    rw (p.1, p.0) (text_value false n h)
reads_back (negsuc n) h = text_value true (suc n) h
