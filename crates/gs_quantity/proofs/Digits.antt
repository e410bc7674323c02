-- Lists of ASCII digits and the numbers that they write.
use Rattle.std.proofs.Common.{ℕ, zero, suc, get_or, ◌+◌, ◌-◌, ◌*◌, ◌^◌, ◌<◌, ◌≤◌, ◌≡◌, ◌∙◌, ap, sym, refl, Bool, true, false, cond, ◌&&◌, nat_eq, List, [], ◌∷◌, ◌++◌, length, take, drop, arith, rules, tests}
use Rattle.std.proofs.lemmas.Bool.{false≢true}
use Rattle.std.proofs.lemmas.Str.Parse.{digits_value-take-le}
use Rattle.std.proofs.lemmas.List.{take-take, take-append-drop, length-drop}
use Rattle.std.proofs.lemmas.Int.Digits.{digits_value_more, digits_value-lt}
use Rattle.std.proofs.Math.Nat.{pow-suc}
use Rattle.std.proofs.Math.Dec.{eqb-suc-suc}
use Rattle.std.specs.Char.{is_ascii_digit, digit_value}
use Rattle.std.specs.List.{prefix_len}
use Rattle.std.specs.Str.{all_ascii_digits}
use Rattle.std.specs.Str.Parse.{AllDigits, digits_value, digits_value_after}

-- a number and a later one differ
zero_apart : (n : ℕ) → nat_eq 0 (suc n) ≡ false
zero_apart n = search (rules, tests)

front_digits_at : (b : Bool) (x : ℕ) (xs : List ℕ) → all_ascii_digits (take (prefix_len is_ascii_digit xs) xs) ≡ true → is_ascii_digit x ≡ b → all_ascii_digits (take (cond b (1 + prefix_len is_ascii_digit xs) 0) (x ∷ xs)) ≡ true
front_digits_at true x xs h e =
    let num : 1 + prefix_len is_ascii_digit xs ≡ suc (prefix_len is_ascii_digit xs) = omega arith in
    rw (num, e, h) refl
front_digits_at false x xs h e = refl

-- the digits at the front are digits
pub front_digits : (xs : List ℕ) → all_ascii_digits (take (prefix_len is_ascii_digit xs) xs) ≡ true
front_digits [] = refl
front_digits (x ∷ xs) = front_digits_at (is_ascii_digit x) x xs (front_digits xs) refl

all_at_front_at : (b : Bool) (x : ℕ) (xs : List ℕ) → nat_eq (prefix_len is_ascii_digit xs) (length xs) ≡ all_ascii_digits xs → nat_eq (cond b (1 + prefix_len is_ascii_digit xs) 0) (suc (length xs)) ≡ (b && all_ascii_digits xs)
all_at_front_at true x xs h =
    let num : 1 + prefix_len is_ascii_digit xs ≡ suc (prefix_len is_ascii_digit xs) = omega arith in
    rw num (eqb-suc-suc (prefix_len is_ascii_digit xs) (length xs) ∙ h)
all_at_front_at false x xs h = zero_apart (length xs)

-- all are digits exactly where as many stand at the front
pub all_at_front : (xs : List ℕ) → nat_eq (prefix_len is_ascii_digit xs) (length xs) ≡ all_ascii_digits xs
all_at_front [] = refl
all_at_front (x ∷ xs) = all_at_front_at (is_ascii_digit x) x xs (all_at_front xs)

-- a digit's value
pub digit_is : (c : ℕ) → is_ascii_digit c ≡ true → (digit_value c ≡ c - 48) × (48 ≤ c) × (c < 58)
digit_is c h =
    let low : 48 ≤ c = search (rules, tests) in
    let high : c < 58 = search (rules, tests) in
    (search (rules, tests), low, high)

and_both : (a b : Bool) → (a && b) ≡ true → (a ≡ true) × (b ≡ true)
and_both true b h = (refl, h)
and_both false b h = absurd (false≢true h)

-- two lists of digits, joined
pub digits_append : (xs ys : List ℕ) → all_ascii_digits xs ≡ true → all_ascii_digits ys ≡ true → all_ascii_digits (xs ++ ys) ≡ true
digits_append [] ys h k = k
digits_append (x ∷ xs) ys h k =
    let parts = and_both (is_ascii_digit x) (all_ascii_digits xs) h in
    rw (parts.0, digits_append xs ys parts.1 k) refl

-- each of them is one
pub digit_at : (xs : List ℕ) (i : ℕ) → all_ascii_digits xs ≡ true → i < length xs → is_ascii_digit (get_or xs i 0) ≡ true
digit_at [] i h lt = absurd (omega arith)
digit_at (x ∷ xs) zero h lt = (and_both (is_ascii_digit x) (all_ascii_digits xs) h).0
digit_at (x ∷ xs) (suc i) h lt = digit_at xs i (and_both (is_ascii_digit x) (all_ascii_digits xs) h).1 (omega arith)

pub all_digits : (xs : List ℕ) → all_ascii_digits xs ≡ true → AllDigits 10 xs
all_digits [] h = tt
all_digits (x ∷ xs) h =
    let parts = and_both (is_ascii_digit x) (all_ascii_digits xs) h in
    let d = digit_is x parts.0 in
    (omega (arith, d.0, d.1, d.2), all_digits xs parts.1)

pub after_append : (n : ℕ) (xs ys : List ℕ) → digits_value_after 10 n (xs ++ ys) ≡ digits_value_after 10 (digits_value_after 10 n xs) ys
after_append n [] ys = refl
after_append n (x ∷ xs) ys = after_append (n * 10 + digit_value x) xs ys

-- digits that follow those of n
pub after_shifted : (n : ℕ) (xs : List ℕ) → digits_value_after 10 n xs ≡ n * 10 ^ length xs + digits_value 10 xs
after_shifted n [] = omega arith
after_shifted n (x ∷ xs) =
    let one = after_shifted (n * 10 + digit_value x) xs in
    let two = after_shifted (0 * 10 + digit_value x) xs in
    let p : 10 ^ suc (length xs) ≡ 10 ^ length xs * 10 = pow-suc 10 (length xs) in
    rw (one, two, p) (omega arith)

pub value_append : (xs ys : List ℕ) → digits_value 10 (xs ++ ys) ≡ digits_value 10 xs * 10 ^ length ys + digits_value 10 ys
value_append xs ys = after_append 0 xs ys ∙ after_shifted (digits_value 10 xs) ys

-- fewer digits from the front on write a number that isn't greater
pub front_grows : (xs : List ℕ) (i j : ℕ) → i ≤ j → digits_value 10 (take i xs) ≤ digits_value 10 (take j xs)
front_grows xs i j h = let e = take-take i j xs h in rw (← e) (digits_value-take-le 10 (take j xs) i (omega arith))

-- what is left of digits are digits
pub digits_drop : (xs : List ℕ) (i : ℕ) → all_ascii_digits xs ≡ true → all_ascii_digits (drop i xs) ≡ true
digits_drop [] zero h = h
digits_drop [] (suc i) h = h
digits_drop (x ∷ xs) zero h = h
digits_drop (x ∷ xs) (suc i) h = digits_drop xs i (and_both (is_ascii_digit x) (all_ascii_digits xs) h).1

-- the digits up to a place and those behind it
pub value_split : (xs : List ℕ) (i : ℕ) → i < length xs
    → digits_value 10 xs ≡ (digits_value 10 (take i xs) * 10 + digit_value (get_or xs i 0)) * 10 ^ (length xs - i - 1) + digits_value 10 (drop (i + 1) xs)
value_split xs i lt =
    let whole = take-append-drop (i + 1) xs in
    let e = value_append (take (i + 1) xs) (drop (i + 1) xs) in
    let n : length (drop (i + 1) xs) ≡ length xs - i - 1 = omega (arith, length-drop (i + 1) xs) in
    let m = digits_value_more 10 xs i lt in
    ap (digits_value 10) (sym whole) ∙ rw (← n, ← m) e

pub value_below : (xs : List ℕ) → all_ascii_digits xs ≡ true → digits_value 10 xs < 10 ^ length xs
value_below xs h = digits_value-lt 10 xs (all_digits xs h)
