-- What is read is below the limit, and an amount isn't negative.

use Rattle.std.proofs.Common.{◌≡◌, ℕ, ◌<◌, ◌≤◌, List, refl, sym, subst, ap, Bool, true, false, Option, None, Some, IfSome, Result, Ok, Err, IfOk, ℤ, pos, negsuc, ◌≤ℤ◌, ◌<ℤ◌, arith, if◌then◌else◌}
use Rattle.std.specs.Prelude.{nat_lt, int_lt}
use Rattle.std.proofs.lemmas.Bool.Decides.{nat_tests}
use Rattle.std.proofs.lemmas.Int.{ints}
use Rattle.gs_amount.specs.Amount.{IsAmount, IsLimited, amount_of, number_of, unless_negative, where_read}
use Rattle.gs_quantity.specs.Decimal.{Decimal, in_range, magnitude_of, read_of, decimal_of, reading, signed_of, signed_or_far}
use Rattle.gs_quantity.specs.declared.micro.NumErr.{NumErr}

signed_small : (negative : Bool) (w : ℕ) → w < 1099511627776 → IsLimited (signed_of negative w)
signed_small true w lt = (omega (arith, ints), omega (arith, ints))
signed_small false w lt = (omega (arith, ints), omega (arith, ints))

range_small : (w v : ℕ) (b : Bool) → nat_lt w 1099511627776 ≡ b → (if b then Some w else None) ≡ Some v → v < 1099511627776
range_small w v true e h =
    let same : w ≡ v = cc in
    let lt : w < 1099511627776 = grind (arith, nat_tests) in
    omega arith
range_small w v false e h = cc

far_small : (negative : Bool) (w : ℕ) (o : Option ℕ) (m : ℤ) → in_range w ≡ o → signed_or_far negative o ≡ Ok m → IsLimited m
far_small negative w None m e h = cc
far_small negative w (Some v) m e h =
    let same : signed_of negative v ≡ m = cc in
    let lt = range_small w v (nat_lt w 1099511627776) refl e in
    subst IsLimited same (signed_small negative v lt)

reading_small : (o : Option Decimal) (tens : ℕ) (m : ℤ) → reading o tens ≡ Ok m → IsLimited m
reading_small None tens m h = cc
reading_small (Some d) tens m h = far_small d.negative (magnitude_of d tens) (in_range (magnitude_of d tens)) m refl h

number_by : (r : Result ℤ NumErr) (m : ℤ) → ((n : ℤ) → r ≡ Ok n → IsLimited n) → where_read r ≡ Some m → IsLimited m
number_by (Err e) m small h = cc
number_by (Ok n) m small h = let same : n ≡ m = cc in subst IsLimited same (small n refl)

pub number_kept : (bytes : List ℕ) (tens : ℕ) (o : Option ℤ) → o ≡ number_of bytes tens → IfSome o (λ m. IsLimited m)
number_kept bytes tens None e = tt
number_kept bytes tens (Some m) e = number_by (read_of bytes tens) m (λ n h. reading_small (decimal_of bytes) tens n h) (sym e)

least : (m : ℤ) → int_lt m (pos 0) ≡ false → pos 0 ≤ℤ m
least (pos n) h = omega (arith, ints)
least (negsuc n) h = cc

kept_test : (n m : ℤ) (b : Bool) → int_lt n (pos 0) ≡ b → (if b then None else Some n) ≡ Some m → IsLimited n → IsAmount m
kept_test n m true e h small = cc
kept_test n m false e h small = let same : n ≡ m = cc in subst IsAmount same (least n e, small.1)

kept_by : (r : Result ℤ NumErr) (m : ℤ) → ((n : ℤ) → r ≡ Ok n → IsLimited n) → unless_negative r ≡ Some m → IsAmount m
kept_by (Err e) m small h = cc
kept_by (Ok n) m small h = kept_test n m (int_lt n (pos 0)) refl h (small n refl)

pub amount_kept : (bytes : List ℕ) (tens : ℕ) (o : Option ℤ) → o ≡ amount_of bytes tens → IfSome o (λ m. IsAmount m)
amount_kept bytes tens None e = tt
amount_kept bytes tens (Some m) e = kept_by (read_of bytes tens) m (λ n h. reading_small (decimal_of bytes) tens n h) (sym e)
