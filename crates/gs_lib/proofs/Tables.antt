-- Lists without a fault make a table.

use Rattle.std.proofs.Common.{ℕ, zero, suc, ◌+◌, ◌-◌, ◌*◌, ◌<◌, ◌≤◌, ◌≡◌, refl, Bool, true, false, not, ◌||◌, ◌==◌, nat_lt, nat_le, inl, inr, List, length, Option, Some, None, ℤ, ◌<ℤ◌, int_le, nat_abs, arith, if◌then◌else◌}
use Rattle.std.proofs.lemmas.Bool.{cases_eq, eqb-true, eqb-false, ltb-false, leb-false, lt-ltb}
use Rattle.std.proofs.lemmas.Int.{ints}
use Rattle.gs_quantity.specs.declared.limits.TheConstants.{TABLE_LIMIT}
use Rattle.gs_quantity.specs.Lookup.{at, IsAxis, IsTable}
use Rattle.gs_quantity.specs.TableFault.{falls, is_wide, first_place, bad_axis, bad_shape, fault_or, table_fault}
use Rattle.gs_quantity.specs.declared.lookup.fault.TableErr.{TableErr}
use Rattle.gs_quantity.specs.declared.lookup.fault.TableErr.TheVariants.{Shape, NotRising, TooWide}
use Rattle.gs_lib.proofs.Whole.{not_false, or_first, or_second}

none_head : (b : Bool) (i : ℕ) (rest : Option ℕ) → (if b then Some i else rest) ≡ None → (b ≡ false) × (rest ≡ None)
none_head true i rest h = let never : Some i ≡ None = h in absurd cc
none_head false i rest h = (refl, h)

-- where there is no first place, the test fails at each
nowhere : (test : ℕ → Bool) (n i : ℕ) → first_place test i n ≡ None → (k : ℕ) → i ≤ k → k < i + n → test k ≡ false
nowhere test zero i h k low high = absurd (omega arith)
nowhere test (suc n) i h k low high =
    let parts = none_head (test i) i (first_place test (i + 1) n) h in
    elim (cases_eq k i) [
      | inl same ↦ rw same parts.0
      | inr apart ↦ nowhere test n (i + 1) parts.1 k (omega arith) (omega arith)
    ]

no_fault : (why : ℕ → TableErr) (k : ℕ) (a : Option ℕ) (other : Option TableErr) → fault_or why k a other ≡ None → (a ≡ None) × (other ≡ None)
no_fault why k None other h = (refl, h)
no_fault why k (Some i) other h = let never : Some (why (k + i)) ≡ None = h in absurd cc

no_shape : (bad : Bool) (rest : Option TableErr) → (if bad then Some Shape else rest) ≡ None → (bad ≡ false) × (rest ≡ None)
no_shape true rest h = let never : Some Shape ≡ None = h in absurd cc
no_shape false rest h = (refl, h)

above : (a b : ℤ) → int_le a b ≡ false → b <ℤ a
above a b h = grind (arith, ints)

axis_of : (xs : List ℤ) → bad_axis xs ≡ false → first_place (falls xs) 0 (length xs) ≡ None → first_place (is_wide xs) 0 (length xs) ≡ None → IsAxis xs
axis_of xs shape rises narrow =
    let some = or_first (length xs == 0) (nat_lt 64 (length xs)) shape in
    let few = or_second (length xs == 0) (nat_lt 64 (length xs)) shape in
    record {
      some = let apart = eqb-false (length xs) 0 some in omega (arith, apart);
      few = ltb-false 64 (length xs) few;
      rising = λ i lt.
          let f : falls xs (i + 1) ≡ false = nowhere (falls xs) (length xs) 0 rises (i + 1) (omega arith) (omega arith) in
          let g : nat_lt 0 (i + 1) ≡ true = lt-ltb 0 (i + 1) (omega arith) in
          let e : i + 1 - 1 ≡ i = omega arith in
          above (at xs (i + 1)) (at xs i) (rw (g, e) at f);
      narrow = λ i lt. leb-false TABLE_LIMIT (nat_abs (at xs i)) (nowhere (is_wide xs) (length xs) 0 narrow i (omega arith) (omega arith));
    }

pub table_of : (xs ys zs : List ℤ) → table_fault xs ys zs ≡ None → IsTable xs ys zs
table_of xs ys zs h =
    let s = no_shape (bad_shape xs ys zs) _ h in
    let rx = no_fault (λ i. NotRising i) 0 (first_place (falls xs) 0 (length xs)) _ s.1 in
    let ry = no_fault (λ i. NotRising i) (length xs) (first_place (falls ys) 0 (length ys)) _ rx.1 in
    let wx = no_fault (λ i. TooWide i) 0 (first_place (is_wide xs) 0 (length xs)) _ ry.1 in
    let wy = no_fault (λ i. TooWide i) (length xs) (first_place (is_wide ys) 0 (length ys)) _ wx.1 in
    let wz = no_fault (λ i. TooWide i) (length xs + length ys) (first_place (is_wide zs) 0 (length zs)) None wy.1 in
    let product : Bool = length zs == length xs * length ys in
    let axes = or_first (bad_axis xs || bad_axis ys) (not product) s.0 in
    record {
      slews = axis_of xs (or_first (bad_axis xs) (bad_axis ys) axes) rx.0 wx.0;
      loads = axis_of ys (or_second (bad_axis xs) (bad_axis ys) axes) ry.0 wy.0;
      shape = eqb-true (length zs) (length xs * length ys) (not_false product (or_second (bad_axis xs || bad_axis ys) (not product) s.0));
      narrow = λ i lt. leb-false TABLE_LIMIT (nat_abs (at zs i)) (nowhere (is_wide zs) (length zs) 0 wz.0 i (omega arith) (omega arith));
    }
