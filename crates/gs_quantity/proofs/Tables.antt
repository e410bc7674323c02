-- Lists with no fault are a table.
use Rattle.std.proofs.Common.{ℕ, ◌+◌, ◌-◌, ◌*◌, ◌<◌, ◌≡◌, refl, Bool, true, false, not, ◌||◌, nat_eq, nat_lt, nat_le, if◌then◌else◌, List, length, Option, Some, None, ℤ, ◌<ℤ◌, int_le, nat_abs, arith}
use Rattle.std.proofs.lemmas.Int.{ints}
use Rattle.std.proofs.lemmas.Bool.{true≢false, eqb-true, eqb-false, ltb-false, leb-false, lt-ltb, not-false}
use Rattle.gs_quantity.specs.declared.limits.TheConstants.{TABLE_LIMIT}
use Rattle.gs_quantity.specs.Lookup.{at, IsAxis, IsTable}
use Rattle.gs_quantity.specs.TableFault.{falls, is_wide, first_place, bad_axis, bad_shape, fault_or, table_fault}
use Rattle.gs_quantity.specs.declared.lookup.fault.TableErr.{TableErr}
use Rattle.gs_quantity.specs.declared.lookup.fault.TableErr.TheVariants.{Shape, NotRising, TooWide}
use Rattle.gs_quantity.proofs.Places.{place_none, some_none}

or_none : (a b : Bool) → (a || b) ≡ false → (a ≡ false) × (b ≡ false)
or_none true b h = absurd (true≢false h)
or_none false b h = (refl, h)

fault_or_none : (why : ℕ → TableErr) (k : ℕ) (a : Option ℕ) (other : Option TableErr) → fault_or why k a other ≡ None → (a ≡ None) × (other ≡ None)
fault_or_none why k None other h = (refl, h)
fault_or_none why k (Some i) other h = absurd (some_none (why (k + i)) h)

shape_none : (bad : Bool) (rest : Option TableErr) → (if bad then Some Shape else rest) ≡ None → (bad ≡ false) × (rest ≡ None)
shape_none true rest h = absurd (some_none Shape h)
shape_none false rest h = (refl, h)

above_from : (a b : ℤ) → int_le a b ≡ false → b <ℤ a
above_from a b h = grind (arith, ints)

le_false : (a b : ℕ) → nat_le a b ≡ false → b < a
le_false a b h = leb-false a b h

axis_from : (xs : List ℤ) → bad_axis xs ≡ false → first_place (falls xs) 0 (length xs) ≡ None → first_place (is_wide xs) 0 (length xs) ≡ None → IsAxis xs
axis_from xs shape rises narrow =
    let parts = or_none (nat_eq (length xs) 0) (nat_lt 64 (length xs)) shape in
    record {
      some = let apart = eqb-false (length xs) 0 parts.0 in omega (arith, apart);
      few = ltb-false 64 (length xs) parts.1;
      rising = λ i lt.
          let f : falls xs (i + 1) ≡ false = place_none (falls xs) (length xs) 0 rises (i + 1) (omega arith) (omega arith) in
          let g : nat_lt 0 (i + 1) ≡ true = lt-ltb 0 (i + 1) (omega arith) in
          let e : i + 1 - 1 ≡ i = omega arith in
          above_from (at xs (i + 1)) (at xs i) (rw (g, e) at f);
      narrow = λ i lt. le_false TABLE_LIMIT (nat_abs (at xs i)) (place_none (is_wide xs) (length xs) 0 narrow i (omega arith) (omega arith));
    }

pub table_from : (xs ys zs : List ℤ) → table_fault xs ys zs ≡ None → IsTable xs ys zs
table_from xs ys zs h =
    let s = shape_none (bad_shape xs ys zs) _ h in
    let rx = fault_or_none (λ i. NotRising i) 0 (first_place (falls xs) 0 (length xs)) _ s.1 in
    let ry = fault_or_none (λ i. NotRising i) (length xs) (first_place (falls ys) 0 (length ys)) _ rx.1 in
    let wx = fault_or_none (λ i. TooWide i) 0 (first_place (is_wide xs) 0 (length xs)) _ ry.1 in
    let wy = fault_or_none (λ i. TooWide i) (length xs) (first_place (is_wide ys) 0 (length ys)) _ wx.1 in
    let wz = fault_or_none (λ i. TooWide i) (length xs + length ys) (first_place (is_wide zs) 0 (length zs)) None wy.1 in
    let both = or_none (bad_axis xs || bad_axis ys) (not (nat_eq (length zs) (length xs * length ys))) s.0 in
    let axes = or_none (bad_axis xs) (bad_axis ys) both.0 in
    record {
      slews = axis_from xs axes.0 rx.0 wx.0;
      loads = axis_from ys axes.1 ry.0 wy.0;
      shape = eqb-true (length zs) (length xs * length ys) (not-false (nat_eq (length zs) (length xs * length ys)) both.1);
      narrow = λ i lt. le_false TABLE_LIMIT (nat_abs (at zs i)) (place_none (is_wide zs) (length zs) 0 wz.0 i (omega arith) (omega arith));
    }
