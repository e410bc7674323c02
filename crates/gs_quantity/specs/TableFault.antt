-- Why lists are no table: the first cause, in the order shape, rising points, narrow numbers, at its first place. Places
-- are counted from 0 through the slew points, on through the load points, and on through the values.
use Rattle.std.specs.Prelude.{ℕ, zero, suc, ◌≡◌, ◌<◌, true, false, ◌+◌, ◌-◌, ◌*◌, ◌==◌, ◌&&◌, ◌||◌, not, Bool, nat_lt, nat_le, List, length, ℤ, nat_abs, int_le, Option, Some, None, if◌then◌else◌}
use Rattle.gs_quantity.specs.declared.limits.TheConstants.{TABLE_LIMIT}
use Rattle.gs_quantity.specs.Lookup.{at}
use Rattle.gs_quantity.specs.declared.lookup.fault.TableErr.{TableErr}
use Rattle.gs_quantity.specs.declared.lookup.fault.TableErr.TheVariants.{Shape, NotRising, TooWide}

-- the point at a place isn't above the one before it
abbrev pub falls : List ℤ → ℕ → Bool
falls xs i = nat_lt 0 i && int_le (at xs i) (at xs (i - 1))

-- the magnitude at a place is 2 ^ 34 or more
abbrev pub is_wide : List ℤ → ℕ → Bool
is_wide xs i = nat_le TABLE_LIMIT (nat_abs (at xs i))

-- the first of n places, from i on, at which a test holds
abbrev pub first_place : (ℕ → Bool) → ℕ → ℕ → Option ℕ
first_place test i zero = None
first_place test i (suc n) = if test i then Some i else first_place test (i + 1) n

abbrev pub bad_axis : List ℤ → Bool
bad_axis xs = length xs == 0 || nat_lt 64 (length xs)

-- an axis has no point or more than 64, or the number of values isn't the product
abbrev pub bad_shape : List ℤ → List ℤ → List ℤ → Bool
bad_shape xs ys zs = bad_axis xs || bad_axis ys || not (length zs == length xs * length ys)

-- an error at a place of a list that begins at k, or else what follows
abbrev pub fault_or : (ℕ → TableErr) → ℕ → Option ℕ → Option TableErr → Option TableErr
fault_or why k None other = other
fault_or why k (Some i) other = Some (why (k + i))

abbrev pub table_fault : List ℤ → List ℤ → List ℤ → Option TableErr
table_fault xs ys zs =
    if bad_shape xs ys zs then Some Shape else
    fault_or (λ i. NotRising i) 0 (first_place (falls xs) 0 (length xs))
    (fault_or (λ i. NotRising i) (length xs) (first_place (falls ys) 0 (length ys))
    (fault_or (λ i. TooWide i) 0 (first_place (is_wide xs) 0 (length xs))
    (fault_or (λ i. TooWide i) (length xs) (first_place (is_wide ys) 0 (length ys))
    (fault_or (λ i. TooWide i) (length xs + length ys) (first_place (is_wide zs) 0 (length zs)) None))))

-- a test over the first m places of p, and on over the places of q
abbrev pub joined : (ℕ → Bool) → (ℕ → Bool) → ℕ → ℕ → Bool
joined p q m k = if nat_lt k m then p k else q (k - m)

-- the point at a place isn't above the one before it, over the slew points and on over the load points
abbrev pub falls_in : List ℤ → List ℤ → ℕ → Bool
falls_in xs ys k = joined (falls xs) (falls ys) (length xs) k

-- the magnitude at a place is 2 ^ 34 or more, over the slew points, on over the load points and on over the values
abbrev pub wide_in : List ℤ → List ℤ → List ℤ → ℕ → Bool
wide_in xs ys zs k = joined (is_wide xs) (joined (is_wide ys) (is_wide zs) (length ys)) (length xs) k

-- no place of n
abbrev pub Nowhere : (ℕ → Bool) → ℕ → Type 0
Nowhere test n = (k : ℕ) → k < n → test k ≡ false

-- i is the first of n places at which a test holds
pub record IsFirst (test : ℕ → Bool) (n i : ℕ) : Type 0 where
  pub within : i < n
  pub holds : test i ≡ true
  pub before : Nowhere test i

-- what each refusal says
abbrev pub IsTableFault : List ℤ → List ℤ → List ℤ → TableErr → Type 0
IsTableFault xs ys zs Shape = bad_shape xs ys zs ≡ true
IsTableFault xs ys zs (NotRising i) = (bad_shape xs ys zs ≡ false) × IsFirst (falls_in xs ys) (length xs + length ys) i
IsTableFault xs ys zs (TooWide i) =
    (bad_shape xs ys zs ≡ false) × Nowhere (falls_in xs ys) (length xs + length ys)
    × IsFirst (wide_in xs ys zs) (length xs + (length ys + length zs)) i
