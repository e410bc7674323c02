-- The units of a library.

use Rattle.std.specs.Prelude.{ℕ, Bool, ◌+◌, ◌==◌, ◌&&◌, nat_le, nat_lt, List, [], ◌∷◌, codes, length, Option, None, Some, ℤ, pos, if◌then◌else◌}
use Rattle.std.specs.List.{list_all}
use Rattle.std.specs.Ordering.{int_eq}
use Rattle.std.specs.Str.{bytes_eq, str_eq_ignore_ascii_case}
use Rattle.gs_design.specs.declared.units.Units.{Units}
use Rattle.gs_libcell.specs.Number.{number_of}

-- the time unit as a power of ten of 1 ps
abbrev pub time_tens : List ℕ → Option ℕ
time_tens text =
    if bytes_eq (codes "1ps") text then Some 0
    else if bytes_eq (codes "10ps") text then Some 1
    else if bytes_eq (codes "100ps") text then Some 2
    else if bytes_eq (codes "1ns") text then Some 3
    else None

-- a decimal equal to 1, 10 or 100, as a power of ten
abbrev pub tens_equal : Option ℤ → Option ℕ
tens_equal None = None
tens_equal (Some m) =
    if int_eq m (pos 1000000) then Some 0
    else if int_eq m (pos 10000000) then Some 1
    else if int_eq m (pos 100000000) then Some 2
    else None

-- `ff` or `pf` in either case, as a power of ten of 1 fF
abbrev pub farad_tens : List ℕ → Option ℕ
farad_tens text =
    if str_eq_ignore_ascii_case text (codes "ff") then Some 0
    else if str_eq_ignore_ascii_case text (codes "pf") then Some 3
    else None

abbrev pub both : Option ℕ → Option ℕ → Option ℕ
both None b = None
both (Some x) None = None
both (Some x) (Some y) = Some (x + y)

-- the unit of capacitance as a power of ten of 1 fF: two values, a number and a unit
abbrev pub load_tens : List (List ℕ) → Option ℕ
load_tens [] = None
load_tens (count ∷ []) = None
load_tens (count ∷ unit ∷ []) = both (tens_equal (number_of 0 count)) (farad_tens unit)
load_tens (count ∷ unit ∷ other ∷ more) = None

-- a printable ASCII byte other than the blank
abbrev pub is_visible : ℕ → Bool
is_visible c = nat_le 33 c && nat_le c 126

-- 1 to 16 such bytes
abbrev pub is_unit : List ℕ → Bool
is_unit text = nat_lt 0 (length text) && (nat_le (length text) 16 && list_all is_visible text)

-- the units of a library: powers of ten of 1 ps and of 1 fF
pub record Tens : Type 0 where
  pub time : ℕ
  pub load : ℕ

abbrev pub scale : Units → Tens
scale u = record { time = u.time_tens; load = u.load_tens }
