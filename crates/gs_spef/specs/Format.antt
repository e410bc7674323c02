-- What a line of SPEF says, after IEEE 1481-1999, in this project's profile: lumped totals alone.

use Rattle.std.specs.Prelude.{ℕ, ◌+◌, Bool, true, false, ◌==◌, ◌&&◌, nat_le, List, length, map, codes, Option, None, Some, Result, Ok, Err, ℤ, pos, if◌then◌else◌}
use Rattle.std.specs.Ordering.{int_eq}
use Rattle.std.specs.Char.{to_ascii_lowercase}
use Rattle.std.specs.Str.{bytes_eq}
use Rattle.gs_amount.specs.Amount.{number_of}
use Rattle.gs_spef.specs.Lines.{word}
use Rattle.gs_spef.specs.Names.{is_index}
use Rattle.gs_spef.specs.declared.format.Keyword.{Keyword}
use Rattle.gs_spef.specs.declared.format.Keyword.TheVariants as keyword
use Rattle.gs_spef.specs.declared.format.Place.{Place}
use Rattle.gs_spef.specs.declared.format.Place.TheVariants as place
use Rattle.gs_spef.specs.declared.format.Says.{Says}
use Rattle.gs_spef.specs.declared.format.Says.TheVariants.{Passes, SetsUnit, OpensMap, Maps, BeginsNet, EndsNet, OpensSection, OpensResistance, Distributes, Wrong}
use Rattle.gs_spef.specs.declared.format.Unit.{Unit}
use Rattle.gs_spef.specs.declared.format.Amount.{Amount}
use Rattle.gs_spef.specs.declared.format.Amount.TheVariants.{One, Ten, Hundred}
use Rattle.gs_spef.specs.declared.format.Farads.{Farads}
use Rattle.gs_spef.specs.declared.format.Farads.TheVariants.{Femto, Pico}

-- ---- units of capacitance

-- the power of ten that takes a number in the unit to femtofarads
abbrev pub amount_tens : Amount → ℕ
amount_tens One = 0
amount_tens Ten = 1
amount_tens Hundred = 2

abbrev pub farads_tens : Farads → ℕ
farads_tens Femto = 0
farads_tens Pico = 3

abbrev pub tens : Unit → ℕ
tens u = amount_tens u.amount + farads_tens u.farads

-- without a line that sets it, the unit is 1 FF
abbrev pub femtofarad : Unit
femtofarad = record { amount = One; farads = Femto }

-- a decimal equal to 1, 10 or 100
abbrev pub amount_by : Option ℤ → Option Amount
amount_by None = None
amount_by (Some m) =
    if int_eq m (pos 1000000) then Some One
    else if int_eq m (pos 10000000) then Some Ten
    else if int_eq m (pos 100000000) then Some Hundred
    else None

-- letters in either case
abbrev pub same_letters : List ℕ → List ℕ → Bool
same_letters x y = bytes_eq (map to_ascii_lowercase x) (map to_ascii_lowercase y)

abbrev pub farads_of : List ℕ → Option Farads
farads_of text = if same_letters text (codes "FF") then Some Femto else if same_letters text (codes "PF") then Some Pico else None

abbrev pub sets_by : Option Amount → Option Farads → Says
sets_by None f = Wrong
sets_by (Some a) None = Wrong
sets_by (Some a) (Some f) = SetsUnit (record { amount = a; farads = f })

-- ---- lines

abbrev pub keyword_of : List ℕ → Keyword
keyword_of text =
    if bytes_eq text (codes "*D_NET") then keyword.Net
    else if bytes_eq text (codes "*CONN") then keyword.Section
    else if bytes_eq text (codes "*CAP") then keyword.Section
    else if bytes_eq text (codes "*RES") then keyword.Resistance
    else if bytes_eq text (codes "*END") then keyword.End
    else if bytes_eq text (codes "*C_UNIT") then keyword.Unit
    else if bytes_eq text (codes "*NAME_MAP") then keyword.Map
    else if bytes_eq text (codes "*R_NET") then keyword.OtherNet
    else if bytes_eq text (codes "*D_PNET") then keyword.OtherNet
    else if bytes_eq text (codes "*R_PNET") then keyword.OtherNet
    else keyword.Other

-- *C_UNIT amount farads
abbrev pub unit_line : List (List ℕ) → Says
unit_line ws = if length ws == 3 then sets_by (amount_by (number_of (word ws 1) 0)) (farads_of (word ws 2)) else Wrong

-- *NAME_MAP, alone
abbrev pub map_line : List (List ℕ) → Says
map_line ws = if length ws == 1 then OpensMap else Wrong

-- *D_NET ref total and any further words; the ref and the total are judged by the lines before
abbrev pub net_line : List (List ℕ) → Says
net_line ws = if nat_le 3 (length ws) then BeginsNet else Wrong

-- outside of a net block, by the first word
abbrev pub outside_by : Keyword → List (List ℕ) → Says
outside_by keyword.Unit ws = unit_line ws
outside_by keyword.Map ws = map_line ws
outside_by keyword.Net ws = net_line ws
outside_by keyword.OtherNet ws = Wrong
outside_by keyword.End ws = Wrong
outside_by keyword.Section ws = Passes
outside_by keyword.Resistance ws = Passes
outside_by keyword.Other ws = Passes

abbrev pub outside : List (List ℕ) → Says
outside ws = outside_by (keyword_of (word ws 0)) ws

-- in a net block, by the first word; other says what a line says that is none of these
abbrev pub inside : Keyword → (other : Says) → Says
inside keyword.Section other = OpensSection
inside keyword.Resistance other = OpensResistance
inside keyword.End other = EndsNet
inside keyword.Net other = Wrong
inside keyword.Unit other = other
inside keyword.Map other = other
inside keyword.OtherNet other = other
inside keyword.Other other = other

-- a line of the name map: an index and a name
abbrev pub maps : List (List ℕ) → Bool
maps ws = length ws == 2 && is_index (word ws 0)

-- what a line of these words says at a place
abbrev pub says : Place → List (List ℕ) → Says
says place.Outside ws = outside ws
says place.Map ws = if maps ws then Maps else outside ws
says place.Net ws = inside (keyword_of (word ws 0)) Passes
says place.Resistance ws = inside (keyword_of (word ws 0)) Distributes

-- the place after a line; a name map goes up to a line of another form
abbrev pub next : Place → Says → Place
next place.Outside Passes = place.Outside
next place.Map Passes = place.Outside
next place.Net Passes = place.Net
next place.Resistance Passes = place.Resistance
next p (SetsUnit u) = place.Outside
next p OpensMap = place.Map
next p Maps = place.Map
next p BeginsNet = place.Net
next p EndsNet = place.Outside
next p OpensSection = place.Net
next p OpensResistance = place.Resistance
next p Distributes = p
next p Wrong = p

-- a net block that isn't closed
abbrev pub is_open : Place → Bool
is_open place.Outside = false
is_open place.Map = false
is_open place.Net = true
is_open place.Resistance = true
