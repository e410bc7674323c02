-- The reader's way to a command: its parts from the front on. No public clause speaks of this.

use Rattle.std.specs.Prelude.{ℕ, suc, zero, Bool, true, false, not, ◌&&◌, List, [], ◌∷◌, ◌++◌, length, map, codes, Option, None, Some, if◌then◌else◌}
use Rattle.std.specs.List.{list_any}
use Rattle.std.specs.Str.{bytes_eq}
use Rattle.gs_design.specs.declared.units.Units.{Units}
use Rattle.gs_sdc.specs.Command.{Reading, not_built, has, meaning, same_slot, slot_of}
use Rattle.gs_sdc.specs.Parts.{Part, value, ports, chosen, is_option, takes_of}
use Rattle.gs_sdc.specs.Token.{Token, word, opens, closes, opens_list, closes_list, stray}
use Rattle.gs_sdc.specs.declared.command.Command.{Command}
use Rattle.gs_sdc.specs.declared.command.Command.TheVariants as command
use Rattle.gs_sdc.specs.declared.command.Keyword.{Keyword}
use Rattle.gs_sdc.specs.declared.command.Keyword.TheVariants as keyword
use Rattle.gs_sdc.specs.declared.parts.Choice.{Choice}
use Rattle.gs_sdc.specs.declared.parts.Choice.TheVariants.{Period, ClockName, Waveform, OfClock, Max, LibCell, Pin, Rise, Fall, PinLoad}
use Rattle.gs_sdc.specs.declared.parts.Slot.{Slot}
use Rattle.gs_sdc.specs.declared.parts.Takes.{Takes}
use Rattle.gs_sdc.specs.declared.parts.Takes.TheVariants as takes

-- what is found at the front, and the tokens after it
pub record Found (T : Type 0) : Type 0 where
  pub item : T
  pub rest : List Token

-- words, and names before those that are found
abbrev pub Words : Type 0
Words = List (List ℕ)

abbrev pub with_names : Words → Option (Found Words) → Option (Found Words)
with_names xs None = None
with_names xs (Some f) = Some (record { item = xs ++ f.item; rest = f.rest })

-- words up to a closing brace
abbrev pub list_front : List Token → Option (Found Words)
list_front [] = None
list_front (word w ∷ ts) = with_names (w ∷ []) (list_front ts)
list_front (closes_list ∷ ts) = Some (record { item = []; rest = ts })
list_front (opens ∷ ts) = None
list_front (closes ∷ ts) = None
list_front (opens_list ∷ ts) = None
list_front (stray ∷ ts) = None

abbrev pub names_front : List Token → Option (Found Words)
names_front [] = None
names_front (word w ∷ ts) = Some (record { item = w ∷ []; rest = ts })
names_front (opens_list ∷ ts) = list_front ts
names_front (opens ∷ ts) = None
names_front (closes ∷ ts) = None
names_front (closes_list ∷ ts) = None
names_front (stray ∷ ts) = None

abbrev pub closed_by : Words → List Token → Option (Found Words)
closed_by xs [] = None
closed_by xs (closes ∷ ts) = Some (record { item = xs; rest = ts })
closed_by xs (word w ∷ ts) = None
closed_by xs (opens ∷ ts) = None
closed_by xs (opens_list ∷ ts) = None
closed_by xs (closes_list ∷ ts) = None
closed_by xs (stray ∷ ts) = None

-- names before a closing bracket
abbrev pub closed : Option (Found Words) → Option (Found Words)
closed None = None
closed (Some f) = closed_by f.item f.rest

-- what stands behind an opening bracket
abbrev pub get_front : (get : List ℕ) → List Token → Option (Found Words)
get_front get [] = None
get_front get (word w ∷ ts) = if bytes_eq w get then closed (names_front ts) else None
get_front get (opens ∷ ts) = None
get_front get (closes ∷ ts) = None
get_front get (opens_list ∷ ts) = None
get_front get (closes_list ∷ ts) = None
get_front get (stray ∷ ts) = None

abbrev pub word_front : List Token → Option (Found (List ℕ))
word_front [] = None
word_front (word w ∷ ts) = if is_option w then None else Some (record { item = w; rest = ts })
word_front (opens ∷ ts) = None
word_front (closes ∷ ts) = None
word_front (opens_list ∷ ts) = None
word_front (closes_list ∷ ts) = None
word_front (stray ∷ ts) = None

abbrev pub single_by : Words → List Token → Option (Found (List ℕ))
single_by [] ts = None
single_by (x ∷ []) ts = Some (record { item = x; rest = ts })
single_by (x ∷ y ∷ xs) ts = None

-- one name
abbrev pub single : Option (Found Words) → Option (Found (List ℕ))
single None = None
single (Some f) = single_by f.item f.rest

abbrev pub clock_front : List Token → Option (Found (List ℕ))
clock_front [] = None
clock_front (word w ∷ ts) = if is_option w then None else Some (record { item = w; rest = ts })
clock_front (opens ∷ ts) = single (get_front (codes "get_clocks") ts)
clock_front (closes ∷ ts) = None
clock_front (opens_list ∷ ts) = None
clock_front (closes_list ∷ ts) = None
clock_front (stray ∷ ts) = None

abbrev pub unnamed : Option (Found Words) → Option (Found (List ℕ))
unnamed None = None
unnamed (Some f) = Some (record { item = []; rest = f.rest })

abbrev pub braces_front : List Token → Option (Found (List ℕ))
braces_front [] = None
braces_front (opens_list ∷ ts) = unnamed (list_front ts)
braces_front (word w ∷ ts) = None
braces_front (opens ∷ ts) = None
braces_front (closes ∷ ts) = None
braces_front (closes_list ∷ ts) = None
braces_front (stray ∷ ts) = None

-- what an option takes
abbrev pub taken_front : Takes → List Token → Option (Found (List ℕ))
taken_front takes.Nothing ts = Some (record { item = []; rest = ts })
taken_front takes.Word ts = word_front ts
taken_front takes.Clock ts = clock_front ts
taken_front takes.List ts = braces_front ts

abbrev pub choice_of : List ℕ → Option Choice
choice_of w =
    if bytes_eq w (codes "-period") then Some Period
    else if bytes_eq w (codes "-name") then Some ClockName
    else if bytes_eq w (codes "-waveform") then Some Waveform
    else if bytes_eq w (codes "-clock") then Some OfClock
    else if bytes_eq w (codes "-max") then Some Max
    else if bytes_eq w (codes "-lib_cell") then Some LibCell
    else if bytes_eq w (codes "-pin") then Some Pin
    else if bytes_eq w (codes "-input_transition_rise") then Some Rise
    else if bytes_eq w (codes "-input_transition_fall") then Some Fall
    else if bytes_eq w (codes "-pin_load") then Some PinLoad
    else None

abbrev pub chosen_by : Choice → Option (Found (List ℕ)) → Option (Found Part)
chosen_by c None = None
chosen_by c (Some f) = Some (record { item = chosen c f.item; rest = f.rest })

abbrev pub chosen_front : Option Choice → List Token → Option (Found Part)
chosen_front None ts = None
chosen_front (Some c) ts = chosen_by c (taken_front (takes_of c) ts)

abbrev pub ports_by : Words → List Token → Option (Found Part)
ports_by [] ts = None
ports_by (x ∷ xs) ts = Some (record { item = ports (x ∷ xs); rest = ts })

abbrev pub ports_front : Option (Found Words) → Option (Found Part)
ports_front None = None
ports_front (Some f) = ports_by f.item f.rest

-- the part that begins the tokens
abbrev pub front : List Token → Option (Found Part)
front [] = None
front (word w ∷ ts) = if is_option w then chosen_front (choice_of w) ts else Some (record { item = value w; rest = ts })
front (opens ∷ ts) = ports_front (get_front (codes "get_ports") ts)
front (closes ∷ ts) = None
front (opens_list ∷ ts) = None
front (closes_list ∷ ts) = None
front (stray ∷ ts) = None

-- ---- the parts of a command

-- a part of the kind is among these
abbrev pub is_taken : Slot → List Part → Bool
is_taken s ps = list_any (λ p. same_slot s (slot_of p)) ps

-- why a part, after those before it, is none of the command's: it has no such kind, or has one of it already
abbrev pub misfit : Command → List Part → Part → Option Slot
misfit c past p = if has c (slot_of p) && not (is_taken (slot_of p) past) then None else Some (slot_of p)

abbrev pub with_parts : List Part → Option (List Part) → Option (List Part)
with_parts ps None = None
with_parts ps (Some qs) = Some (ps ++ qs)

-- a part that fits, before the others
abbrev pub fitted : Part → Option Slot → Option (List Part) → Option (List Part)
fitted p None others = with_parts (p ∷ []) others
fitted p (Some s) others = None

abbrev pub part_then : Command → (past : List Part) → Option (Found Part) → (List Part → List Token → Option (List Part)) → Option (List Part)
part_then c past None others = None
part_then c past (Some f) others = fitted f.item (misfit c past f.item) (others (f.item ∷ past) f.rest)

-- the parts of the tokens, of which there are at most so many, after a past
unfoldable pub parts_past : Command → (past : List Part) → (many : ℕ) → List Token → Option (List Part)
parts_past c past many [] = Some []
parts_past c past zero (t ∷ ts) = None
parts_past c past (suc many) (t ∷ ts) = part_then c past (front (t ∷ ts)) (λ qs rest. parts_past c qs many rest)

-- ---- commands

abbrev pub keyword_of : List ℕ → Keyword
keyword_of w =
    if bytes_eq w (codes "set_input_delay") then keyword.InputDelay
    else if bytes_eq w (codes "set_output_delay") then keyword.OutputDelay
    else if bytes_eq w (codes "set_driving_cell") then keyword.DrivingCell
    else if bytes_eq w (codes "set_load") then keyword.Load
    else if bytes_eq w (codes "create_clock") then keyword.Clock
    else if bytes_eq w (codes "set") then keyword.Set
    else if bytes_eq w (codes "current_design") then keyword.Design
    else if bytes_eq w (codes "set_max_area") then keyword.MaxArea
    else keyword.Other

-- how the tokens begin
pub data Heading : Type 0 where
  unknown : Heading
  unbuilt : Heading
  heads : Command → List Token → Heading

abbrev pub version_by : List Token → Heading
version_by [] = unknown
version_by (word w ∷ ts) = if bytes_eq w (codes "sdc_version") then heads command.Version ts else unknown
version_by (opens ∷ ts) = unknown
version_by (closes ∷ ts) = unknown
version_by (opens_list ∷ ts) = unknown
version_by (closes_list ∷ ts) = unknown
version_by (stray ∷ ts) = unknown

abbrev pub heading_by : Keyword → List Token → Heading
heading_by keyword.InputDelay ts = heads command.InputDelay ts
heading_by keyword.OutputDelay ts = heads command.OutputDelay ts
heading_by keyword.DrivingCell ts = heads command.DrivingCell ts
heading_by keyword.Load ts = heads command.Load ts
heading_by keyword.Clock ts = heads command.Clock ts
heading_by keyword.Set ts = version_by ts
heading_by keyword.Design ts = heads command.Design ts
heading_by keyword.MaxArea ts = unbuilt
heading_by keyword.Other ts = unknown

abbrev pub heading_of : List Token → Heading
heading_of [] = unknown
heading_of (word w ∷ ts) = heading_by (keyword_of w) ts
heading_of (opens ∷ ts) = unknown
heading_of (closes ∷ ts) = unknown
heading_of (opens_list ∷ ts) = unknown
heading_of (closes_list ∷ ts) = unknown
heading_of (stray ∷ ts) = unknown

abbrev pub said_by : Units → Command → Option (List Part) → Option Reading
said_by u c None = None
said_by u c (Some ps) = meaning u c ps

abbrev pub parts_of : Command → List Token → Option (List Part)
parts_of c ts = parts_past c [] (length ts) ts

abbrev pub reading_by : Units → Heading → Option Reading
reading_by u unknown = None
reading_by u unbuilt = Some not_built
reading_by u (heads c ts) = said_by u c (parts_of c ts)

-- what the tokens say
abbrev pub reading_of : Units → List Token → Option Reading
reading_of u ts = reading_by u (heading_of ts)
