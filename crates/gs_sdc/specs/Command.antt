-- The commands, and what each says. One more command is one more row of each table, and what its parts say.

use Rattle.std.specs.Prelude.{◌≡◌, ◌⊎◌, ℕ, ◌==◌, Bool, true, false, List, [], ◌∷◌, ◌++◌, map, codes, Option, None, Some, ℤ, pos, int_lt, if◌then◌else◌}
use Rattle.std.specs.List.{AllByRecursion, IsDistinct}
use Rattle.std.specs.Option.{unwrap_or}
use Rattle.gs_design.specs.declared.units.Units.{Units}
use Rattle.gs_amount.specs.Amount.{amount_of, number_of}
use Rattle.gs_sdc.specs.Parts.{Part, value, ports, chosen, AreSpelled}
use Rattle.gs_sdc.specs.Token.{Token, word}
use Rattle.gs_sdc.specs.declared.command.Command.{Command}
use Rattle.gs_sdc.specs.declared.command.Command.TheVariants as command
use Rattle.gs_sdc.specs.declared.command.Quantity.{Quantity}
use Rattle.gs_sdc.specs.declared.command.Quantity.TheVariants.{InputDelay, OutputDelay, PortLoad}
use Rattle.gs_sdc.specs.declared.parts.Choice.{Choice}
use Rattle.gs_sdc.specs.declared.parts.Choice.TheVariants.{Period, ClockName, Waveform, OfClock, Max, LibCell, Pin, Rise, Fall, PinLoad}
use Rattle.gs_sdc.specs.declared.parts.Slot.{Slot}
use Rattle.gs_sdc.specs.declared.parts.Slot.TheVariants as slot

-- what a command says
pub data Reading : Type 0 where
  passes : Reading  -- nothing that counts
  not_built : Reading  -- what isn't built yet
  clocks : (period : ℤ) → (names : List (List ℕ)) → Reading  -- a clock, at these ports
  gives : Quantity → (amount : ℤ) → (names : List (List ℕ)) → Reading  -- the same amount to each of these ports
  drives : (cell : List ℕ) → (pin : Option (List ℕ)) → (rise fall : ℤ) → (names : List (List ℕ)) → Reading

-- ---- the parts of a command

-- the kind of a part, of which a command has one at most
abbrev pub slot_of : Part → Slot
slot_of (value w) = slot.Value
slot_of (ports xs) = slot.Ports
slot_of (chosen c w) = slot.Chosen c

abbrev pub choice_number : Choice → ℕ
choice_number Period = 0
choice_number ClockName = 1
choice_number Waveform = 2
choice_number OfClock = 3
choice_number Max = 4
choice_number LibCell = 5
choice_number Pin = 6
choice_number Rise = 7
choice_number Fall = 8
choice_number PinLoad = 9

abbrev pub same_choice : Choice → Choice → Bool
same_choice a b = choice_number a == choice_number b

abbrev pub same_slot : Slot → Slot → Bool
same_slot slot.Value slot.Value = true
same_slot slot.Ports slot.Ports = true
same_slot (slot.Chosen a) (slot.Chosen b) = same_choice a b
same_slot _ _ = false

abbrev pub is_clock : Command → Bool
is_clock command.Clock = true
is_clock _ = false

abbrev pub is_delay : Command → Bool
is_delay command.InputDelay = true
is_delay command.OutputDelay = true
is_delay _ = false

abbrev pub is_driving : Command → Bool
is_driving command.DrivingCell = true
is_driving _ = false

abbrev pub is_load : Command → Bool
is_load command.Load = true
is_load _ = false

-- the commands that have an option
abbrev pub has_choice : Command → Choice → Bool
has_choice c Period = is_clock c
has_choice c ClockName = is_clock c
has_choice c Waveform = is_clock c
has_choice c OfClock = is_delay c
has_choice c Max = is_delay c
has_choice c LibCell = is_driving c
has_choice c Pin = is_driving c
has_choice c Rise = is_driving c
has_choice c Fall = is_driving c
has_choice c PinLoad = is_load c

abbrev pub has_value : Command → Bool
has_value command.Version = true
has_value command.Design = true
has_value command.Clock = false
has_value command.InputDelay = true
has_value command.OutputDelay = true
has_value command.DrivingCell = false
has_value command.Load = true

abbrev pub has_ports : Command → Bool
has_ports command.Version = false
has_ports command.Design = false
has_ports command.Clock = true
has_ports command.InputDelay = true
has_ports command.OutputDelay = true
has_ports command.DrivingCell = true
has_ports command.Load = true

-- the kinds of part that a command has
abbrev pub has : Command → Slot → Bool
has c slot.Value = has_value c
has c slot.Ports = has_ports c
has c (slot.Chosen o) = has_choice c o

-- ---- what the parts say

-- the first part of a kind
abbrev pub first_of : Slot → List Part → Option Part
first_of s [] = None
first_of s (p ∷ ps) = if same_slot s (slot_of p) then Some p else first_of s ps

abbrev pub as_word : Option Part → Option (List ℕ)
as_word None = None
as_word (Some (value w)) = Some w
as_word (Some (ports xs)) = None
as_word (Some (chosen c w)) = Some w

abbrev pub as_ports : Option Part → Option (List (List ℕ))
as_ports None = None
as_ports (Some (value w)) = None
as_ports (Some (ports xs)) = Some xs
as_ports (Some (chosen c w)) = None

abbrev pub the_value : List Part → Option (List ℕ)
the_value ps = as_word (first_of slot.Value ps)

abbrev pub the_ports : List Part → Option (List (List ℕ))
the_ports ps = as_ports (first_of slot.Ports ps)

abbrev pub the_word : Choice → List Part → Option (List ℕ)
the_word c ps = as_word (first_of (slot.Chosen c) ps)

-- a number above 0, in the unit
abbrev pub above_zero : Option ℤ → Option ℤ
above_zero None = None
above_zero (Some m) = if int_lt (pos 0) m then Some m else None

abbrev pub number_in : Option (List ℕ) → (tens : ℕ) → Option ℤ
number_in None tens = None
number_in (Some w) tens = number_of w tens

abbrev pub amount_in : Option (List ℕ) → (tens : ℕ) → Option ℤ
amount_in None tens = None
amount_in (Some w) tens = amount_of w tens

-- a transition is 0 where it isn't given
abbrev pub transition_in : Option (List ℕ) → (tens : ℕ) → Option ℤ
transition_in None tens = Some (pos 0)
transition_in (Some w) tens = amount_of w tens

-- a command that needs a word, and says nothing that counts
abbrev pub passes_by : Option (List ℕ) → Option Reading
passes_by None = None
passes_by (Some w) = Some passes

-- a clock's ports may be missing
abbrev pub clocks_by : Option ℤ → Option (List (List ℕ)) → Option Reading
clocks_by None xs = None
clocks_by (Some period) xs = Some (clocks period (unwrap_or xs []))

abbrev pub gives_by : Quantity → Option ℤ → Option (List (List ℕ)) → Option Reading
gives_by q None xs = None
gives_by q (Some amount) None = None
gives_by q (Some amount) (Some xs) = Some (gives q amount xs)

abbrev pub drives_by : Option (List ℕ) → Option (List ℕ) → Option ℤ → Option ℤ → Option (List (List ℕ)) → Option Reading
drives_by (Some cell) pin (Some rise) (Some fall) (Some xs) = Some (drives cell pin rise fall xs)
drives_by _ pin _ _ _ = None

-- what a command of these parts says, in the units; none where a part that it needs is missing, or a number isn't of its form
abbrev pub meaning : Units → Command → List Part → Option Reading
meaning u command.Version ps = passes_by (the_value ps)
meaning u command.Design ps = passes_by (the_value ps)
meaning u command.Clock ps = clocks_by (above_zero (number_in (the_word Period ps) u.time_tens)) (the_ports ps)
meaning u command.InputDelay ps = gives_by InputDelay (number_in (the_value ps) u.time_tens) (the_ports ps)
meaning u command.OutputDelay ps = gives_by OutputDelay (number_in (the_value ps) u.time_tens) (the_ports ps)
meaning u command.DrivingCell ps =
    drives_by (the_word LibCell ps) (the_word Pin ps) (transition_in (the_word Rise ps) u.time_tens)
    (transition_in (the_word Fall ps) u.time_tens) (the_ports ps)
meaning u command.Load ps = gives_by PortLoad (amount_in (the_value ps) u.load_tens) (the_ports ps)

-- ---- commands

-- how a command begins
abbrev pub heading : Command → List (List ℕ)
heading command.Version = codes "set" ∷ codes "sdc_version" ∷ []
heading command.Design = codes "current_design" ∷ []
heading command.Clock = codes "create_clock" ∷ []
heading command.InputDelay = codes "set_input_delay" ∷ []
heading command.OutputDelay = codes "set_output_delay" ∷ []
heading command.DrivingCell = codes "set_driving_cell" ∷ []
heading command.Load = codes "set_load" ∷ []

-- the tokens are a command of these parts, in any order
pub record IsForm (c : Command) (ts : List Token) (ps : List Part) : Type 0 where
  pub rest : List Token
  -- its name comes first,
  pub heading_is : ts ≡ map word (heading c) ++ rest
  -- then the parts,
  pub spelled : AreSpelled ps rest
  -- each of a kind that the command has,
  pub known : AllByRecursion (λ p. has c (slot_of p) ≡ true) ps
  -- and of each kind one at most.
  pub once : IsDistinct same_slot (map slot_of ps)

-- the tokens are a command that says this, in the units
pub record IsBuilt (u : Units) (ts : List Token) (r : Reading) : Type 0 where
  pub command_is : Command
  pub parts : List Part
  pub form : IsForm command_is ts parts
  pub says : meaning u command_is parts ≡ Some r

-- the tokens begin a command that isn't built yet
pub record IsUnbuilt (ts : List Token) (r : Reading) : Type 0 where
  pub rest : List Token
  pub heading_is : ts ≡ word (codes "set_max_area") ∷ rest
  pub says : r ≡ not_built

abbrev pub IsCommand : Units → List Token → Reading → Type 0
IsCommand u ts r = IsBuilt u ts r ⊎ IsUnbuilt ts r
