-- What the reader holds, and what its steps answer. No public clause speaks of these.

use Rattle.std.specs.Prelude.{◌≡◌, ℕ, ℤ, List, [], ◌∷◌, ◌++◌, Option, None, Some, Result, Ok, Err, true, false, Bool, if◌then◌else◌}
use Rattle.std.specs.List.{list_any}
use Rattle.std.specs.Option.{is_some}
use Rattle.std.specs.Str.{bytes_eq}
use Rattle.gs_grammar.specs.Judged.{upon, first_fault}
use Rattle.gs_lines.specs.Lines.{Line}
use Rattle.gs_names.specs.Names.{HasBuckets, find}
use Rattle.gs_amount.specs.Amount.{amount_of}
use Rattle.gs_spef.specs.Format.{is_open, tens}
use Rattle.gs_spef.specs.Spef.{Row, begin_fault, fault, place_of, unit_of, mapped, net_named, is_named, wire_by, wires}
use Rattle.gs_spef.specs.Wires.{IsWires}
use Rattle.gs_spef.specs.declared.error.Fault.{Fault}
use Rattle.gs_spef.specs.declared.error.Fault.TheVariants as faults
use Rattle.gs_spef.specs.declared.error.Stop.{Stop}
use Rattle.gs_spef.specs.declared.error.Stop.TheVariants as stops
use Rattle.gs_spef.specs.declared.error.SpefErr.{SpefErr}
use Rattle.gs_spef.specs.declared.format.Says.{Says}
use Rattle.gs_spef.specs.declared.format.Says.TheVariants.{Wrong, Distributes}
use Rattle.gs_spef.specs.declared.reader.Reader.{Reader}
use Rattle.gs_spef.specs.declared.wires.Wire.{Wire}

abbrev pub of_net : List ℕ → Wire → Bool
of_net q w = bytes_eq w.net q

-- the nets that are found are those of the wires, and these are wires
pub record IsReader (r : Reader) : Type 0 where
  pub names : HasBuckets r.names
  pub nets : HasBuckets r.nets
  pub finds : (q : List ℕ) → is_some (find r.nets q) ≡ list_any (of_net q) r.wires.items
  pub wires_kept : IsWires r.wires.items

-- the reader says of the lines so far what the definitions say
pub record Holds (r : Reader) (past : List Row) : Type 0 where
  pub place : r.place ≡ place_of past
  pub unit : r.unit ≡ unit_of past
  pub names : (q : List ℕ) → find r.names q ≡ mapped past q
  pub wires_are : r.wires.items ≡ wires past

-- a step stops for the fault, or for want of memory
abbrev pub Stops : Stop → Option Fault → Type 0
Stops (stops.At f) o = o ≡ Some f
Stops stops.Mem o = Unit {0}

-- the fault of a line that is told without taking memory: it leaves a block open at the text's end, or is bad or a resistance by its
-- words alone
abbrev pub fault_of_words : Says → Option Fault
fault_of_words Wrong = Some faults.BadLine
fault_of_words Distributes = Some faults.Distributed
fault_of_words _ = None

abbrev pub plain_fault : (stays_open : Bool) → Says → Option Fault
plain_fault stays_open s = if stays_open then Some faults.BadLine else fault_of_words s

-- where there is such a fault, it is the reason, whatever memory there is
abbrev pub Tells : Stop → Option Fault → Type 0
Tells e None = Unit {0}
Tells e (Some f) = e ≡ stops.At f

-- the refusal of a fault at a line
abbrev pub refusal_of : ℕ → Fault → SpefErr
refusal_of i faults.BadLine = SpefErr.BadLine i
refusal_of i faults.Distributed = SpefErr.Distributed i
refusal_of i faults.UnknownIndex = SpefErr.UnknownIndex i
refusal_of i faults.TwoNets = SpefErr.TwoNets i

abbrev pub refused_at : ℕ → Stop → SpefErr
refused_at i (stops.At f) = refusal_of i f
refused_at i stops.Mem = SpefErr.Mem

-- what is said of a text, as one function of its lines
abbrev pub at_end : (last : ℕ) → List Row → Result (List Wire) SpefErr
at_end last past = if is_open (place_of past) then Err (SpefErr.BadLine last) else Ok (wires past)

abbrev pub judged : (last : ℕ) → List Row → Option (Row × Fault) → Result (List Wire) SpefErr
judged last ls None = at_end last (upon [] ls)
judged last ls (Some (l, f)) = Err (refusal_of l.number f)

abbrev pub reading : (last : ℕ) → List Row → Result (List Wire) SpefErr
reading last ls = judged last ls (first_fault (fault last) [] ls)

-- the reader after a net block has begun
pub record Begins (old new : Reader) (past : List Row) (ref total : List ℕ) : Type 0 where
  pub good : begin_fault past (amount_of total (tens (unit_of past))) ref ≡ None
  pub place : new.place ≡ old.place
  pub unit : new.unit ≡ old.unit
  pub names : new.names ≡ old.names
  pub wires_are : new.wires.items ≡ wires past ++ wire_by (net_named past ref) (amount_of total (tens (unit_of past)))

-- the reader with one more wire, whose net is new
pub record Adds (old new : Reader) (net : List ℕ) (total : ℤ) : Type 0 where
  pub fresh : list_any (of_net net) old.wires.items ≡ false
  pub place : new.place ≡ old.place
  pub unit : new.unit ≡ old.unit
  pub names : new.names ≡ old.names
  pub wires_are : new.wires.items ≡ old.wires.items ++ record { net = net; total = total } ∷ []

-- the refusal of a net that is there, or want of memory
abbrev pub StopsAtNet : Stop → Bool → Type 0
StopsAtNet (stops.At faults.TwoNets) named = named ≡ true
StopsAtNet (stops.At _) named = ⊥
StopsAtNet stops.Mem named = Unit {0}

-- what a reader answers at the end
abbrev pub finished : (last : ℕ) → Reader → Result (List Wire) SpefErr
finished last r = if is_open r.place then Err (SpefErr.BadLine last) else Ok r.wires.items
