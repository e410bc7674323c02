-- Why four parsed files make no design.

use Rattle.std.specs.Prelude.{ℕ, ◌≡◌, ◌≢◌, ◌⊎◌, List, [], map, slice_index, None, Some, Result, MatchResult}
use Rattle.gs_design.specs.declared.cell.Cell.{Cell}
use Rattle.gs_design.specs.declared.library.Library.{Library}
use Rattle.gs_levels.specs.Levels.{IsCycle}
use Rattle.gs_link.specs.Linked.{edges_of, linked_insts}
use Rattle.gs_survey.specs.Fault.{first_fault}
use Rattle.gs_survey.specs.Numbers.{net_name}
use Rattle.gs_survey.specs.Uses.{used_nets}
use Rattle.gs_survey.specs.declared.error.LinkErr.{LinkErr}
use Rattle.gs_survey.specs.declared.error.LinkErr.TheVariants as errors
use Rattle.gs_sdc.specs.Terms.{Terms}
use Rattle.gs_spef.specs.declared.wires.Wire.{Wire}
use Rattle.gs_verilog.specs.Circuit.{Circuit}

-- the names of nets of the design
abbrev pub names_of : List Cell → Circuit → List ℕ → List (List ℕ)
names_of cells c cycle = map (λ n. net_name c.nets (slice_index (used_nets cells c) n)) cycle

-- these are the names of the nets of a cycle
pub record IsLoop (cells : List Cell) (c : Circuit) (names : List (List ℕ)) : Type 0 where
  pub cycle : List ℕ
  pub is_cycle : IsCycle (edges_of cells (linked_insts cells c)) cycle
  pub named : names ≡ names_of cells c cycle

-- nothing else is refused, and the gates have a cycle
pub record HasLoop (c : Circuit) (l : Library) (w : List Wire) (k : Terms) (e : LinkErr) : Type 0 where
  pub unrefused : first_fault c l w k ≡ None
  pub names : List (List ℕ)
  pub is_loop : IsLoop l.cells c names
  pub is : e ≡ errors.Loop names

-- The cause of a refusal: it is the first that stands. Want of memory needs none.
abbrev pub HasCause : Circuit → Library → List Wire → Terms → LinkErr → Type 0
HasCause c l w k e = (e ≡ errors.Mem) ⊎ ((first_fault c l w k ≡ Some e) ⊎ HasLoop c l w k e)

-- a refusal without its cycle
unfoldable pub cycle_aside : LinkErr → LinkErr
cycle_aside (errors.UnknownCell by) = errors.UnknownCell by
cycle_aside (errors.UnknownPin by pin) = errors.UnknownPin by pin
cycle_aside (errors.OpenPin inst pin) = errors.OpenPin inst pin
cycle_aside (errors.TwoDrivers net) = errors.TwoDrivers net
cycle_aside (errors.Undriven net) = errors.Undriven net
cycle_aside (errors.UnknownPort name) = errors.UnknownPort name
cycle_aside (errors.UnknownNet name) = errors.UnknownNet name
cycle_aside (errors.NoArc cell pin) = errors.NoArc cell pin
cycle_aside (errors.TooMany what count) = errors.TooMany what count
cycle_aside (errors.Loop cycle) = errors.Loop []
cycle_aside errors.Mem = errors.Mem

-- two refusals that differ in the cycle at most
abbrev pub SameRefusal : LinkErr → LinkErr → Type 0
SameRefusal e f = cycle_aside e ≡ cycle_aside f

-- where a cause stands, its refusal is answered, up to the cycle, unless memory runs out
abbrev pub IsExactUpToCycle : {V : Type 0} → (LinkErr → Type 0) → Result V LinkErr → Type 0
IsExactUpToCycle Cause result = (e : LinkErr) → e ≢ errors.Mem → Cause e → MatchResult result (λ _. ⊥) (λ f. SameRefusal f e ⊎ (f ≡ errors.Mem))
