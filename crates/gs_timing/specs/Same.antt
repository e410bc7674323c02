-- What the record of a net depends on.

use Rattle.std.specs.Prelude.{ℕ, ◌≡◌, true, All, List, slice_index}
use Rattle.gs_design.specs.Ends.{is_gate_inst}
use Rattle.gs_design.specs.Insts.{inst_at}
use Rattle.gs_design.specs.Nets.{net_at}
use Rattle.gs_design.specs.Times.{time_at}
use Rattle.gs_design.specs.declared.design.Design.{Design}
use Rattle.gs_design.specs.declared.sink.Driver.TheVariants.{Inst}
use Rattle.gs_design.specs.declared.time.NetTime.{NetTime}

-- two sizes have the same places of the instances on the net: those of its sinks, and the one that drives it
pub record SameSizesAt (d : Design) (r s : List ℕ) (n : ℕ) : Type 0 where
  pub sinks : All (λ k. slice_index r k.inst ≡ slice_index s k.inst) (net_at d.nets n).sinks
  pub driver : (g : ℕ) → (net_at d.nets n).driver ≡ Inst g → slice_index r g ≡ slice_index s g

-- two timings have the same records of the input nets of a gate that drives the net
abbrev pub SameTimesAt : Design → (t u : List NetTime) → ℕ → Type 0
SameTimesAt d t u n = (g : ℕ) → (net_at d.nets n).driver ≡ Inst g → is_gate_inst d.cells (inst_at d.insts g) ≡ true → All (λ m. time_at t m ≡ time_at u m) (inst_at d.insts g).inputs
