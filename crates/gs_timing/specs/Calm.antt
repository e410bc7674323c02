-- Arrivals to which a delay can be added.

use Rattle.std.specs.Prelude.{ℕ, ◌≡◌, ◌≤◌, true, All, List, nat_abs}
use Rattle.gs_design.specs.Ends.{is_gate_inst}
use Rattle.gs_design.specs.Insts.{inst_at}
use Rattle.gs_design.specs.Nets.{net_at}
use Rattle.gs_design.specs.Times.{time_at}
use Rattle.gs_design.specs.declared.design.Design.{Design}
use Rattle.gs_design.specs.declared.sink.Driver.TheVariants.{Inst}
use Rattle.gs_design.specs.declared.time.Edge.{Edge}
use Rattle.gs_design.specs.declared.time.NetTime.{NetTime}

-- a magnitude of at most 2 ^ 62
abbrev pub IsCalmEdge : Edge → Type 0
IsCalmEdge e = nat_abs e.arrival ≤ 4611686018427387904

pub record IsCalm (t : NetTime) : Type 0 where
  pub rise : IsCalmEdge t.rise
  pub fall : IsCalmEdge t.fall

-- where a gate drives the net, the records of its input nets are so
abbrev pub IsCalmAt : Design → List NetTime → ℕ → Type 0
IsCalmAt d t n = (g : ℕ) → (net_at d.nets n).driver ≡ Inst g → is_gate_inst d.cells (inst_at d.insts g) ≡ true → All (λ m. IsCalm (time_at t m)) (inst_at d.insts g).inputs
