-- The sizes that a command starts from: those of a file, or those of the netlist.
use Rattle.std.specs.Prelude.{ℕ, List, map, Option, None, Some}
use Rattle.gs_design.specs.Insts.{inst_first}
use Rattle.gs_design.specs.declared.design.Design.{Design}
use Rattle.gs_design.specs.declared.parts.Parts.{Parts}
use Rattle.gs_lagrange.specs.Start.{start_of}
use Rattle.gs_sizes.specs.Refusal as sizes
use Rattle.gs_sizes.specs.Sizes.{IsSizes}
use Rattle.gs_sizes.specs.declared.error.SizesErr.TheVariants as sizes_err
use Rattle.gs_top.specs.Design.{design}
use Rattle.gs_top.specs.Refusal.{sizes_status}
use Rattle.gs_top.specs.Stage.{Stage, and_then, give, read_file, Caused}
use Rattle.gs_top.specs.declared.status.Input.TheVariants.{From}
use Rattle.gs_top.specs.declared.status.Status.{Status}

abbrev pub SizesCause : Parts → List ℕ → Status → Type 0
SizesCause p bytes = Caused sizes_err.Mem sizes_status (sizes.HasCause p bytes)

-- the sizes of a design that a file gives
abbrev pub from_text : Parts → Stage (List ℕ)
from_text p = read_file From (IsSizes p) (SizesCause p)

-- those of the file, where there is one, and else those of the netlist
abbrev pub start_in : Option (List ℕ) → Parts → Stage (List ℕ)
start_in None p = give (map inst_first p.insts)
start_in (Some name) p = from_text p

-- The sizes at which a run of `size` begins, from those that were read: a file's stay, and without a file as many passes as the job says
-- choose them, beginning with the netlist's.
abbrev pub begun : Option (List ℕ) → (passes : ℕ) → Design → List ℕ → List ℕ
begun None passes d s = start_of d passes
begun (Some name) passes d s = s

-- a design, and sizes of it
pub record Sized : Type 0 where
  pub parts : Parts
  pub sizes : List ℕ

abbrev pub sized : Parts → List ℕ → Sized
sized p s = record { parts = p; sizes = s }

-- the design of a command, and then the sizes that it starts from
abbrev pub start : Option (List ℕ) → Stage Sized
start from = and_then design (λ p. and_then (start_in from p) (λ s. give (sized p s)))
