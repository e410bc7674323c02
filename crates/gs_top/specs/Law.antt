-- Each job is decided by the bytes of its files: they make one thing, or have a first refusal, which is one up to the cycle that it
-- names. So where a stage goes on from what an earlier one made, there is one such thing.
use Rattle.std.specs.Prelude.{◌≡◌, ◌⊎◌, ℕ, List, [], ◌∷◌, ◌++◌}
use Rattle.std.specs.List.{flat_map}
use Rattle.gs_design.specs.Parts.{parts_of}
use Rattle.gs_design.specs.Sizes.{netlist_sizes}
use Rattle.gs_design.specs.declared.design.Design.{Design}
use Rattle.gs_design.specs.declared.library.Library.{Library}
use Rattle.gs_link.specs.Linked.{Linked}
use Rattle.gs_sdc.specs.Terms.{Terms}
use Rattle.gs_shelf.specs.Files.{Files}
use Rattle.gs_sizes.specs.Written.{sizes_text}
use Rattle.gs_spef.specs.declared.wires.Wire.{Wire}
use Rattle.gs_verilog.specs.Circuit.{Circuit}
use Rattle.gs_verilog.specs.declared.parts.RawInst.{RawInst}
use Rattle.gs_top.specs.Command.{command_of, inputs_of}
use Rattle.gs_top.specs.Kind.{SameRefusal}
use Rattle.gs_top.specs.Stage.{Bytes, Stage}
use Rattle.gs_top.specs.declared.job.Job.{Job}
use Rattle.gs_top.specs.declared.status.Status.{Status}

pub record IsDecided {V : Type 0} (work : Stage V) (b : Bytes) : Type 0 where
  pub some : ((v : V) × work.makes b v) ⊎ ((s : Status) × work.refuses b s)
  pub apart : (v : V) (s : Status) → work.makes b v → work.refuses b s → ⊥
  pub one_value : (v w : V) → work.makes b v → work.makes b w → w ≡ v
  pub one_refusal : (s t : Status) → work.refuses b s → work.refuses b t → SameRefusal t s

abbrev pub EachJobIsDecided : Type 0
EachJobIsDecided = (job : Job) (files : Files) → IsDecided (command_of job).work (inputs_of job files)

-- the line of an instance of a netlist: its name, a space, its cell, a newline
abbrev pub netlist_line : RawInst → List ℕ
netlist_line i = i.name ++ 32 ∷ i.cell ++ 10 ∷ []

-- the sizes of the netlist, written of a linked design, are the name of each instance, in order, with the cell that the netlist names
abbrev pub EachSizeIsTheNetlists : Type 0
EachSizeIsTheNetlists =
    (c : Circuit) (l : Library) (w : List Wire) (k : Terms) (d : Design) → Linked c l w k (parts_of d) → sizes_text d (netlist_sizes d) ≡ flat_map netlist_line c.insts
