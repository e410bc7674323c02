-- An instance, and how a list of instances lies in memory.

use Rattle.std.specs.Prelude.{ℕ, ◌≡◌, ◌<◌, ◌≤◌, List, [], map, length, slice_index_or, slice_range, All}
use Rattle.std.specs.List.{range_with_len}
use Rattle.gs_design.specs.declared.rows.InstRow.{InstRow}

-- An instance: its name, the cells that it may take in the order of their places, the place of the netlist's cell among them, the
-- nets at its input pins in the order of the pins, and the net at its output pin.
pub record Inst : Type 0 where
  pub name : List ℕ
  pub alts : List ℕ
  pub first : ℕ
  pub inputs : List ℕ
  pub output : ℕ

abbrev pub no_inst : Inst
no_inst = record { name = []; alts = []; first = 0; inputs = []; output = 0 }

abbrev pub inst_at : List Inst → ℕ → Inst
inst_at insts g = slice_index_or insts g no_inst

abbrev pub inst_name : Inst → List ℕ
inst_name i = i.name

abbrev pub inst_first : Inst → ℕ
inst_first i = i.first

abbrev pub no_row : InstRow
no_row = record { from = 0; to = 0; first = 0; output = 0 }

abbrev pub row_at : List InstRow → ℕ → InstRow
row_at rows g = slice_index_or rows g no_row

-- the instance g of these columns
abbrev pub inst_of : (choices : List ℕ) → List InstRow → (inputs names : List (List ℕ)) → ℕ → Inst
inst_of choices rows inputs names g = record {
  name = slice_index_or names g [];
  alts = slice_range choices (row_at rows g).from (row_at rows g).to;
  first = (row_at rows g).first;
  inputs = slice_index_or inputs g [];
  output = (row_at rows g).output;
}

abbrev pub insts_of : (choices : List ℕ) → List InstRow → (inputs names : List (List ℕ)) → List Inst
insts_of choices rows inputs names = map (inst_of choices rows inputs names) (range_with_len 0 (length rows))

abbrev pub IsStretch : (count : ℕ) → InstRow → Type 0
IsStretch count r = (r.from ≤ r.to) × (r.to ≤ count)

-- the columns are as long, and each row has a stretch of the choices
pub record AreInsts (choices : List ℕ) (rows : List InstRow) (inputs names : List (List ℕ)) : Type 0 where
  pub inputs_many : length inputs ≡ length rows
  pub names_many : length names ≡ length rows
  pub stretches : (g : ℕ) → g < length rows → IsStretch (length choices) (row_at rows g)
