-- A net, and how a list of nets lies in memory.

use Rattle.std.specs.Prelude.{ℕ, ◌≡◌, List, [], map, length, slice_index_or, None, ℤ, pos}
use Rattle.std.specs.List.{range_with_len}
use Rattle.gs_design.specs.declared.rows.NetRow.{NetRow}
use Rattle.gs_design.specs.declared.sink.Driver.{Driver}
use Rattle.gs_design.specs.declared.sink.Driver.TheVariants.{Port}
use Rattle.gs_design.specs.declared.sink.Sink.{Sink}

-- A net: its name, the capacitance of its wire, the load at the port, input or output, that it is, what drives it, and the input pins on it.
pub record Net : Type 0 where
  pub name : List ℕ
  pub wire : ℤ
  pub port_load : ℤ
  pub driver : Driver
  pub sinks : List Sink

abbrev pub no_net : Net
no_net = record { name = []; wire = pos 0; port_load = pos 0; driver = Port (pos 0) None; sinks = [] }

abbrev pub net_at : List Net → ℕ → Net
net_at nets n = slice_index_or nets n no_net

abbrev pub no_row : NetRow
no_row = record { wire = pos 0; port_load = pos 0; driver = Port (pos 0) None }

abbrev pub row_at : List NetRow → ℕ → NetRow
row_at rows n = slice_index_or rows n no_row

-- the net n of these columns
abbrev pub net_of : List NetRow → List (List Sink) → (names : List (List ℕ)) → ℕ → Net
net_of rows sinks names n = record {
  name = slice_index_or names n [];
  wire = (row_at rows n).wire;
  port_load = (row_at rows n).port_load;
  driver = (row_at rows n).driver;
  sinks = slice_index_or sinks n [];
}

abbrev pub nets_of : List NetRow → List (List Sink) → (names : List (List ℕ)) → List Net
nets_of rows sinks names = map (net_of rows sinks names) (range_with_len 0 (length rows))

-- the columns are as long
pub record AreNets (rows : List NetRow) (sinks : List (List Sink)) (names : List (List ℕ)) : Type 0 where
  pub sinks_many : length sinks ≡ length rows
  pub names_many : length names ≡ length rows
