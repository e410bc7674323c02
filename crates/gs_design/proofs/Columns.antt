-- Instances and nets, read from their columns.

use Rattle.std.proofs.Common.{◌≡◌, ℕ, ◌<◌, List, length, map, sym, ◌∙◌, ap, arith}
use Rattle.std.specs.List.{range_with_len}
use Rattle.std.proofs.lemmas.List.FromFn.{get_or-map-range_with_len, length-map-range_with_len}
use Rattle.gs_design.specs.Insts.{Inst, inst_at, inst_of, insts_of, no_inst}
use Rattle.gs_design.specs.Nets.{Net, net_at, net_of, nets_of, no_net}
use Rattle.gs_design.specs.declared.rows.InstRow.{InstRow}
use Rattle.gs_design.specs.declared.rows.NetRow.{NetRow}
use Rattle.gs_design.specs.declared.sink.Sink.{Sink}

module _ (choices : List ℕ) (rows : List InstRow) (inputs names : List (List ℕ)) (insts : List Inst) (is : insts_of choices rows inputs names ≡ insts) where
  pub many_insts : length insts ≡ length rows
  many_insts = ap length (sym is) ∙ length-map-range_with_len (inst_of choices rows inputs names) 0 (length rows)

  pub read_inst : (g : ℕ) → g < length insts → inst_at insts g ≡ inst_of choices rows inputs names g
  read_inst g lt = ap (λ xs. inst_at xs g) (sym is)
      ∙ get_or-map-range_with_len (inst_of choices rows inputs names) 0 (length rows) g g no_inst (omega (arith, many_insts)) (omega arith)

module _ (rows : List NetRow) (sinks : List (List Sink)) (names : List (List ℕ)) (nets : List Net) (is : nets_of rows sinks names ≡ nets) where
  pub many_nets : length nets ≡ length rows
  many_nets = ap length (sym is) ∙ length-map-range_with_len (net_of rows sinks names) 0 (length rows)

  pub read_net : (n : ℕ) → n < length nets → net_at nets n ≡ net_of rows sinks names n
  read_net n lt = ap (λ xs. net_at xs n) (sym is)
      ∙ get_or-map-range_with_len (net_of rows sinks names) 0 (length rows) n n no_net (omega (arith, many_nets)) (omega arith)
