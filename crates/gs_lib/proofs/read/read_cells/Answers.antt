use Rattle.std.proofs.Common.{◌∙◌, ◌++◌, [], ap, sym, map}
use Rattle.gs_design.specs.Cells.{cell_name}
use Rattle.gs_lib.specs.Draft.{cell_lists, cell_of}
use Rattle.gs_lib.specs.Library.{drafts_fault, drafts_in}
use Rattle.gs_lib.proofs.Reading.{all_cells, all_faults, next_cells, next_fault, next_refusal}
use Rattle.gs_lib.proofs.read.read_cells.Goals as goal

pub returns-in-Err-clause-fault : goal.returns-in-Err-clause-fault
returns-in-Err-clause-fault c =
    next_refusal c.args.lib.now c.args.items.now c.loop-item.item-index c.item-item.result c.item-item.result c.loop-item-test.true c.item-item.is
    (map cell_name c.loop-item.builder.cells.items) (drafts_fault [] (drafts_in c.args.lib.now c.args.items.now)) c.in-Err.error c.in-Err.ensures.fault c.loop-item.invariant.fault

pub loop-item-preserved : goal.loop-item-preserved
loop-item-preserved c =
    record {
      fault = next_fault c.args.lib.now c.args.items.now c.loop-item.item-index c.item-item.result c.item-item.result c.loop-item-test.true c.item-item.is
          (map cell_name c.loop-item.builder.cells.items) (map cell_name c.take_item.new.self.cells.items) (drafts_fault [] (drafts_in c.args.lib.now c.args.items.now))
          c.in-Ok.ensures.fault c.in-Ok.ensures.names c.loop-item.invariant.fault;
      cells = next_cells c.args.lib.now c.args.items.now c.loop-item.item-index c.item-item.result c.item-item.result c.loop-item-test.true c.item-item.is
          (map cell_lists c.loop-item.builder.cells.items) (map cell_lists c.take_item.new.self.cells.items) (map cell_of (drafts_in c.args.lib.now c.args.items.now))
          c.in-Ok.ensures.cells c.loop-item.invariant.cells;
      kept = c.in-Ok.ensures.kept;
    }

pub loop-item-init : goal.loop-item-init
loop-item-init c =
    record {
      fault = ap (λ cs. drafts_fault (map cell_name cs) (drafts_in c.args.lib.now c.args.items.now)) c.in_ok-builder.ensures.cells;
      cells = ap (λ cs. map cell_lists cs ++ map cell_of (drafts_in c.args.lib.now c.args.items.now)) c.in_ok-builder.ensures.cells;
      kept = c.in_ok-builder.ensures.kept;
    }

pub returns-clause-fault : goal.returns-clause-fault
returns-clause-fault c =
    sym c.loop-item.invariant.fault
    ∙ all_faults c.args.lib.now c.args.items.now c.loop-item.item-index (map cell_name c.loop-item.builder.cells.items) c.loop-item-test.false

pub returns-clause-cells : goal.returns-clause-cells
returns-clause-cells c =
    all_cells c.args.lib.now c.args.items.now c.loop-item.item-index (map cell_lists c.loop-item.builder.cells.items) (map cell_of (drafts_in c.args.lib.now c.args.items.now))
    c.loop-item-test.false c.loop-item.invariant.cells
