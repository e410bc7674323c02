use Rattle.std.proofs.Common.{◌≡◌, None, length}
use Rattle.gs_levels.specs.Graph.{IsWithin}
use Rattle.gs_link.proofs.CauseLaws.{GraphLaw, apart, decided, one_cause, one_value}
use Rattle.gs_link.proofs.SiteLaws.{inside, within_of}
use Rattle.gs_link.specs.Linked.{edges_of, linked_insts}
use Rattle.gs_survey.specs.Fault.{first_fault}
use Rattle.gs_survey.specs.Uses.{used_nets}
use Rattle.gs_link.proofs.law.each_design_is_decided.Goals as goal

pub returns : goal.returns
returns a = λ c l w k net.
    let graphs : GraphLaw = record {
      decided = a.each_graph_is_decided.ensures.decided;
      apart = a.each_graph_is_decided.ensures.apart;
      one_leveling = a.each_graph_is_decided.ensures.one_leveling;
      one_order = a.each_graph_is_decided.ensures.one_order;
    } in
    let within : first_fault c l w k ≡ None → IsWithin (length (used_nets l.cells c)) (edges_of l.cells (linked_insts l.cells c)) = λ none. within_of l.cells (linked_insts l.cells c) (length (used_nets l.cells c)) (inside c l w k net none) in
    record {
      decided = decided graphs c l w k within;
      apart = apart graphs c l w k within;
      one_design = one_value graphs c l w k within;
      one_cause = one_cause graphs c l w k within;
    }
