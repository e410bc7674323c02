use Rattle.gs_top.proofs.Deciding.{each_job}
use Rattle.gs_top.proofs.law.each_job_is_decided.Goals as goal

pub returns : goal.returns
returns c = each_job (record {
  liberties = c.each_text_is_decided.ensures;
  trees = c.each_tree_is_decided.ensures;
  netlists = c.each_text_is_decided-2.ensures;
  wires = c.each_text_is_decided-3.ensures;
  constraints = c.each_text_is_decided-4.ensures;
  froms = c.each_text_is_decided-5.ensures;
  kept = c.each_netlist_is_kept.ensures;
  links = c.each_design_is_decided.ensures;
})
