use Rattle.gs_levels.proofs.Decided.{decided}
use Rattle.gs_levels.proofs.LevelLaws.{no_cycle}
use Rattle.gs_levels.proofs.OneAnswer.{one_leveling, one_order}
use Rattle.gs_levels.proofs.law.each_graph_is_decided.Goals as goal

pub returns : goal.returns
returns c = record {
  decided = decided;
  apart = λ nodes edges inside levels circle. no_cycle nodes edges levels.level inside levels.leveled circle.cycle circle.found;
  one_leveling = one_leveling;
  one_order = one_order;
}
