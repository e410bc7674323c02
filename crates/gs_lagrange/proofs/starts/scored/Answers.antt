use Rattle.std.proofs.Common.{sym, ◌∙◌, ap, subst}
use Rattle.gs_design.specs.Sizes.{FitSizes}
use Rattle.gs_lagrange.specs.Start.{score_of}
use Rattle.gs_lagrange.proofs.starts.scored.Goals as goal

pub returns-clause-scored : goal.returns-clause-scored
returns-clause-scored c = record {
  fit = subst (FitSizes c.args.design.now) (sym c.in_ok-sizes.ensures) c.requires.kept.timed.fit;
  score = c.score_of-score.ensures ∙ ap (score_of c.args.design.now) (sym c.in_ok-sizes.ensures);
}
