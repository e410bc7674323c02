use Rattle.gs_survey.proofs.Inside.{all_ports_in}
use Rattle.gs_survey.proofs.survey_phases.survey.Goals as goal

pub survey_limits-requires-clause-inside : goal.survey_limits-requires-clause-inside
survey_limits-requires-clause-inside c = all_ports_in c.args.netlist.now c.requires
