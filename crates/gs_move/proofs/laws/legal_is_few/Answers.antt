use Rattle.gs_move.proofs.FewLaws.{few_commits, few_entries}
use Rattle.gs_move.proofs.laws.legal_is_few.Goals as goal

pub returns-clause-commits : goal.returns-clause-commits
returns-clause-commits c = λ start budget es fit legal. few_commits c.args.design.now start budget es legal fit

pub returns-clause-entries : goal.returns-clause-entries
returns-clause-entries c = λ start budget es fit legal. few_entries c.args.design.now start budget es legal fit
