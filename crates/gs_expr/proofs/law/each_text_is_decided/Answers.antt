use Rattle.gs_expr.proofs.Clauses.{is_lawful, is_table, is_refusal}
use Rattle.gs_expr.proofs.law.each_text_is_decided.Goals as goal

pub returns-clause-lawful : goal.returns-clause-lawful
returns-clause-lawful c = is_lawful

pub returns-clause-table : goal.returns-clause-table
returns-clause-table c = is_table

pub returns-clause-refusal : goal.returns-clause-refusal
returns-clause-refusal c = is_refusal
