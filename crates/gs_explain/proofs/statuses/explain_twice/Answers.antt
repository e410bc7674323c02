use Rattle.std.proofs.Common.{◌∙◌, ap}
use Rattle.gs_top.specs.Job.{job_of}
use Rattle.gs_top.specs.declared.status.Input.TheVariants.{Lib, Verilog}
use Rattle.gs_explain.specs.Explain.{input_name}
use Rattle.gs_explain.proofs.TwiceLaws.{of_files}
use Rattle.gs_explain.proofs.statuses.explain_twice.Goals as goal

pub returns-clause-text : goal.returns-clause-text
returns-clause-text g c =
    of_files (λ v. v.items) g.H.Shelf.tells c.args.net.now (g.H.Shelf.files c.args.shelf.now) (g.H.Shelf.faults c.args.shelf.now) (g.H.Shelf.faults c.twice_from.new.shelf)
    c.twice_from.result c.input_name-lib.result.now (input_name (job_of c.args.words.now) Lib) c.input_name-name.result.now (input_name (job_of c.args.words.now) Verilog)
    (c.input_name-lib.ensures ∙ ap (λ job. input_name job Lib) c.in_ok-job.ensures) (c.input_name-name.ensures ∙ ap (λ job. input_name job Verilog) c.in_ok-job.ensures)
    c.twice_from.ensures.text
