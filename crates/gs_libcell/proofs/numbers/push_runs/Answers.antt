use Rattle.std.proofs.Common.{◌≡◌, ◌∙◌, ap, sym, true, map, drop}
use Rattle.gs_libcell.specs.Number.{gather, number_of}
use Rattle.gs_libcell.specs.Text.{runs_in}
use Rattle.gs_libcell.proofs.Texts.{given_run, refused_run}
use Rattle.gs_libcell.proofs.numbers.push_runs.Goals as goal

pub returns-in_default : goal.returns-in_default
returns-in_default c =
    refused_run (number_of c.args.tens) true c.args.text.now c.loop-at.at c.run_end-end.result 0 c.loop-at-test.true
    (sym c.is_gap.ensures ∙ c.if-is_gap.false) c.run_end-end.ensures.value c.loop-at.numbers.items
    (gather c.args.numbers.now.items (map (number_of c.args.tens) (runs_in true c.args.text.now)))
    c.loop-at.invariant.so_far (sym c.number_of.ensures ∙ c.in_default.is)

pub loop-at-preserved : goal.loop-at-preserved
loop-at-preserved c =
    record {
      within = c.run_end-end.ensures.within;
      so_far =
          ap (λ done. gather done (map (number_of c.args.tens) (runs_in true (drop c.run_end-end.result c.args.text.now)))) c.in_ok-push.ensures.items
          ∙ given_run (number_of c.args.tens) true c.args.text.now c.loop-at.at c.run_end-end.result 0 c.loop-at-test.true
          (sym c.is_gap.ensures ∙ c.if-is_gap.false) c.run_end-end.ensures.value c.loop-at.numbers.items
          (gather c.args.numbers.now.items (map (number_of c.args.tens) (runs_in true c.args.text.now)))
          c.in-Some.number c.loop-at.invariant.so_far (sym c.number_of.ensures ∙ c.in-Some.is);
    }
