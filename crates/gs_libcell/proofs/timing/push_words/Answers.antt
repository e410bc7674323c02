use Rattle.std.proofs.Common.{◌≡◌, ◌∙◌, ◌++◌, ap, sym, false, drop, List, ℕ, Option}
use Rattle.std.specs.List.{filter_map, position}
use Rattle.gs_libcell.specs.Pin.{is_named}
use Rattle.gs_libcell.specs.Text.{runs_in}
use Rattle.gs_libcell.proofs.Texts.{none_word, some_word}
use Rattle.gs_libcell.proofs.timing.push_words.Goals as goal

pub loop-at-preserved-in_default : goal.loop-at-preserved-in_default
loop-at-preserved-in_default c =
    let f : List ℕ → Option ℕ = λ word. position (is_named word) c.args.inputs.now in
    record {
      within = c.run_end-end.ensures.within;
      so_far =
          none_word f false c.args.text.now c.loop-at.at c.run_end-end.result 0 c.loop-at-test.true
          (sym c.is_gap.ensures ∙ c.if-is_gap.false) c.run_end-end.ensures.value c.loop-at.places.items
          (sym c.place_of-found.ensures.value ∙ c.in_default.is)
          ∙ c.loop-at.invariant.so_far;
    }

pub loop-at-preserved : goal.loop-at-preserved
loop-at-preserved c =
    let f : List ℕ → Option ℕ = λ word. position (is_named word) c.args.inputs.now in
    record {
      within = c.run_end-end.ensures.within;
      so_far =
          ap (λ done. done ++ filter_map f (runs_in false (drop c.run_end-end.result c.args.text.now))) c.in_ok-push.ensures.items
          ∙ some_word f false c.args.text.now c.loop-at.at c.run_end-end.result 0 c.loop-at-test.true
          (sym c.is_gap.ensures ∙ c.if-is_gap.false) c.run_end-end.ensures.value c.loop-at.places.items
          c.in-Some.place (sym c.place_of-found.ensures.value ∙ c.in-Some.is)
          ∙ c.loop-at.invariant.so_far;
    }
