use Rattle.std.proofs.Common.{◌≡◌, ◌∙◌, length, ap, sym}
use Rattle.std.proofs.lemmas.List.{length-map}
use Rattle.std.proofs.lemmas.List.FromFn.{length-range_with_len}
use Rattle.gs_survey.specs.Uses.{output_net}
use Rattle.gs_link.proofs.give.give_gates.Goals as goal

pub spread-requires-clause-same : goal.spread-requires-clause-same
spread-requires-clause-same c =
    let gates : length c.as_slice-2.result.now ≡ length c.args.netlist.now.insts = ap length (c.as_slice-2.ensures ∙ c.in_ok-wide.ensures ∙ c.as_slice.ensures ∙ c.requires.gates) ∙ length-map c.args.netlist.now.insts (output_net c.args.cells.now) in
    let numbers : length c.as_slice-3.result.now ≡ length c.args.netlist.now.insts = ap length (c.as_slice-3.ensures ∙ c.in_ok-numbers.ensures) ∙ length-range_with_len 0 (length c.insts.result.now) ∙ ap length c.insts.ensures.value in
    gates ∙ sym numbers
