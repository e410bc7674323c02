use Rattle.std.proofs.Common.{◌≡◌, ◌∙◌, length, map, ap}
use Rattle.std.specs.List.{range_with_len}
use Rattle.gs_design.specs.Ends.{pins_on}
use Rattle.gs_design.specs.Nets.{nets_of}
use Rattle.gs_link.specs.Columns.{net_row}
use Rattle.gs_survey.specs.Numbers.{net_name}
use Rattle.gs_link.proofs.build.build_nets.Goals as goal

pub returns : goal.returns
returns c =
    let rows : c.in_ok-rows.rows ≡ map (net_row c.args.inputs.now c.args.values.now) c.args.used.now = c.in_ok-rows.ensures ∙ ap (map (net_row c.args.inputs.now c.args.values.now)) c.as_slice.ensures in
    let sinks : c.in_ok-sinks.sinks ≡ map (pins_on c.args.insts.now) (range_with_len 0 (length c.args.used.now)) = c.in_ok-sinks.ensures ∙ ap (λ n. map (pins_on c.args.insts.now) (range_with_len 0 n)) c.len.ensures in
    let names : c.in_ok-names.names ≡ map (net_name c.args.nets.now) c.args.used.now = c.in_ok-names.ensures ∙ ap (map (net_name c.args.nets.now)) c.as_slice-2.ensures in
    c.new.ensures ∙ (λ i. nets_of (rows i) (sinks i) (names i))
