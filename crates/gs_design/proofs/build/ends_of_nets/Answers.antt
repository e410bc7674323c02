use Rattle.std.proofs.Common.{◌≡◌, ◌<◌, length, map, sym, ◌∙◌, arith}
use Rattle.std.proofs.lemmas.List.{length-map}
use Rattle.std.proofs.lemmas.List.FromFn.{length-range_with_len}
use Rattle.gs_design.specs.Ends.{end_net}
use Rattle.gs_design.proofs.build.ends_of_nets.Goals as goal

pub by_key-requires-clause-same : goal.by_key-requires-clause-same
by_key-requires-clause-same c =
    rw (c.as_slice-3.ensures.value, c.as_slice-2.ensures.value, c.in_ok-keys.ensures, c.in_ok-numbers.ensures, c.as_slice.ensures)
    (length-map c.args.ends.now end_net ∙ sym (length-range_with_len 0 c.len.result ∙ c.len.ensures))

pub by_key-requires-clause-few : goal.by_key-requires-clause-few
by_key-requires-clause-few c =
    rw (c.as_slice-2.ensures.value, c.in_ok-numbers.ensures) (omega (arith, length-range_with_len 0 c.len.result, c.len.ensures, c.requires.few))
