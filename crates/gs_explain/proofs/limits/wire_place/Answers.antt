use Rattle.std.proofs.Common.{◌∙◌, ap}
use Rattle.std.specs.List.{position_or_len}
use Rattle.std.specs.Str.{bytes_eq}
use Rattle.gs_spef.specs.declared.wires.Wire.{Wire}
use Rattle.gs_explain.proofs.LimitLaws.{of_unread, of_wires}
use Rattle.gs_explain.proofs.limits.wire_place.Goals as goal

pub returns-in-Ok : goal.returns-in-Ok
returns-in-Ok c =
    of_wires c.args.net.now c.args.bytes.now c.in-Ok.wires c.net_block_place.result c.wire_number.result c.in-Ok.ensures.ok
    (c.wire_number.ensures ∙ ap (position_or_len (λ (w : Wire). bytes_eq c.args.net.now w.net)) c.as_slice.ensures.value) c.net_block_place.ensures

pub returns-in-Err : goal.returns-in-Err
returns-in-Err c =
    of_unread c.args.net.now c.args.bytes.now c.in-Err.error c.unread.result c.unread.ensures.none c.unread.ensures.cause c.in-Err.ensures.only
