use Rattle.std.proofs.Common.{[], ◌∷◌, ◌++◌, ◌∙◌, ap}
use Rattle.gs_limits.proofs.OneNet.{the_end, wire_is}
use Rattle.gs_limits.proofs.tests.wire.Goals as goal

pub new-requires : goal.new-requires
new-requires c =
    wire_is c.empty.result c.in_ok-the_insts.field-0 c.in_ok-nets.nets c.push.new.self c.push-2.new.self c.push-3.new.self
    c.empty.ensures c.in_ok-the_insts.ensures c.in_ok-nets.ensures
    (c.in_ok-push.ensures.pushed ∙ ap (λ es. es ++ the_end ∷ []) c.empty-ends.ensures)
    (c.in_ok-push-2.ensures.pushed ∙ ap (λ ns. ns ++ 0 ∷ []) c.empty-order.ensures)
    (c.in_ok-push-3.ensures.pushed ∙ ap (λ ns. ns ++ 0 ∷ []) c.empty-ranks.ensures)
