use Rattle.std.proofs.Common.{◌≡◌, ◌∙◌, ◌++◌, ◌∷◌, [], ℕ, true, false, get_or, map, take, ap, sym, arith}
use Rattle.std.proofs.lemmas.List.{map_push}
use Rattle.gs_link.proofs.Growing.{filter_at_no, filter_at_yes}
use Rattle.gs_link.specs.Columns.{end_of_port}
use Rattle.gs_survey.specs.Numbers.{is_one_of}
use Rattle.std.specs.List.{filter}
use Rattle.gs_design.specs.declared.end.End.{End}
use Rattle.gs_link.proofs.ends.find_port_ends.Goals as goal

pub loop-i-preserved-then-not-has : goal.loop-i-preserved-then-not-has
loop-i-preserved-then-not-has c =
    let e : is_one_of c.args.outputs.now (get_or c.args.used.now c.loop-i.i 0) ≡ false = cc in
    c.loop-i.invariant ∙ ap (map (end_of_port c.args.numbers.now c.args.departures.now c.args.period)) (sym (filter_at_no (is_one_of c.args.outputs.now) c.args.used.now c.loop-i.i 0 (omega arith) e))

pub loop-i-preserved : goal.loop-i-preserved
loop-i-preserved c =
    let e : is_one_of c.args.outputs.now (get_or c.args.used.now c.loop-i.i 0) ≡ true = cc in
    let f : ℕ → End = end_of_port c.args.numbers.now c.args.departures.now c.args.period in
    c.in_ok-push.ensures.items
    ∙ ap (λ xs. xs ++ c.port_end_of-end.result ∷ []) c.loop-i.invariant
    ∙ ap (λ x. map f (filter (is_one_of c.args.outputs.now) (take c.loop-i.i c.args.used.now)) ++ x ∷ []) c.port_end_of-end.ensures
    ∙ sym (ap (map f) (filter_at_yes (is_one_of c.args.outputs.now) c.args.used.now c.loop-i.i 0 (omega arith) e)
    ∙ map_push f (filter (is_one_of c.args.outputs.now) (take c.loop-i.i c.args.used.now)) (get_or c.args.used.now c.loop-i.i 0))
