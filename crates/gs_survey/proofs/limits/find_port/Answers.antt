use Rattle.std.proofs.Common.{◌≡◌, true, false, cond, None, Some, ap, sym, ◌∙◌}
use Rattle.std.specs.List.{position_or_len}
use Rattle.std.specs.Str.{bytes_eq}
use Rattle.gs_survey.proofs.Fronts.{port_is, same_port}
use Rattle.gs_survey.specs.Numbers.{is_one_of, net_number}
use Rattle.gs_survey.specs.declared.error.LinkErr.TheVariants as errors
use Rattle.gs_survey.proofs.limits.find_port.Goals as goal

pub returns-then-has-clause-fault : goal.returns-then-has-clause-fault
returns-then-has-clause-fault g c =
    let q = g.T.Named.name c.args.item.now in
    let at : c.in_ok-number.number ≡ position_or_len (bytes_eq q) c.args.front.now = c.in_ok-number.ensures.place ∙ ap (λ n. position_or_len (bytes_eq n) c.args.front.now) c.name.ensures in
    let yes : is_one_of c.args.ports.now (net_number c.args.nets.now q) ≡ true =
    sym (same_port c.args.nets.now c.args.front.now c.args.ports.now c.requires.front c.requires.below q) ∙ ap (is_one_of c.args.ports.now) (sym at) ∙ sym c.if-has.ensures in
    ap (λ b. cond b None (Some (errors.UnknownPort q))) yes

pub returns-then-has-clause-number : goal.returns-then-has-clause-number
returns-then-has-clause-number g c =
    let q = g.T.Named.name c.args.item.now in
    let at : c.in_ok-number.number ≡ position_or_len (bytes_eq q) c.args.front.now = c.in_ok-number.ensures.place ∙ ap (λ n. position_or_len (bytes_eq n) c.args.front.now) c.name.ensures in
    at ∙ port_is c.args.nets.now c.args.front.now c.args.ports.now c.requires.front c.requires.below q (ap (is_one_of c.args.ports.now) (sym at) ∙ sym c.if-has.ensures)

pub returns-in_ok-copy_of-clause-fault : goal.returns-in_ok-copy_of-clause-fault
returns-in_ok-copy_of-clause-fault g c = λ _.
    let q = g.T.Named.name c.args.item.now in
    let at : c.in_ok-number.number ≡ position_or_len (bytes_eq q) c.args.front.now = c.in_ok-number.ensures.place ∙ ap (λ n. position_or_len (bytes_eq n) c.args.front.now) c.name.ensures in
    let no : is_one_of c.args.ports.now (net_number c.args.nets.now q) ≡ false =
    sym (same_port c.args.nets.now c.args.front.now c.args.ports.now c.requires.front c.requires.below q) ∙ ap (is_one_of c.args.ports.now) (sym at) ∙ sym c.if-has.ensures in
    ap (λ b. cond b None (Some (errors.UnknownPort q))) no ∙ ap (λ n. Some (errors.UnknownPort n)) (sym (c.in_ok-copy_of.ensures ∙ c.name-else-has.ensures))
