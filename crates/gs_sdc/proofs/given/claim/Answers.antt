use Rattle.std.proofs.Common.{◌≡◌, ◌∙◌, ℕ, List, Option, Some, Bool, false, sym, ap}
use Rattle.std.specs.Map.{update}
use Rattle.std.specs.Option.{is_some}
use Rattle.std.specs.Str.{bytes_eq}
use Rattle.gs_names.specs.Names.{find}
use Rattle.gs_sdc.proofs.PortLaws.{ports_more}
use Rattle.gs_sdc.proofs.given.claim.Goals as goal

pub returns-clause-ok : goal.returns-clause-ok
returns-clause-ok c =
    let old = c.args.ports.now in
    let port = c.args.port.now in
    let key : c.in_ok-key.key ≡ port = c.in_ok-key.ensures in
    let fresh : is_some (find old port) ≡ false =
    ap (λ (n : List ℕ). is_some (find old n)) (sym key) ∙ ap (λ (o : Option (Unit {0})). is_some o) (sym c.in_ok-insert.ensures.old) ∙ sym c.is_some.ensures ∙ c.if-is_some.false in
    λ names h. ports_more tt (find old) (find c.insert.new.self) names port h fresh
    (λ q. c.in_ok-insert.ensures.updates q ∙ ap (λ (n : List ℕ). update bytes_eq (find old) n (Some tt) q) key)
