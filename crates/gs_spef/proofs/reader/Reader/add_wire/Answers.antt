use Rattle.std.proofs.Common.{◌≡◌, ◌∙◌, ℕ, List, Option, Some, false, refl, sym, ap}
use Rattle.std.specs.List.{list_any}
use Rattle.std.specs.Map.{update}
use Rattle.std.specs.Option.{is_some}
use Rattle.std.specs.Str.{bytes_eq}
use Rattle.gs_names.specs.Names.{find}
use Rattle.gs_spef.specs.Reader.{of_net}
use Rattle.gs_spef.specs.declared.wires.Wire.{Wire}
use Rattle.gs_spef.proofs.Steps.{kept_more}
use Rattle.gs_spef.proofs.reader.Reader.add_wire.Goals as goal

pub returns-clause-kept : goal.returns-clause-kept
returns-clause-kept c =
    let r = c.args.self.now in
    let w : Wire = record { net = c.args.net; total = c.args.total } in
    let key : c.in_ok-key.key ≡ w.net = c.in_ok-key.ensures ∙ c.as_bytes.ensures in
    let fresh : list_any (of_net w.net) r.wires.items ≡ false =
    sym (c.requires.kept.finds w.net) ∙ ap (λ (n : List ℕ). is_some (find r.nets n)) (sym key) ∙ ap (λ (o : Option (Unit {0})). is_some o) (sym c.in_ok-insert.ensures.old)
    ∙ sym c.is_some.ensures ∙ c.if-is_some.false in
    kept_more r _ w c.requires.kept c.requires.amount fresh refl c.in_ok-insert.ensures.buckets
    (λ q. c.in_ok-insert.ensures.updates q ∙ ap (λ (n : List ℕ). update bytes_eq (find r.nets) n (Some tt) q) key) c.in_ok-push.ensures.items
