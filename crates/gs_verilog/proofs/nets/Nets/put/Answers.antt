use Rattle.std.proofs.Common.{◌≡◌, arith, [], ◌∷◌, ◌++◌, length, ap, sym, refl, ◌∙◌}
use Rattle.std.specs.Option.{unwrap_or}
use Rattle.gs_verilog.specs.Index.{place_of}
use Rattle.gs_verilog.specs.Names.{find}
use Rattle.gs_verilog.proofs.Indexes.{put_last}
use Rattle.gs_verilog.proofs.nets.Nets.put.Goals as goal

pub returns-in_ok-push-clause-ok : goal.returns-in_ok-push-clause-ok
returns-in_ok-push-clause-ok c =
    let name = c.args.name.now in
    let names = c.args.self.now.names.items in
    let f = find c.args.self.now.places in
    let items : c.push.new.self.items ≡ names ++ name ∷ [] = c.in_ok-push.ensures.items ∙ ap (λ n. names ++ n ∷ []) c.in_ok-copy.ensures in
    let count : c.len-count.result ≡ length names = omega (arith, c.len-count.ensures, c.args.self.now.names.ok) in
    let put = put_last f (find c.get_or_insert.new.self) names name c.in_ok-place.place (f name) refl c.requires.finds.places
    (c.in_ok-place.ensures.number ∙ ap (λ n. unwrap_or (f name) n) count) (omega (arith, c.if-place-count.true, count)) c.in_ok-place.ensures.updates in
    record {
      finds = record { buckets = c.in_ok-place.ensures.buckets; places = λ q. put.0 q ∙ ap (λ ms. place_of ms q) (sym items) };
      names = items ∙ put.1;
      number = put.2;
    }
