use Rattle.std.proofs.Common.{◌∙◌, ap, sym, List, ℕ, ◌++◌, ◌∷◌, [], map}
use Rattle.std.specs.List.{list_any}
use Rattle.std.specs.Str.{bytes_eq}
use Rattle.gs_design.specs.Cells.{cell_name}
use Rattle.gs_lib.proofs.Kept.{finds_put, kept_put}
use Rattle.gs_names.specs.Names.{find}
use Rattle.gs_lib.proofs.builder.Builder.put.Goals as goal

pub returns-clause-kept : goal.returns-clause-kept
returns-clause-kept c =
    let names : List (List ℕ) = map cell_name c.args.self.now.cells.items in
    kept_put c.args.self.now _ c.args.cell c.requires.kept c.in_ok-push.ensures.items
    (ap (λ n. list_any (bytes_eq n) names) (sym c.requires.name) ∙ c.requires.new)
    c.requires.solid c.in_ok-insert.ensures.buckets
    (λ q. finds_put (find c.args.self.now.names) (find c.insert.new.self) names c.args.name tt c.requires.kept.finds (λ p. c.in_ok-insert.ensures.updates p) q
    ∙ ap (λ n. list_any (bytes_eq q) (names ++ n ∷ [])) c.requires.name)
