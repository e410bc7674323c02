use Rattle.std.proofs.Common.{◌≡◌, ◌∙◌, ap, refl, Option, None, Some, option_copied}
use Rattle.std.specs.Option.{is_some}
use denote.Ref.{Bor}
use Rattle.gs_lib.proofs.builder.Builder.has.Goals as goal

copied_some : (o : Option (Bor (Unit {0}))) → is_some o ≡ is_some (option_copied o)
copied_some None = refl
copied_some (Some b) = refl

pub returns : goal.returns
returns c =
    c.is_some.ensures ∙ copied_some c.get.result ∙ ap (λ (o : Option (Unit {0})). is_some o) c.get.ensures ∙ c.requires.finds c.args.name
