use Rattle.std.proofs.Common.{ap, ◌∙◌}
use Rattle.std.specs.Str.{bytes_eq}
use Rattle.gs_names.specs.Names.{find}
use Rattle.gs_survey.proofs.Places.{position_none}
use Rattle.gs_survey.proofs.names.Places.place.Goals as goal

pub returns-in-None-clause-place : goal.returns-in-None-clause-place
returns-in-None-clause-place g c =
    let h = position_none (λ x. bytes_eq c.args.name.now (g.T.Named.name x)) c.self.inside.items.now
    (c.in-None.ensures ∙ ap (find c.self.inside.map) c.in_ok-key.ensures ∙ c.self.invariant.finds c.args.name.now) in
    rw (← c.self.view_is) h
