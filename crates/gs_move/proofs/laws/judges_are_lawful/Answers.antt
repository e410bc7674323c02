use Rattle.gs_move.proofs.laws.judges_are_lawful.Goals as goal

-- the bound's laws hold in every model that allows as much, so in this one
pub returns : goal.returns
returns g c = (g.met.J.Judge g.world.𝓛 g.world.𝓜 g.world.𝓡 ((λ s x. x), (λ x. x), (λ x. x), (λ x. x))).lawful c.args.judge.now
