use Rattle.gs_lagrange.proofs.price.record_with.Given as goal

abbrev pub ghosts-evaluated : goal.ghosts-evaluated
ghosts-evaluated a = record { name = a.blank.name; parts = a.blank.parts }
