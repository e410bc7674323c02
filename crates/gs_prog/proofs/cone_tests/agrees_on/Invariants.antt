use Rattle.gs_prog.proofs.cone_tests.agrees_on.Given as goal

abbrev pub ghosts-tried : goal.ghosts-tried
ghosts-tried a = record { name = a.blank.name; parts = a.blank.parts }
