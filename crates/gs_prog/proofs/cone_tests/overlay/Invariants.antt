use Rattle.gs_prog.proofs.cone_tests.overlay.Given as goal

abbrev pub ghosts-seen : goal.ghosts-seen
ghosts-seen a = record { name = a.blank.name; parts = a.blank.parts }
