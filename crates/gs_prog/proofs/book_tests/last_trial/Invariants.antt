use Rattle.gs_prog.proofs.book_tests.last_trial.Given as goal

abbrev pub ghosts-tried : goal.ghosts-tried
ghosts-tried a = record { name = a.blank.name; parts = a.blank.parts }
