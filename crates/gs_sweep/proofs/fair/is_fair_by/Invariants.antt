use Rattle.gs_sweep.proofs.fair.is_fair_by.Given as goal

abbrev pub ghosts-judged : goal.ghosts-judged
ghosts-judged g a = record { name = a.blank.name; parts = a.blank.parts }
