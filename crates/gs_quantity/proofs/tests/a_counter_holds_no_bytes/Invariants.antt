use Rattle.gs_quantity.proofs.tests.a_counter_holds_no_bytes.Given as goal

abbrev pub ghosts-count_to : goal.ghosts-count_to
ghosts-count_to g a = record { name = a.blank.name; parts = a.blank.parts }
