use Rattle.gs_timing.proofs.tests.a_port_makes_its_edges.Given as goal

abbrev pub ghosts-evaluated : goal.ghosts-evaluated
ghosts-evaluated g a = record { name = a.blank.name; parts = a.blank.parts }
