use Rattle.gs_top.specs.Answer.{seen}
use Rattle.gs_top.proofs.Storing.{Goes}
use Rattle.gs_top.proofs.store.store_texts.Given as goal

abbrev pub invariant-loop-text : goal.invariant-loop-text
invariant-loop-text g l =
    Goes (g.J.JobFiles.outputs l.job) g.H.Shelf.tells l.texts l.text-index (seen (g.H.Shelf.files l.fn.shelf) (g.H.Shelf.said l.fn.shelf) (g.H.Shelf.faults l.fn.shelf)) (seen (g.H.Shelf.files l.shelf) (g.H.Shelf.said l.shelf) (g.H.Shelf.faults l.shelf))
