use Rattle.gs_book.proofs.book.Book.sizes.Goals as goal

pub returns-clause-fits : goal.returns-clause-fits
returns-clause-fits g c = rw (← c.self.view_is, ← c.self.invariant.sizes_are) c.self.invariant.sizes_fit
