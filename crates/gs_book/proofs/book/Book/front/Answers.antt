use Rattle.std.proofs.Common.{◌≡◌, length, ap, ◌∙◌, arith}
use Rattle.std.specs.Arc.{arc_value}
use Rattle.gs_book.proofs.JournalLaws.{journal_length}
use Rattle.gs_book.proofs.book.Book.front.Goals as goal

pub returns : goal.returns
returns g c =
    let count : c.len.result ≡ length c.self.inside.journal.items = omega (arith, c.len.ensures) in
    rw (← c.self.view_is)
    (count ∙ ap length c.self.invariant.journal_is ∙ journal_length (arc_value c.self.inside.design) c.self.inside.start c.self.inside.entries.items)
