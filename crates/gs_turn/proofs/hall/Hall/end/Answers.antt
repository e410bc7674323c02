-- Who has all numbers and no turn finds the slot home, with a book by the rule.
use Rattle.std.proofs.Common.{◌≤◌, ℕ, length, subst}
use Rattle.gs_turn.proofs.Keeps.{found_at_end, book_at_end}
use Rattle.gs_turn.proofs.hall.Hall.end.Goals as goal

pub unreachable-requires : goal.unreachable-requires
unreachable-requires g c = let hall = c.args.self in let key = hall.table.shared.key in let view = c.args.all.me.0 in
    let whole : key.1 ≤ length view.own = subst (λ (n : ℕ). n ≤ length view.own) hall.counted c.requires.numbers in
    let found = found_at_end g.B.Told.tag g.B.Told.list (g.B.Told.tag key.0.value) key.1 c.args.all.id view whole c.requires.free _ _ c.close_with-closed.ensures.values.2 c.take-book.result c.take-book.ensures.value in
    c.in_default.not-Some found.0 found.1

pub returns-clause-tag : goal.returns-clause-tag
returns-clause-tag g c = let hall = c.args.self in let key = hall.table.shared.key in let view = c.args.all.me.0 in
    let whole : key.1 ≤ length view.own = subst (λ (n : ℕ). n ≤ length view.own) hall.counted c.requires.numbers in
    (book_at_end g.B.Told.tag g.B.Told.list (g.B.Told.tag key.0.value) key.1 c.args.all.id view whole c.requires.free _ _ c.close_with-closed.ensures.values.2 c.take-book.result c.take-book.ensures.value c.in-Some.book c.in-Some.is).0

pub returns-clause-goes_on : goal.returns-clause-goes_on
returns-clause-goes_on g c = let hall = c.args.self in let key = hall.table.shared.key in let view = c.args.all.me.0 in
    let whole : key.1 ≤ length view.own = subst (λ (n : ℕ). n ≤ length view.own) hall.counted c.requires.numbers in
    (book_at_end g.B.Told.tag g.B.Told.list (g.B.Told.tag key.0.value) key.1 c.args.all.id view whole c.requires.free _ _ c.close_with-closed.ensures.values.2 c.take-book.result c.take-book.ensures.value c.in-Some.book c.in-Some.is).1
