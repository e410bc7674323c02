use Rattle.std.proofs.Common.{◌≡◌, ◌∙◌, ◌==◌, ◌+◌, ◌-◌, ℕ, List, length, drop, ap, arith}
use Rattle.std.proofs.lemmas.List.FromFn.{fill_by_all}
use Rattle.std.specs.List.{position_or_len}
use Rattle.gs_link.proofs.order.find_ranks.Goals as goal

pub returns : goal.returns
returns c =
    let order : List ℕ = c.args.order.now in
    let place : ℕ → ℕ → ℕ = λ k n. position_or_len (λ m. m == n) (drop k c.args.order.now) + k in
    let all : length c.args.order.now - c.loop-i.i ≡ 0 = omega (arith, c.loop-i-test.false) in
    let none : (n : ℕ) → position_or_len (λ m. m == n) c.args.order.now + 0 ≡ position_or_len (λ m. m == n) c.args.order.now = λ n. omega arith in
    c.from_vec.ensures
    ∙ fill_by_all (λ n. position_or_len (λ m. m == n) order) c.loop-i.ranks.items (length order) 0 c.loop-i.invariant.many
    (λ n lt. c.loop-i.invariant.each n lt ∙ ap (λ k. place k n) all ∙ none n)
