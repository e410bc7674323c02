use Rattle.std.proofs.Common.{◌∙◌, ◌++◌, ◌∷◌, [], ◌+◌, ℕ, cond, length, map, sym, ap, arith}
use Rattle.gs_link.proofs.Growing.{at_most_one, filter_range_long}
use Rattle.std.proofs.lemmas.List.FromFn.{map-range_with_len_more}
use Rattle.std.specs.List.{range_with_len}
use Rattle.gs_survey.specs.Uses.{is_used, kept}
use Rattle.gs_link.proofs.renumber.find_numbers.Goals as goal

pub loop-net-preserved : goal.loop-net-preserved
loop-net-preserved c =
    let p = is_used c.args.driven.now c.args.read.now in
    let f : ℕ → ℕ = λ n. length (kept c.args.driven.now c.args.read.now n) in
    let long = filter_range_long p c.loop-net.net in
    record {
      so_far = c.in_ok-push.ensures.items ∙ ap (λ xs. xs ++ c.loop-net.number ∷ []) c.loop-net.invariant.so_far
          ∙ ap (λ n. map f (range_with_len 0 c.loop-net.net) ++ n ∷ []) c.loop-net.invariant.next
          ∙ sym (map-range_with_len_more f 0 c.loop-net.net c.loop-net.net (omega arith));
      next = c.number_after-number.ensures
          ∙ ap (λ b. c.loop-net.number + cond b 1 0) c.is_net_used.ensures
          ∙ ap (λ n. n + cond (p c.loop-net.net) 1 0) c.loop-net.invariant.next
          ∙ sym long;
      few = omega (arith, c.number_after-number.ensures, at_most_one c.is_net_used.result, c.loop-net.invariant.few);
    }
