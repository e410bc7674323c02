use Rattle.std.proofs.Common.{◌≡◌, true, All, flat_map, sym, ◌∙◌, ap, subst}
use Rattle.gs_move.specs.Moves.{is_move}
use Rattle.gs_sweep.proofs.SweepLaws.{all_fair, each_is_one}
use Rattle.gs_sweep.proofs.sweeps.sweep.Goals as goal

pub returns-clause-fair : goal.returns-clause-fair
returns-clause-fair g c =
    let J = g.J.Judge.answers c.args.judge.now in
    c.in_ok-all.ensures ∙ ap (flat_map (λ w. w.items)) c.as_slice.ensures.value
    ∙ all_fair J c.args.design.now c.args.sizes.now (λ w. w.items) c.in_ok-lists.lists.items c.in_ok-lists.ensures

pub returns-clause-moves : goal.returns-clause-moves
returns-clause-moves g c =
    let J = g.J.Judge.answers c.args.judge.now in
    let d = c.args.design.now in
    let s = c.args.sizes.now in
    let all = c.in_ok-all.ensures ∙ ap (flat_map (λ w. w.items)) c.as_slice.ensures.value ∙ all_fair J d s (λ w. w.items) c.in_ok-lists.lists.items c.in_ok-lists.ensures in
    subst (All (λ m. is_move d s m ≡ true)) (sym all) (each_is_one J d s)
