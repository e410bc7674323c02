use Rattle.std.proofs.Common.{◌≡◌, ◌<◌, ◌≤◌, ◌++◌, All, length, ap, ◌∙◌, arith}
use Rattle.std.proofs.lemmas.List.{length-take-le}
use Rattle.gs_survey.proofs.Fronts.{all_left, all_right}
use Rattle.gs_survey.proofs.survey_phases.survey_limits.Goals as goal

pub find_named-requires-clause-inputs_below : goal.find_named-requires-clause-inputs_below
find_named-requires-clause-inputs_below c =
    let joined : c.as_slice-2.result.now ≡ c.args.used.now.inputs ++ c.args.used.now.outputs = c.as_slice-2.ensures ∙ c.in_ok-ports.ensures ∙ ap (λ xs. xs ++ c.args.used.now.outputs) (c.from_vec-inputs.ensures ∙ c.in_ok-from_slice.ensures.items ∙ c.as_slice.ensures) in
    let within : c.count_to_last-count.result ≤ length c.nets-3.result.now = omega (arith, c.count_to_last-count.ensures.within, ap length c.nets-2.ensures, ap length c.nets-3.ensures) in
    let long : length c.in_ok-front.front ≡ c.count_to_last-count.result = ap length c.in_ok-front.ensures ∙ length-take-le c.count_to_last-count.result c.nets-3.result.now within in
    let all : All (λ n. n < length c.in_ok-front.front) (c.args.used.now.inputs ++ c.args.used.now.outputs) = rw (long, ← joined) c.count_to_last-count.ensures.below in
    all_left (λ n. n < length c.in_ok-front.front) c.args.used.now.inputs c.args.used.now.outputs all

pub find_named-requires-clause-outputs_below : goal.find_named-requires-clause-outputs_below
find_named-requires-clause-outputs_below c =
    let joined : c.as_slice-2.result.now ≡ c.args.used.now.inputs ++ c.args.used.now.outputs = c.as_slice-2.ensures ∙ c.in_ok-ports.ensures ∙ ap (λ xs. xs ++ c.args.used.now.outputs) (c.from_vec-inputs.ensures ∙ c.in_ok-from_slice.ensures.items ∙ c.as_slice.ensures) in
    let within : c.count_to_last-count.result ≤ length c.nets-3.result.now = omega (arith, c.count_to_last-count.ensures.within, ap length c.nets-2.ensures, ap length c.nets-3.ensures) in
    let long : length c.in_ok-front.front ≡ c.count_to_last-count.result = ap length c.in_ok-front.ensures ∙ length-take-le c.count_to_last-count.result c.nets-3.result.now within in
    let all : All (λ n. n < length c.in_ok-front.front) (c.args.used.now.inputs ++ c.args.used.now.outputs) = rw (long, ← joined) c.count_to_last-count.ensures.below in
    all_right (λ n. n < length c.in_ok-front.front) c.args.used.now.inputs c.args.used.now.outputs all
