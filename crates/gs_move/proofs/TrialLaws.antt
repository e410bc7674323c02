-- The outcome of a trial by a lawful judge is the judge's on the change, at a glance too.

use Rattle.std.proofs.Common.{◌≡◌, ℕ, true, List, Option, None, Some, refl, sym, ap}
use Rattle.gs_design.specs.declared.design.Design.{Design}
use Rattle.gs_move.specs.Change.{change_of}
use Rattle.gs_move.specs.Fair.{new_leak, present_leak}
use Rattle.gs_move.specs.Judge.{Answers, IsLawful, is_fair, is_fair_by}
use Rattle.gs_move.specs.Trial.{changed_nets, delta_of, trial_after_glance, trial_of}
use Rattle.gs_move.specs.declared.moves.Move.{Move}
use Rattle.gs_move.specs.declared.outcome.Why.{Why}

module _ (J : Answers) (d : Design) (s : List ℕ) (m : Move) (front worker : ℕ) (law : IsLawful J) where
  judged_by : (o : Option Why) → J.glance (present_leak d s m) (new_leak d m) ≡ o → (trial_after_glance J d s m front worker o).outcome ≡ J.judge (change_of d s m)
  judged_by None e = refl
  judged_by (Some why) e = sym (law.refuses (change_of d s m) why e)

  pub trial_judged : (trial_of J d s m front worker).outcome ≡ J.judge (change_of d s m)
  trial_judged = judged_by (J.glance (present_leak d s m) (new_leak d m)) refl

  whole_by : (o : Option Why) → J.glance (present_leak d s m) (new_leak d m) ≡ o → is_fair_by J d s m ≡ true → (trial_after_glance J d s m front worker o).delta ≡ delta_of m (changed_nets d s m)
  whole_by None e fair = refl
  whole_by (Some why) e fair = absurd (let unfair = ap is_fair (law.refuses (change_of d s m) why e) in cc)

  pub trial_whole : is_fair_by J d s m ≡ true → (trial_of J d s m front worker).delta ≡ delta_of m (changed_nets d s m)
  trial_whole = whole_by (J.glance (present_leak d s m) (new_leak d m)) refl
