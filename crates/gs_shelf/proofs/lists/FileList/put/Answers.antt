use Rattle.std.proofs.Common.{◌∙◌}
use Rattle.gs_shelf.proofs.FileLaws.{differ-set, found-set, others-set, differ-push, found-push, others-push}
use Rattle.gs_shelf.proofs.lists.FileList.put.Goals as goal

pub invariant_of-self : goal.invariant_of-self
invariant_of-self c =
    differ-set _ _ c.self.view_is _ _ _ c.index_mut.result.now c.in-Some.ensures c.index_mut.ensures.value c.self.invariant

pub returns-in-Some-clause-ok : goal.returns-in-Some-clause-ok
returns-in-Some-clause-ok c =
    found-set _ _ c.self.view_is _ _ _ c.index_mut.result.now c.in-Some.ensures c.index_mut.ensures.value _ (c.from_vec-bytes.ensures ∙ c.in_ok-from_slice.ensures.items)

pub returns-in-Some-clause-others : goal.returns-in-Some-clause-others
returns-in-Some-clause-others c =
    others-set _ _ c.self.view_is _ _ _ c.index_mut.result.now c.in-Some.ensures c.index_mut.ensures.value

pub invariant_of-self-in-None : goal.invariant_of-self-in-None
invariant_of-self-in-None c =
    differ-push _ _ _ c.self.view_is _ _ c.in_ok-push-in-None.ensures.items _ (c.from_vec-name.ensures ∙ c.in_ok-from_slice-in-None.ensures.items) c.in-None.ensures c.self.invariant

pub returns-in_ok-push-in-None-clause-ok : goal.returns-in_ok-push-in-None-clause-ok
returns-in_ok-push-in-None-clause-ok c =
    found-push _ _ _ c.self.view_is _ _ c.in_ok-push-in-None.ensures.items _ (c.from_vec-name.ensures ∙ c.in_ok-from_slice-in-None.ensures.items) c.in-None.ensures _ (c.from_vec-bytes.ensures ∙ c.in_ok-from_slice.ensures.items)

pub returns-in_ok-push-in-None-clause-others : goal.returns-in_ok-push-in-None-clause-others
returns-in_ok-push-in-None-clause-others c =
    others-push _ _ _ c.self.view_is _ _ c.in_ok-push-in-None.ensures.items _ (c.from_vec-name.ensures ∙ c.in_ok-from_slice-in-None.ensures.items) c.in-None.ensures
