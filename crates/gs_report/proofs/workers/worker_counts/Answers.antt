use Rattle.std.proofs.Common.{◌≡◌, ◌+◌, ◌<◌, [], ◌∷◌, ◌++◌, drop, length, slice_index, take, sym, ◌∙◌, ap, arith, take_all}
use Rattle.std.proofs.lemmas.List.FromFn.{fill_by_all}
use Rattle.gs_move.specs.Entries.{worker_commits}
use Rattle.gs_report.proofs.Counts.{count_few, count_more, whole}
use Rattle.gs_report.proofs.workers.worker_counts.Goals as goal

pub count_entry-requires : goal.count_entry-requires
count_entry-requires c w lt =
    let inside : w < c.args.workers + 1 = omega (arith, ap length c.deref_mut.ensures.value, c.loop-entry.invariant.many, lt) in
    let here : slice_index c.deref_mut.result.now w ≡ worker_commits (take c.loop-entry.entry-index c.args.entries.now) w =
    ap (λ xs. slice_index xs w) c.deref_mut.ensures.value ∙ c.loop-entry.invariant.each w inside in
    omega (arith, here, count_few c.args.entries.now c.loop-entry.entry-index w c.loop-entry-test.true, c.loop-entry-test.true)

pub loop-entry-preserved : goal.loop-entry-preserved
loop-entry-preserved c =
    let same : length c.count_entry.new.counts ≡ length c.loop-entry.counts.items = omega (arith, ap length c.deref_mut.ensures.value, c.count_entry.auto.counts) in
    let written : take c.loop-entry.counts.len (c.count_entry.new.counts ++ drop (length c.count_entry.new.counts) c.loop-entry.counts.items) ≡ c.count_entry.new.counts =
    whole c.loop-entry.counts.len c.count_entry.new.counts c.loop-entry.counts.items same (omega arith) in
    record {
      many = ap length written ∙ same ∙ c.loop-entry.invariant.many;
      each = λ w inside. ap (λ xs. slice_index xs w) written
          ∙ c.count_entry.ensures w (omega (arith, ap length c.deref_mut.ensures.value, c.loop-entry.invariant.many, inside))
          ∙ ap (λ xs. slice_index xs w + worker_commits (c.entry-item.result ∷ []) w) c.deref_mut.ensures.value
          ∙ ap (λ n. n + worker_commits (c.entry-item.result ∷ []) w) (c.loop-entry.invariant.each w inside)
          ∙ sym (count_more c.args.entries.now c.loop-entry.entry-index c.entry-item.result w c.loop-entry-test.true c.entry-item.is);
    }

pub returns : goal.returns
returns c =
    fill_by_all (worker_commits c.args.entries.now) c.loop-entry.counts.items (c.args.workers + 1) 0 c.loop-entry.invariant.many
    (λ w inside. c.loop-entry.invariant.each w inside ∙ ap (λ es. worker_commits es w) (take_all c.loop-entry.entry-index c.args.entries.now c.loop-entry-test.false))
