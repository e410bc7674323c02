use Rattle.std.proofs.Common.{◌∙◌, ap, refl, sym, Some}
use Rattle.std.specs.Vec.{with_item}
use Rattle.gs_names.specs.Names.{hash_of}
use Rattle.gs_names.proofs.Keys.{found_after, found_by_key, on_err}
use Rattle.gs_names.proofs.names.NameMap.insert.Goals as goal

pub returns-clause-old : goal.returns-clause-old
returns-clause-old g c =
    let h = c.hash_of-hash.ensures ∙ ap hash_of c.as_bytes.ensures in
    c.in_ok-old.ensures.old
    ∙ found_by_key c.args.self.now c.hash_of-hash.result c.args.name c.place-place.result c.index_mut-bucket.result.now c.requires h c.place-place.ensures c.index_mut-bucket.ensures.value

pub returns-clause-updates : goal.returns-clause-updates
returns-clause-updates g c =
    let m = c.args.self.now in
    let h = c.hash_of-hash.ensures ∙ ap hash_of c.as_bytes.ensures in
    found_after m (record { buckets = with_item m.buckets c.place-place.result c.insert.new.self }) c.hash_of-hash.result c.args.name (Some c.args.value)
    c.place-place.result c.index_mut-bucket.result.now c.insert.new.self c.requires h c.place-place.ensures c.index_mut-bucket.ensures.value refl c.in_ok-old.ensures.updates.0

pub returns-in_err-old-clause-absent : goal.returns-in_err-old-clause-absent
returns-in_err-old-clause-absent g c =
    let h = c.hash_of-hash.ensures ∙ ap hash_of c.as_bytes.ensures in
    on_err c.from_residual.result
    (sym (found_by_key c.args.self.now c.hash_of-hash.result c.args.name c.place-place.result c.index_mut-bucket.result.now c.requires h c.place-place.ensures c.index_mut-bucket.ensures.value)
    ∙ c.in_err-old.ensures.absent)
