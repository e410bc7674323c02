use Rattle.std.proofs.Common.{◌∙◌, refl, sym, ap, arith, length, length-set, Some}
use Rattle.std.specs.Vec.{with_item}
use Rattle.gs_verilog.proofs.Hashes.{place_by}
use Rattle.gs_verilog.proofs.Keys.{found_after, found_by_key, on_err}
use Rattle.gs_verilog.proofs.names.NameMap.insert.Goals as goal

pub returns : goal.returns
returns c =
    let m = c.args.self.now in
    let b = c.index_mut-bucket.result.now in
    let p = c.place-place.result in
    let name = c.args.name.now in
    let place = place_by name c.hashes_of-front.result.0 (length m.buckets.items) p c.place-place.ensures.place c.hashes_of-front.ensures.front in
    record {
      buckets = omega (arith, c.requires, length-set m.buckets.items p c.insert.new.self);
      old = c.in_ok-old.ensures.old
          ∙ found_by_key m (c.hashes_of-front.result.1, c.args.name) name p b c.requires c.hashes_of-front.ensures.whole refl place c.index_mut-bucket.ensures.value;
      updates = found_after m (record { buckets = with_item m.buckets p c.insert.new.self }) (c.hashes_of-front.result.1, c.args.name) name (Some c.args.number) p b c.insert.new.self
          c.requires c.hashes_of-front.ensures.whole refl place c.index_mut-bucket.ensures.value refl c.in_ok-old.ensures.updates.0;
      absent = tt;
      err = tt;
    }

pub returns-in_err-old-clause-absent : goal.returns-in_err-old-clause-absent
returns-in_err-old-clause-absent c =
    let m = c.args.self.now in
    let p = c.place-place.result in
    let name = c.args.name.now in
    let place = place_by name c.hashes_of-front.result.0 (length m.buckets.items) p c.place-place.ensures.place c.hashes_of-front.ensures.front in
    on_err c.from_residual.result
    (sym (found_by_key m (c.hashes_of-front.result.1, c.args.name) name p c.index_mut-bucket.result.now c.requires c.hashes_of-front.ensures.whole refl place c.index_mut-bucket.ensures.value)
    ∙ c.in_err-old.ensures.absent)
