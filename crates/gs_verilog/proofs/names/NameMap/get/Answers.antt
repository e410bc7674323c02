use Rattle.std.proofs.Common.{◌∙◌, length, refl}
use Rattle.gs_verilog.proofs.Hashes.{place_by}
use Rattle.gs_verilog.proofs.Keys.{found_by_key}
use Rattle.gs_verilog.proofs.names.NameMap.get.Goals as goal

pub returns : goal.returns
returns c =
    c.copied.ensures ∙ c.get.ensures.value
    ∙ found_by_key c.args.self.now (c.hashes_of-front.result.1, c.args.name) c.args.name.now c.place.result c.index-bucket.result.now
    c.requires c.hashes_of-front.ensures.whole refl (place_by c.args.name.now c.hashes_of-front.result.0 (length c.args.self.now.buckets.items) c.place.result c.place.ensures.place c.hashes_of-front.ensures.front) c.index-bucket.ensures
