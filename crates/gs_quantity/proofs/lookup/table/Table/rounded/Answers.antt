use Rattle.std.proofs.Common.{length}
use Rattle.gs_quantity.proofs.Spots.{rounded_from, nearest_from}
use Rattle.gs_quantity.proofs.lookup.table.Table.rounded.Goals as goal

pub returns-clause-value : goal.returns-clause-value
returns-clause-value c =
    let t = c.args.self.now in
    rounded_from t.xs t.ys t.zs c.args.slew c.args.load c.value.result c.find_spot-along.result c.find_spot-across.result
    c.value.ensures c.find_spot-along.ensures.value c.find_spot-across.ensures.value

pub returns-clause-nearest : goal.returns-clause-nearest
returns-clause-nearest c =
    let t = c.args.self.now in
    nearest_from t.xs t.ys t.zs c.args.slew c.args.load c.value.result (length t.xs) (length t.ys) c.find_spot-along.result c.find_spot-across.result
    c.value.ensures c.find_spot-along.ensures.value c.find_spot-across.ensures.value
    c.find_spot-along.ensures.small c.find_spot-across.ensures.small
