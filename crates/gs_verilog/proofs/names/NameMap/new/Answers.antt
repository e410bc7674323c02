use Rattle.std.proofs.Common.{arith}
use Rattle.gs_verilog.proofs.Keys.{none_found}
use Rattle.gs_verilog.proofs.names.NameMap.new.Goals as goal

pub returns : goal.returns
returns c =
    record {
      buckets = omega (arith, c.requires, c.in_ok-buckets.ensures.count);
      empty = none_found (record { buckets = c.in_ok-buckets.buckets }) c.in_ok-buckets.ensures.empty;
    }
