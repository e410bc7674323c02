use Rattle.std.proofs.Common.{None}
use Rattle.gs_sdc.specs.declared.error.Fault.TheVariants.{BadLine}
use Rattle.gs_sdc.proofs.Steps.{other_told, says_some, some_apart}
use Rattle.gs_sdc.proofs.reader.Reader.take.Goals as goal

pub returns-in-Some : goal.returns-in-Some
returns-in-Some c =
    let s = says_some c.take_reading.result c.args.self.now c.take_reading.new.self c.args.bytes.now c.args.reading.now _ c.in-Some.is
    (record { kept = c.take_reading.ensures.kept; holds = c.take_reading.ensures.ok; good = c.take_reading.ensures.good; err = c.take_reading.ensures.err }) in
    let told = other_told BadLine c.take_reading.result c.args.reading.now _ None c.in-Some.is (some_apart _) in
    record { kept = s.kept; ok = s.holds; good = s.good; err = s.err; told = told }
