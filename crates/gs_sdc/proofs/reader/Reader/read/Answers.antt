use Rattle.gs_sdc.proofs.Steps.{says_read}
use Rattle.gs_sdc.proofs.reader.Reader.read.Goals as goal

pub returns-in-Ok : goal.returns-in-Ok
returns-in-Ok c =
    let s = says_read c.take.result c.args.self.now c.take.new.self _ _ c.in-Ok.ensures.value
    (record { kept = c.take.ensures.kept; holds = c.take.ensures.ok; good = c.take.ensures.good; err = c.take.ensures.err }) in
    record { kept = s.kept; ok = s.holds; good = s.good; err = s.err }
