use Rattle.gs_sdc.specs.Reads.{names_of}
use Rattle.gs_sdc.specs.declared.command.Quantity.TheVariants.{InputDelay, OutputDelay, PortLoad}
use Rattle.gs_sdc.proofs.Steps.{gives_step}
use Rattle.gs_sdc.proofs.reader.Reader.give.Goals as goal

pub returns-in-InputDelay : goal.returns-in-InputDelay
returns-in-InputDelay c =
    let s = gives_step c.give.result c.args.quantity InputDelay c.in-InputDelay.is c.args.self.now c.give.new.self c.args.amount (names_of c.args.bytes.now c.args.names.now)
    c.requires.kept c.requires.amount c.give.ensures.kept c.give.ensures.list c.give.ensures.fresh c.give.ensures.err in
    record { kept = s.kept; ok = s.holds; good = s.good; err = s.err }

pub returns-in-OutputDelay : goal.returns-in-OutputDelay
returns-in-OutputDelay c =
    let s = gives_step c.give-in-OutputDelay.result c.args.quantity OutputDelay c.in-OutputDelay.is c.args.self.now c.give-in-OutputDelay.new.self c.args.amount (names_of c.args.bytes.now c.args.names.now)
    c.requires.kept c.requires.amount c.give-in-OutputDelay.ensures.kept c.give-in-OutputDelay.ensures.list c.give-in-OutputDelay.ensures.fresh c.give-in-OutputDelay.ensures.err in
    record { kept = s.kept; ok = s.holds; good = s.good; err = s.err }

pub returns-in-PortLoad : goal.returns-in-PortLoad
returns-in-PortLoad c =
    let s = gives_step c.give-in-PortLoad.result c.args.quantity PortLoad c.in-PortLoad.is c.args.self.now c.give-in-PortLoad.new.self c.args.amount (names_of c.args.bytes.now c.args.names.now)
    c.requires.kept c.requires.amount c.give-in-PortLoad.ensures.kept c.give-in-PortLoad.ensures.list c.give-in-PortLoad.ensures.fresh c.give-in-PortLoad.ensures.err in
    record { kept = s.kept; ok = s.holds; good = s.good; err = s.err }
