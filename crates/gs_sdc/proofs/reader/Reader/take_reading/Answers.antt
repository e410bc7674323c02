use Rattle.std.proofs.Common.{◌≡◌, ◌∷◌, List, Some, ap, sym, subst}
use Rattle.std.specs.Option.{option_map}
use Rattle.gs_sdc.specs.Command.{not_built}
use Rattle.gs_sdc.specs.Reader.{Holds}
use Rattle.gs_sdc.specs.Reads.{HasNumbers, NamesInside, names_of, reading_is, word_is}
use Rattle.gs_sdc.specs.declared.error.Fault.TheVariants.{NotBuilt}
use Rattle.gs_sdc.specs.declared.reading.Reading.{Reading}
use Rattle.gs_sdc.proofs.Steps.{clocks_apart, drives_apart, drives_step, gives_apart, other_told, passes_holds, says}
use Rattle.gs_sdc.proofs.reader.Reader.take_reading.Goals as goal

pub returns-in-Passes-clause-ok : goal.returns-in-Passes-clause-ok
returns-in-Passes-clause-ok c = λ past h number.
    subst (λ (x : Reading). Holds c.args.self.now (record { number = number; reading = Some (reading_is c.args.bytes.now x) } ∷ past)) (sym c.in-Passes.is)
    (passes_holds c.args.self.now past h number)

pub returns-in-Clocks : goal.returns-in-Clocks
returns-in-Clocks c =
    let s = says c.set_clock.result c.args.self.now c.set_clock.new.self c.args.bytes.now c.args.reading.now _ c.in-Clocks.is
    (record { kept = c.set_clock.ensures.kept; holds = c.set_clock.ensures.ok; good = c.set_clock.ensures.good; err = c.set_clock.ensures.err }) in
    let told = other_told NotBuilt c.set_clock.result (reading_is c.args.bytes.now c.args.reading.now) _ not_built (ap (reading_is c.args.bytes.now) c.in-Clocks.is) (clocks_apart _ _) in
    record { kept = s.kept; ok = s.holds; good = s.good; err = s.err; told = told }

pub returns-in-Gives : goal.returns-in-Gives
returns-in-Gives c =
    let s = says c.give.result c.args.self.now c.give.new.self c.args.bytes.now c.args.reading.now _ c.in-Gives.is
    (record { kept = c.give.ensures.kept; holds = c.give.ensures.ok; good = c.give.ensures.good; err = c.give.ensures.err }) in
    let told = other_told NotBuilt c.give.result (reading_is c.args.bytes.now c.args.reading.now) _ not_built (ap (reading_is c.args.bytes.now) c.in-Gives.is) (gives_apart _ _ _) in
    record { kept = s.kept; ok = s.holds; good = s.good; err = s.err; told = told }

pub returns-in-Drives : goal.returns-in-Drives
returns-in-Drives c =
    let d = c.in-Drives.driver in
    let numbers = subst HasNumbers c.in-Drives.is c.requires.numbers in
    let s = says c.drive.result c.args.self.now _ c.args.bytes.now c.args.reading.now _ c.in-Drives.is
    (drives_step c.drive.result c.args.self.now c.drive.new.self d.cell.now (option_map word_is d.pin) d.rise d.fall (names_of c.args.bytes.now c.in-Drives.names.now)
    c.requires.kept numbers.0 numbers.1 c.drive.ensures.kept c.drive.ensures.list c.drive.ensures.fresh c.drive.ensures.err) in
    let told = other_told NotBuilt c.drive.result (reading_is c.args.bytes.now c.args.reading.now) _ not_built (ap (reading_is c.args.bytes.now) c.in-Drives.is) (drives_apart _ _ _ _ _) in
    record { kept = s.kept; ok = s.holds; good = s.good; err = s.err; told = told }
