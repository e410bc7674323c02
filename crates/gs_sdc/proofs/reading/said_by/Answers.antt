use Rattle.std.proofs.Common.{◌∙◌, List, ap, map, subst, sym}
use Rattle.std.specs.List.{All}
use Rattle.gs_sdc.specs.Command.{meaning}
use Rattle.gs_sdc.specs.Reads.{HasInside, part_of}
use Rattle.gs_sdc.specs.declared.parts.Part.{Part}
use Rattle.gs_sdc.proofs.PartReads.{inside_some, said_some}
use Rattle.gs_sdc.proofs.reading.said_by.Goals as goal

pub returns-in-Some-clause-value : goal.returns-in-Some-clause-value
returns-in-Some-clause-value c = λ bytes.
    c.meaning.ensures.value bytes
    ∙ ap (λ (ps : List Part). meaning c.args.units c.args.command (map (part_of bytes) ps)) c.as_slice.ensures.value
    ∙ said_some c.args.units c.args.command c.args.found.now c.in-Some.parts (λ v. map (part_of bytes) v.items) c.in-Some.is

pub returns-in-Some-clause-inside : goal.returns-in-Some-clause-inside
returns-in-Some-clause-inside c = λ bytes h.
    c.meaning.ensures.inside bytes
    (subst (λ (ps : List Part). All (HasInside bytes) ps) (sym c.as_slice.ensures.value)
    (inside_some c.args.found.now c.in-Some.parts (λ v. All (HasInside bytes) v.items) c.in-Some.is h))
