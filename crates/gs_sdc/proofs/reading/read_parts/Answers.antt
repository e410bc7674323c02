use Rattle.std.proofs.Common.{◌≡◌, ◌<◌, ◌∙◌, List, length, map, sym, ap, subst, arith, true, false}
use Rattle.std.specs.List.{All}
use Rattle.std.proofs.lemmas.List.{length-map}
use Rattle.std.proofs.lemmas.List.Elements.{All-push}
use Rattle.gs_sdc.specs.Reads.{HasInside, fits_is}
use Rattle.gs_sdc.specs.Token.{token_of}
use Rattle.gs_sdc.specs.declared.parts.Part.{Part}
use Rattle.gs_sdc.proofs.PartReads.{Reads, all_read_at, begins, no_part, none_inside, turns, unfit}
use Rattle.gs_sdc.proofs.reading.read_parts.Goals as goal

pub loop-left-init : goal.loop-left-init
loop-left-init c =
    let bytes = c.args.bytes.now in
    let all = map (token_of bytes) c.args.pieces.now in
    record {
      inside = c.requires;
      parts = subst (λ (ps : List Part). All (HasInside bytes) ps) (sym c.new-parts.ensures.items) (none_inside bytes);
      reads = subst (λ (ps : List Part). Reads c.args.command bytes ps all all) (sym c.new-parts.ensures.items) (begins c.args.command bytes all);
    }

pub loop-left-preserved : goal.loop-left-preserved
loop-left-preserved c =
    let bytes = c.args.bytes.now in
    let command = c.args.command in
    let left = c.loop-left.left.now in
    let parts = c.loop-left.parts.items in
    let part = c.in-Some.found.part in
    let rest = c.in-Some.found.rest.now in
    let all = map (token_of bytes) c.args.pieces.now in
    let some : 0 < length (map (token_of bytes) left) = omega (arith, length-map left (token_of bytes), c.in-Some.ensures.shorter) in
    let shorter : length (map (token_of bytes) rest) < length (map (token_of bytes) left) = omega (arith, length-map left (token_of bytes), length-map rest (token_of bytes), c.in-Some.ensures.shorter) in
    let fits : fits_is command parts part ≡ true = ap (λ (ps : List Part). fits_is command ps part) (sym c.as_slice.ensures.value) ∙ sym c.fits.ensures ∙ c.if-not-fits.false in
    record {
      inside = c.in-Some.ensures.rest;
      parts = subst (λ (ps : List Part). All (HasInside bytes) ps) (sym c.in_ok-push-in-Some.ensures.items) (All-push (HasInside bytes) parts part c.loop-left.invariant.parts c.in-Some.ensures.part);
      reads = subst (λ (ps : List Part). Reads command bytes ps (map (token_of bytes) rest) all) (sym c.in_ok-push-in-Some.ensures.items)
          (turns command bytes parts part (map (token_of bytes) left) (map (token_of bytes) rest) all c.loop-left.invariant.reads some shorter c.in-Some.ensures.value fits);
    }

pub returns-in-None-clause-value : goal.returns-in-None-clause-value
returns-in-None-clause-value c =
    let bytes = c.args.bytes.now in
    let left = c.loop-left.left.now in
    let some : 0 < length (map (token_of bytes) left) = omega (arith, length-map left (token_of bytes)) in
    no_part c.args.command bytes c.loop-left.parts.items (map (token_of bytes) left) (map (token_of bytes) c.args.pieces.now) c.loop-left.invariant.reads some c.in-None.ensures.value

pub returns-then-not-fits-clause-value : goal.returns-then-not-fits-clause-value
returns-then-not-fits-clause-value c =
    let bytes = c.args.bytes.now in
    let command = c.args.command in
    let left = c.loop-left.left.now in
    let parts = c.loop-left.parts.items in
    let part = c.in-Some.found.part in
    let rest = c.in-Some.found.rest.now in
    let some : 0 < length (map (token_of bytes) left) = omega (arith, length-map left (token_of bytes), c.in-Some.ensures.shorter) in
    let fits : fits_is command parts part ≡ false = ap (λ (ps : List Part). fits_is command ps part) (sym c.as_slice.ensures.value) ∙ sym c.fits.ensures ∙ c.if-not-fits.true in
    unfit command bytes parts part (map (token_of bytes) left) (map (token_of bytes) rest) (map (token_of bytes) c.args.pieces.now) c.loop-left.invariant.reads some c.in-Some.ensures.value fits

pub returns-clause-value : goal.returns-clause-value
returns-clause-value c =
    all_read_at c.args.command c.args.bytes.now c.loop-left.parts.items c.loop-left.left.now (map (token_of c.args.bytes.now) c.args.pieces.now) (omega arith) c.loop-left.invariant.reads
