use Rattle.std.proofs.Common.{◌∙◌, ◌-◌, ap, arith, get_or, length}
use Rattle.gs_verilog.proofs.Hashes.{no_bytes, no_front, whole_hash}
use Rattle.gs_verilog.specs.Names.{hash_with}
use Rattle.gs_verilog.proofs.names.hashes_of.Goals as goal

pub returns-in-empty-clause-front : goal.returns-in-empty-clause-front
returns-in-empty-clause-front c = no_front c.args.name.now (omega (arith, c.in-empty.len_below))

pub returns-in-empty-clause-whole : goal.returns-in-empty-clause-whole
returns-in-empty-clause-whole c = no_bytes c.args.name.now (omega (arith, c.in-empty.len_below))

pub returns-in-len1-up-clause-whole : goal.returns-in-len1-up-clause-whole
returns-in-len1-up-clause-whole c =
    let name = c.args.name.now in
    c.hash_with.ensures
    ∙ ap (λ h. hash_with h (get_or name (length name - 1) 0)) c.hash_of-hash.ensures
    ∙ whole_hash name (omega (arith, c.in-len1-up.len_at_least))
