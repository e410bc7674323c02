use Rattle.std.proofs.Common.{◌≡◌, ℕ, ◌<◌, List, length, ap, sym, subst, ◌∙◌, Some, arith}
use Rattle.std.specs.List.{list_any}
use Rattle.std.specs.Map.{update}
use Rattle.std.specs.Str.{bytes_eq}
use Rattle.gs_verilog.specs.Index.{PinAt}
use Rattle.gs_verilog.specs.Machine.{last_has, with_link}
use Rattle.gs_verilog.specs.Names.{find}
use Rattle.gs_verilog.specs.declared.parts.Link.{Link}
use Rattle.gs_verilog.specs.declared.parts.RawInst.{RawInst}
use Rattle.gs_verilog.proofs.Indexes.{names_linked, pins_linked}
use Rattle.gs_verilog.proofs.build.Builder.link.Goals as goal

pub returns-clause-indexed : goal.returns-clause-indexed
returns-clause-indexed c =
    let b = c.args.self.now in
    let pin = c.args.pin.now in
    let is = b.insts.items in
    let l : Link = record { pin = c.in_ok-name.name; net = c.args.net } in
    let same : l.pin ≡ pin = c.in_ok-name.ensures in
    let items : c.add_link.new.insts.items ≡ with_link is l = c.in_ok-add_link.ensures.ok in
    let n : c.len-count.result ≡ length is = omega (arith, c.len-count.ensures, b.insts.ok) in
    let some : 0 < length is = omega (arith, n, c.if-count-eq0.false) in
    let pins = find b.pins in
    record {
      nets = c.requires.indexed.nets;
      directed = c.requires.indexed.directed;
      named_buckets = c.requires.indexed.named_buckets;
      pins_buckets = c.in_ok-insert.ensures.buckets;
      named = λ q.
          c.requires.indexed.named q ∙ sym (names_linked is l q) ∙ ap (λ js. list_any (λ (j : RawInst). bytes_eq q j.name) js) (sym items);
      pins = λ q.
          let P : List RawInst → Type 0 = λ js. PinAt (length js) (find c.insert.new.self q) (last_has js q) in
          subst P (sym items) (pins_linked pins _ is l some c.requires.indexed.pins
          (λ r. c.in_ok-insert.ensures.updates r
          ∙ ap (λ m. update bytes_eq pins pin (Some m) r) n
          ∙ ap (λ (p : List ℕ). update bytes_eq pins p (Some (length is)) r) (sym same)) q);
    }
