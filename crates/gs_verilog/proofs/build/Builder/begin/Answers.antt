use Rattle.std.proofs.Common.{◌≡◌, ℕ, List, [], ◌∷◌, ◌++◌, length, ap, sym, subst, ◌∙◌, Some}
use Rattle.std.specs.List.{list_any}
use Rattle.std.specs.Map.{update}
use Rattle.std.specs.Str.{bytes_eq}
use Rattle.gs_verilog.specs.Index.{PinAt}
use Rattle.gs_verilog.specs.Machine.{last_has}
use Rattle.gs_verilog.specs.Names.{find}
use Rattle.gs_verilog.specs.declared.parts.RawInst.{RawInst}
use Rattle.gs_verilog.proofs.Indexes.{named_new, pins_new}
use Rattle.gs_verilog.proofs.build.Builder.begin.Goals as goal

pub returns-clause-indexed : goal.returns-clause-indexed
returns-clause-indexed c =
    let b = c.args.self.now in
    let name = c.args.name.now in
    let is = b.insts.items in
    let i : RawInst = record { name = c.in_ok-copy_of.field-0; cell = c.in_ok-copy_of-2.field-0; links = c.empty.result } in
    let same : i.name ≡ name = c.in_ok-copy_of.ensures in
    let items : c.push.new.self.items ≡ is ++ i ∷ [] = c.in_ok-push.ensures.items in
    let f = find b.named in
    let pins = find b.pins in
    record {
      nets = c.requires.indexed.nets;
      directed = c.requires.indexed.directed;
      named_buckets = c.in_ok-insert.ensures.buckets;
      pins_buckets = c.requires.indexed.pins_buckets;
      named = λ q.
          named_new f _ is i c.len-count.result c.requires.indexed.named
          (λ r. c.in_ok-insert.ensures.updates r
          ∙ ap (λ (n : List ℕ). update bytes_eq f n (Some c.len-count.result) r) (sym same)) q
          ∙ ap (λ js. list_any (λ (j : RawInst). bytes_eq q j.name) js) (sym items);
      pins = λ q.
          let P : List RawInst → Type 0 = λ js. PinAt (length js) (pins q) (last_has js q) in
          subst P (sym items) (pins_new pins is i c.empty.ensures c.requires.indexed.pins q);
    }
