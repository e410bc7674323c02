use Rattle.std.proofs.Common.{ℕ, ◌≡◌, ◌∙◌, ◌++◌, ◌∷◌, [], ◌+◌, ◌≤◌, List, length, ap, sym, arith}
use Rattle.std.proofs.lemmas.List.Sums.{sum_by_push}
use Rattle.std.specs.List.{sum_by}
use Rattle.gs_link.proofs.FoundLaws.{found_here}
use Rattle.gs_link.proofs.Growing.{map_take}
use Rattle.gs_link.proofs.InputNets.{count_in, group_is, left_on, many, renamed_first}
use Rattle.gs_link.specs.Columns.{new_inputs}
use Rattle.gs_verilog.specs.declared.parts.RawInst.{RawInst}
use Rattle.gs_link.proofs.columns.find_new_inputs.Goals as goal

pub loop-i-init : goal.loop-i-init
loop-i-init c = record {
  so_far = c.in_ok-all.ensures;
  few = omega (arith, ap (sum_by length) c.in_ok-all.ensures);
  within = omega arith;
  left = renamed_first c.args.cells.now c.args.numbers.now c.args.insts.now c.args.reads.now c.in_ok-nets.nets.items c.requires.reads c.in_ok-nets.ensures;
}

pub input_count-count-requires : goal.input_count-count-requires
input_count-count-requires c = found_here c.args.cells.now c.args.insts.now c.args.found.now c.requires.found c.loop-i.i c.index-insts-i.result (omega arith) c.index-insts-i.is

pub part_of-requires : goal.part_of-requires
part_of-requires c =
    let fits : c.loop-i.start + c.input_count-count.result ≤ length c.in_ok-nets.nets.items =
    count_in c.args.cells.now c.args.numbers.now c.args.insts.now c.loop-i.i c.index-insts-i.result (omega arith) c.index-insts-i.is c.in_ok-nets.nets.items c.loop-i.start c.loop-i.invariant.left
    c.input_count-count.result c.input_count-count.ensures.count c.loop-i.invariant.within in
    rw c.as_slice.ensures.value fits

pub loop-i-preserved : goal.loop-i-preserved
loop-i-preserved c =
    let f : RawInst → List ℕ = new_inputs c.args.cells.now c.args.numbers.now in
    let inst = c.index-insts-i.result in
    let nets = c.in_ok-nets.nets.items in
    let count = c.input_count-count.result in
    let group : c.part_of.result.now ≡ f c.index-insts-i.result =
    (rw c.as_slice.ensures.value at c.part_of.ensures)
    ∙ group_is c.args.cells.now c.args.numbers.now c.args.insts.now c.loop-i.i inst (omega arith) c.index-insts-i.is nets c.loop-i.start c.loop-i.invariant.left count c.input_count-count.ensures.count in
    let fits : c.loop-i.start + c.input_count-count.result ≤ length c.in_ok-nets.nets.items =
    count_in c.args.cells.now c.args.numbers.now c.args.insts.now c.loop-i.i inst (omega arith) c.index-insts-i.is nets c.loop-i.start c.loop-i.invariant.left
    count c.input_count-count.ensures.count c.loop-i.invariant.within in
    let part_few : length c.part_of.result.now ≡ c.input_count-count.result =
    ap length group ∙ many c.args.cells.now c.args.numbers.now c.args.insts.now c.loop-i.i inst (omega arith) c.index-insts-i.is nets c.loop-i.start c.loop-i.invariant.left
    ∙ sym c.input_count-count.ensures.count in
    let more : sum_by length c.push.new.self ≡ sum_by length c.loop-i.all + length c.part_of.result.now = ap (sum_by length) c.in_ok-push.ensures.pushed ∙ sum_by_push length c.loop-i.all c.part_of.result.now in
    record {
      so_far = c.in_ok-push.ensures.pushed ∙ ap (λ ys. c.loop-i.all ++ ys ∷ []) group ∙ ap (λ xs. xs ++ f c.index-insts-i.result ∷ []) c.loop-i.invariant.so_far
          ∙ sym (map_take c.args.insts.now c.loop-i.i c.index-insts-i.result (omega arith) c.index-insts-i.is f);
      few = omega (arith, more, c.loop-i.invariant.few, part_few, c.input_count-count.ensures.few);
      within = fits;
      left = left_on c.args.cells.now c.args.numbers.now c.args.insts.now c.loop-i.i inst (omega arith) c.index-insts-i.is nets c.loop-i.start c.loop-i.invariant.left count c.input_count-count.ensures.count;
    }
