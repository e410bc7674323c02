use Rattle.std.proofs.Common.{◌+◌, ◌≤◌, ◌∙◌, length, ap, refl, arith}
use Rattle.gs_expr.specs.Machine.{ended, tables_of}
use Rattle.gs_expr.proofs.Cuts.{length-rest}
use Rattle.gs_expr.proofs.Reading.{white_read, white_names, token_read, token_names, token_refused, all_read}
use Rattle.gs_expr.proofs.evaluate.read.Goals as goal

pub loop-at-preserved-in-Gap : goal.loop-at-preserved-in-Gap
loop-at-preserved-in-Gap c = record {
  within = omega arith;
  so_far = white_read c.args.bytes.now c.args.names.now c.loop-at.at c.loop-at-test.true (tables_of c.loop-at.reader) c.in-Gap.ensures.value c.loop-at.invariant.so_far;
  unknown = white_names c.args.bytes.now c.args.names.now c.loop-at.at c.loop-at-test.true c.loop-at.unknown c.in-Gap.ensures.value c.loop-at.invariant.unknown;
}

pub loop-at-preserved : goal.loop-at-preserved
loop-at-preserved c =
    let bytes = c.args.bytes.now in
    let names = c.args.names.now in
    let fits : c.loop-at.at + c.in-Found.len ≤ length bytes = omega (arith, c.in-Found.ensures.fits.1, length-rest bytes (c.loop-at.at + 1)) in
    record {
      within = fits;
      so_far =
          token_read bytes names c.loop-at.at c.loop-at-test.true c.in-Found.class c.in-Found.len c.in-Found.ensures.value c.in-Found.ensures.fits.0
          _ refl c.symbol_of-symbol.result c.symbol_of-symbol.ensures (tables_of c.loop-at.reader) (tables_of c.take.new.self) c.in-Ok.ensures.ok c.loop-at.invariant.so_far;
      unknown =
          token_names bytes names c.loop-at.at c.loop-at-test.true c.in-Found.class c.in-Found.len c.in-Found.ensures.value c.in-Found.ensures.fits.0
          _ refl c.symbol_of-symbol.result c.symbol_of-symbol.ensures c.loop-at.unknown c.met-unknown.result c.met-unknown.ensures c.loop-at.invariant.unknown;
    }

pub returns-in-Err : goal.returns-in-Err
returns-in-Err c =
    token_refused c.args.bytes.now c.args.names.now c.loop-at.at c.loop-at-test.true c.in-Found.class c.in-Found.len c.in-Found.ensures.value c.in-Found.ensures.fits.0
    _ refl c.symbol_of-symbol.result c.symbol_of-symbol.ensures (tables_of c.loop-at.reader) c.in-Err.error c.refusal.result c.refusal.ensures c.in-Err.ensures.err c.loop-at.invariant.so_far

pub returns : goal.returns
returns c =
    all_read c.args.bytes.now c.args.names.now c.loop-at.at (tables_of c.loop-at.reader) c.loop-at.unknown c.loop-at-test.false c.loop-at.invariant.so_far c.loop-at.invariant.unknown
    c.ended.result (c.ended.ensures ∙ ap (ended (length c.args.names.now) (length c.args.bytes.now) c.loop-at.unknown) c.finish.ensures)
