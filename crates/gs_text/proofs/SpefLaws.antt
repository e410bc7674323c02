-- What begins at a byte of a SPEF text.
use Rattle.std.proofs.Common.{◌≡◌, ◌≢◌, ℕ, ◌+◌, slice_index, Bool, true, false, List, ◌∷◌, arith}
use Rattle.std.proofs.lemmas.Bool.Decides.{nat_tests}
use Rattle.gs_text.proofs.Says.{Says, IsFound, IsPassed, either, solid_run, rest_of_line}
use Rattle.gs_text.proofs.Until.{until-le-length, run-ends, run-inside}
use Rattle.gs_text.specs.Bytes.{is_white}
use Rattle.gs_text.specs.Runs.{until, is_blank, is_newline, opens_line_comment}
use Rattle.gs_text.specs.Spef.{spef_front}
use Rattle.gs_text.specs.declared.kinds.Kind.TheVariants.{Word}
use Rattle.gs_text.specs.declared.kinds.Style.TheVariants.{Spef}
use Rattle.gs_text.specs.declared.scan.Front.{Front}

blank-white : (c next : ℕ) → is_blank c next ≡ false → is_white c ≡ false
blank-white c next e = e

a_word : (braced begun : Bool) (c : ℕ) (cs : List ℕ) → is_white c ≡ false → opens_line_comment c (slice_index cs 0) ≡ false → IsFound Spef braced begun Word (until is_blank cs + 1) (c ∷ cs)
a_word braced begun c cs solid apart = record {
  room = omega arith;
  some = omega arith;
  within = omega (arith, until-le-length is_blank cs);
  solid = solid_run is_blank blank-white c cs solid;
  whole = (record { inside = run-inside is_blank c cs solid; whole = run-ends is_blank c cs }, apart);
}

slashes : (c d : ℕ) → opens_line_comment c d ≡ true → (c ≡ 47) × (d ≡ 47)
slashes c d e = (grind (arith, nat_tests), grind (arith, nat_tests))

not_ten : (c : ℕ) → c ≡ 47 → c ≢ 10
not_ten c e f = omega (arith, e, f)

a_comment : (c : ℕ) (cs : List ℕ) → opens_line_comment c (slice_index cs 0) ≡ true → IsPassed Spef (until is_newline cs + 1) (c ∷ cs)
a_comment c cs e =
    let b : (c ≡ 47) × (slice_index cs 0 ≡ 47) = slashes c (slice_index cs 0) e in
    record {
      some = omega arith;
      within = omega (arith, until-le-length is_newline cs);
      skipped = record { slash = b.0; slashes = b.1; rest = rest_of_line c cs (not_ten c b.0) };
    }

pub spef-says : (braced begun : Bool) (c : ℕ) (cs : List ℕ) → Says Spef braced begun (c ∷ cs) (spef_front c cs)
spef-says braced begun c cs =
    let P : Front → Type 0 = Says Spef braced begun (c ∷ cs) in
    either P (is_white c) _ _ (λ e. e)
    (λ solid. either P (opens_line_comment c (slice_index cs 0)) _ _ (λ e. a_comment c cs e)
    (λ apart. a_word braced begun c cs solid apart))
