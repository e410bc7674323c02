-- What begins at a byte, in all styles.
use Rattle.std.proofs.Common.{◌≡◌, ◌∙◌, refl, ℕ, zero, suc, ◌+◌, ◌==◌, Bool, false, cond, List, [], ◌∷◌, length, take, arith, subst, sym}
use Rattle.std.specs.List.{count_by}
use Rattle.std.proofs.lemmas.Bool.Decides.{nat_tests}
use Rattle.std.proofs.lemmas.List.Sums.{sum_by-cons}
use Rattle.gs_text.proofs.LibertyLaws.{liberty-says}
use Rattle.gs_text.proofs.Says.{Says, IsFound, IsSolid, Solid}
use Rattle.gs_text.proofs.SdcLaws.{sdc-says}
use Rattle.gs_text.proofs.SpefLaws.{spef-says}
use Rattle.gs_text.proofs.VerilogLaws.{verilog-says}
use Rattle.gs_text.specs.Bytes.{is_white}
use Rattle.gs_text.specs.Front.{front, FitsIn}
use Rattle.gs_text.specs.Pieces.{IsOneLine}
use Rattle.gs_text.specs.declared.kinds.Kind.{Kind}
use Rattle.gs_text.specs.declared.kinds.Kind.TheVariants.{Word, Escaped, Text, Mark}
use Rattle.gs_text.specs.declared.kinds.Style.{Style}
use Rattle.gs_text.specs.declared.kinds.Style.TheVariants.{Verilog, Lib, Spef, Sdc}
use Rattle.gs_text.specs.declared.scan.Front.{Front}
use Rattle.gs_text.specs.declared.scan.Front.TheVariants.{Gap, Found, Passed, OpenString, OpenComment}

pub front-says : (style : Style) (braced begun : Bool) (c : ℕ) (cs : List ℕ) → Says style braced begun (c ∷ cs) (front style braced begun c cs)
front-says Verilog braced begun c cs = verilog-says braced begun c cs
front-says Lib braced begun c cs = liberty-says braced begun c cs
front-says Spef braced begun c cs = spef-says braced begun c cs
front-says Sdc braced begun c cs = sdc-says braced begun c cs

fits : (style : Style) (braced begun : Bool) (c : ℕ) (cs : List ℕ) (f : Front) → Says style braced begun (c ∷ cs) f → FitsIn (length cs + 1) f
fits style braced begun c cs Gap s = tt
fits style braced begun c cs (Found kind len) s = (s.room, s.some, omega (arith, s.within))
fits style braced begun c cs (Passed len) s = (s.some, omega (arith, s.within))
fits style braced begun c cs OpenString s = tt
fits style braced begun c cs OpenComment s = tt

-- what begins at a byte ends within the text
pub front-fits : (style : Style) (braced begun : Bool) (c : ℕ) (cs : List ℕ) → FitsIn (length cs + 1) (front style braced begun c cs)
front-fits style braced begun c cs = fits style braced begun c cs (front style braced begun c cs) (front-says style braced begun c cs)

-- bytes without white are on one line
not_newline : (c : ℕ) → is_white c ≡ false → c == 10 ≡ false
not_newline c e = grind (arith, nat_tests)

no_breaks : (n : ℕ) (xs : List ℕ) → Solid n xs → count_by (λ c. c == 10) (take n xs) ≡ 0
no_breaks zero xs solid = refl
no_breaks (suc n) [] solid = refl
no_breaks (suc n) (x ∷ xs) solid =
    let later : count_by (λ c. c == 10) (take n xs) ≡ 0 = no_breaks n xs (λ k lt. solid (suc k) (omega arith)) in
    let here : x == 10 ≡ false = not_newline x (solid 0 (omega arith)) in
    sum_by-cons (λ c. cond (c == 10) 1 0) x (take n xs) ∙ cc (later, here)

one_line_of : (kind : Kind) (len : ℕ) (bs : List ℕ) → IsSolid kind len bs → IsOneLine kind (take len bs)
one_line_of Word len bs solid = no_breaks len bs solid
one_line_of Escaped len bs solid = no_breaks len bs solid.1
one_line_of Text len bs solid = tt
one_line_of Mark len bs solid = no_breaks len bs solid

-- no piece but a string has a newline
pub one_line : (style : Style) (braced begun : Bool) (c : ℕ) (cs : List ℕ) (kind : Kind) (len : ℕ) → Found kind len ≡ front style braced begun c cs → IsOneLine kind (take len (c ∷ cs))
one_line style braced begun c cs kind len e =
    let found : IsFound style braced begun kind len (c ∷ cs) = subst (Says style braced begun (c ∷ cs)) (sym e) (front-says style braced begun c cs) in
    one_line_of kind len (c ∷ cs) found.solid
