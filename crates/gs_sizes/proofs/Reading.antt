-- What is said of a text's lines is that they give sizes, or its one cause.

use Rattle.std.proofs.Common.{◌≡◌, ◌≢◌, ℕ, zero, suc, ◌<◌, List, [], ◌∷◌, map, length, slice_index, slice_index_or, refl, sym, ap, subst, ◌∙◌, true, false, Option, None, Some, Ok, Err, arith}
use Rattle.std.specs.List.{position_from}
use Rattle.std.proofs.lemmas.List.{length-map}
use Rattle.std.proofs.lemmas.List.FromFn.{get_or-map-range_with_len, length-map-range_with_len}
use Rattle.gs_design.specs.Insts.{inst_at}
use Rattle.gs_design.specs.Sizes.{FitSizes}
use Rattle.gs_design.specs.Parts.{parts_of}
use Rattle.gs_design.specs.declared.design.Design.{Design}
use Rattle.gs_design.specs.declared.parts.Parts.{Parts}
use Rattle.gs_grammar.specs.Judged.{upon, AreGood, IsFirstFault, first_fault}
use Rattle.gs_grammar.proofs.Judged.{all_good, finds, good_none, is_first}
use Rattle.gs_sizes.specs.Lines.{Row}
use Rattle.gs_sizes.specs.Reader.{all_given, ended_by, is_none, judged, or_zero, reading, refusal_of}
use Rattle.gs_sizes.specs.Refusal.{Cause, IsFirstAbsent, IsFirstAt}
use Rattle.gs_sizes.specs.Sizes.{GivesSizes, fault, given}
use Rattle.gs_sizes.specs.declared.error.Fault.{Fault}
use Rattle.gs_sizes.specs.declared.error.Fault.TheVariants as faults
use Rattle.gs_sizes.specs.declared.error.SizesErr.{SizesErr}
use Rattle.gs_sizes.specs.declared.error.SizesErr.TheVariants.{BadLine, Unknown, Twice, WrongCell, Absent, Mem}
use Rattle.gs_sizes.proofs.Given.{given_below}
use Rattle.gs_sizes.proofs.Positions.{IsFirstPass, found_at, found_first, none_passes, nowhere}

none_is : (o : Option ℕ) → is_none o ≡ true → o ≡ None
none_is None e = refl
none_is (Some p) e = cc

some_is : (o : Option ℕ) → is_none o ≡ false → o ≡ Some (or_zero o)
some_is None e = cc
some_is (Some p) e = refl

is_some : (o : Option ℕ) → o ≢ None → is_none o ≡ false
is_some None ne = absurd (ne refl)
is_some (Some p) ne = refl

zeros : (os : List (Option ℕ)) (k : ℕ) → k < length os → slice_index (map or_zero os) k ≡ or_zero (slice_index_or os k None)
zeros [] k lt = absurd (omega arith)
zeros (o ∷ os) zero lt = refl
zeros (o ∷ os) (suc k) lt = zeros os k (omega arith)

all_there : (os : List (Option ℕ)) (s : List ℕ) → length s ≡ length os → ((k : ℕ) → k < length os → slice_index_or os k None ≡ Some (slice_index s k)) → map or_zero os ≡ s
all_there [] [] many each = refl
all_there [] (x ∷ s) many each = absurd (omega arith)
all_there (o ∷ os) [] many each = absurd (omega arith)
all_there (o ∷ os) (x ∷ s) many each =
    let first : o ≡ Some x = each 0 (omega arith) in
    let rest : map or_zero os ≡ s = all_there os s (omega arith) (λ k lt. each (suc k) (omega arith)) in
    ap (λ y. or_zero y ∷ map or_zero os) first ∙ ap (λ ys. x ∷ ys) rest

module _ (d : Parts) (ls : List Row) where
  abbrev past : List Row
  past = upon [] ls

  many : length (all_given d past) ≡ length d.insts
  many = length-map-range_with_len (given d past) 0 (length d.insts)

  at : (g : ℕ) → g < length d.insts → slice_index_or (all_given d past) g None ≡ given d past g
  at g lt = get_or-map-range_with_len (given d past) 0 (length d.insts) g g None lt (omega arith)

  sound_end : (o : Option ℕ) (s : List ℕ) → position_from is_none 0 (all_given d past) ≡ o → AreGood (fault d) [] ls → ended_by d (length ls) (all_given d past) o ≡ Ok s → GivesSizes d ls s
  sound_end None s e good h =
      let same : map or_zero (all_given d past) ≡ s = cc in
      record {
        good = good;
        as_many = ap length (sym same) ∙ length-map (all_given d past) or_zero ∙ many;
        each = λ g lt.
            sym (at g lt) ∙ some_is (slice_index_or (all_given d past) g None) (none_passes is_none (all_given d past) None 0 g e (omega (arith, many)))
            ∙ ap Some (sym (zeros (all_given d past) g (omega (arith, many))) ∙ ap (λ xs. slice_index xs g) same);
      }
  sound_end (Some g) s e good h = cc

  sound_by : (o : Option (Row × Fault)) (s : List ℕ) → first_fault (fault d) [] ls ≡ o → judged d ls o ≡ Ok s → GivesSizes d ls s
  sound_by None s e h = sound_end (position_from is_none 0 (all_given d past)) s refl (all_good (fault d) [] ls e) h
  sound_by (Some (l, f)) s e h = cc

  pub sound : (s : List ℕ) → reading d ls ≡ Ok s → GivesSizes d ls s
  sound s h = sound_by (first_fault (fault d) [] ls) s refl h

  -- a text without a fault is judged by its end
  good_end : AreGood (fault d) [] ls → (o : Option ℕ) → position_from is_none 0 (all_given d past) ≡ o → reading d ls ≡ ended_by d (length ls) (all_given d past) o
  good_end good o e = ap (judged d ls) (good_none (fault d) [] ls good) ∙ ap (ended_by d (length ls) (all_given d past)) e

  pub complete : (s : List ℕ) → GivesSizes d ls s → reading d ls ≡ Ok s
  complete s t =
      good_end t.good None (nowhere is_none (all_given d past) None 0 (λ g lt. let inside : g < length d.insts = omega (arith, many) in ap is_none (at g inside ∙ t.each g inside)))
      ∙ ap Ok (all_there (all_given d past) s (t.as_many ∙ sym many) (λ g lt. let inside : g < length d.insts = omega (arith, many) in at g inside ∙ t.each g inside))

  cause_of : (l : Row) (f : Fault) → IsFirstFault (fault d) ls l f → Cause d ls (refusal_of l.number f)
  cause_of l faults.BadLine q = record { line = l; first = q; number = refl }
  cause_of l faults.Unknown q = record { line = l; first = q; number = refl }
  cause_of l faults.Twice q = record { line = l; first = q; number = refl }
  cause_of l faults.WrongCell q = record { line = l; first = q; number = refl }

  absent_by : (g : ℕ) → AreGood (fault d) [] ls → IsFirstPass is_none (all_given d past) None 0 g → IsFirstAbsent d ls (inst_at d.insts g).name (length ls)
  absent_by g good q =
      let here : g ≡ q.place = omega (arith, q.is) in
      let inside : q.place < length d.insts = omega (arith, q.inside, many) in
      record {
        good = good;
        inst = q.place;
        inst_in = inside;
        absent = sym (at q.place inside) ∙ none_is (slice_index_or (all_given d past) q.place None) q.passes;
        earlier = λ h lt e. let none : is_none (slice_index_or (all_given d past) h None) ≡ true = ap is_none (at h (omega arith) ∙ e) in let some = q.before h lt in cc;
        name_is = ap (λ i. (inst_at d.insts i).name) here;
        number = refl;
      }

  cause_end : (o : Option ℕ) (e : SizesErr) → position_from is_none 0 (all_given d past) ≡ o → AreGood (fault d) [] ls → ended_by d (length ls) (all_given d past) o ≡ Err e → Cause d ls e
  cause_end None e k good h = cc
  cause_end (Some g) e k good h =
      let same : Absent (inst_at d.insts g).name (length ls) ≡ e = cc in
      subst (Cause d ls) same (absent_by g good (found_first is_none (all_given d past) None 0 g k))

  cause_by : (o : Option (Row × Fault)) (e : SizesErr) → first_fault (fault d) [] ls ≡ o → judged d ls o ≡ Err e → Cause d ls e
  cause_by None e k h = cause_end (position_from is_none 0 (all_given d past)) e refl (all_good (fault d) [] ls k) h
  cause_by (Some (l, f)) e k h =
      let same : refusal_of l.number f ≡ e = cc in
      subst (Cause d ls) same (cause_of l f (is_first (fault d) ls l f k))

  pub causes : (e : SizesErr) → reading d ls ≡ Err e → Cause d ls e
  causes e h = cause_by (first_fault (fault d) [] ls) e refl h

  at_first : (f : Fault) (i : ℕ) → IsFirstAt d ls f i → reading d ls ≡ Err (refusal_of i f)
  at_first f i q = ap (judged d ls) (finds (fault d) ls q.line f q.first) ∙ ap (λ n. Err (refusal_of n f)) q.number

  at_absent : (name : List ℕ) (i : ℕ) → IsFirstAbsent d ls name i → reading d ls ≡ Err (Absent name i)
  at_absent name i q =
      good_end q.good (Some q.inst) (found_at is_none (all_given d past) None 0 q.inst (omega (arith, q.inst_in, many)) (ap is_none (at q.inst q.inst_in ∙ q.absent))
      (λ h lt. let inside : h < length d.insts = omega (arith, q.inst_in) in ap is_none (at h inside) ∙ is_some (given d past h) (q.earlier h lt)) ∙ ap Some (omega arith))
      ∙ ap (λ n. Err (Absent n (length ls))) (sym q.name_is) ∙ ap (λ n. Err (Absent name n)) (sym q.number)

  pub caused : (e : SizesErr) → e ≢ Mem → Cause d ls e → reading d ls ≡ Err e
  caused (BadLine i) n q = at_first faults.BadLine i q
  caused (Unknown i) n q = at_first faults.Unknown i q
  caused (Twice i) n q = at_first faults.Twice i q
  caused (WrongCell i) n q = at_first faults.WrongCell i q
  caused (Absent name i) n q = at_absent name i q
  caused Mem n q = absurd (n refl)

  named : (i : ℕ) (f : Fault) → refusal_of i f ≢ Mem
  named i faults.BadLine h = cc
  named i faults.Unknown h = cc
  named i faults.Twice h = cc
  named i faults.WrongCell h = cc

  lasts_end : (o : Option ℕ) (e : SizesErr) → ended_by d (length ls) (all_given d past) o ≡ Err e → e ≢ Mem
  lasts_end None e h k = cc
  lasts_end (Some g) e h k = cc

  lasts_by : (o : Option (Row × Fault)) (e : SizesErr) → judged d ls o ≡ Err e → e ≢ Mem
  lasts_by None e h k = lasts_end (position_from is_none 0 (all_given d past)) e h k
  lasts_by (Some (l, f)) e h k =
      let same : refusal_of l.number f ≡ e = cc in
      named l.number f (same ∙ k)

  -- want of memory is never said
  pub lasts : (e : SizesErr) → reading d ls ≡ Err e → e ≢ Mem
  lasts e h = lasts_by (first_fault (fault d) [] ls) e h

-- what is given fits the design of these parts
pub fits : (d : Design) (ls : List Row) (s : List ℕ) → GivesSizes (parts_of d) ls s → FitSizes d s
fits d ls s t = record { as_many = t.as_many; places_in = λ g lt. given_below (parts_of d) (upon [] ls) g (slice_index s g) (t.each g lt) }
