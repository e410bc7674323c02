-- The reader's loop, over lines.

use Rattle.std.proofs.Common.{◌≡◌, ℕ, List, [], ◌∷◌, inl, inr, length, refl, sym, ap, subst, ◌∙◌, Option, None, Result, Err}
use Rattle.gs_grammar.specs.Answers.{Answers, Fails}
use Rattle.gs_grammar.specs.Judged.{upon, first_fault}
use Rattle.gs_grammar.proofs.Judged.{goes_on, halts, no_fault}
use Rattle.gs_design.specs.declared.parts.Parts.{Parts}
use Rattle.gs_sizes.specs.Lines.{Row, row_of}
use Rattle.gs_sizes.specs.Reader.{Holds, Stops, all_given, ended, judged, reading, refusal_of, refused_at}
use Rattle.gs_sizes.specs.Sizes.{fault}
use Rattle.gs_sizes.specs.declared.error.Fault.{Fault}
use Rattle.gs_sizes.specs.declared.error.SizesErr.{SizesErr}
use Rattle.gs_sizes.specs.declared.error.Stop.{Stop}
use Rattle.gs_sizes.specs.declared.error.Stop.TheVariants as stops
use Rattle.gs_sizes.proofs.Given.{all_held}

-- all lines but those left are read
pub record Reads (d : Parts) (left all : List Row) (places : List (Option ℕ)) : Type 0 where
  pub past : List Row
  pub so_far : first_fault (fault d) past left ≡ first_fault (fault d) [] all
  pub turned : upon past left ≡ upon [] all
  pub holds : Holds d places past

pub begins : (d : Parts) (all : List Row) (places : List (Option ℕ)) → Holds d places [] → Reads d all all places
begins d all places h = record { past = []; so_far = refl; turned = refl; holds = h }

pub turns : (d : Parts) (i : ℕ) (line : List ℕ) (rest all : List Row) (places new : List (Option ℕ)) → Reads d (row_of i line ∷ rest) all places
    → ((past : List Row) (k : ℕ) → Holds d places past → Holds d new (row_of k line ∷ past)) → ((past : List Row) (k : ℕ) → Holds d places past → fault d past (row_of k line) ≡ None)
    → Reads d rest all new
turns d i line rest all places new s holds good =
    record {
      past = row_of i line ∷ s.past;
      so_far = sym (goes_on (fault d) s.past (row_of i line) rest (good s.past i s.holds)) ∙ s.so_far;
      turned = s.turned;
      holds = holds s.past i s.holds;
    }

stops_at : (d : Parts) (i : ℕ) (line : List ℕ) (rest all : List Row) (places : List (Option ℕ)) (f : Fault) → Reads d (row_of i line ∷ rest) all places
    → ((past : List Row) (k : ℕ) → Holds d places past → Stops (stops.At f) (fault d past (row_of k line))) → reading d all ≡ Err (refusal_of i f)
stops_at d i line rest all places f s stop =
    ap (judged d all) (sym s.so_far ∙ halts (fault d) s.past (row_of i line) rest f (stop s.past i s.holds))

pub stops_for : (d : Parts) (i : ℕ) (line : List ℕ) (rest all : List Row) (places : List (Option ℕ)) (e : Stop) → Reads d (row_of i line ∷ rest) all places
    → ((past : List Row) (k : ℕ) → Holds d places past → Stops e (fault d past (row_of k line))) → Fails SizesErr.Mem (refused_at i e) (reading d all)
stops_for d i line rest all places (stops.At f) s stop = inr (stops_at d i line rest all places f s stop)
stops_for d i line rest all places stops.Mem s stop = inl refl

ends : (d : Parts) (all : List Row) (places : List (Option ℕ)) → Reads d [] all places → reading d all ≡ ended d (length all) places
ends d all places s =
    ap (judged d all) (sym s.so_far ∙ no_fault (fault d) s.past)
    ∙ ap (λ past. ended d (length all) (all_given d past)) (sym s.turned)
    ∙ ap (ended d (length all)) (sym (all_held d places s.past s.holds))

-- what is answered at the end is what is said of the whole
pub ends_with : (d : Parts) (all : List Row) (places : List (Option ℕ)) (count : ℕ) (r : Result (List ℕ) SizesErr) → Reads d [] all places → count ≡ length all
    → Answers SizesErr.Mem (ended d count places) r → Answers SizesErr.Mem (reading d all) r
ends_with d all places count r s many a =
    let P : Result (List ℕ) SizesErr → Type 0 = λ said. Answers SizesErr.Mem said r in
    subst P (ap (λ n. ended d n places) many ∙ sym (ends d all places s)) a
