-- The reader's loop, over lines.

use Rattle.std.proofs.Common.{◌≡◌, ℕ, List, [], ◌∷◌, inl, inr, refl, sym, ap, ◌∙◌, Option, None, Some, Result, Ok, Err, if◌then◌else◌}
use Rattle.gs_grammar.specs.Answers.{Fails}
use Rattle.gs_grammar.specs.Judged.{upon, first_fault}
use Rattle.gs_grammar.proofs.Judged.{goes_on, halts, no_fault}
use Rattle.gs_spef.specs.Format.{is_open}
use Rattle.gs_spef.specs.Reader.{Holds, Stops, at_end, finished, judged, reading, refusal_of, refused_at}
use Rattle.gs_spef.specs.Spef.{Row, fault, place_of, wires}
use Rattle.gs_spef.specs.declared.error.Fault.{Fault}
use Rattle.gs_spef.specs.declared.error.Stop.{Stop}
use Rattle.gs_spef.specs.declared.error.Stop.TheVariants as stops
use Rattle.gs_spef.specs.declared.error.SpefErr.{SpefErr}
use Rattle.gs_spef.specs.declared.format.Place.{Place}
use Rattle.gs_spef.specs.declared.reader.Reader.{Reader}
use Rattle.gs_spef.specs.declared.wires.Wire.{Wire}

-- all lines but those left are read
pub record Reads (last : ℕ) (left all : List Row) (r : Reader) : Type 0 where
  pub past : List Row
  pub so_far : first_fault (fault last) past left ≡ first_fault (fault last) [] all
  pub turned : upon past left ≡ upon [] all
  pub holds : Holds r past

pub begins : (last : ℕ) (all : List Row) (r : Reader) → Holds r [] → Reads last all all r
begins last all r h = record { past = []; so_far = refl; turned = refl; holds = h }

pub turns : (last : ℕ) (l : Row) (rest all : List Row) (r new : Reader) → Reads last (l ∷ rest) all r
    → ((past : List Row) → Holds r past → Holds new (l ∷ past)) → ((past : List Row) → Holds r past → fault last past l ≡ None)
    → Reads last rest all new
turns last l rest all r new s holds good =
    record {
      past = l ∷ s.past;
      so_far = sym (goes_on (fault last) s.past l rest (good s.past s.holds)) ∙ s.so_far;
      turned = s.turned;
      holds = holds s.past s.holds;
    }

stops_at : (last : ℕ) (l : Row) (rest all : List Row) (r : Reader) (f : Fault) → Reads last (l ∷ rest) all r
    → ((past : List Row) → Holds r past → Stops (stops.At f) (fault last past l)) → reading last all ≡ Err (refusal_of l.number f)
stops_at last l rest all r f s stop =
    ap (judged last all) (sym s.so_far ∙ halts (fault last) s.past l rest f (stop s.past s.holds))

pub stops_for : (last : ℕ) (l : Row) (rest all : List Row) (r : Reader) (e : Stop) → Reads last (l ∷ rest) all r
    → ((past : List Row) → Holds r past → Stops e (fault last past l)) → Fails SpefErr.Mem (refused_at l.number e) (reading last all)
stops_for last l rest all r (stops.At f) s stop = inr (stops_at last l rest all r f s stop)
stops_for last l rest all r stops.Mem s stop = inl refl

pub ends : (last : ℕ) (all : List Row) (r : Reader) → Reads last [] all r → reading last all ≡ finished last r
ends last all r s =
    ap (judged last all) (sym s.so_far ∙ no_fault (fault last) s.past)
    ∙ ap (at_end last) (sym s.turned)
    ∙ ap (λ (p : Place). if is_open p then Err (SpefErr.BadLine last) else Ok (wires s.past)) (sym s.holds.place)
    ∙ ap (λ (ws : List Wire). if is_open r.place then Err (SpefErr.BadLine last) else Ok ws) (sym s.holds.wires_are)
