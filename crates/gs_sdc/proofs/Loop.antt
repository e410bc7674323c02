-- The reader's loop, over commands.

use Rattle.std.proofs.Common.{◌≡◌, ℕ, List, [], ◌∷◌, inl, inr, refl, sym, ap, subst, ◌∙◌, Option, None, Some, Result, Ok, Err}
use Rattle.gs_grammar.specs.Answers.{Fails}
use Rattle.gs_grammar.specs.Judged.{upon, first_fault}
use Rattle.gs_lines.specs.Lines.{Line}
use Rattle.gs_grammar.proofs.Judged.{goes_on, halts, no_fault}
use Rattle.gs_design.specs.declared.units.Units.{Units}
use Rattle.gs_sdc.specs.Front.{reading_of}
use Rattle.gs_sdc.specs.Reader.{Holds, Stops, answer_of, end_by, finished, finished_by, item_of, items_of, judged, refusal_of, refused_at, terms_by}
use Rattle.gs_sdc.specs.Sdc.{Item, clock, fault, fault_by, terms}
use Rattle.gs_sdc.specs.Terms.{Terms}
use Rattle.gs_sdc.specs.Token.{Token}
use Rattle.gs_sdc.specs.declared.constraints.Clock.{Clock}
use Rattle.gs_sdc.specs.declared.error.Fault.{Fault}
use Rattle.gs_sdc.specs.declared.error.Stop.{Stop}
use Rattle.gs_sdc.specs.declared.error.Stop.TheVariants as stops
use Rattle.gs_sdc.specs.declared.error.SdcErr.{SdcErr}
use Rattle.gs_sdc.specs.declared.reader.Reader.{Reader}

-- all commands but those left are read
pub record Reads (left all : List Item) (r : Reader) : Type 0 where
  pub past : List Item
  pub so_far : first_fault fault past left ≡ first_fault fault [] all
  pub turned : upon past left ≡ upon [] all
  pub holds : Holds r past

pub begins : (all : List Item) (r : Reader) → Holds r [] → Reads all all r
begins all r h = record { past = []; so_far = refl; turned = refl; holds = h }

pub turns : (i : Item) (rest all : List Item) (r new : Reader) → Reads (i ∷ rest) all r
    → ((past : List Item) → Holds r past → Holds new (i ∷ past)) → ((past : List Item) → Holds r past → fault past i ≡ None) → Reads rest all new
turns i rest all r new s holds good =
    record {
      past = i ∷ s.past;
      so_far = sym (goes_on fault s.past i rest (good s.past s.holds)) ∙ s.so_far;
      turned = s.turned;
      holds = holds s.past s.holds;
    }

stops_at : (last : ℕ) (i : Item) (rest all : List Item) (r : Reader) (f : Fault) → Reads (i ∷ rest) all r
    → ((past : List Item) → Holds r past → Stops (stops.At f) (fault past i)) → answer_of last all ≡ Err (refusal_of i.number f)
stops_at last i rest all r f s stop =
    ap (judged last all) (sym s.so_far ∙ halts fault s.past i rest f (stop s.past s.holds))

pub stops_for : (last : ℕ) (i : Item) (rest all : List Item) (r : Reader) (e : Stop) → Reads (i ∷ rest) all r
    → ((past : List Item) → Holds r past → Stops e (fault past i)) → Fails SdcErr.Mem (refused_at i.number e) (answer_of last all)
stops_for last i rest all r (stops.At f) s stop = inr (stops_at last i rest all r f s stop)
stops_for last i rest all r stops.Mem s stop = inl refl

terms_same : (c : Clock) (r : Reader) (past : List Item) → Holds r past → terms c past ≡ terms_by c r
terms_same c r past h = rw (h.inputs, h.outputs, h.loads, h.drivers_are) refl

end_same : (last : ℕ) (o : Option Clock) (r : Reader) (past : List Item) → Holds r past → end_by last o past ≡ finished_by last o r
end_same last None r past h = refl
end_same last (Some c) r past h = ap (λ t. Ok t) (terms_same c r past h)

pub ends : (last : ℕ) (all : List Item) (r : Reader) → Reads [] all r → answer_of last all ≡ finished last r
ends last all r s =
    ap (judged last all) (sym s.so_far ∙ no_fault fault s.past)
    ∙ ap (λ past. end_by last (clock past) past) (sym s.turned)
    ∙ ap (λ o. end_by last o s.past) (sym s.holds.clock_is)
    ∙ end_same last r.clock r s.past s.holds

-- ---- a line of tokens

pub turns_by : (u : Units) (here : List (Line Token)) (l : Line Token) (rest : List (Line Token)) (all : List Item) (r new : Reader) → here ≡ l ∷ rest
    → Reads (items_of u here) all r → ((past : List Item) → Holds r past → (number : ℕ) → Holds new (record { number = number; reading = reading_of u l.words } ∷ past))
    → ((past : List Item) → Holds r past → fault_by past (reading_of u l.words) ≡ None) → Reads (items_of u rest) all new
turns_by u here l rest all r new e s holds good =
    turns (item_of u l) (items_of u rest) all r new (subst (λ (ls : List (Line Token)). Reads (items_of u ls) all r) e s) (λ past h. holds past h l.number) good

pub stops_by : (u : Units) (last : ℕ) (here : List (Line Token)) (l : Line Token) (rest : List (Line Token)) (all : List Item) (r : Reader) (e : Stop) → here ≡ l ∷ rest
    → Reads (items_of u here) all r → ((past : List Item) → Holds r past → Stops e (fault_by past (reading_of u l.words)))
    → Fails SdcErr.Mem (refused_at l.number e) (answer_of last all)
stops_by u last here l rest all r e is s stop =
    stops_for last (item_of u l) (items_of u rest) all r e (subst (λ (ls : List (Line Token)). Reads (items_of u ls) all r) is s) stop
