-- What a machine says of a text is what its form says: the clauses of the driver, for every reader.

use Rattle.std.proofs.Common.{◌≡◌, ◌≢◌, ◌↔◌, ℕ, ◌+◌, ◌-◌, ◌≤◌, List, ◌∷◌, length, length-append, take, refl, sym, ap, subst, ◌∙◌, Option, None, Some, Result, Ok, Err, arith}
use Rattle.gs_grammar.specs.Answers.{IsDecided}
use Rattle.gs_grammar.specs.Fronts.{IsFirstBad, EndsEarly}
use Rattle.gs_grammar.specs.Machine.{run}
use Rattle.gs_grammar.proofs.Answers.{decided}
use Rattle.gs_grammar.proofs.Exclusive.{whole_front, bad_whole, broken_whole, bad_bad, broken_broken, bad_broken}
use Rattle.gs_grammar.proofs.Refusals.{first_bad, first_broken, cuts}
use Rattle.gs_grammar.proofs.Runs.{stops}
use Rattle.gs_text.specs.Cut.{pieces}
use Rattle.gs_text.specs.Faults.{HasFault as HasFaultIn, IsDecided as TextIsDecided}
use Rattle.gs_text.specs.declared.kinds.Kind.{Kind}
use Rattle.gs_text.specs.declared.kinds.Piece.{Piece}
use Rattle.gs_text.specs.declared.kinds.Style.{Style}
use Rattle.gs_text.specs.declared.kinds.TextErr.{TextErr}
use Rattle.gs_drive.specs.Cause.{BreaksAt, Cause, IsText, Reads}
use Rattle.gs_drive.specs.Machine.{at_end, ended, judged, refused}
use Rattle.gs_drive.specs.Reader.{IsReader}
use Rattle.gs_drive.specs.Tokens.{OfTokens, tokens, tokens_from}
use Rattle.gs_drive.specs.declared.machine.Fault.{Fault}
use Rattle.gs_drive.specs.declared.refusal.Refusal.{Refusal}

module _ {S T R V : Type 0} (strict loose : S → T → Result S (Fault R)) (begin : S) (end : S → Option V)
    (HasFault : TextErr → Type 0) (Form : List T → Type 0) (Text : List T → V → Type 0) (Breaks : List T → R → Type 0)
    (reader : IsReader strict loose begin end Form Text Breaks) where
  abbrev Whole : List T → Type 0
  Whole = IsText Text

  -- the cause of a refusal of these very tokens; a fault of the text is none
  abbrev Why : List T → Refusal R → Type 0
  Why ts (Refusal.Text e) = ⊥
  Why ts (Refusal.Bad i) = IsFirstBad Form Whole ts i
  Why ts (Refusal.Broken i rule) = BreaksAt Form Whole Breaks ts i rule
  Why ts (Refusal.Early i) = EndsEarly Whole ts i
  Why ts Refusal.Mem = ⊥

  abbrev say : List T → Result V (Refusal R)
  say ts = ended end (length ts) (run strict begin ts)

  forms : (us : List T) → Whole us → Form us
  forms us t = reader.forms us t.0 t.1

  taken : (ts : List T) → Whole ts → (s : S) × (run strict begin ts ≡ Ok s)
  taken ts t = let q = reader.complete ts t.0 t.1 in (q.0, q.1.0)

  -- ---- what is said of tokens

  end_ok : (n : ℕ) (o : Option V) (v : V) → at_end {R = R} n o ≡ Ok v → o ≡ Some v
  end_ok n (Some w) v h = cc
  end_ok n None v h = cc

  end_err : (n : ℕ) (o : Option V) (e : Refusal R) → at_end n o ≡ Err e → (Refusal.Early n ≡ e) × (o ≡ None)
  end_err n (Some w) e h = cc
  end_err n None e h = (cc, refl)

  text_by : (ts : List T) (v : V) (r : Result S (Fault R × List T)) → run strict begin ts ≡ r → ended end (length ts) r ≡ Ok v → Text ts v
  text_by ts v (Ok s) h k = reader.sound ts s v h (end_ok (length ts) (end s) v k)
  text_by ts v (Err (f, rest)) h k = cc

  said_text : (ts : List T) (v : V) → say ts ≡ Ok v → Text ts v
  said_text ts v h = text_by ts v (run strict begin ts) refl h

  text_said : (ts : List T) (v : V) → Text ts v → say ts ≡ Ok v
  text_said ts v t = let q = reader.complete ts v t in ap (ended end (length ts)) q.1.0 ∙ ap (at_end {R = R} (length ts)) q.1.1

  early : (ts : List T) (s : S) → run strict begin ts ≡ Ok s → end s ≡ None → EndsEarly Whole ts (length ts)
  early ts s h none =
      record {
        all = refl;
        before = reader.finished ts s h;
        here = λ t.
            let q = reader.complete ts t.0 t.1 in
            let same : s ≡ q.0 = cc (h, q.1.0) in
            let never : None ≡ Some t.0 = sym none ∙ ap end same ∙ q.1.1 in
            cc;
      }

  rest-le : (ts : List T) (f : Fault R) (rest : List T) → run strict begin ts ≡ Err (f, rest) → length rest ≤ length ts
  rest-le ts f rest h =
      let q = stops strict begin ts f rest h in
      let a = ap (λ (us : List T). length us) q.list_is ∙ length-append q.front (q.token ∷ q.more) in
      let b = ap (λ (us : List T). length us) q.rest_is in
      omega arith

  fault_cause : (ts : List T) (f : Fault R) (rest : List T) → run strict begin ts ≡ Err (f, rest) → Why ts (refused (length ts - length rest) f)
  fault_cause ts Fault.Bad rest h =
      let le = rest-le ts Fault.Bad rest h in
      first_bad strict loose begin Form Whole reader.looser reader.finished reader.finished_form taken reader.taken_form
      ts Fault.Bad rest (length ts - length rest) reader.bad h (omega arith)
  fault_cause ts (Fault.Broken rule) rest h =
      let le = rest-le ts (Fault.Broken rule) rest h in
      let i = length ts - length rest in
      let at : i + length rest ≡ length ts = omega arith in
      let q = stops strict begin ts (Fault.Broken rule) rest h in
      let c = cuts q.front q.more q.token ts rest i q.list_is q.rest_is at in
      let first = first_broken strict loose begin Form Whole reader.looser reader.finished reader.finished_form taken reader.taken_form
      ts (Fault.Broken rule) rest i (λ s t. reader.broken s t rule) h at in
      let P : List T → Type 0 = λ us. Breaks us rule in
      (first, subst P (sym c.here) (reader.breaks q.front q.middle q.token rule q.taken q.fault))

  cause_by : (ts : List T) (e : Refusal R) (r : Result S (Fault R × List T)) → run strict begin ts ≡ r → ended end (length ts) r ≡ Err e → Why ts e
  cause_by ts e (Ok s) h k =
      let o = end_err (length ts) (end s) e k in
      subst (Why ts) o.0 (early ts s h o.1)
  cause_by ts e (Err (f, rest)) h k =
      let same : refused (length ts - length rest) f ≡ e = cc in
      subst (Why ts) same (fault_cause ts f rest h)

  said_cause : (ts : List T) (e : Refusal R) → say ts ≡ Err e → Why ts e
  said_cause ts e h = cause_by ts e (run strict begin ts) refl h

  -- ---- tokens have one cause, and texts none

  none_so : (ts : List T) (e : Refusal R) → Whole ts → Why ts e → ⊥
  none_so ts (Refusal.Text e) t w = w
  none_so ts (Refusal.Bad i) t w = bad_whole Form Whole forms ts i w (whole_front Whole ts t)
  none_so ts (Refusal.Broken i rule) t w = broken_whole Form Whole forms ts i w.0 (whole_front Whole ts t)
  none_so ts (Refusal.Early i) t w = w.here t
  none_so ts Refusal.Mem t w = w

  same_broken : (ts : List T) (i j : ℕ) (q r : R) → BreaksAt Form Whole Breaks ts i q → BreaksAt Form Whole Breaks ts j r → ◌≡◌ {A = Refusal R} (Refusal.Broken j r) (Refusal.Broken i q)
  same_broken ts i j q r v w =
      let at : j ≡ i = broken_broken Form Whole forms ts j i w.0 v.0 in
      let P : ℕ → Type 0 = λ k. Breaks (take (k + 1) ts) r in
      let rule : r ≡ q = reader.one_rule (take (i + 1) ts) r q (subst P at w.1) v.1 in
      ap (λ k. Refusal.Broken k r) at ∙ ap (Refusal.Broken i) rule

  one_why : (ts : List T) (e f : Refusal R) → Why ts e → Why ts f → f ≡ e
  one_why ts (Refusal.Bad i) (Refusal.Bad j) v w = ap Refusal.Bad (bad_bad Form Whole forms ts j i w v)
  one_why ts (Refusal.Bad i) (Refusal.Broken j r) v w = absurd (bad_broken Form Whole forms ts i j v w.0)
  one_why ts (Refusal.Bad i) (Refusal.Early j) v w = absurd (bad_whole Form Whole forms ts i v w.before)
  one_why ts (Refusal.Broken i q) (Refusal.Bad j) v w = absurd (bad_broken Form Whole forms ts j i w v.0)
  one_why ts (Refusal.Broken i q) (Refusal.Broken j r) v w = same_broken ts i j q r v w
  one_why ts (Refusal.Broken i q) (Refusal.Early j) v w = absurd (broken_whole Form Whole forms ts i v.0 w.before)
  one_why ts (Refusal.Early i) (Refusal.Bad j) v w = absurd (bad_whole Form Whole forms ts j w v.before)
  one_why ts (Refusal.Early i) (Refusal.Broken j r) v w = absurd (broken_whole Form Whole forms ts j w.0 v.before)
  one_why ts (Refusal.Early i) (Refusal.Early j) v w = ap Refusal.Early (w.all ∙ sym v.all)
  one_why ts (Refusal.Text e) f v w = absurd v
  one_why ts Refusal.Mem f v w = absurd v
  one_why ts e (Refusal.Text f) v w = absurd w
  one_why ts e Refusal.Mem v w = absurd w

  -- what is said is never want of memory
  end_stays : (n : ℕ) (o : Option V) → at_end {R = R} n o ≢ Err Refusal.Mem
  end_stays n (Some v) h = cc
  end_stays n None h = cc

  refused_stays : (n : ℕ) (f : Fault R) → refused n f ≢ Refusal.Mem
  refused_stays n Fault.Bad h = cc
  refused_stays n (Fault.Broken rule) h = cc

  ended_stays : (n : ℕ) (r : Result S (Fault R × List T)) → ended end n r ≢ Err Refusal.Mem
  ended_stays n (Ok s) h = end_stays n (end s) h
  ended_stays n (Err (f, rest)) h = refused_stays (n - length rest) f cc

  said_by : (ts : List T) (e : Refusal R) (r : Result V (Refusal R)) → say ts ≡ r → Why ts e → r ≡ Err e
  said_by ts e (Ok v) h k = absurd (none_so ts e (v, said_text ts v h) k)
  said_by ts e (Err f) h k = ap Err (one_why ts e f k (said_cause ts f h))

  cause_said : (ts : List T) (e : Refusal R) → Why ts e → say ts ≡ Err e
  cause_said ts e k = said_by ts e (say ts) refl k

  -- ---- of texts that may have no tokens

  module _ (found : Result (List T) TextErr) (faults : (e : TextErr) → (found ≡ Err e) ↔ HasFault e) where
    abbrev said : Result V (Refusal R)
    said = judged strict begin end found

    abbrev Causes : Refusal R → Type 0
    Causes e = Cause HasFault Form Text Breaks found e

    reads_by : (v : V) (f : Result (List T) TextErr) → f ≡ found → judged strict begin end f ≡ Ok v → Reads Text found v
    reads_by v (Ok ts) h k = (ts, sym h, said_text ts v k)
    reads_by v (Err e) h k = cc

    -- what is said is what is read,
    pub reads : (v : V) → said ≡ Ok v → Reads Text found v
    reads v h = reads_by v found refl h

    pub read_said : (v : V) → Reads Text found v → said ≡ Ok v
    read_said v q = ap (judged strict begin end) q.1 ∙ text_said q.0 v q.2

    why_causes : (ts : List T) (e : Refusal R) → found ≡ Ok ts → Why ts e → Causes e
    why_causes ts (Refusal.Text e) h w = absurd w
    why_causes ts (Refusal.Bad i) h w = (ts, h, w)
    why_causes ts (Refusal.Broken i rule) h w = (ts, h, w)
    why_causes ts (Refusal.Early i) h w = (ts, h, w)
    why_causes ts Refusal.Mem h w = absurd w

    causes_by : (e : Refusal R) (f : Result (List T) TextErr) → found ≡ f → judged strict begin end f ≡ Err e → Causes e
    causes_by e (Ok ts) h k = why_causes ts e h (said_cause ts e k)
    causes_by e (Err x) h k = let same : Refusal.Text x ≡ e = cc in subst Causes same ((faults x).0 h)

    -- each refusal has its cause,
    pub causes : (e : Refusal R) → said ≡ Err e → Causes e
    causes e h = causes_by e found refl h

    of_tokens : (P : List T → Type 0) (e : Refusal R) → OfTokens found P → ((ts : List T) → P ts → Why ts e) → said ≡ Err e
    of_tokens P e q why = ap (judged strict begin end) q.1 ∙ cause_said q.0 e (why q.0 q.2)

    -- each cause has its refusal,
    pub caused : (e : Refusal R) → e ≢ Refusal.Mem → Causes e → said ≡ Err e
    caused (Refusal.Text e) n k = ap (judged strict begin end) ((faults e).1 k)
    caused (Refusal.Bad i) n k = of_tokens (λ ts. IsFirstBad Form Whole ts i) (Refusal.Bad i) k (λ ts w. w)
    caused (Refusal.Broken i rule) n k = of_tokens (λ ts. BreaksAt Form Whole Breaks ts i rule) (Refusal.Broken i rule) k (λ ts w. w)
    caused (Refusal.Early i) n k = of_tokens (λ ts. EndsEarly Whole ts i) (Refusal.Early i) k (λ ts w. w)
    caused Refusal.Mem n k = absurd (n refl)

    lasts_by : (e : Refusal R) (f : Result (List T) TextErr) → judged strict begin end f ≡ Err e → e ≢ Refusal.Mem
    lasts_by e (Ok ts) h m = ended_stays (length ts) (run strict begin ts) (h ∙ ap Err m)
    lasts_by e (Err x) h m = cc

    -- and each text is decided.
    pub is_decided : IsDecided Refusal.Mem (Reads Text found) Causes
    is_decided = decided Refusal.Mem said (Reads Text found) Causes reads causes (λ e. lasts_by e found)

module _ {T : Type 0} (token : Kind → List ℕ → ℕ → T) (style : Style) (bytes : List ℕ) where
  tokens_by : (e : TextErr) (r : Result (List Piece) TextErr) → tokens_from token bytes r ≡ Err e → r ≡ Err e
  tokens_by e (Ok ps) h = cc
  tokens_by e (Err x) h = let same : x ≡ e = cc in ap Err same

  -- a text that has no tokens has no pieces, and has a fault
  pub token_faults : TextIsDecided style bytes → (e : TextErr) → (tokens token style bytes ≡ Err e) ↔ HasFaultIn style bytes e
  token_faults d e = ((λ h. (d e).0 (tokens_by e (pieces style bytes) h)), (λ f. ap (tokens_from token bytes) ((d e).1 f)))
