-- The fault of a text: where one has its cause, and that the cause stands nowhere else.
use Rattle.std.proofs.Common.{◌≡◌, ◌≢◌, ◌⊎◌, ◌↔◌, ◌∙◌, sym, ap, refl, ℕ, suc, ◌+◌, ◌-◌, ◌<◌, ◌≤◌, ◌==◌, Bool, true, false, get_or, List, [], ◌∷◌, Result, Ok, Err, length, drop, length-drop, nat_lt, add-one, arith, subst, inl, inr}
use Rattle.std.proofs.lemmas.List.{drop_all, get_or-drop}
use Rattle.std.proofs.lemmas.Bool.Decides.{nat_tests}
use Rattle.gs_text.specs.Cut.{ComesIn, onto, pieces}
use Rattle.gs_text.specs.Faults.{Leads, IsReached, IsOpenString, IsOpenComment, HasFault}
use Rattle.gs_text.proofs.Fronts.{SkipsHere}
use Rattle.gs_text.proofs.Ways.{BeginsWith, IsPartBy, LeadsBy, Takes, leads_from, leads_to}
use Rattle.gs_text.specs.Front.{front}
use Rattle.gs_text.specs.Liberty.{liberty_front, string_front}
use Rattle.gs_text.specs.Comments.{comment_front}
use Rattle.gs_text.specs.Runs.{until, closes_comment, is_quote}
use Rattle.gs_text.proofs.LibertyLaws.{liberty-says}
use Rattle.gs_text.proofs.VerilogLaws.{verilog-says}
use Rattle.gs_text.proofs.Until.{until-all}
use Rattle.gs_text.specs.Verilog.{verilog_front}
use Rattle.gs_text.proofs.CutLaws.{Begins, piece_here}
use Rattle.gs_text.proofs.Says.{Says, IsUnclosed, IsUnquoted}
use Rattle.gs_text.proofs.Shape.{says_here}
use Rattle.gs_text.proofs.Walk.{Steps, FaultIs, walk_all}
use Rattle.gs_text.specs.declared.cutter.Place.{Place}
use Rattle.gs_text.specs.declared.kinds.Piece.{Piece}
use Rattle.gs_text.specs.declared.kinds.Style.{Style}
use Rattle.gs_text.specs.declared.kinds.Style.TheVariants.{Verilog, Lib, Spef, Sdc}
use Rattle.gs_text.specs.declared.kinds.TextErr.{TextErr}
use Rattle.gs_text.specs.declared.scan.Front.{Front}
use Rattle.gs_text.specs.declared.scan.Front.TheVariants.{Gap, Found, Passed, OpenString, OpenComment}

pub onto_err : (ps : List Piece) (r : Result (List Piece) TextErr) (e : TextErr) → onto ps r ≡ Err e → r ≡ Err e
onto_err ps (Ok qs) e h = cc
onto_err ps (Err x) e h = h

same_err : (x e : TextErr) → ◌≡◌ {A = Result (List Piece) TextErr} (Err x) (Err e) → x ≡ e
same_err x e h = cc

-- the place of a fault is reached, and there begins what the fault is of
pub record IsAt (style : Style) (begin : ℕ → List ℕ → Front) (bs : List ℕ) (from at : ℕ) (f : Front) : Type 0 where
  pub parts : List ℕ
  pub leads : LeadsBy begin bs from at parts
  pub begins : BeginsWith begin (drop at bs) f

abbrev AtFault : Style → (ℕ → List ℕ → Front) → List ℕ → (from : ℕ) → TextErr → Type 0
AtFault style begin bs from (TextErr.OpenString at) = IsAt style begin bs from at OpenString
AtFault style begin bs from (TextErr.OpenComment at) = IsAt style begin bs from at OpenComment
AtFault style begin bs from TextErr.Mem = ⊥

-- a style whose rules look at the bytes alone
module _ (style : Style) (begin : ℕ → List ℕ → Front) (plain : (braced begun : Bool) (c : ℕ) (cs : List ℕ) → front style braced begun c cs ≡ begin c cs) (bs : List ℕ) where
  begins_here : (here : Place) (f : Front) → Begins style bs here f → BeginsWith begin (drop here.at bs) f
  begins_here here f b =
      let P : List ℕ → Type 0 = λ xs. BeginsWith begin xs f in
      subst P (sym b.split) (sym (plain here.braced (here.latest == here.first) b.first b.rest) ∙ b.front_is)

  longer : (from len : ℕ) (e : TextErr) → IsPartBy begin bs from len → AtFault style begin bs (from + len) e → AtFault style begin bs from e
  longer from len (TextErr.OpenString at) p s = record { parts = len ∷ s.parts; leads = (p, s.leads); begins = s.begins }
  longer from len (TextErr.OpenComment at) p s = record { parts = len ∷ s.parts; leads = (p, s.leads); begins = s.begins }
  longer from len TextErr.Mem p s = s

  fault_here : (here : Place) (f : Front) (x : TextErr) → Begins style bs here f → FaultIs f here.at x → AtFault style begin bs here.at x
  fault_here here Gap x b is = absurd is
  fault_here here (Found kind len) x b is = absurd is
  fault_here here (Passed len) x b is = absurd is
  fault_here here OpenString x b is = subst (AtFault style begin bs here.at) (sym is) (record { parts = []; leads = refl; begins = begins_here here OpenString b })
  fault_here here OpenComment x b is = subst (AtFault style begin bs here.at) (sym is) (record { parts = []; leads = refl; begins = begins_here here OpenComment b })

  abbrev Blamed : List Piece → Place → Result (List Piece) TextErr → Type 0
  Blamed before here r = (e : TextErr) → r ≡ Err e → AtFault style begin bs here.at e

  blamed_steps : Steps style bs Blamed
  blamed_steps = record {
    at_end = λ before here a is e h. cc h;
    at_white = λ before here a b r later e h. longer here.at 1 e (record { what = Gap; begins = begins_here here Gap b; takes = refl }) (later e h);
    at_piece = λ before here a kind len b pos within r later e h.
        longer here.at len e (record { what = Found kind len; begins = begins_here here (Found kind len) b; takes = refl }) (later e (onto_err (piece_here style here kind len ∷ []) r e h));
    at_comment = λ before here a len b pos within r later e h. longer here.at len e (record { what = Passed len; begins = begins_here here (Passed len) b; takes = refl }) (later e h);
    at_fault = λ before here a f b x is e h. subst (AtFault style begin bs here.at) (same_err x e h) (fault_here here f x b is);
  }

  pub blamed : (e : TextErr) → pieces style bs ≡ Err e → AtFault style begin bs 0 e
  blamed = walk_all style bs Blamed blamed_steps

  -- the other way round: what is reached so is met by the cutting
  one_front : (xs : List ℕ) (f g : Front) → BeginsWith begin xs f → BeginsWith begin xs g → f ≡ g
  one_front [] f g a b = absurd a
  one_front (c ∷ cs) f g a b = sym a ∙ b

  past_end : (here : Place) → here.at ≡ length bs → drop here.at bs ≡ []
  past_end here e = drop_all here.at bs (omega arith)

  nothing_there : (here : Place) (f : Front) → here.at ≡ length bs → BeginsWith begin (drop here.at bs) f → ⊥
  nothing_there here f e b =
      let P : List ℕ → Type 0 = λ xs. BeginsWith begin xs f in
      subst P (past_end here e) b

  module _ (f : Front) (at : ℕ) (x : TextErr) (is : FaultIs f at x) (opens : BeginsWith begin (drop at bs) f) where
    abbrev Met : List Piece → Place → Result (List Piece) TextErr → Type 0
    Met before here r = (parts : List ℕ) → LeadsBy begin bs here.at at parts → r ≡ Err x

    -- what begins where the fault should be is the fault
    is_there : (here : Place) (g : Front) → Begins style bs here g → here.at ≡ at → f ≡ g
    is_there here g b e =
        let P : ℕ → Type 0 = λ n. BeginsWith begin (drop n bs) f in
        one_front (drop here.at bs) f g (subst P (sym e) opens) (begins_here here g b)

    is_part : (here : Place) (g : Front) (n : ℕ) → Begins style bs here g → IsPartBy begin bs here.at n → Takes g n
    is_part here g n b p =
        let P : Front → Type 0 = λ q. Takes q n in
        subst P (one_front (drop here.at bs) p.what g p.begins (begins_here here g b)) p.takes

    -- where no fault begins, the way leads on
    goes : (g : Front) (len : ℕ) → ((n : ℕ) → Takes g n → n ≡ len) → ((n : ℕ) (e : TextErr) → FaultIs g n e → ⊥)
        → (here : Place) → Begins style bs here g → (parts : List ℕ) → LeadsBy begin bs here.at at parts → (ns : List ℕ) × LeadsBy begin bs (here.at + len) at ns
    goes g len takes none here b [] l =
        let P : Front → Type 0 = λ q. FaultIs q at x in
        absurd (none at x (subst P (is_there here g b l) is))
    goes g len takes none here b (n ∷ ns) l =
        let P : ℕ → Type 0 = λ m. LeadsBy begin bs (here.at + m) at ns in
        (ns, subst P (takes n (is_part here g n b l.0)) l.1)

    no_part : (g : Front) (n m : ℕ) (e : TextErr) → Takes g n → FaultIs g m e → ⊥
    no_part Gap n m e t i = i
    no_part (Found kind len) n m e t i = i
    no_part (Passed len) n m e t i = i
    no_part OpenString n m e t i = t
    no_part OpenComment n m e t i = t

    one_fault : (g : Front) (n : ℕ) (e y : TextErr) → FaultIs g n e → FaultIs g n y → e ≡ y
    one_fault Gap n e y a b = absurd a
    one_fault (Found kind len) n e y a b = absurd a
    one_fault (Passed len) n e y a b = absurd a
    one_fault OpenString n e y a b = a ∙ sym b
    one_fault OpenComment n e y a b = a ∙ sym b

    ends_so : (here : Place) (g : Front) (e : TextErr) → Begins style bs here g → FaultIs g here.at e → (parts : List ℕ) → LeadsBy begin bs here.at at parts → e ≡ x
    ends_so here g e b i [] l =
        let P : ℕ → Type 0 = λ n. FaultIs g n e in
        let Q : Front → Type 0 = λ q. FaultIs q at x in
        one_fault g at e x (subst P l i) (subst Q (is_there here g b l) is)
    ends_so here g e b i (n ∷ ns) l = absurd (no_part g n here.at e (is_part here g n b l.0) i)

    never : (here : Place) → here.at ≡ length bs → (parts : List ℕ) → LeadsBy begin bs here.at at parts → ⊥
    never here e [] l =
        let P : ℕ → Type 0 = λ n. BeginsWith begin (drop n bs) f in
        nothing_there here f e (subst P (sym l) opens)
    never here e (n ∷ ns) l = nothing_there here l.0.what e l.0.begins

    met_steps : Steps style bs Met
    met_steps = record {
      at_end = λ before here a e parts l. absurd (never here e parts l);
      at_white = λ before here a b r later parts l.
          let q : (ns : List ℕ) × LeadsBy begin bs (here.at + 1) at ns = goes Gap 1 (λ n t. t) (λ n e i. i) here b parts l in
          later q.0 q.1;
      at_piece = λ before here a kind len b pos within r later parts l.
          let q : (ns : List ℕ) × LeadsBy begin bs (here.at + len) at ns = goes (Found kind len) len (λ n t. t) (λ n e i. i) here b parts l in
          ap (onto (piece_here style here kind len ∷ [])) (later q.0 q.1);
      at_comment = λ before here a len b pos within r later parts l.
          let q : (ns : List ℕ) × LeadsBy begin bs (here.at + len) at ns = goes (Passed len) len (λ n t. t) (λ n e i. i) here b parts l in
          later q.0 q.1;
      at_fault = λ before here a g b e i parts l. ap Err (ends_so here g e b i parts l);
    }

    pub met : (parts : List ℕ) → LeadsBy begin bs 0 at parts → pieces style bs ≡ Err x
    met = walk_all style bs Met met_steps

-- each style has its own faults
module _ (style : Style) (bs : List ℕ) where
  comes_by : (s : Style) (xs : List ℕ) (f : Front) (at : ℕ) (x : TextErr) → Says s false false xs f → FaultIs f at x → ComesIn s x
  comes_by s xs Gap at x h is = absurd is
  comes_by s xs (Found kind len) at x h is = absurd is
  comes_by s xs (Passed len) at x h is = absurd is
  comes_by Verilog xs OpenString at x h is = absurd h
  comes_by Lib xs OpenString at x h is = subst (ComesIn Lib) (sym is) tt
  comes_by Spef xs OpenString at x h is = absurd h
  comes_by Sdc xs OpenString at x h is = absurd h
  comes_by Verilog xs OpenComment at x h is = subst (ComesIn Verilog) (sym is) tt
  comes_by Lib xs OpenComment at x h is = subst (ComesIn Lib) (sym is) tt
  comes_by Spef xs OpenComment at x h is = absurd h
  comes_by Sdc xs OpenComment at x h is = absurd h

  -- what a fault says doesn't depend on braces
  unbraced : (braced begun : Bool) (xs : List ℕ) (f : Front) (at : ℕ) (x : TextErr) → FaultIs f at x → Says style braced begun xs f → Says style false false xs f
  unbraced braced begun xs Gap at x is h = absurd is
  unbraced braced begun xs (Found kind len) at x is h = absurd is
  unbraced braced begun xs (Passed len) at x is h = absurd is
  unbraced braced begun xs OpenString at x is h = h
  unbraced braced begun xs OpenComment at x is h = h

  abbrev Own : List Piece → Place → Result (List Piece) TextErr → Type 0
  Own before here r = (e : TextErr) → r ≡ Err e → ComesIn style e

  own_steps : Steps style bs Own
  own_steps = record {
    at_end = λ before here a is e h. cc h;
    at_white = λ before here a b r later. later;
    at_piece = λ before here a kind len b pos within r later e h. later e (onto_err (piece_here style here kind len ∷ []) r e h);
    at_comment = λ before here a len b pos within r later. later;
    at_fault = λ before here a f b x is e h.
        subst (ComesIn style) (same_err x e h)
        (comes_by style (drop here.at bs) f here.at x (unbraced here.braced (here.latest == here.first) (drop here.at bs) f here.at x is (says_here style bs here f b)) is);
  }

  pub pieces-comes : (e : TextErr) → pieces style bs ≡ Err e → ComesIn style e
  pieces-comes = walk_all style bs Own own_steps

  -- want of memory is none
  not_mem : (f : Front) (at : ℕ) (x : TextErr) → FaultIs f at x → x ≢ TextErr.Mem
  not_mem Gap at x is m = is
  not_mem (Found kind len) at x is m = is
  not_mem (Passed len) at x is m = is
  not_mem OpenString at x is m = cc (is, m)
  not_mem OpenComment at x is m = cc (is, m)

  abbrev Other : List Piece → Place → Result (List Piece) TextErr → Type 0
  Other before here r = r ≢ Err TextErr.Mem

  other_steps : Steps style bs Other
  other_steps = record {
    at_end = λ before here a is h. cc h;
    at_white = λ before here a b r later. later;
    at_piece = λ before here a kind len b pos within r later h. later (onto_err (piece_here style here kind len ∷ []) r TextErr.Mem h);
    at_comment = λ before here a len b pos within r later. later;
    at_fault = λ before here a f b x is h. not_mem f here.at x is (same_err x TextErr.Mem h);
  }

  pub never_mem : pieces style bs ≢ Err TextErr.Mem
  never_mem = walk_all style bs Other other_steps

-- what opens at a place, by the bytes past it
past : (bs : List ℕ) (at k : ℕ) → get_or (drop at bs) k 0 ≡ get_or bs (at + k) 0
past bs at k = get_or-drop at bs k 0

from_there : (bs : List ℕ) (at k : ℕ) → at ≤ k → get_or (drop at bs) (k - at) 0 ≡ get_or bs k 0
from_there bs at k le = let e : at + (k - at) ≡ k = omega arith in past bs at (k - at) ∙ ap (λ i. get_or bs i 0) e

first_there : (bs : List ℕ) (at : ℕ) → get_or (drop at bs) 0 0 ≡ get_or bs at 0
first_there bs at = let e : at + 0 ≡ at = omega arith in past bs at 0 ∙ ap (λ i. get_or bs i 0) e

begins_at : (begin : ℕ → List ℕ → Front) (style : Style) → ((c : ℕ) (cs : List ℕ) → Says style false false (c ∷ cs) (begin c cs))
    → (xs : List ℕ) (f : Front) → BeginsWith begin xs f → Says style false false xs f
begins_at begin style says [] f b = absurd b
begins_at begin style says (c ∷ cs) f b = subst (Says style false false (c ∷ cs)) b (says c cs)

open_string : (style : Style) (bs : List ℕ) (at : ℕ) → IsReached style bs at → IsUnquoted (drop at bs) → IsOpenString style bs at
open_string style bs at reached u = record {
  reached = reached;
  quote = sym (first_there bs at) ∙ u.quote;
  none = λ k lt within.
      let P : ℕ → Type 0 = λ c. c ≢ 34 in
      subst P (from_there bs at k (omega arith)) (u.none (k - at) (omega arith) (omega (arith, length-drop at bs)));
}

open_comment : (style : Style) (bs : List ℕ) (at : ℕ) → IsReached style bs at → IsUnclosed (drop at bs) → IsOpenComment style bs at
open_comment style bs at reached u = record {
  reached = reached;
  slash = sym (first_there bs at) ∙ u.slash;
  star = sym (past bs at 1) ∙ u.star;
  none = λ k lt within first second.
      let next : k + 1 - at ≡ k - at + 1 = omega arith in
      u.none (k - at) (omega arith) (omega (arith, length-drop at bs)) (from_there bs at k (omega arith) ∙ first)
      (ap (λ i. get_or (drop at bs) i 0) (sym next) ∙ from_there bs at (k + 1) (omega arith) ∙ second);
}

-- the other way round
lt_itself : (n m : ℕ) → n ≡ m → nat_lt n m ≡ false
lt_itself n m e = grind (arith, nat_tests)

shut : (a b : ℕ) (c : Bool) → closes_comment a b ≡ c → (a ≡ 42 → b ≢ 47) → closes_comment a b ≡ false
shut a b false e none = e
shut a b true e none = absurd (none (grind (arith, nat_tests)) (grind (arith, nat_tests)))

no_close : (ds : List ℕ) → ((k : ℕ) → k < length ds → get_or ds k 0 ≡ 42 → get_or ds (k + 1) 0 ≢ 47) → comment_front ds ≡ OpenComment
no_close ds none =
    let all : until closes_comment ds ≡ length ds = until-all closes_comment ds (λ k lt. shut (get_or ds k 0) (get_or ds (k + 1) 0) (closes_comment (get_or ds k 0) (get_or ds (k + 1) 0)) refl (none k lt)) in
    rw (lt_itself (until closes_comment ds) (length ds) all) refl

unquoted : (c : ℕ) → c ≢ 34 → (b : Bool) → is_quote c 0 ≡ b → is_quote c 0 ≡ false
unquoted c n false e = e
unquoted c n true e = absurd (n (grind (arith, nat_tests)))

no_quote : (cs : List ℕ) → ((k : ℕ) → k < length cs → get_or cs k 0 ≢ 34) → string_front cs ≡ OpenString
no_quote cs none =
    let all : until is_quote cs ≡ length cs = until-all is_quote cs (λ k lt. unquoted (get_or cs k 0) (none k lt) (is_quote (get_or cs k 0) 0) refl) in
    rw (lt_itself (until is_quote cs) (length cs) all) refl

verilog-opens : (c d : ℕ) (ds : List ℕ) → c ≡ 47 → d ≡ 42 → comment_front ds ≡ OpenComment → verilog_front c (d ∷ ds) ≡ OpenComment
verilog-opens c d ds a b e = rw (a, b) e

liberty-opens : (c d : ℕ) (ds : List ℕ) → c ≡ 47 → d ≡ 42 → comment_front ds ≡ OpenComment → liberty_front c (d ∷ ds) ≡ OpenComment
liberty-opens c d ds a b e = rw (a, b) e

liberty-quotes : (c : ℕ) (cs : List ℕ) → c ≡ 34 → string_front cs ≡ OpenString → liberty_front c cs ≡ OpenString
liberty-quotes c cs a e = rw a e

-- an open comment: its slash and star, and bytes that don't close it
pub record Opened (xs : List ℕ) : Type 0 where
  pub first : ℕ
  pub second : ℕ
  pub rest : List ℕ
  pub is : xs ≡ first ∷ second ∷ rest
  pub slash : first ≡ 47
  pub star : second ≡ 42
  pub open_front : comment_front rest ≡ OpenComment

opened_by : (xs : List ℕ) → get_or xs 0 0 ≡ 47 → get_or xs 1 0 ≡ 42 → ((k : ℕ) → 1 < k → k < length xs → get_or xs k 0 ≡ 42 → get_or xs (k + 1) 0 ≢ 47) → Opened xs
opened_by [] a b none = absurd (omega (arith, a))
opened_by (c ∷ []) a b none = absurd (omega (arith, b))
opened_by (c ∷ d ∷ ds) a b none = record {
  first = c;
  second = d;
  rest = ds;
  is = refl;
  slash = a;
  star = b;
  open_front = no_close ds (λ k lt first. simp add-one (simp add-one at (none (suc (suc k)) (omega arith) (omega arith) first)));
}

opened : (style : Style) (bs : List ℕ) (at : ℕ) → IsOpenComment style bs at → Opened (drop at bs)
opened style bs at i = opened_by (drop at bs) (first_there bs at ∙ i.slash) (past bs at 1 ∙ i.star)
    (λ k more lt first.
    let next : at + (k + 1) ≡ at + k + 1 = omega arith in
    let P : ℕ → Type 0 = λ c. c ≢ 47 in
    subst P (sym (past bs at (k + 1) ∙ ap (λ j. get_or bs j 0) next)) (i.none (at + k) (omega arith) (omega (arith, length-drop at bs)) (sym (past bs at k) ∙ first)))

quoted_by : (xs : List ℕ) → get_or xs 0 0 ≡ 34 → ((k : ℕ) → 0 < k → k < length xs → get_or xs k 0 ≢ 34) → BeginsWith liberty_front xs OpenString
quoted_by [] a none = absurd (omega (arith, a))
quoted_by (c ∷ cs) a none = liberty-quotes c cs a (no_quote cs (λ k lt. none (suc k) (omega arith) (omega arith)))

plain_verilog : (braced begun : Bool) (c : ℕ) (cs : List ℕ) → front Verilog braced begun c cs ≡ verilog_front c cs
plain_verilog braced begun c cs = refl

plain_liberty : (braced begun : Bool) (c : ℕ) (cs : List ℕ) → front Lib braced begun c cs ≡ liberty_front c cs
plain_liberty braced begun c cs = refl

-- no comment and no continued line end is empty
no_slash : (x : ℕ) → x ≡ 0 → x ≡ 47 → ⊥
no_slash x z e = omega (arith, z, e)

no_back : (x : ℕ) → x ≡ 0 → x ≡ 92 → ⊥
no_back x z e = omega (arith, z, e)

verilog_skips : (len : ℕ) → SkipsHere Verilog false false len [] → ⊥
verilog_skips len (inl s) = no_slash 0 refl s.slash
verilog_skips len (inr b) = no_slash 0 refl b.slash

liberty_skips : (len : ℕ) → SkipsHere Lib false false len [] → ⊥
liberty_skips len (inl b) = no_slash 0 refl b.slash
liberty_skips len (inr t) = no_back 0 refl t.backslash

verilog_reached : (bs : List ℕ) (at : ℕ) (ns : List ℕ) → LeadsBy verilog_front bs 0 at ns → IsReached Verilog bs at
verilog_reached bs at ns l = record { parts = ns; leads = leads_to Verilog verilog_front (plain_verilog false false) (verilog-says false false) bs (λ at len s. s) (λ at len s. s) verilog_skips 0 at ns l }

liberty_reached : (bs : List ℕ) (at : ℕ) (ns : List ℕ) → LeadsBy liberty_front bs 0 at ns → IsReached Lib bs at
liberty_reached bs at ns l = record { parts = ns; leads = leads_to Lib liberty_front (plain_liberty false false) (liberty-says false false) bs (λ at len s. s) (λ at len s. s) liberty_skips 0 at ns l }

verilog_way : (bs : List ℕ) (at : ℕ) (ns : List ℕ) → Leads Verilog bs 0 at ns → LeadsBy verilog_front bs 0 at ns
verilog_way bs at ns l = leads_from Verilog verilog_front (plain_verilog false false) (verilog-says false false) bs (λ at len s. s) (λ at len s. s) verilog_skips 0 at ns l

liberty_way : (bs : List ℕ) (at : ℕ) (ns : List ℕ) → Leads Lib bs 0 at ns → LeadsBy liberty_front bs 0 at ns
liberty_way bs at ns l = leads_from Lib liberty_front (plain_liberty false false) (liberty-says false false) bs (λ at len s. s) (λ at len s. s) liberty_skips 0 at ns l

-- a fault of the cutting has its cause
pub has_cause : (style : Style) (bs : List ℕ) (e : TextErr) → pieces style bs ≡ Err e → HasFault style bs e
has_cause Verilog bs (TextErr.OpenString at) h = pieces-comes Verilog bs (TextErr.OpenString at) h
has_cause Verilog bs (TextErr.OpenComment at) h =
    let i : IsAt Verilog verilog_front bs 0 at OpenComment = blamed Verilog verilog_front plain_verilog bs (TextErr.OpenComment at) h in
    open_comment Verilog bs at (verilog_reached bs at i.parts i.leads) (begins_at verilog_front Verilog (verilog-says false false) (drop at bs) OpenComment i.begins)
has_cause Verilog bs TextErr.Mem h = blamed Verilog verilog_front plain_verilog bs TextErr.Mem h
has_cause Lib bs (TextErr.OpenString at) h =
    let i : IsAt Lib liberty_front bs 0 at OpenString = blamed Lib liberty_front plain_liberty bs (TextErr.OpenString at) h in
    open_string Lib bs at (liberty_reached bs at i.parts i.leads) (begins_at liberty_front Lib (liberty-says false false) (drop at bs) OpenString i.begins)
has_cause Lib bs (TextErr.OpenComment at) h =
    let i : IsAt Lib liberty_front bs 0 at OpenComment = blamed Lib liberty_front plain_liberty bs (TextErr.OpenComment at) h in
    open_comment Lib bs at (liberty_reached bs at i.parts i.leads) (begins_at liberty_front Lib (liberty-says false false) (drop at bs) OpenComment i.begins)
has_cause Lib bs TextErr.Mem h = blamed Lib liberty_front plain_liberty bs TextErr.Mem h
has_cause Spef bs (TextErr.OpenString at) h = pieces-comes Spef bs (TextErr.OpenString at) h
has_cause Spef bs (TextErr.OpenComment at) h = pieces-comes Spef bs (TextErr.OpenComment at) h
has_cause Spef bs TextErr.Mem h = never_mem Spef bs h
has_cause Sdc bs (TextErr.OpenString at) h = pieces-comes Sdc bs (TextErr.OpenString at) h
has_cause Sdc bs (TextErr.OpenComment at) h = pieces-comes Sdc bs (TextErr.OpenComment at) h
has_cause Sdc bs TextErr.Mem h = never_mem Sdc bs h

-- and where a cause stands, the cutting ends with it
pub cause_met : (style : Style) (bs : List ℕ) (e : TextErr) → HasFault style bs e → pieces style bs ≡ Err e
cause_met Verilog bs (TextErr.OpenString at) i = absurd i
cause_met Verilog bs (TextErr.OpenComment at) i =
    let o : Opened (drop at bs) = opened Verilog bs at i in
    let P : List ℕ → Type 0 = λ xs. BeginsWith verilog_front xs OpenComment in
    met Verilog verilog_front plain_verilog bs OpenComment at (TextErr.OpenComment at) refl
    (subst P (sym o.is) (verilog-opens o.first o.second o.rest o.slash o.star o.open_front)) i.reached.parts (verilog_way bs at i.reached.parts i.reached.leads)
cause_met Verilog bs TextErr.Mem i = absurd i
cause_met Lib bs (TextErr.OpenString at) i =
    met Lib liberty_front plain_liberty bs OpenString at (TextErr.OpenString at) refl
    (quoted_by (drop at bs) (first_there bs at ∙ i.quote)
    (λ k some lt.
    let P : ℕ → Type 0 = λ c. c ≢ 34 in
    subst P (sym (past bs at k)) (i.none (at + k) (omega arith) (omega (arith, length-drop at bs)))))
    i.reached.parts (liberty_way bs at i.reached.parts i.reached.leads)
cause_met Lib bs (TextErr.OpenComment at) i =
    let o : Opened (drop at bs) = opened Lib bs at i in
    let P : List ℕ → Type 0 = λ xs. BeginsWith liberty_front xs OpenComment in
    met Lib liberty_front plain_liberty bs OpenComment at (TextErr.OpenComment at) refl
    (subst P (sym o.is) (liberty-opens o.first o.second o.rest o.slash o.star o.open_front)) i.reached.parts (liberty_way bs at i.reached.parts i.reached.leads)
cause_met Lib bs TextErr.Mem i = absurd i
cause_met Spef bs (TextErr.OpenString at) i = absurd i
cause_met Spef bs (TextErr.OpenComment at) i = absurd i
cause_met Spef bs TextErr.Mem i = absurd i
cause_met Sdc bs (TextErr.OpenString at) i = absurd i
cause_met Sdc bs (TextErr.OpenComment at) i = absurd i
cause_met Sdc bs TextErr.Mem i = absurd i

pub decided : (style : Style) (bs : List ℕ) (e : TextErr) → (pieces style bs ≡ Err e) ↔ HasFault style bs e
decided style bs e = (has_cause style bs e, cause_met style bs e)

pub not_refused : (style : Style) (bs : List ℕ) (ps : List Piece) → pieces style bs ≡ Ok ps → (e : TextErr) → HasFault style bs e → ⊥
not_refused style bs ps h e i = cc (h, cause_met style bs e i)

pub refused : (style : Style) (bs : List ℕ) (x : TextErr) → pieces style bs ≡ Err x → (e : TextErr) → HasFault style bs e → (x ≡ e) ⊎ (x ≡ TextErr.Mem)
refused style bs x h e i = let both : ◌≡◌ {A = Result (List Piece) TextErr} (Err x) (Err e) = sym h ∙ cause_met style bs e i in inl (same_err x e both)
