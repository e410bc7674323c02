-- The answer of the machine is the table of the expression, or the first refusal by its cause, and the other way round.

use Rattle.std.proofs.Common.{◌≡◌, ◌≢◌, ◌⊎◌, ◌∙◌, inl, inr, sym, ap, subst, refl, ℕ, ◌+◌, ◌<◌, ◌≤◌, List, [], ◌∷◌, ◌++◌, map, length, Option, Some, None, Result, Ok, Err, arith}
use Rattle.std.specs.Prelude.{slice_get, bit_and}
use Rattle.std.specs.Int.{bit_at}
use Rattle.std.proofs.lemmas.Bool.{cases_order}
use Rattle.std.proofs.lemmas.List.{take_all}
use Rattle.gs_grammar.specs.Machine.{run}
use Rattle.gs_grammar.proofs.Exclusive.{shorter}
use Rattle.gs_grammar.proofs.Runs.{run-nil, run-ok, run-err, run-append, begins, stops}
use Rattle.gs_expr.specs.Cutting.{lexemes, tokens}
use Rattle.gs_expr.specs.Machine.{used, sum_with, end_at, unknown_from, place, answered, ended, refused, judged, reading}
use Rattle.gs_expr.specs.Refusal.{before, IsTooDeep, IsBadToken, IsEarlyEnd, IsFault, IsUnknownPin, HasCause}
use Rattle.gs_expr.specs.Token.{pin, Token, operand, opens, Lexeme}
use Rattle.gs_expr.specs.Tree.{Or, Post, or_tokens, IsForm, IsFront, open_after, depth}
use Rattle.gs_expr.specs.Truth.{StandsAt, IsNamed, IsTruth}
use Rattle.gs_expr.specs.declared.error.ExprErr.{ExprErr}
use Rattle.gs_expr.specs.declared.error.StepErr.{StepErr}
use Rattle.gs_expr.specs.declared.error.StepErr.TheVariants.{Bad, Deep}
use Rattle.gs_expr.proofs.Agree.{or_table, post_table, waits_of, operand_of, shown_run, or_same, step_lexeme, run_shown}
use Rattle.gs_expr.proofs.Bits.{table_of, row_bit, rest_bit, one_table}
use Rattle.gs_expr.proofs.Complete.{or_frame, or_post, or_back, complete, front_taken, taken_front}
use Rattle.gs_expr.proofs.Cuts.{tokens_before, stands, Split, split_at, cut_above}
use Rattle.gs_expr.proofs.Deep.{opened, run_counts, Limited, passes, bad, deep, limited, within, keeps, depth_push, opened_depth}
use Rattle.gs_expr.proofs.Sound.{sound}
use Rattle.gs_expr.proofs.Trees.{Frame, Place, want, have, State, at, start, or_of, limit, no_limit, step}
use Rattle.gs_expr.proofs.Unknown.{unknown_at, known_before, all_known, unknown_pin, known_pin, pin_unknown}

abbrev tokens_of : List Lexeme → List Token
tokens_of ls = map (λ (l : Lexeme). l.token) ls

-- ---- a run over lexemes is one over their tokens

to_tokens : (s m : State) (ls : List Lexeme) → run step_lexeme s ls ≡ Ok m → run (step limit) s (tokens_of ls) ≡ Ok m
to_tokens s m [] h = let same : s ≡ m = cc (run-nil step_lexeme s) in run-nil (step limit) s ∙ ap Ok same
to_tokens s m (l ∷ ls) h =
    let b = begins step_lexeme s m l ls h in
    run-ok (step limit) s b.middle l.token (tokens_of ls) b.first ∙ to_tokens b.middle m ls b.rest

to_lexemes : (s m : State) (ls : List Lexeme) → run (step limit) s (tokens_of ls) ≡ Ok m → run step_lexeme s ls ≡ Ok m
to_lexemes s m [] h = let same : s ≡ m = cc (run-nil (step limit) s) in run-nil step_lexeme s ∙ ap Ok same
to_lexemes s m (l ∷ ls) h =
    let b = begins (step limit) s m l.token (tokens_of ls) h in
    run-ok step_lexeme s b.middle l ls b.first ∙ to_lexemes b.middle m ls b.rest

-- what begins an expression and is shallow is taken within the limit
front_within : (ts : List Token) → IsFront ts → depth ts ≤ 64 → (m : State) × (run (step limit) start ts ≡ Ok m)
front_within ts f le = let m = front_taken ts f in (m.0, keeps start m.0 ts le m.1)

-- a whole expression that is shallow is taken up to its last operand
form_within : (ts : List Token) (o : Or) → ts ≡ or_tokens o → depth ts ≤ 64 → run (step limit) start ts ≡ Ok (at (have (or_post o)) (or_frame o) [])
form_within ts o e le =
    keeps start (at (have (or_post o)) (or_frame o) []) ts le (ap (run (step no_limit) start) e ∙ complete o)

-- what is taken within the limit begins an expression
within_front : (ts : List Token) (m : State) → run (step limit) start ts ≡ Ok m → IsFront ts
within_front ts m h = taken_front ts m (within start m ts (omega arith) h).free

within_depth : (ts : List Token) (m : State) → run (step limit) start ts ≡ Ok m → depth ts ≤ 64
within_depth ts m h = (within start m ts (omega arith) h).shallow

-- a token more, without the limit
one_more : (ts : List Token) (m n : State) (t : Token) → run (step limit) start ts ≡ Ok m → step no_limit m t ≡ Ok n → IsFront (ts ++ t ∷ [])
one_more ts m n t h e =
    taken_front (ts ++ t ∷ []) n
    (run-append (step no_limit) start m ts (t ∷ []) (within start m ts (omega arith) h).free ∙ run-ok (step no_limit) m n t [] e ∙ run-nil (step no_limit) n)

none_more : (ts : List Token) (m : State) (t : Token) (e : StepErr) → run (step limit) start ts ≡ Ok m → step no_limit m t ≡ Err e → IsFront (ts ++ t ∷ []) → ⊥
none_more ts m t e h fault f =
    let q = front_taken (ts ++ t ∷ []) f in
    let fails : run (step no_limit) start (ts ++ t ∷ []) ≡ Err (e, t ∷ []) =
    run-append (step no_limit) start m ts (t ∷ []) (within start m ts (omega arith) h).free ∙ run-err (step no_limit) m e t [] fault in
    let never : ◌≡◌ {A = Result State (StepErr × List Token)} (Ok q.0) (Err (e, t ∷ [])) = sym q.1 ∙ fails in
    cc

-- the number of parentheses that are open where a token would be too deep
full_depth : (ts : List Token) (m : State) → run (step limit) start ts ≡ Ok m → 64 ≤ length m.outer → depth (ts ++ opens ∷ []) ≡ 65
full_depth ts m h full =
    let counts : opened 0 ts ≡ length m.outer = run_counts limit start m ts h in
    let le : depth ts ≤ 64 = within_depth ts m h in
    omega (arith, depth_push 0 ts opens, opened_depth 0 ts)

-- ---- where a run ends

-- the state after a whole expression, or not
data End (p : Place) (f : Frame) (fs : List Frame) : Type 0 where
  whole : (q : Post) → p ≡ have q → fs ≡ [] → End p f fs
  open_end : ((q : Post) → p ≡ have q → fs ≡ [] → ⊥) → ((names : List (List ℕ)) → end_at (operand_of names p) (waits_of names f) (map (waits_of names) fs) ≡ None) → End p f fs

end_of : (p : Place) (f : Frame) (fs : List Frame) → End p f fs
end_of want f fs = open_end (λ q e n. cc) (λ names. refl)
end_of (have p) f [] = whole p refl refl
end_of (have p) f (g ∷ fs) = open_end (λ q e n. cc) (λ names. refl)

module _ (bytes : List ℕ) (names : List (List ℕ)) where
  abbrev ls : List Lexeme
  ls = lexemes bytes

  abbrev ts : List Token
  ts = tokens bytes

  abbrev unknown : Option ℕ
  unknown = unknown_from names None ls

  -- the answer, from what the machine of trees says
  abbrev told : Result State (StepErr × List Lexeme) → Result ℕ ExprErr
  told r = judged (length names) (length bytes) unknown (shown_run names r)

  reads : reading bytes names ≡ told (run step_lexeme start ls)
  reads = ap (judged (length names) (length bytes) unknown) (run_shown names start ls)

  all_before : before bytes (length bytes) ≡ ts
  all_before = ap tokens (take_all (length bytes) bytes (omega arith))

  -- ---- a whole expression

  record Whole (o : Or) : Type 0 where
    spells : ts ≡ or_tokens o
    shallow : depth ts ≤ 64

  whole_by : (q : Post) (f : Frame) → run step_lexeme start ls ≡ Ok (at (have q) f []) → Whole (or_of f q)
  whole_by q f h =
      let t = to_tokens start (at (have q) f []) ls h in
      record { spells = sound limit ts q f t; shallow = within_depth ts (at (have q) f []) t }

  whole_run : (o : Or) → Whole o → run step_lexeme start ls ≡ Ok (at (have (or_post o)) (or_frame o) [])
  whole_run o w = to_lexemes start (at (have (or_post o)) (or_frame o) []) ls (form_within ts o w.spells w.shallow)

  table_same : (f : Frame) (q : Post) → bit_and (sum_with (waits_of names f) (post_table names q)) (used (length names)) ≡ table_of names (or_of f q)
  table_same f q = ap (λ v. bit_and v (used (length names))) (sym (or_same names f q))

  whole_told : (o : Or) → Whole o → reading bytes names ≡ answered (length names) unknown (or_table names o)
  whole_told o w =
      reads ∙ ap told (whole_run o w)
      ∙ ap (answered (length names) unknown) (sym (or_same names (or_frame o) (or_post o)) ∙ ap (or_table names) (or_back o))

  -- ---- a table

  known : unknown ≡ None → (k : ℕ) (text : List ℕ) → StandsAt bytes k (operand (pin text)) → IsNamed names text
  known none k text s =
      known_pin names text (all_known names ls none s.number (record { token = operand (pin text); at = k }) s.is)

  truth_of : length names ≤ 6 → (v : ℕ) (o : Or) → Whole o → unknown ≡ None → v ≡ table_of names o → IsTruth bytes names v
  truth_of few v o w none same = record {
    few = few;
    tree = o;
    spells = w.spells;
    shallow = w.shallow;
    known = known none;
    rows = λ i lt. ap (λ t. bit_at t i) same ∙ row_bit names o few i lt;
    rest = λ i le. ap (λ t. bit_at t i) same ∙ rest_bit names o i le;
  }

  answered_ok : length names ≤ 6 → (u : Option ℕ) (v : ℕ) (f : Frame) (q : Post) → run step_lexeme start ls ≡ Ok (at (have q) f []) → unknown ≡ u
      → answered (length names) u (sum_with (waits_of names f) (post_table names q)) ≡ Ok v → IsTruth bytes names v
  answered_ok few None v f q h u e =
      let same : bit_and (sum_with (waits_of names f) (post_table names q)) (used (length names)) ≡ v = cc in
      truth_of few v (or_of f q) (whole_by q f h) u (sym same ∙ table_same f q)
  answered_ok few (Some k) v f q h u e = cc

  ended_ok : length names ≤ 6 → (v : ℕ) (p : Place) (f : Frame) (fs : List Frame) → run step_lexeme start ls ≡ Ok (at p f fs)
      → ended (length names) (length bytes) unknown (end_at (operand_of names p) (waits_of names f) (map (waits_of names) fs)) ≡ Ok v → IsTruth bytes names v
  ended_ok few v want f fs h e = cc
  ended_ok few v (have q) f [] h e = answered_ok few unknown v f q h refl e
  ended_ok few v (have q) f (g ∷ fs) h e = cc

  ok_by : length names ≤ 6 → (v : ℕ) (r : Result State (StepErr × List Lexeme)) → run step_lexeme start ls ≡ r → told r ≡ Ok v → IsTruth bytes names v
  ok_by few v (Ok s) h e = ended_ok few v s.place s.frame s.outer h e
  ok_by few v (Err (f, rest)) h e = cc

  -- what is answered is the table
  pub reading_ok : length names ≤ 6 → (v : ℕ) → reading bytes names ≡ Ok v → IsTruth bytes names v
  reading_ok few v h = ok_by few v (run step_lexeme start ls) refl (sym reads ∙ h)

  -- the first unknown name
  pin_at_place : (k : ℕ) → unknown ≡ Some k → (text : List ℕ) × (StandsAt bytes k (operand (pin text)) × (IsNamed names text → ⊥))
  pin_at_place k e =
      let u = unknown_at names ls k e in
      let t = unknown_pin names u.lexeme.token u.unknown in
      let here : slice_get ls u.number ≡ Some (record { token = operand (pin t.0); at = u.lexeme.at }) =
      u.is ∙ ap (λ x. Some (record { token = x; at = u.lexeme.at })) t.1 in
      let stand : StandsAt bytes u.lexeme.at (operand (pin t.0)) = record { number = u.number; is = here } in
      (t.0, (subst (λ j. StandsAt bytes j (operand (pin t.0))) u.place stand, t.2))

  none_by : (u : Option ℕ) → unknown ≡ u → ((k : ℕ) (text : List ℕ) → StandsAt bytes k (operand (pin text)) → IsNamed names text) → u ≡ None
  none_by None e all = refl
  none_by (Some k) e all = let q = pin_at_place k e in absurd (q.1.1 (all k q.0 q.1.0))

  -- and a table is answered
  pub truth_reading : (v : ℕ) → IsTruth bytes names v → reading bytes names ≡ Ok v
  truth_reading v t =
      let none : unknown ≡ None = none_by unknown refl t.known in
      let w : Whole t.tree = record { spells = t.spells; shallow = t.shallow } in
      let same : table_of names t.tree ≡ v =
      one_table names t.tree (table_of names t.tree) v (row_bit names t.tree t.few) (rest_bit names t.tree) t.rows t.rest in
      whole_told t.tree w ∙ ap (λ u. answered (length names) u (or_table names t.tree)) none ∙ ap Ok same

  -- ---- a refusal at the end

  abbrev Why : ExprErr → Type 0
  Why e = (e ≢ ExprErr.Mem) × HasCause bytes names e

  early : length names ≤ 6 → (m : State) → run step_lexeme start ls ≡ Ok m → ((q : Post) → m.place ≡ have q → m.outer ≡ [] → ⊥) → IsFault bytes (length bytes)
  early few m h n =
      let t = to_tokens start m ls h in
      record {
        front = subst IsFront (sym all_before) (within_front ts m t);
        fault = inr (
          refl,
          λ form.
              let again = form_within ts form.0 form.1 (within_depth ts m t) in
              let both : ◌≡◌ {A = Result State (StepErr × List Token)} (Ok m) (Ok (at (have (or_post form.0)) (or_frame form.0) [])) = sym t ∙ again in
              let same : m ≡ at (have (or_post form.0)) (or_frame form.0) [] = cc in
              n (or_post form.0) (ap (λ (s : State). s.place) same) (ap (λ (s : State). s.outer) same),
        );
        earlier = subst (λ us. depth us ≤ 64) (sym all_before) (within_depth ts m t);
      }

  pin_at : (k : ℕ) → unknown ≡ Some k → (o : Or) → Whole o → IsUnknownPin bytes names k
  pin_at k e o w =
      let q = pin_at_place k e in
      record {
        form = (o, w.spells);
        shallow = w.shallow;
        text = q.0;
        named = q.1.0;
        unknown = q.1.1;
        earlier = λ j other lt s. known_pin names other (known_before names 0 ls k e (cut_above 0 0 bytes) s.number (record { token = operand (pin other); at = j }) s.is lt);
      }

  answered_err : length names ≤ 6 → (u : Option ℕ) (e : ExprErr) (v : ℕ) (o : Or) → Whole o → unknown ≡ u → answered (length names) u v ≡ Err e → Why e
  answered_err few None e v o w is h = cc
  answered_err few (Some k) e v o w is h =
      let same : ExprErr.UnknownPin k ≡ e = cc in
      subst Why same (λ m. cc, (few, pin_at k is o w))

  syntax_end : length names ≤ 6 → (e : ExprErr) → IsFault bytes (length bytes) → ExprErr.Syntax (length bytes) ≡ e → Why e
  syntax_end few e f same = subst Why same (λ m. cc, (few, f))

  ended_err : length names ≤ 6 → (e : ExprErr) (p : Place) (f : Frame) (fs : List Frame) → run step_lexeme start ls ≡ Ok (at p f fs)
      → ended (length names) (length bytes) unknown (end_at (operand_of names p) (waits_of names f) (map (waits_of names) fs)) ≡ Err e → Why e
  ended_err few e want f fs h k = syntax_end few e (early few (at want f fs) h (λ q n m. cc)) cc
  ended_err few e (have q) f [] h k = answered_err few unknown e (sum_with (waits_of names f) (post_table names q)) (or_of f q) (whole_by q f h) refl k
  ended_err few e (have q) f (g ∷ fs) h k = syntax_end few e (early few (at (have q) f (g ∷ fs)) h (λ r n m. cc)) cc

  -- ---- a refusal at a token

  module _ (few : length names ≤ 6) (front : List Lexeme) (l : Lexeme) (more : List Lexeme) (list : ls ≡ front ++ l ∷ more) (m : State) (taken : run step_lexeme start front ≡ Ok m) where
    abbrev us : List Token
    us = tokens_of front

    start_us : run (step limit) start us ≡ Ok m
    start_us = to_tokens start m front taken

    same_front : before bytes l.at ≡ us
    same_front = tokens_before bytes front l more list

    stand : StandsAt bytes l.at l.token
    stand = stands bytes front l more list

    bad_fault : step no_limit m l.token ≡ Err Bad → IsFault bytes l.at
    bad_fault fault = record {
      front = subst IsFront (sym same_front) (within_front us m start_us);
      fault = inl (l.token, stand, λ f. none_more us m l.token Bad start_us fault (subst (λ xs. IsFront (xs ++ l.token ∷ [])) same_front f));
      earlier = subst (λ xs. depth xs ≤ 64) (sym same_front) (within_depth us m start_us);
    }

    deep_fault : (n : State) → step no_limit m l.token ≡ Ok n → l.token ≡ opens → 64 ≤ length m.outer → IsTooDeep bytes l.at
    deep_fault n goes is full = record {
      paren = subst (StandsAt bytes l.at) is stand;
      front = subst (λ xs. IsFront (xs ++ opens ∷ [])) (sym same_front) (subst (λ t. IsFront (us ++ t ∷ [])) is (one_more us m n l.token start_us goes));
      deep = subst (λ xs. depth (xs ++ opens ∷ []) ≡ 65) (sym same_front) (full_depth us m start_us full);
      earlier = subst (λ xs. depth xs ≤ 64) (sym same_front) (within_depth us m start_us);
    }

    token_err : (e : StepErr) → step limit m l.token ≡ Err e → Limited (length m.outer) l.token (step limit m l.token) (step no_limit m l.token) → Why (refused l.at e)
    token_err e fault (passes n strict free fits) = let never : Ok n ≡ Err e = sym strict ∙ fault in cc
    token_err e fault (bad strict free) =
        let both : ◌≡◌ {A = Result State StepErr} (Err Bad) (Err e) = sym strict ∙ fault in
        let same : Bad ≡ e = cc in
        subst (λ x. Why (refused l.at x)) same (λ h. cc, (few, bad_fault free))
    token_err e fault (deep n strict free is full) =
        let both : ◌≡◌ {A = Result State StepErr} (Err Deep) (Err e) = sym strict ∙ fault in
        let same : Deep ≡ e = cc in
        subst (λ x. Why (refused l.at x)) same (λ h. cc, (few, deep_fault n free is full))

  err_by : length names ≤ 6 → (e : ExprErr) (r : Result State (StepErr × List Lexeme)) → run step_lexeme start ls ≡ r → told r ≡ Err e → Why e
  err_by few e (Ok s) h k = ended_err few e s.place s.frame s.outer h k
  err_by few e (Err (f, rest)) h k =
      let q = stops step_lexeme start ls f rest h in
      let here : place (length bytes) rest ≡ q.token.at = ap (place (length bytes)) q.rest_is in
      let same : refused (place (length bytes) rest) f ≡ e = cc in
      subst Why (ap (λ i. refused i f) (sym here) ∙ same) (token_err few q.front q.token q.more q.list_is q.middle q.taken f q.fault (limited q.middle q.token.token))

  -- each refusal has its cause,
  pub reading_err : length names ≤ 6 → (e : ExprErr) → reading bytes names ≡ Err e → Why e
  reading_err few e h = err_by few e (run step_lexeme start ls) refl (sym reads ∙ h)

  -- ---- and each cause its refusal

  module _ (front : List Lexeme) (l : Lexeme) (more : List Lexeme) (list : ls ≡ front ++ l ∷ more) (m : State) (taken : run step_lexeme start front ≡ Ok m) where
    refuses : (e : StepErr) → step limit m l.token ≡ Err e → reading bytes names ≡ Err (refused l.at e)
    refuses e fault =
        reads
        ∙ ap (λ xs. told (run step_lexeme start xs)) list
        ∙ ap told (run-append step_lexeme start m front (l ∷ more) taken ∙ run-err step_lexeme m e l more fault)

    bad_only : (IsFront (tokens_of front ++ l.token ∷ []) → ⊥) → Limited (length m.outer) l.token (step limit m l.token) (step no_limit m l.token) → reading bytes names ≡ Err (ExprErr.Syntax l.at)
    bad_only no_front (passes n strict free fits) = absurd (no_front (one_more (tokens_of front) m n l.token (to_tokens start m front taken) free))
    bad_only no_front (bad strict free) = refuses Bad strict
    bad_only no_front (deep n strict free is full) = absurd (no_front (one_more (tokens_of front) m n l.token (to_tokens start m front taken) free))

    deep_only : l.token ≡ opens → IsFront (tokens_of front ++ opens ∷ []) → depth (tokens_of front ++ opens ∷ []) ≡ 65
        → Limited (length m.outer) l.token (step limit m l.token) (step no_limit m l.token) → reading bytes names ≡ Err (ExprErr.TooDeep l.at)
    deep_only is f full (passes n strict free fits) =
        let t = to_tokens start m front taken in
        let counts : opened 0 (tokens_of front) ≡ length m.outer = run_counts limit start m (tokens_of front) t in
        let less : depth (tokens_of front) ≤ 64 = within_depth (tokens_of front) m t in
        let more_open : open_after (length m.outer) l.token ≡ length m.outer + 1 = ap (open_after (length m.outer)) is in
        absurd (omega (arith, fits, full, depth_push 0 (tokens_of front) opens, opened_depth 0 (tokens_of front)))
    deep_only is f full (bad strict free) =
        absurd (none_more (tokens_of front) m l.token Bad (to_tokens start m front taken) free (subst (λ t. IsFront (tokens_of front ++ t ∷ [])) (sym is) f))
    deep_only is f full (deep n strict free is_too enough) = refuses Deep strict

  token_split : (k : ℕ) (t : Token) (s : StandsAt bytes k t) → Split ls (record { token = t; at = k })
  token_split k t s = split_at ls s.number (record { token = t; at = k }) s.is

  front_state : (k : ℕ) (t : Token) (s : StandsAt bytes k t) → IsFront (before bytes k) → depth (before bytes k) ≤ 64
      → (m : State) × (run step_lexeme start (token_split k t s).front ≡ Ok m)
  front_state k t s f le =
      let q = token_split k t s in
      let same : before bytes k ≡ tokens_of q.front = tokens_before bytes q.front (record { token = t; at = k }) q.more q.list in
      let m = front_within (tokens_of q.front) (subst IsFront same f) (subst (λ xs. depth xs ≤ 64) same le) in
      (m.0, to_lexemes start m.0 q.front m.1)

  fault_by : (k : ℕ) (t : Token) (s : StandsAt bytes k t) → IsFront (before bytes k) → depth (before bytes k) ≤ 64 → (IsFront (before bytes k ++ t ∷ []) → ⊥)
      → reading bytes names ≡ Err (ExprErr.Syntax k)
  fault_by k t s f le no_front =
      let q = token_split k t s in
      let l : Lexeme = record { token = t; at = k } in
      let same : before bytes k ≡ tokens_of q.front = tokens_before bytes q.front l q.more q.list in
      let m = front_state k t s f le in
      bad_only q.front l q.more q.list m.0 m.1 (λ g. no_front (subst (λ xs. IsFront (xs ++ t ∷ [])) (sym same) g)) (limited m.0 t)

  end_by : (m : State) → run step_lexeme start ls ≡ Ok m → (IsForm ts → ⊥) → End m.place m.frame m.outer → reading bytes names ≡ Err (ExprErr.Syntax (length bytes))
  end_by m h no_form (whole q p o) =
      let is : m ≡ at (have q) m.frame [] = ap (λ x. at x m.frame m.outer) p ∙ ap (λ x. at (have q) m.frame x) o in
      absurd (no_form (or_of m.frame q, (whole_by q m.frame (h ∙ ap Ok is)).spells))
  end_by m h no_form (open_end n e) =
      reads ∙ ap told h ∙ ap (ended (length names) (length bytes) unknown) (e names)

  fault_case : (k : ℕ) → IsFront (before bytes k) → depth (before bytes k) ≤ 64 → (IsBadToken bytes k ⊎ IsEarlyEnd bytes k) → reading bytes names ≡ Err (ExprErr.Syntax k)
  fault_case k f le (inl b) = fault_by k b.0 b.1 f le b.2
  fault_case k f le (inr e) =
      let all : before bytes k ≡ ts = ap (before bytes) e.0 ∙ all_before in
      let m = front_within ts (subst IsFront all f) (subst (λ xs. depth xs ≤ 64) all le) in
      end_by m.0 (to_lexemes start m.0 ls m.1) e.1 (end_of m.0.place m.0.frame m.0.outer) ∙ ap (λ j. Err (ExprErr.Syntax j)) (sym e.0)

  pub fault_reading : (k : ℕ) → IsFault bytes k → reading bytes names ≡ Err (ExprErr.Syntax k)
  fault_reading k f = fault_case k f.front f.earlier f.fault

  pub deep_reading : (k : ℕ) → IsTooDeep bytes k → reading bytes names ≡ Err (ExprErr.TooDeep k)
  deep_reading k d =
      let q = token_split k opens d.paren in
      let l : Lexeme = record { token = opens; at = k } in
      let same : before bytes k ≡ tokens_of q.front = tokens_before bytes q.front l q.more q.list in
      let begins_here : IsFront (before bytes k) = shorter IsForm (before bytes k) (opens ∷ []) d.front in
      let m = front_state k opens d.paren begins_here d.earlier in
      deep_only q.front l q.more q.list m.0 m.1 refl
      (subst (λ xs. IsFront (xs ++ opens ∷ [])) same d.front)
      (subst (λ xs. depth (xs ++ opens ∷ []) ≡ 65) same d.deep)
      (limited m.0 opens)

  pin_by : (k : ℕ) → IsUnknownPin bytes names k → (u : Option ℕ) → unknown ≡ u → u ≡ Some k
  pin_by k p None e =
      absurd (all_known names ls e p.named.number (record { token = operand (pin p.text); at = k }) p.named.is (pin_unknown names p.text p.unknown))
  pin_by k p (Some j) e = ap Some (same_place (cases_order j k))
    where
      same_place : ((j ≡ k) ⊎ ((j < k) ⊎ (k < j))) → j ≡ k
      same_place (inl s) = s
      same_place (inr (inl lt)) =
          let q = pin_at_place j e in
          absurd (q.1.1 (p.earlier j q.0 lt q.1.0))
      same_place (inr (inr lt)) =
          absurd (known_before names 0 ls j e (cut_above 0 0 bytes) p.named.number (record { token = operand (pin p.text); at = k }) p.named.is lt (pin_unknown names p.text p.unknown))

  pub pin_reading : (k : ℕ) → IsUnknownPin bytes names k → reading bytes names ≡ Err (ExprErr.UnknownPin k)
  pin_reading k p =
      let w : Whole p.form.0 = record { spells = p.form.1; shallow = p.shallow } in
      whole_told p.form.0 w ∙ ap (λ u. answered (length names) u (or_table names p.form.0)) (pin_by k p unknown refl)
