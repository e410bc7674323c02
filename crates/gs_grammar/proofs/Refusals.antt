-- From a machine to the exact places of a reader's refusals.
--
-- A machine is given twice: `strict` keeps the rules and `loose` reads the form alone. Where each takes exactly its
-- lists, and each state that is reached can be finished, the fault of a run stands at the first bad or first broken token.

use Rattle.std.proofs.Common.{◌≡◌, ℕ, ◌+◌, ◌<◌, List, [], ◌∷◌, ◌++◌, length, take, sym, ap, subst, ◌∙◌, Result, Ok, Err, arith, length-append, append_assoc}
use Rattle.std.proofs.lemmas.List.{take_at}
use Rattle.gs_grammar.specs.Fronts.{IsFrontOf, IsFirstBad, IsFirstBroken}
use Rattle.gs_grammar.specs.Machine.{run}
use Rattle.gs_grammar.proofs.Runs.{run-nil, run-ok, run-err, run-append, run-front, begins, stops}

-- what strict takes, loose takes with the same states
pub run-looser : {S T F : Type 0} (strict loose : S → T → Result S F)
    → ((s m : S) (t : T) → strict s t ≡ Ok m → loose s t ≡ Ok m)
    → (s end : S) (ts : List T) → run strict s ts ≡ Ok end → run loose s ts ≡ Ok end
run-looser strict loose looser s end [] h = let e : s ≡ end = cc (run-nil strict s) in rw e (run-nil loose end)
run-looser strict loose looser s end (t ∷ ts) h =
    let b = begins strict s end t ts h in
    run-ok loose s b.middle t ts (looser s b.middle t b.first) ∙ run-looser strict loose looser b.middle end ts b.rest

-- the list in the parts in which a place cuts it
pub record Cuts {T : Type 0} (ts : List T) (i : ℕ) (front : List T) (token : T) : Type 0 where
  pub inside : i < length ts
  pub before : take i ts ≡ front
  pub here : take (i + 1) ts ≡ front ++ token ∷ []

pub cuts : {T : Type 0} (front more : List T) (token : T) (ts rest : List T) (i : ℕ)
    → ts ≡ front ++ token ∷ more → rest ≡ token ∷ more → i + length rest ≡ length ts → Cuts ts i front token
cuts front more token ts rest i list rest_is place =
    let all : length ts ≡ length front + length (token ∷ more) = ap length list ∙ length-append front (token ∷ more) in
    let rest_len : length rest ≡ length (token ∷ more) = ap length rest_is in
    let at : length front ≡ i = omega arith in
    let longer : length (front ++ token ∷ []) ≡ i + 1 = length-append front (token ∷ []) ∙ omega arith in
    let split : ts ≡ (front ++ token ∷ []) ++ more = list ∙ sym (append_assoc front (token ∷ []) more) in
    record {
      inside = omega arith;
      before = ap (take i) list ∙ take_at front (token ∷ more) i at;
      here = ap (take (i + 1)) split ∙ take_at (front ++ token ∷ []) more (i + 1) longer;
    }

module _ {S T F : Type 0} (strict loose : S → T → Result S F) (start : S) (Form Whole : List T → Type 0)
    (looser : (s m : S) (t : T) → strict s t ≡ Ok m → loose s t ≡ Ok m)
    (finished : (ts : List T) (s : S) → run strict start ts ≡ Ok s → IsFrontOf Whole ts)
    (finished_form : (ts : List T) (s : S) → run loose start ts ≡ Ok s → IsFrontOf Form ts)
    (taken : (ts : List T) → Whole ts → (end : S) × (run strict start ts ≡ Ok end))
    (taken_form : (ts : List T) → Form ts → (end : S) × (run loose start ts ≡ Ok end)) where
  -- A fault that the form gives too stands at the first bad token.
  pub first_bad : (ts : List T) (f : F) (rest : List T) (i : ℕ)
      → ((s : S) (t : T) → strict s t ≡ Err f → (g : F) × (loose s t ≡ Err g))
      → run strict start ts ≡ Err (f, rest) → i + length rest ≡ length ts → IsFirstBad Form Whole ts i
  first_bad ts f rest i faults h place =
      let q = stops strict start ts f rest h in
      let c = cuts q.front q.more q.token ts rest i q.list_is q.rest_is place in
      let front_taken = run-looser strict loose looser start q.middle q.front q.taken in
      let g = faults q.middle q.token q.fault in
      record {
        inside = c.inside;
        before = subst (IsFrontOf Whole) (sym c.before) (finished q.front q.middle q.taken);
        here = λ w.
            let whole = subst (λ us. Form (us ++ w.0)) c.here w.1 in
            let all = taken_form ((q.front ++ q.token ∷ []) ++ w.0) whole in
            let part = run-front loose start all.0 (q.front ++ q.token ∷ []) w.0 all.1 in
            let fails : run loose start (q.front ++ q.token ∷ []) ≡ Err (g.0, q.token ∷ []) =
            run-append loose start q.middle q.front (q.token ∷ []) front_taken ∙ run-err loose q.middle g.0 q.token [] g.1 in
            let never : Ok part.0 ≡ Err (g.0, q.token ∷ []) = sym part.1 ∙ fails in
            cc;
      }

  -- A fault that the form doesn't give stands at the first token that only breaks a rule.
  pub first_broken : (ts : List T) (f : F) (rest : List T) (i : ℕ)
      → ((s : S) (t : T) → strict s t ≡ Err f → (m : S) × (loose s t ≡ Ok m))
      → run strict start ts ≡ Err (f, rest) → i + length rest ≡ length ts → IsFirstBroken Form Whole ts i
  first_broken ts f rest i passes h place =
      let q = stops strict start ts f rest h in
      let c = cuts q.front q.more q.token ts rest i q.list_is q.rest_is place in
      let front_taken = run-looser strict loose looser start q.middle q.front q.taken in
      let m = passes q.middle q.token q.fault in
      let goes : run loose start (q.front ++ q.token ∷ []) ≡ Ok m.0 =
      run-append loose start q.middle q.front (q.token ∷ []) front_taken ∙ run-ok loose q.middle m.0 q.token [] m.1 ∙ run-nil loose m.0 in
      record {
        inside = c.inside;
        before = subst (IsFrontOf Whole) (sym c.before) (finished q.front q.middle q.taken);
        form = subst (IsFrontOf Form) (sym c.here) (finished_form (q.front ++ q.token ∷ []) m.0 goes);
        here = λ w.
            let whole = subst (λ us. Whole (us ++ w.0)) c.here w.1 in
            let all = taken ((q.front ++ q.token ∷ []) ++ w.0) whole in
            let part = run-front strict start all.0 (q.front ++ q.token ∷ []) w.0 all.1 in
            let fails : run strict start (q.front ++ q.token ∷ []) ≡ Err (f, q.token ∷ []) =
            run-append strict start q.middle q.front (q.token ∷ []) q.taken ∙ run-err strict q.middle f q.token [] q.fault in
            let never : Ok part.0 ≡ Err (f, q.token ∷ []) = sym part.1 ∙ fails in
            cc;
      }
