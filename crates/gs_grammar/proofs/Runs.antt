-- The laws of a run, for any states, tokens and faults.

use Rattle.std.proofs.Common.{◌≡◌, ℕ, ◌+◌, ◌<◌, ◌≤◌, List, [], ◌∷◌, ◌++◌, length, get_or, drop, refl, sym, ap, ◌∙◌, Result, Ok, Err}
use Rattle.std.proofs.lemmas.List.{drop_more, at_drop_more, at_drop_all}
use Rattle.gs_grammar.specs.Machine.{run, go_on}

-- a run that takes a list takes its first token, and from there the rest
pub record Begins {S T F : Type 0} (step : S → T → Result S F) (s end : S) (t : T) (ts : List T) : Type 0 where
  pub middle : S
  pub first : step s t ≡ Ok middle
  pub rest : run step middle ts ≡ Ok end

-- a run that ends in a fault takes the front of the list, and the step at the next token gives the fault
pub record Stops {S T F : Type 0} (step : S → T → Result S F) (s : S) (ts : List T) (f : F) (rest : List T) : Type 0 where
  pub front : List T
  pub middle : S
  pub token : T
  pub more : List T
  pub rest_is : rest ≡ token ∷ more
  pub list_is : ts ≡ front ++ token ∷ more
  pub taken : run step s front ≡ Ok middle
  pub fault : step middle token ≡ Err f

module _ {S T F : Type 0} (step : S → T → Result S F) where
  pub run-nil : (s : S) → run step s [] ≡ Ok s
  unfolding run
  run-nil s = refl

  -- a token that is taken
  pub run-ok : (s m : S) (t : T) (ts : List T) → step s t ≡ Ok m → run step s (t ∷ ts) ≡ run step m ts
  unfolding run
  run-ok s m t ts e = rw e refl

  -- a token that isn't
  pub run-err : (s : S) (f : F) (t : T) (ts : List T) → step s t ≡ Err f → run step s (t ∷ ts) ≡ Err (f, t ∷ ts)
  unfolding run
  run-err s f t ts e = rw e refl

  begins_by : (s end : S) (t : T) (ts : List T) (r : Result S F) → step s t ≡ r → go_on r (t ∷ ts) (λ next. run step next ts) ≡ Ok end → Begins step s end t ts
  begins_by s end t ts (Ok m) e h = record { middle = m; first = e; rest = h }
  begins_by s end t ts (Err f) e h = cc

  -- the first step of a run that takes its list
  pub begins : (s end : S) (t : T) (ts : List T) → run step s (t ∷ ts) ≡ Ok end → Begins step s end t ts
  unfolding run
  begins s end t ts h = begins_by s end t ts (step s t) refl h

  -- a list in two parts, of which the first is taken
  pub run-append : (s m : S) (xs ys : List T) → run step s xs ≡ Ok m → run step s (xs ++ ys) ≡ run step m ys
  run-append s m [] ys h = let e : s ≡ m = cc (run-nil s) in rw e refl
  run-append s m (x ∷ xs) ys h = let b = begins s m x xs h in run-ok s b.middle x (xs ++ ys) b.first ∙ run-append b.middle m xs ys b.rest

  -- a front of what is taken is taken
  pub run-front : (s end : S) (xs ys : List T) → run step s (xs ++ ys) ≡ Ok end → (m : S) × (run step s xs ≡ Ok m)
  run-front s end [] ys h = (s, run-nil s)
  run-front s end (x ∷ xs) ys h =
      let b = begins s end x (xs ++ ys) h in
      let f = run-front b.middle end xs ys b.rest in
      (f.0, run-ok s b.middle x xs b.first ∙ f.1)

  stops_by : (s : S) (t : T) (ts : List T) (f : F) (rest : List T) (r : Result S F) → step s t ≡ r
      → ((m : S) → run step m ts ≡ Err (f, rest) → Stops step m ts f rest)
      → go_on r (t ∷ ts) (λ next. run step next ts) ≡ Err (f, rest) → Stops step s (t ∷ ts) f rest
  stops_by s t ts f rest (Ok m) e later h =
      let q = later m h in
      record {
        front = t ∷ q.front;
        middle = q.middle;
        token = q.token;
        more = q.more;
        rest_is = q.rest_is;
        list_is = ap (λ us. t ∷ us) q.list_is;
        taken = run-ok s m t q.front e ∙ q.taken;
        fault = q.fault;
      }
  stops_by s t ts f rest (Err g) e later h =
      let both : ◌≡◌ {A = F × List T} (g, t ∷ ts) (f, rest) = cc in
      let same : g ≡ f = ap (λ p. p.0) both in
      record {
        front = [];
        middle = s;
        token = t;
        more = ts;
        rest_is = sym (ap (λ p. p.1) both);
        list_is = refl;
        taken = run-nil s;
        fault = e ∙ ap Err same;
      }

  -- where a fault stands
  pub stops : (s : S) (ts : List T) (f : F) (rest : List T) → run step s ts ≡ Err (f, rest) → Stops step s ts f rest
  unfolding run
  stops s [] f rest h = cc
  stops s (t ∷ ts) f rest h = stops_by s t ts f rest (step s t) refl (λ m. stops m ts f rest) h

  -- A reader's loop at token i: a token that is taken,
  pub turn : (s m : S) (ts : List T) (i : ℕ) (d : T) (total : Result S (F × List T))
      → i < length ts → step s (get_or ts i d) ≡ Ok m → run step s (drop i ts) ≡ total → run step m (drop (i + 1) ts) ≡ total
  turn s m ts i d total lt e so_far = sym (run-ok s m (get_or ts i d) (drop (i + 1) ts) e) ∙ sym (at_drop_more (run step s) ts i d lt) ∙ so_far

  -- a token that isn't,
  pub halt : (s : S) (f : F) (ts : List T) (i : ℕ) (d : T) (total : Result S (F × List T))
      → i < length ts → step s (get_or ts i d) ≡ Err f → run step s (drop i ts) ≡ total → total ≡ Err (f, drop i ts)
  halt s f ts i d total lt e so_far =
      sym so_far ∙ at_drop_more (run step s) ts i d lt ∙ run-err s f (get_or ts i d) (drop (i + 1) ts) e
      ∙ ap (λ us. Err (f, us)) (sym (drop_more ts i d lt))

  -- and the end of the list.
  pub done : (s : S) (ts : List T) (i : ℕ) (total : Result S (F × List T))
      → length ts ≤ i → run step s (drop i ts) ≡ total → total ≡ Ok s
  done s ts i total le so_far = sym so_far ∙ at_drop_all (run step s) ts i le ∙ run-nil s
