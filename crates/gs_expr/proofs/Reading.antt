-- The loop over the bytes: white, a token that is taken, a token that is refused, and the end of the text.

use Rattle.std.proofs.Common.{◌≡◌, ◌∙◌, inl, inr, sym, ap, subst, refl, ℕ, ◌+◌, ◌-◌, ◌<◌, ◌≤◌, List, [], ◌∷◌, length, take, drop, Option, None, Result, Ok, Err, arith}
use Rattle.gs_grammar.specs.Machine.{run}
use Rattle.gs_grammar.proofs.Runs.{run-nil, run-ok, run-err}
use Rattle.gs_expr.specs.Cutting.{begins, cut, lexemes}
use Rattle.gs_expr.specs.Machine.{symbol, Tables, first, go, go_lexeme, end_at, met, unknown_from, ended, refused, judged, reading, Fails, StepFails}
use Rattle.gs_expr.specs.Token.{token, Lexeme}
use Rattle.gs_expr.specs.declared.error.ExprErr.{ExprErr}
use Rattle.gs_expr.specs.declared.error.StepErr.{StepErr}
use Rattle.gs_expr.specs.declared.error.StepErr.TheVariants.{Bad, Deep, Mem}
use Rattle.gs_expr.specs.declared.symbol.Symbol.{Symbol}
use Rattle.gs_expr.specs.declared.token.Class.{Class}
use Rattle.gs_expr.specs.declared.token.Front.TheVariants.{Gap, Found}
use Rattle.gs_expr.proofs.Clauses.{Gives}
use Rattle.gs_expr.proofs.Cuts.{lexeme, byte, rest, passes, finds, ends}

-- what is left to read from this place on, in this state
abbrev pub SoFar : List ℕ → List (List ℕ) → ℕ → Tables → Type 0
SoFar bytes names at s = run (go_lexeme names) s (cut at 0 (drop at bytes)) ≡ run (go_lexeme names) first (lexemes bytes)

abbrev pub Unknowns : List ℕ → List (List ℕ) → ℕ → Option ℕ → Type 0
Unknowns bytes names at u = unknown_from names u (cut at 0 (drop at bytes)) ≡ unknown_from names None (lexemes bytes)

module _ (bytes : List ℕ) (names : List (List ℕ)) (at : ℕ) (lt : at < length bytes) where
  pub white_read : (s : Tables) → Gap ≡ begins (byte bytes at lt) (rest bytes at lt) → SoFar bytes names at s → SoFar bytes names (at + 1) s
  white_read s e h = ap (run (go_lexeme names) s) (sym (passes bytes at lt e)) ∙ h

  pub white_names : (u : Option ℕ) → Gap ≡ begins (byte bytes at lt) (rest bytes at lt) → Unknowns bytes names at u → Unknowns bytes names (at + 1) u
  white_names u e h = ap (unknown_from names u) (sym (passes bytes at lt e)) ∙ h

  module _ (class : Class) (len : ℕ) (found : Found class len ≡ begins (byte bytes at lt) (rest bytes at lt)) (pos : 0 < len)
      (text : List ℕ) (is : text ≡ take (at + len - at) (drop at bytes)) (x : Symbol) (named : x ≡ symbol names (token class text)) where
    abbrev here : Lexeme
    here = lexeme class len (drop at bytes) at

    abbrev later : List Lexeme
    later = cut (at + len) 0 (drop (at + len) bytes)

    same_symbol : symbol names here.token ≡ x
    same_symbol =
        let size : at + len - at ≡ len = omega arith in
        ap (λ t. symbol names (token class t)) (ap (λ k. take k (drop at bytes)) (sym size) ∙ sym is) ∙ sym named

    list : cut at 0 (drop at bytes) ≡ here ∷ later
    list = finds bytes at lt class len found pos

    pub token_read : (s m : Tables) → go s x ≡ Ok m → SoFar bytes names at s → SoFar bytes names (at + len) m
    token_read s m e h =
        sym (ap (run (go_lexeme names) s) list ∙ run-ok (go_lexeme names) s m here later (ap (go s) same_symbol ∙ e)) ∙ h

    pub token_names : (u v : Option ℕ) → v ≡ met u x at → Unknowns bytes names at u → Unknowns bytes names (at + len) v
    token_names u v e h =
        ap (λ w. unknown_from names w later) (e ∙ ap (λ y. met u y at) (sym same_symbol)) ∙ sym (ap (unknown_from names u) list) ∙ h

    refused_as : (s : Tables) (e : StepErr) → go s x ≡ Err e → SoFar bytes names at s → Fails (refused at e) (reading bytes names)
    refused_as s e fault h =
        let all : run (go_lexeme names) first (lexemes bytes) ≡ Err (e, here ∷ later) =
        sym h ∙ ap (run (go_lexeme names) s) list ∙ run-err (go_lexeme names) s e here later (ap (go s) same_symbol ∙ fault) in
        inr (ap (judged (length names) (length bytes) (unknown_from names None (lexemes bytes))) all)

    token_refused_by : (s : Tables) (e : StepErr) → StepFails e (go s x) → SoFar bytes names at s → Fails (refused at e) (reading bytes names)
    token_refused_by s Bad fault h = refused_as s Bad fault h
    token_refused_by s Deep fault h = refused_as s Deep fault h
    token_refused_by s Mem fault h = inl refl

    pub token_refused : (s : Tables) (e : StepErr) (f : ExprErr) → f ≡ refused at e → StepFails e (go s x) → SoFar bytes names at s → Fails f (reading bytes names)
    token_refused s e f same fault h = subst (λ y. Fails y (reading bytes names)) (sym same) (token_refused_by s e fault h)

gives_same : (r x : Result ℕ ExprErr) → r ≡ x → Gives r x
gives_same (Ok v) x e = sym e
gives_same (Err f) x e = inr (sym e)

pub all_read : (bytes : List ℕ) (names : List (List ℕ)) (at : ℕ) (s : Tables) (u : Option ℕ) → length bytes ≤ at → SoFar bytes names at s → Unknowns bytes names at u
    → (r : Result ℕ ExprErr) → r ≡ ended (length names) (length bytes) u (end_at s.operand s.held s.outer) → Gives r (reading bytes names)
all_read bytes names at s u le h k r e =
    let none : cut at 0 (drop at bytes) ≡ [] = ends bytes at le in
    let run_is : run (go_lexeme names) first (lexemes bytes) ≡ Ok s = sym h ∙ ap (run (go_lexeme names) s) none ∙ run-nil (go_lexeme names) s in
    let names_is : unknown_from names None (lexemes bytes) ≡ u = sym k ∙ ap (unknown_from names u) none in
    let told : reading bytes names ≡ ended (length names) (length bytes) u (end_at s.operand s.held s.outer) =
    ap (judged (length names) (length bytes) (unknown_from names None (lexemes bytes))) run_is
    ∙ ap (λ w. ended (length names) (length bytes) w (end_at s.operand s.held s.outer)) names_is in
    gives_same r (reading bytes names) (e ∙ sym told)
