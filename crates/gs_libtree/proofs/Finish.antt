-- Each state that a run reaches can be finished.

use Rattle.std.proofs.Common.{◌≡◌, ℕ, Bool, true, List, [], ◌∷◌, ◌++◌, length, refl, subst, ◌∙◌, Result, Ok}
use Rattle.gs_grammar.specs.Machine.{run}
use Rattle.gs_grammar.proofs.Runs.{run-ok, run-nil, run-append, begins}
use Rattle.gs_drive.specs.declared.machine.Fault.{Fault}
use Rattle.gs_libtree.specs.Machine.{Room, State, at, start, step, step_at, entered, with_item}
use Rattle.gs_libtree.specs.Token.{Token, word, quoted, opens, closes, enters, leaves, comma, semicolon, colon}
use Rattle.gs_libtree.specs.declared.error.Rule.{Rule}
use Rattle.gs_libtree.specs.declared.reader.Place.{Place}
use Rattle.gs_libtree.specs.declared.reader.Place.TheVariants.{Start, Named, FirstArg, Arg, NextArg, Closed, Body, FirstValue, Values, Done}
use Rattle.gs_libtree.specs.declared.tree.Node.{Node}
use Rattle.gs_libtree.specs.declared.tree.Item.TheVariants.{Simple, Complex, Sub}
use Rattle.gs_libtree.proofs.Left.{fresh, TreeLeft}
use Rattle.gs_libtree.proofs.Sound.{entered_ok, tree_left}

-- where items and values are read a group is open, and at the end there is one
abbrev pub Kept : Place → List Node → Type 0
Kept Body [] = ⊥
Kept FirstValue [] = ⊥
Kept Values [] = ⊥
Kept Done [] = ⊥
Kept Done (f ∷ g ∷ gs) = ⊥
Kept _ _ = Unit {0}

abbrev pub KeptAt : State → Type 0
KeptAt s = Kept s.place s.groups

arrives : (x m : State) → ◌≡◌ {A = Result State (Fault Rule)} (Ok x) (Ok m) → KeptAt x → KeptAt m
arrives x m h k = let same : x ≡ m = cc in subst KeptAt same k

keeps : (room : Room) (p : Place) (t : Token) (n : List ℕ) (vs : List (List ℕ)) (gs : List Node) (m : State) → step_at room p n vs gs t ≡ Ok m → Kept p gs → KeptAt m
keeps room Start (word t) n vs gs m h k = arrives (at Named t vs gs) m h tt
keeps room Body (word t) n vs gs m h k = arrives (at Named t vs gs) m h tt
keeps room Named opens n vs gs m h k = arrives (at FirstArg n [] gs) m h tt
keeps room Named colon n vs (g ∷ gs) m h k = arrives (at FirstValue n vs (g ∷ gs)) m h tt
keeps room FirstArg (word t) n vs gs m h k = arrives (at Arg n (vs ++ t ∷ []) gs) m h tt
keeps room FirstArg (quoted t) n vs gs m h k = arrives (at Arg n (vs ++ t ∷ []) gs) m h tt
keeps room FirstArg closes n vs gs m h k = arrives (at Closed n vs gs) m h tt
keeps room Arg (word t) n vs gs m h k = arrives (at Arg n (vs ++ t ∷ []) gs) m h tt
keeps room Arg (quoted t) n vs gs m h k = arrives (at Arg n (vs ++ t ∷ []) gs) m h tt
keeps room Arg comma n vs gs m h k = arrives (at NextArg n vs gs) m h tt
keeps room Arg closes n vs gs m h k = arrives (at Closed n vs gs) m h tt
keeps room NextArg (word t) n vs gs m h k = arrives (at Arg n (vs ++ t ∷ []) gs) m h tt
keeps room NextArg (quoted t) n vs gs m h k = arrives (at Arg n (vs ++ t ∷ []) gs) m h tt
keeps room Closed semicolon n vs (g ∷ gs) m h k = arrives (at Body [] [] (with_item (g ∷ gs) (Complex n vs))) m h tt
keeps room Closed enters n vs gs m h k = arrives (at Body [] [] (fresh n vs ∷ gs)) m (entered_ok (room (length gs)) n vs gs m h).1 tt
keeps room Body semicolon n vs gs m h k = arrives (at Body n vs gs) m h k
keeps room Body leaves n vs (f ∷ []) m h k = arrives (at Done n vs (f ∷ [])) m h tt
keeps room Body leaves n vs (f ∷ g ∷ gs) m h k = arrives (at Body n vs (with_item (g ∷ gs) (Sub f))) m h tt
keeps room FirstValue (word t) n vs (g ∷ gs) m h k = arrives (at Values [] vs (with_item (g ∷ gs) (Simple n t))) m h tt
keeps room FirstValue (quoted t) n vs (g ∷ gs) m h k = arrives (at Values [] vs (with_item (g ∷ gs) (Simple n t))) m h tt
keeps room FirstValue (word t) n vs [] m h k = absurd k
keeps room FirstValue (quoted t) n vs [] m h k = absurd k
keeps room Values (word t) n vs gs m h k = arrives (at Values n vs gs) m h k
keeps room Values (quoted t) n vs gs m h k = arrives (at Values n vs gs) m h k
keeps room Values semicolon n vs (g ∷ gs) m h k = arrives (at Body n vs (g ∷ gs)) m h tt
keeps room Values semicolon n vs [] m h k = absurd k
keeps room Done (word t) n vs gs m h k = cc
keeps room _ _ n vs _ m h k = cc

pub kept_run : (room : Room) (ts : List Token) (s m : State) → run (step room) s ts ≡ Ok m → KeptAt s → KeptAt m
kept_run room [] s m h k = let same : s ≡ m = cc (run-nil (step room) s) in subst KeptAt same k
kept_run room (t ∷ ts) s m h k =
    let b = begins (step room) s m t ts h in
    kept_run room ts b.middle m b.rest (keeps room s.place t s.name s.values s.groups b.middle b.first k)

module _ (room : Room) (root : room 0 ≡ true) where
  pub record Finished (s : State) : Type 0 where
    pub more : List Token
    pub end : State
    pub group : Node
    pub by : run (step room) s more ≡ Ok end
    pub place : end.place ≡ Done
    pub groups : end.groups ≡ group ∷ []

  by_one : (s m : State) (t : Token) → step room s t ≡ Ok m → Finished m → Finished s
  by_one s m t e f =
      record { more = t ∷ f.more; end = f.end; group = f.group; by = run-ok (step room) s m t f.more e ∙ f.by; place = f.place; groups = f.groups }

  at_done : (n : List ℕ) (vs : List (List ℕ)) (g : Node) → Finished (at Done n vs (g ∷ []))
  at_done n vs g = record { more = []; end = at Done n vs (g ∷ []); group = g; by = run-nil (step room) (at Done n vs (g ∷ [])); place = refl; groups = refl }

  leave_all : (gs : List Node) (g : Node) (n : List ℕ) (vs : List (List ℕ)) → Finished (at Body n vs (g ∷ gs))
  leave_all [] g n vs = by_one (at Body n vs (g ∷ [])) (at Done n vs (g ∷ [])) leaves refl (at_done n vs g)
  leave_all (h ∷ gs) g n vs =
      by_one (at Body n vs (g ∷ h ∷ gs)) (at Body n vs (with_item (h ∷ gs) (Sub g))) leaves refl
      (leave_all gs (record h { items = h.items ++ Sub g ∷ [] }) n vs)

  enter_step : (b : Bool) (n : List ℕ) (vs : List (List ℕ)) (gs : List Node) → b ≡ true → entered b n vs gs ≡ Ok (at Body [] [] (fresh n vs ∷ gs))
  enter_step b n vs gs e = rw e refl

  from_closed : (n : List ℕ) (vs : List (List ℕ)) (gs : List Node) → Finished (at Closed n vs gs)
  from_closed n vs [] =
      by_one (at Closed n vs []) (at Body [] [] (fresh n vs ∷ [])) enters (enter_step (room 0) n vs [] root) (leave_all [] (fresh n vs) [] [])
  from_closed n vs (g ∷ gs) =
      by_one (at Closed n vs (g ∷ gs)) (at Body [] [] (with_item (g ∷ gs) (Complex n vs))) semicolon refl
      (leave_all gs (record g { items = g.items ++ Complex n vs ∷ [] }) [] [])

  from_arg : (n : List ℕ) (vs : List (List ℕ)) (gs : List Node) → Finished (at Arg n vs gs)
  from_arg n vs gs = by_one (at Arg n vs gs) (at Closed n vs gs) closes refl (from_closed n vs gs)

  from_named : (n : List ℕ) (vs : List (List ℕ)) (gs : List Node) → Finished (at Named n vs gs)
  from_named n vs gs =
      by_one (at Named n vs gs) (at FirstArg n [] gs) opens refl
      (by_one (at FirstArg n [] gs) (at Closed n [] gs) closes refl (from_closed n [] gs))

  from_values : (n : List ℕ) (vs : List (List ℕ)) (g : Node) (gs : List Node) → Finished (at Values n vs (g ∷ gs))
  from_values n vs g gs = by_one (at Values n vs (g ∷ gs)) (at Body n vs (g ∷ gs)) semicolon refl (leave_all gs g n vs)

  -- a name
  abbrev name : List ℕ
  name = 97 ∷ []

  finish : (p : Place) (n : List ℕ) (vs : List (List ℕ)) (gs : List Node) → Kept p gs → Finished (at p n vs gs)
  finish Start n vs gs k = by_one (at Start n vs gs) (at Named name vs gs) (word name) refl (from_named name vs gs)
  finish Named n vs gs k = from_named n vs gs
  finish FirstArg n vs gs k = by_one (at FirstArg n vs gs) (at Closed n vs gs) closes refl (from_closed n vs gs)
  finish Arg n vs gs k = from_arg n vs gs
  finish NextArg n vs gs k = by_one (at NextArg n vs gs) (at Arg n (vs ++ name ∷ []) gs) (word name) refl (from_arg n (vs ++ name ∷ []) gs)
  finish Closed n vs gs k = from_closed n vs gs
  finish Body n vs [] k = absurd k
  finish Body n vs (g ∷ gs) k = leave_all gs g n vs
  finish FirstValue n vs [] k = absurd k
  finish FirstValue n vs (g ∷ gs) k =
      by_one (at FirstValue n vs (g ∷ gs)) (at Values [] vs (with_item (g ∷ gs) (Simple n name))) (word name) refl
      (from_values [] vs (record g { items = g.items ++ Simple n name ∷ [] }) gs)
  finish Values n vs [] k = absurd k
  finish Values n vs (g ∷ gs) k = from_values n vs g gs
  finish Done n vs [] k = absurd k
  finish Done n vs (g ∷ []) k = at_done n vs g
  finish Done n vs (f ∷ g ∷ gs) k = absurd k

  -- what is taken is the front of a text
  pub front : (ts : List Token) (s : State) → run (step room) start ts ≡ Ok s → (more : List Token) × ((r : Node) × TreeLeft room (ts ++ more) r)
  front ts s h =
      let f = finish s.place s.name s.values s.groups (kept_run room ts start s h tt) in
      (f.more, (f.group, tree_left room (ts ++ f.more) f.end f.group (run-append (step room) start s ts f.more h ∙ f.by) f.place f.groups))
