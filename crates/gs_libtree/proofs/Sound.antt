-- What the machine takes is the spelling of a tree, and ends in the group that the tree stands for.

use Rattle.std.proofs.Common.{◌≡◌, ℕ, inl, inr, Bool, true, false, List, [], ◌∷◌, ◌++◌, length, map, refl, sym, ap, subst, ◌∙◌, Result, Ok, append_assoc, append-nil, add-one}
use Rattle.gs_grammar.specs.Machine.{run}
use Rattle.gs_grammar.proofs.Runs.{begins, run-nil}
use Rattle.gs_drive.specs.declared.machine.Fault.{Fault}
use Rattle.gs_libtree.specs.Depth.{Fits}
use Rattle.gs_libtree.specs.Machine.{Room, State, at, start, step, step_at, entered, with_item}
use Rattle.gs_libtree.specs.Text.{value_text, next_text, args_texts, items_of}
use Rattle.gs_libtree.specs.Token.{Token, word, quoted, opens, closes, enters, leaves, comma, semicolon, colon}
use Rattle.gs_libtree.specs.Tree.{Value, bare, in_quotes, beside, after_comma, Args, no_args, some_args, Content, nothing, stray, simple, complex, subgroup, value_token, args_tokens, content_tokens}
use Rattle.gs_libtree.specs.declared.error.Rule.{Rule}
use Rattle.gs_libtree.specs.declared.reader.Place.{Place}
use Rattle.gs_libtree.specs.declared.reader.Place.TheVariants.{Start, Named, FirstArg, Arg, NextArg, Closed, Body, FirstValue, Values, Done}
use Rattle.gs_libtree.specs.declared.tree.Node.{Node}
use Rattle.gs_libtree.specs.declared.tree.Item.{Item}
use Rattle.gs_libtree.specs.declared.tree.Item.TheVariants.{Simple, Complex, Sub}
use Rattle.gs_libtree.proofs.Left.{grown, fresh, CloseLeft, ValuesLeft, ValueLeft, EndedLeft, EnteredLeft, ClosedLeft, ArgLeft, NextLeft, ArgsLeft, OpenedLeft, ColonLeft, NamedLeft, TreeLeft, Left, LeftAt}

pub grown_none : (g : Node) → grown g [] ≡ g
grown_none g = ap (λ (is : List Item). record g { items = is }) (append-nil g.items)

pub grown_grown : (g : Node) (is js : List Item) → grown (grown g is) js ≡ grown g (is ++ js)
grown_grown g is js = ap (λ (ks : List Item). record g { items = ks }) (append_assoc g.items is js)

-- two lists with equal first tokens and equal rests
cons : (t u : Token) (ts us : List Token) → t ≡ u → ts ≡ us → t ∷ ts ≡ u ∷ us
cons t u ts us e h = cc

pub entered_ok : (b : Bool) (n : List ℕ) (vs : List (List ℕ)) (gs : List Node) (m : State) → entered b n vs gs ≡ Ok m
    → (b ≡ true) × (◌≡◌ {A = Result State (Fault Rule)} (Ok (at Body [] [] (fresh n vs ∷ gs))) (Ok m))
entered_ok true n vs gs m h = (refl, h)
entered_ok false n vs gs m h = cc

module _ (room : Room) where
  -- what a content begins with: these tokens make these items
  record Wraps (o : ℕ) (wrap : Content → Content) (xs : List Token) (is : List Item) : Type 0 where
    pub spell : (c : Content) → content_tokens (wrap c) ≡ xs ++ content_tokens c
    pub items : (c : Content) → items_of (wrap c) ≡ is ++ items_of c
    pub fit : (c : Content) → Fits room o c → Fits room o (wrap c)

  -- an item before the rest of a group
  before : (g : Node) (gs : List Node) (wrap : Content → Content) (xs : List Token) (is : List Item) (us : List Token) (r : Node)
      → Wraps (length (g ∷ gs)) wrap xs is → CloseLeft room (grown g is) gs us r → CloseLeft room g gs (xs ++ us) r
  before g [] wrap xs is us r w q =
      record {
        content = wrap q.content;
        fits = w.fit q.content q.fits;
        spells = ap (λ zs. xs ++ zs) q.spells ∙ sym (append_assoc xs (content_tokens q.content) (leaves ∷ [])) ∙ ap (λ zs. zs ++ leaves ∷ []) (sym (w.spell q.content));
        makes = q.makes ∙ grown_grown g is (items_of q.content) ∙ ap (grown g) (sym (w.items q.content));
      }
  before g (h ∷ gs) wrap xs is us r w q =
      let P : Node → Type 0 = λ k. CloseLeft room (record h { items = h.items ++ Sub k ∷ [] }) gs q.rest r in
      record {
        content = wrap q.content;
        rest = q.rest;
        fits = w.fit q.content q.fits;
        spells = ap (λ zs. xs ++ zs) q.spells ∙ sym (append_assoc xs (content_tokens q.content) (leaves ∷ q.rest)) ∙ ap (λ zs. zs ++ leaves ∷ q.rest) (sym (w.spell q.content));
        left = subst P (grown_grown g is (items_of q.content) ∙ ap (grown g) (sym (w.items q.content))) q.left;
      }

  stray_before : (g : Node) (gs : List Node) (us : List Token) (r : Node) → CloseLeft room g gs us r → CloseLeft room g gs (semicolon ∷ us) r
  stray_before g gs us r q =
      let P : Node → Type 0 = λ k. CloseLeft room k gs us r in
      let w : Wraps (length (g ∷ gs)) stray (semicolon ∷ []) [] = record { spell = λ c. refl; items = λ c. refl; fit = λ c f. f } in
      before g gs stray (semicolon ∷ []) [] us r w (subst P (sym (grown_none g)) q)

  simple_before : (n : List ℕ) (g : Node) (gs : List Node) (ts : List Token) (r : Node) → ColonLeft room n (g ∷ gs) ts r → CloseLeft room g gs (word n ∷ ts) r
  simple_before n g gs ts r q =
      let v : ValueLeft room n (g ∷ gs) q.rest r = q.left in
      let m : ValuesLeft room (with_item (g ∷ gs) (Simple n (value_text v.value))) v.rest r = v.left in
      let xs : List Token = word n ∷ colon ∷ value_token v.value ∷ (map value_token m.more ++ semicolon ∷ []) in
      let is : List Item = Simple n (value_text v.value) ∷ [] in
      let w : Wraps (length (g ∷ gs)) (simple n v.value m.more) xs is =
      record { spell = λ c. simp append_assoc; items = λ c. refl; fit = λ c f. f } in
      let whole : word n ∷ ts ≡ xs ++ m.rest =
      ap (λ us. word n ∷ us) q.spells ∙ ap (λ us. word n ∷ colon ∷ us) v.spells ∙ ap (λ us. word n ∷ colon ∷ value_token v.value ∷ us) m.spells ∙ simp append_assoc in
      let P : List Token → Type 0 = λ us. CloseLeft room g gs us r in
      subst P (sym whole) (before g gs (simple n v.value m.more) xs is m.rest r w m.left)

  complex_before : (n : List ℕ) (g : Node) (gs : List Node) (ts : List Token) (r : Node) (q : OpenedLeft room n (g ∷ gs) ts r)
      → EndedLeft room n (args_texts q.left.args) (g ∷ gs) q.left.rest r → CloseLeft room g gs (word n ∷ ts) r
  complex_before n g gs ts r q e =
      let a : Args = q.left.args in
      let xs : List Token = word n ∷ opens ∷ (args_tokens a ++ closes ∷ semicolon ∷ []) in
      let is : List Item = Complex n (args_texts a) ∷ [] in
      let w : Wraps (length (g ∷ gs)) (complex n a) xs is =
      record { spell = λ c. simp append_assoc; items = λ c. refl; fit = λ c f. f } in
      let whole : word n ∷ ts ≡ xs ++ e.rest =
      ap (λ us. word n ∷ us) q.spells ∙ ap (λ us. word n ∷ opens ∷ us) q.left.spells ∙ ap (λ us. word n ∷ opens ∷ (args_tokens a ++ closes ∷ us)) e.spells ∙ simp append_assoc in
      let P : List Token → Type 0 = λ us. CloseLeft room g gs us r in
      subst P (sym whole) (before g gs (complex n a) xs is e.rest r w e.left)

  group_before : (n : List ℕ) (g : Node) (gs : List Node) (ts : List Token) (r : Node) (q : OpenedLeft room n (g ∷ gs) ts r)
      → EnteredLeft room n (args_texts q.left.args) (g ∷ gs) q.left.rest r → CloseLeft room g gs (word n ∷ ts) r
  group_before n g gs ts r q e =
      let a : Args = q.left.args in
      let i : Content = e.left.content in
      let xs : List Token = word n ∷ opens ∷ (args_tokens a ++ closes ∷ enters ∷ (content_tokens i ++ leaves ∷ [])) in
      let is : List Item = Sub (record { name = n; args = args_texts a; items = items_of i }) ∷ [] in
      let O : ℕ → Type 0 = λ o. Fits room o i in
      let w : Wraps (length (g ∷ gs)) (subgroup n a i) xs is =
      record { spell = λ c. simp append_assoc; items = λ c. refl; fit = λ c f. (e.fits, subst O (sym (add-one (length (g ∷ gs)))) e.left.fits, f) } in
      let whole : word n ∷ ts ≡ xs ++ e.left.rest =
      ap (λ us. word n ∷ us) q.spells ∙ ap (λ us. word n ∷ opens ∷ us) q.left.spells ∙ ap (λ us. word n ∷ opens ∷ (args_tokens a ++ closes ∷ us)) e.spells
      ∙ ap (λ us. word n ∷ opens ∷ (args_tokens a ++ closes ∷ enters ∷ us)) e.left.spells ∙ simp append_assoc in
      let P : List Token → Type 0 = λ us. CloseLeft room g gs us r in
      subst P (sym whole) (before g gs (subgroup n a i) xs is e.left.rest r w e.left.left)

  item_before : (n : List ℕ) (g : Node) (gs : List Node) (ts : List Token) (r : Node) → NamedLeft room n (g ∷ gs) ts r → CloseLeft room g gs (word n ∷ ts) r
  item_before n g gs ts r (inr q) = simple_before n g gs ts r q
  item_before n g gs ts r (inl q) = elim q.left.left [ inl e ↦ complex_before n g gs ts r q e | inr e ↦ group_before n g gs ts r q e ]

  root_entered : (n : List ℕ) (ts : List Token) (r : Node) (q : OpenedLeft room n [] ts r) → EnteredLeft room n (args_texts q.left.args) [] q.left.rest r → TreeLeft room (word n ∷ ts) r
  root_entered n ts r q e =
      let a : Args = q.left.args in
      record {
        tree = record { name = n; args = a; content = e.left.content };
        root = e.fits;
        fits = e.left.fits;
        spells = ap (λ us. word n ∷ us) q.spells ∙ ap (λ us. word n ∷ opens ∷ us) q.left.spells ∙ ap (λ us. word n ∷ opens ∷ (args_tokens a ++ closes ∷ us)) e.spells
            ∙ ap (λ us. word n ∷ opens ∷ (args_tokens a ++ closes ∷ enters ∷ us)) e.left.spells;
        makes = e.left.makes;
      }

  root_before : (n : List ℕ) (ts : List Token) (r : Node) → NamedLeft room n [] ts r → TreeLeft room (word n ∷ ts) r
  root_before n ts r (inr q) = absurd q.left
  root_before n ts r (inl q) = elim q.left.left [ inl e ↦ absurd e.left | inr e ↦ root_entered n ts r q e ]

  -- the state after an arrow is the one that the arrow gives
  back : (x m : State) (ts : List Token) (r : Node) → ◌≡◌ {A = Result State (Fault Rule)} (Ok x) (Ok m) → LeftAt room m ts r → LeftAt room x ts r
  back x m ts r h l = let same : m ≡ x = cc in subst (λ s. LeftAt room s ts r) same l

  -- one more value
  regrouped : (n : List ℕ) (vs : List (List ℕ)) (v : List ℕ) (more : List (List ℕ)) (gs : List Node) (ts : List Token) (r : Node)
      → ClosedLeft room n ((vs ++ v ∷ []) ++ more) gs ts r → ClosedLeft room n (vs ++ v ∷ more) gs ts r
  regrouped n vs v more gs ts r c = let P : List (List ℕ) → Type 0 = λ ws. ClosedLeft room n ws gs ts r in subst P (append_assoc vs (v ∷ []) more) c

  no_more : (n : List ℕ) (vs : List (List ℕ)) (gs : List Node) (ts : List Token) (r : Node) → ClosedLeft room n vs gs ts r → ClosedLeft room n (vs ++ []) gs ts r
  no_more n vs gs ts r c = let P : List (List ℕ) → Type 0 = λ ws. ClosedLeft room n ws gs ts r in subst P (sym (append-nil vs)) c

  first_arg : (v : Value) (n : List ℕ) (vs : List (List ℕ)) (gs : List Node) (ts : List Token) (r : Node)
      → ArgLeft room n (vs ++ value_text v ∷ []) gs ts r → ArgsLeft room n vs gs (value_token v ∷ ts) r
  first_arg v n vs gs ts r q =
      record { args = some_args v q.nexts; rest = q.rest; spells = ap (λ us. value_token v ∷ us) q.spells; left = regrouped n vs (value_text v) (map next_text q.nexts) gs q.rest r q.left }

  next_arg : (v : Value) (n : List ℕ) (vs : List (List ℕ)) (gs : List Node) (ts : List Token) (r : Node)
      → ArgLeft room n (vs ++ value_text v ∷ []) gs ts r → ArgLeft room n vs gs (value_token v ∷ ts) r
  next_arg v n vs gs ts r q =
      record { nexts = beside v ∷ q.nexts; rest = q.rest; spells = ap (λ us. value_token v ∷ us) q.spells; left = regrouped n vs (value_text v) (map next_text q.nexts) gs q.rest r q.left }

  onto : (p : Place) (t : Token) (n : List ℕ) (vs : List (List ℕ)) (gs : List Node) (ts : List Token) (m : State) (r : Node)
      → step_at room p n vs gs t ≡ Ok m → LeftAt room m ts r → Left room p n vs gs (t ∷ ts) r
  onto Start (word t) n vs [] ts m r h l = root_before t ts r (back (at Named t vs []) m ts r h l)
  onto Start (word t) n vs (g ∷ gs) ts m r h l = tt
  onto Named opens n vs gs ts m r h l = inl (record { rest = ts; spells = refl; left = back (at FirstArg n [] gs) m ts r h l })
  onto Named colon n vs (g ∷ gs) ts m r h l = inr (record { rest = ts; spells = refl; left = back (at FirstValue n vs (g ∷ gs)) m ts r h l })
  onto FirstArg (word t) n vs gs ts m r h l = first_arg (bare t) n vs gs ts r (back (at Arg n (vs ++ t ∷ []) gs) m ts r h l)
  onto FirstArg (quoted t) n vs gs ts m r h l = first_arg (in_quotes t) n vs gs ts r (back (at Arg n (vs ++ t ∷ []) gs) m ts r h l)
  onto FirstArg closes n vs gs ts m r h l =
      record { args = no_args; rest = ts; spells = refl; left = no_more n vs gs ts r (back (at Closed n vs gs) m ts r h l) }
  onto Arg (word t) n vs gs ts m r h l = next_arg (bare t) n vs gs ts r (back (at Arg n (vs ++ t ∷ []) gs) m ts r h l)
  onto Arg (quoted t) n vs gs ts m r h l = next_arg (in_quotes t) n vs gs ts r (back (at Arg n (vs ++ t ∷ []) gs) m ts r h l)
  onto Arg comma n vs gs ts m r h l =
      let q : NextLeft room n vs gs ts r = back (at NextArg n vs gs) m ts r h l in
      record {
        nexts = after_comma q.value ∷ q.left.nexts;
        rest = q.left.rest;
        spells = ap (λ us. comma ∷ us) q.spells ∙ ap (λ us. comma ∷ value_token q.value ∷ us) q.left.spells;
        left = regrouped n vs (value_text q.value) (map next_text q.left.nexts) gs q.left.rest r q.left.left;
      }
  onto Arg closes n vs gs ts m r h l =
      record { nexts = []; rest = ts; spells = refl; left = no_more n vs gs ts r (back (at Closed n vs gs) m ts r h l) }
  onto NextArg (word t) n vs gs ts m r h l = record { value = bare t; rest = ts; spells = refl; left = back (at Arg n (vs ++ t ∷ []) gs) m ts r h l }
  onto NextArg (quoted t) n vs gs ts m r h l = record { value = in_quotes t; rest = ts; spells = refl; left = back (at Arg n (vs ++ t ∷ []) gs) m ts r h l }
  onto Closed semicolon n vs (g ∷ gs) ts m r h l =
      inl (record { rest = ts; spells = refl; left = back (at Body [] [] (with_item (g ∷ gs) (Complex n vs))) m ts r h l })
  onto Closed enters n vs gs ts m r h l =
      let q = entered_ok (room (length gs)) n vs gs m h in
      inr (record { rest = ts; spells = refl; fits = q.0; left = back (at Body [] [] (fresh n vs ∷ gs)) m ts r q.1 l })
  onto Body (word t) n vs [] ts m r h l = tt
  onto Body (word t) n vs (g ∷ gs) ts m r h l = item_before t g gs ts r (back (at Named t vs (g ∷ gs)) m ts r h l)
  onto Body semicolon n vs [] ts m r h l = tt
  onto Body semicolon n vs (g ∷ gs) ts m r h l = stray_before g gs ts r (back (at Body n vs (g ∷ gs)) m ts r h l)
  onto Body leaves n vs (f ∷ []) ts m r h l =
      let q : (ts ≡ []) × (f ∷ [] ≡ r ∷ []) = back (at Done n vs (f ∷ [])) m ts r h l in
      let both : f ∷ [] ≡ r ∷ [] = q.1 in
      let same : f ≡ r = cc in
      record { content = nothing; fits = tt; spells = ap (λ us. leaves ∷ us) q.0; makes = sym same ∙ sym (grown_none f) }
  onto Body leaves n vs (f ∷ g ∷ gs) ts m r h l =
      let P : Node → Type 0 = λ k. CloseLeft room (record g { items = g.items ++ Sub k ∷ [] }) gs ts r in
      record { content = nothing; rest = ts; fits = tt; spells = refl; left = subst P (sym (grown_none f)) (back (at Body n vs (with_item (g ∷ gs) (Sub f))) m ts r h l) }
  onto FirstValue (word t) n vs gs ts m r h l = record { value = bare t; rest = ts; spells = refl; left = back (at Values [] vs (with_item gs (Simple n t))) m ts r h l }
  onto FirstValue (quoted t) n vs gs ts m r h l = record { value = in_quotes t; rest = ts; spells = refl; left = back (at Values [] vs (with_item gs (Simple n t))) m ts r h l }
  onto Values (word t) n vs gs ts m r h l =
      let q : ValuesLeft room gs ts r = back (at Values n vs gs) m ts r h l in
      record { more = bare t ∷ q.more; rest = q.rest; spells = ap (λ us. word t ∷ us) q.spells; left = q.left }
  onto Values (quoted t) n vs gs ts m r h l =
      let q : ValuesLeft room gs ts r = back (at Values n vs gs) m ts r h l in
      record { more = in_quotes t ∷ q.more; rest = q.rest; spells = ap (λ us. quoted t ∷ us) q.spells; left = q.left }
  onto Values semicolon n vs gs ts m r h l = record { more = []; rest = ts; spells = refl; left = back (at Body n vs gs) m ts r h l }
  onto Done (word t) n vs gs ts m r h l = cc
  onto _ _ n vs _ ts m r h l = cc

  -- a run that ends with one whole group
  pub sound : (ts : List Token) (s end : State) (r : Node) → run (step room) s ts ≡ Ok end → end.place ≡ Done → end.groups ≡ r ∷ [] → LeftAt room s ts r
  sound [] s end r h p e =
      let same : s ≡ end = cc (run-nil (step room) s) in
      let P : Place → Type 0 = λ q. Left room q end.name end.values end.groups [] r in
      subst (λ x. LeftAt room x [] r) (sym same) (subst P (sym p) (refl, e))
  sound (t ∷ ts) s end r h p e =
      let b = begins (step room) s end t ts h in
      onto s.place t s.name s.values s.groups ts b.middle r b.first (sound ts b.middle end r b.rest p e)

  pub tree_left : (ts : List Token) (end : State) (r : Node) → run (step room) start ts ≡ Ok end → end.place ≡ Done → end.groups ≡ r ∷ [] → TreeLeft room ts r
  tree_left ts end r h p e = sound ts start end r h p e
