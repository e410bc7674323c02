-- The spelling of each tree is taken by the machine, and ends in the group that the tree stands for.

use Rattle.std.proofs.Common.{◌≡◌, ℕ, Bool, true, List, [], ◌∷◌, ◌++◌, length, map, refl, sym, ap, subst, ◌∙◌, Ok, append_assoc, append-nil, add-one}
use Rattle.std.specs.List.{flat_map}
use Rattle.gs_grammar.specs.Machine.{run}
use Rattle.gs_grammar.proofs.Runs.{run-ok, run-nil}
use Rattle.gs_libtree.specs.Depth.{Fits}
use Rattle.gs_libtree.specs.Machine.{Room, State, at, start, step, entered, with_item}
use Rattle.gs_libtree.specs.Text.{value_text, next_text, args_texts, items_of, group_of}
use Rattle.gs_libtree.specs.Token.{Token, word, quoted, opens, closes, enters, leaves, comma, semicolon, colon}
use Rattle.gs_libtree.specs.Tree.{Value, bare, in_quotes, Next, beside, after_comma, Args, no_args, some_args, Content, nothing, stray, simple, complex, subgroup, Tree, value_token, next_tokens, args_tokens, content_tokens, spelling}
use Rattle.gs_libtree.specs.declared.reader.Place.TheVariants.{Start, Named, FirstArg, Arg, NextArg, Closed, Body, FirstValue, Values, Done}
use Rattle.gs_libtree.specs.declared.tree.Node.{Node}
use Rattle.gs_libtree.specs.declared.tree.Item.{Item}
use Rattle.gs_libtree.specs.declared.tree.Item.TheVariants.{Simple, Complex, Sub}
use Rattle.gs_libtree.proofs.Left.{grown, fresh}
use Rattle.gs_libtree.proofs.Sound.{grown_none}

module _ (room : Room) where
  abbrev Run : State → List Token → State → List Token → Type 0
  Run s ts m us = run (step room) s ts ≡ run (step room) m us

  one : (s m : State) (t : Token) (ts : List Token) → step room s t ≡ Ok m → Run s (t ∷ ts) m ts
  one s m t ts e = run-ok (step room) s m t ts e

  first_arg : (v : Value) (us : List Token) (n : List ℕ) (gs : List Node) → Run (at FirstArg n [] gs) (value_token v ∷ us) (at Arg n (value_text v ∷ []) gs) us
  first_arg (bare t) us n gs = one (at FirstArg n [] gs) (at Arg n (t ∷ []) gs) (word t) us refl
  first_arg (in_quotes t) us n gs = one (at FirstArg n [] gs) (at Arg n (t ∷ []) gs) (quoted t) us refl

  arg : (v : Value) (us : List Token) (n : List ℕ) (vs : List (List ℕ)) (gs : List Node) → Run (at Arg n vs gs) (value_token v ∷ us) (at Arg n (vs ++ value_text v ∷ []) gs) us
  arg (bare t) us n vs gs = one (at Arg n vs gs) (at Arg n (vs ++ t ∷ []) gs) (word t) us refl
  arg (in_quotes t) us n vs gs = one (at Arg n vs gs) (at Arg n (vs ++ t ∷ []) gs) (quoted t) us refl

  next_arg : (v : Value) (us : List Token) (n : List ℕ) (vs : List (List ℕ)) (gs : List Node) → Run (at NextArg n vs gs) (value_token v ∷ us) (at Arg n (vs ++ value_text v ∷ []) gs) us
  next_arg (bare t) us n vs gs = one (at NextArg n vs gs) (at Arg n (vs ++ t ∷ []) gs) (word t) us refl
  next_arg (in_quotes t) us n vs gs = one (at NextArg n vs gs) (at Arg n (vs ++ t ∷ []) gs) (quoted t) us refl

  first_value : (v : Value) (us : List Token) (n : List ℕ) (gs : List Node) → Run (at FirstValue n [] gs) (value_token v ∷ us) (at Values [] [] (with_item gs (Simple n (value_text v)))) us
  first_value (bare t) us n gs = one (at FirstValue n [] gs) (at Values [] [] (with_item gs (Simple n t))) (word t) us refl
  first_value (in_quotes t) us n gs = one (at FirstValue n [] gs) (at Values [] [] (with_item gs (Simple n t))) (quoted t) us refl

  value : (v : Value) (us : List Token) (gs : List Node) → Run (at Values [] [] gs) (value_token v ∷ us) (at Values [] [] gs) us
  value (bare t) us gs = one (at Values [] [] gs) (at Values [] [] gs) (word t) us refl
  value (in_quotes t) us gs = one (at Values [] [] gs) (at Values [] [] gs) (quoted t) us refl

  values_run : (vs : List Value) (us : List Token) (gs : List Node) → Run (at Values [] [] gs) (map value_token vs ++ us) (at Values [] [] gs) us
  values_run [] us gs = refl
  values_run (v ∷ vs) us gs = value v (map value_token vs ++ us) gs ∙ values_run vs us gs

  regroup : (n : List ℕ) (vs : List (List ℕ)) (v : List ℕ) (more : List (List ℕ)) (gs : List Node) (us : List Token)
      → Run (at Arg n ((vs ++ v ∷ []) ++ more) gs) us (at Arg n (vs ++ v ∷ more) gs) us
  regroup n vs v more gs us = ap (λ ws. run (step room) (at Arg n ws gs) us) (append_assoc vs (v ∷ []) more)

  nexts_run : (ns : List Next) (us : List Token) (n : List ℕ) (vs : List (List ℕ)) (gs : List Node)
      → Run (at Arg n vs gs) (flat_map next_tokens ns ++ us) (at Arg n (vs ++ map next_text ns) gs) us
  nexts_run [] us n vs gs = ap (λ ws. run (step room) (at Arg n ws gs) us) (sym (append-nil vs))
  nexts_run (beside v ∷ ns) us n vs gs =
      arg v (flat_map next_tokens ns ++ us) n vs gs ∙ nexts_run ns us n (vs ++ value_text v ∷ []) gs ∙ regroup n vs (value_text v) (map next_text ns) gs us
  nexts_run (after_comma v ∷ ns) us n vs gs =
      one (at Arg n vs gs) (at NextArg n vs gs) comma _ refl
      ∙ next_arg v (flat_map next_tokens ns ++ us) n vs gs ∙ nexts_run ns us n (vs ++ value_text v ∷ []) gs ∙ regroup n vs (value_text v) (map next_text ns) gs us

  args_run : (a : Args) (us : List Token) (n : List ℕ) (gs : List Node) → Run (at FirstArg n [] gs) (args_tokens a ++ closes ∷ us) (at Closed n (args_texts a) gs) us
  args_run no_args us n gs = one (at FirstArg n [] gs) (at Closed n [] gs) closes us refl
  args_run (some_args v ns) us n gs =
      first_arg v (flat_map next_tokens ns ++ closes ∷ us) n gs
      ∙ nexts_run ns (closes ∷ us) n (value_text v ∷ []) gs
      ∙ one (at Arg n (value_text v ∷ map next_text ns) gs) (at Closed n (value_text v ∷ map next_text ns) gs) closes us refl

  enter_step : (b : Bool) (n : List ℕ) (vs : List (List ℕ)) (gs : List Node) → b ≡ true → entered b n vs gs ≡ Ok (at Body [] [] (fresh n vs ∷ gs))
  enter_step b n vs gs e = rw e refl

  -- a name and the args after it
  called : (p : List Node → State) (n : List ℕ) (a : Args) (us : List Token) (gs : List Node) → step room (p gs) (word n) ≡ Ok (at Named n [] gs)
      → Run (p gs) (word n ∷ opens ∷ (args_tokens a ++ closes ∷ us)) (at Closed n (args_texts a) gs) us
  called p n a us gs e =
      one (p gs) (at Named n [] gs) (word n) _ e ∙ one (at Named n [] gs) (at FirstArg n [] gs) opens _ refl ∙ args_run a us n gs

  abbrev body : List Node → State
  body gs = at Body [] [] gs

  -- one more item before others
  more_items : (g : Node) (i : Item) (is : List Item) (gs : List Node) (us : List Token) → Run (body (grown (grown g (i ∷ [])) is ∷ gs)) us (body (grown g (i ∷ is) ∷ gs)) us
  more_items g i is gs us = ap (λ (ks : List Item). run (step room) (body (record g { items = ks } ∷ gs)) us) (append_assoc g.items (i ∷ []) is)

  content_run : (c : Content) (us : List Token) (g : Node) (gs : List Node) → Fits room (length (g ∷ gs)) c
      → Run (body (g ∷ gs)) (content_tokens c ++ us) (body (grown g (items_of c) ∷ gs)) us
  content_run nothing us g gs f = ap (λ k. run (step room) (body (k ∷ gs)) us) (sym (grown_none g))
  content_run (stray c) us g gs f = one (body (g ∷ gs)) (body (g ∷ gs)) semicolon _ refl ∙ content_run c us g gs f
  content_run (simple n v vs c) us g gs f =
      let i : Item = Simple n (value_text v) in
      let h : Node = grown g (i ∷ []) in
      one (body (g ∷ gs)) (at Named n [] (g ∷ gs)) (word n) _ refl
      ∙ one (at Named n [] (g ∷ gs)) (at FirstValue n [] (g ∷ gs)) colon _ refl
      ∙ first_value v _ n (g ∷ gs)
      ∙ ap (run (step room) (at Values [] [] (h ∷ gs))) (append_assoc (map value_token vs) (semicolon ∷ content_tokens c) us)
      ∙ values_run vs (semicolon ∷ (content_tokens c ++ us)) (h ∷ gs)
      ∙ one (at Values [] [] (h ∷ gs)) (body (h ∷ gs)) semicolon _ refl
      ∙ content_run c us h gs f
      ∙ more_items g i (items_of c) gs us
  content_run (complex n a c) us g gs f =
      let i : Item = Complex n (args_texts a) in
      let h : Node = grown g (i ∷ []) in
      ap (λ zs. run (step room) (body (g ∷ gs)) (word n ∷ opens ∷ zs)) (append_assoc (args_tokens a) (closes ∷ semicolon ∷ content_tokens c) us)
      ∙ called body n a (semicolon ∷ (content_tokens c ++ us)) (g ∷ gs) refl
      ∙ one (at Closed n (args_texts a) (g ∷ gs)) (body (h ∷ gs)) semicolon _ refl
      ∙ content_run c us h gs f
      ∙ more_items g i (items_of c) gs us
  content_run (subgroup n a d c) us g gs f =
      let new : Node = fresh n (args_texts a) in
      let whole : Node = grown new (items_of d) in
      let i : Item = Sub whole in
      let h : Node = grown g (i ∷ []) in
      let O : ℕ → Type 0 = λ o. Fits room o d in
      ap (λ zs. run (step room) (body (g ∷ gs)) (word n ∷ opens ∷ zs)) (append_assoc (args_tokens a) (closes ∷ enters ∷ (content_tokens d ++ leaves ∷ content_tokens c)) us)
      ∙ called body n a (enters ∷ ((content_tokens d ++ leaves ∷ content_tokens c) ++ us)) (g ∷ gs) refl
      ∙ one (at Closed n (args_texts a) (g ∷ gs)) (body (new ∷ g ∷ gs)) enters _ (enter_step (room (length (g ∷ gs))) n (args_texts a) (g ∷ gs) f.0)
      ∙ ap (run (step room) (body (new ∷ g ∷ gs))) (append_assoc (content_tokens d) (leaves ∷ content_tokens c) us)
      ∙ content_run d (leaves ∷ (content_tokens c ++ us)) new (g ∷ gs) (subst O (add-one (length (g ∷ gs))) f.1)
      ∙ one (body (whole ∷ g ∷ gs)) (body (h ∷ gs)) leaves _ refl
      ∙ content_run c us h gs f.2
      ∙ more_items g i (items_of c) gs us

  -- the whole run over a spelling
  pub tree_run : (t : Tree) → room 0 ≡ true → Fits room 1 t.content → run (step room) start (spelling t) ≡ Ok (at Done [] [] (group_of t ∷ []))
  tree_run t root f =
      let new : Node = fresh t.name (args_texts t.args) in
      let whole : Node = grown new (items_of t.content) in
      let p : List Node → State = λ gs. at Start [] [] gs in
      called p t.name t.args (enters ∷ (content_tokens t.content ++ leaves ∷ [])) [] refl
      ∙ one (at Closed t.name (args_texts t.args) []) (body (new ∷ [])) enters _ (enter_step (room 0) t.name (args_texts t.args) [] root)
      ∙ content_run t.content (leaves ∷ []) new [] f
      ∙ one (body (whole ∷ [])) (at Done [] [] (whole ∷ [])) leaves [] refl
      ∙ run-nil (step room) (at Done [] [] (whole ∷ []))
