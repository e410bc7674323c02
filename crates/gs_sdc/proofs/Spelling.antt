-- What spells a part is the front of the tokens, and what is found there spells it.

use Rattle.std.proofs.Common.{◌≡◌, ◌⊎◌, ℕ, ◌+◌, ◌<◌, List, [], ◌∷◌, ◌++◌, length, map, codes, inl, inr, refl, sym, ap, subst, ◌∙◌, append_assoc, arith, Bool, true, false, Option, None, Some, if◌then◌else◌}
use Rattle.std.specs.Str.{bytes_eq}
use Rattle.std.proofs.lemmas.Slice.Eq.{bytes_eq-Decides}
use Rattle.gs_sdc.specs.Front.{Found, Words, list_front, names_front, closed, closed_by, get_front, word_front, clock_front, single, single_by, braces_front, unnamed, taken_front, choice_of, chosen_by, chosen_front, ports_by, ports_front, front, with_names}
use Rattle.gs_sdc.specs.Parts.{Part, value, ports, chosen, name_of, takes_of, is_option, braced, AreNames, IsGiven, IsWord, IsTaken, Spells}
use Rattle.gs_sdc.specs.Token.{Token, word, opens, closes, opens_list, closes_list, stray}
use Rattle.gs_sdc.specs.declared.parts.Choice.{Choice}
use Rattle.gs_sdc.specs.declared.parts.Choice.TheVariants.{Period, ClockName, Waveform, OfClock, Max, LibCell, Pin, Rise, Fall, PinLoad}
use Rattle.gs_sdc.specs.declared.parts.Takes.{Takes}
use Rattle.gs_sdc.specs.declared.parts.Takes.TheVariants as takes

pub itself : (x : List ℕ) → bytes_eq x x ≡ true
itself x = (bytes_eq-Decides x x).1 refl

pub same_bytes : (x y : List ℕ) → bytes_eq x y ≡ true → x ≡ y
same_bytes x y h = (bytes_eq-Decides x y).0 h

-- a choice by a text, whatever holds of each way
pub choose : {K : Type 0} (P : K → Type 0) (w t : List ℕ) (x y : K) → (w ≡ t → P x) → P y → P (if bytes_eq w t then x else y)
choose {K} P w t x y here there = by_test (bytes_eq w t) refl
  where
    by_test : (b : Bool) → bytes_eq w t ≡ b → P (if b then x else y)
    by_test true e = here (same_bytes w t e)
    by_test false e = there

-- ---- what is spelled is found

list_found : (ws : Words) (rest : List Token) → list_front (map word ws ++ closes_list ∷ rest) ≡ Some (record { item = ws; rest = rest })
list_found [] rest = refl
list_found (w ∷ ws) rest = ap (with_names (w ∷ [])) (list_found ws rest)

braced_found : (ws : Words) (rest : List Token) → list_front ((map word ws ++ closes_list ∷ []) ++ rest) ≡ Some (record { item = ws; rest = rest })
braced_found ws rest = ap list_front (append_assoc (map word ws) (closes_list ∷ []) rest) ∙ list_found ws rest

names_found : (xs : Words) (ts rest : List Token) → AreNames xs ts → names_front (ts ++ rest) ≡ Some (record { item = xs; rest = rest })
names_found xs ts rest (inl h) =
    ap (λ us. names_front (us ++ rest)) h.2 ∙ ap (λ (ys : Words). Some (record { item = ys; rest = rest })) (sym h.1)
names_found xs ts rest (inr e) = ap (λ us. names_front (us ++ rest)) e ∙ braced_found xs rest

-- what stands behind the opening bracket
pub record Behind (get : List ℕ) (xs : Words) (ts rest : List Token) : Type 0 where
  pub behind : List Token
  pub opened : ts ≡ opens ∷ behind
  pub found : get_front get (behind ++ rest) ≡ Some (record { item = xs; rest = rest })

get_found : (get : List ℕ) (xs : Words) (ts rest : List Token) → IsGiven get xs ts → Behind get xs ts rest
get_found get xs ts rest g =
    record {
      behind = word get ∷ (g.names ++ closes ∷ []);
      opened = g.spelled;
      found = ap (λ b. if b then closed (names_front ((g.names ++ closes ∷ []) ++ rest)) else None) (itself get)
          ∙ ap (λ us. closed (names_front us)) (append_assoc g.names (closes ∷ []) rest)
          ∙ ap closed (names_found xs g.names (closes ∷ rest) g.are_names);
    }

word_found : (w : List ℕ) (ts rest : List Token) → IsWord w ts → word_front (ts ++ rest) ≡ Some (record { item = w; rest = rest })
word_found w ts rest h =
    ap (λ us. word_front (us ++ rest)) h.0 ∙ ap (λ b. if b then None else Some (record { item = w; rest = rest })) h.1

taken_found : (t : Takes) (w : List ℕ) (ts rest : List Token) → IsTaken t w ts → taken_front t (ts ++ rest) ≡ Some (record { item = w; rest = rest })
taken_found takes.Nothing w ts rest h =
    ap (λ us. taken_front takes.Nothing (us ++ rest)) h.0 ∙ ap (λ (x : List ℕ). Some (record { item = x; rest = rest })) (sym h.1)
taken_found takes.Word w ts rest h = word_found w ts rest h
taken_found takes.Clock w ts rest (inl h) =
    ap (λ us. clock_front (us ++ rest)) h.0 ∙ ap (λ b. if b then None else Some (record { item = w; rest = rest })) h.1
taken_found takes.Clock w ts rest (inr g) =
    let b = get_found (codes "get_clocks") (w ∷ []) ts rest g in
    ap (λ us. clock_front (us ++ rest)) b.opened ∙ ap single b.found
taken_found takes.List w ts rest h =
    ap (λ us. braces_front (us ++ rest)) h.0.1 ∙ ap unnamed (braced_found h.0.0 rest)
    ∙ ap (λ (x : List ℕ). Some (record { item = x; rest = rest })) (sym h.1)

name_option : (c : Choice) → is_option (name_of c) ≡ true
name_option Period = refl
name_option ClockName = refl
name_option Waveform = refl
name_option OfClock = refl
name_option Max = refl
name_option LibCell = refl
name_option Pin = refl
name_option Rise = refl
name_option Fall = refl
name_option PinLoad = refl

name_choice : (c : Choice) → choice_of (name_of c) ≡ Some c
name_choice Period = refl
name_choice ClockName = refl
name_choice Waveform = refl
name_choice OfClock = refl
name_choice Max = refl
name_choice LibCell = refl
name_choice Pin = refl
name_choice Rise = refl
name_choice Fall = refl
name_choice PinLoad = refl

some_ports : (xs : Words) (rest : List Token) → 0 < length xs → ports_by xs rest ≡ Some (record { item = ports xs; rest = rest })
some_ports [] rest some = absurd (omega arith)
some_ports (x ∷ xs) rest some = refl

pub part_found : (p : Part) (ts rest : List Token) → Spells p ts → front (ts ++ rest) ≡ Some (record { item = p; rest = rest })
part_found (value w) ts rest h =
    ap (λ us. front (us ++ rest)) h.0 ∙ ap (λ b. if b then chosen_front (choice_of w) rest else Some (record { item = value w; rest = rest })) h.1
part_found (ports xs) ts rest h =
    let b = get_found (codes "get_ports") xs ts rest h.0 in
    ap (λ us. front (us ++ rest)) b.opened ∙ ap ports_front b.found ∙ some_ports xs rest h.1
part_found (chosen c w) ts rest h =
    let behind = h.0 in
    ap (λ us. front (us ++ rest)) h.1
    ∙ ap (λ b. if b then chosen_front (choice_of (name_of c)) (behind ++ rest) else Some (record { item = value (name_of c); rest = behind ++ rest })) (name_option c)
    ∙ ap (λ o. chosen_front o (behind ++ rest)) (name_choice c)
    ∙ ap (chosen_by c) (taken_found (takes_of c) w behind rest h.2)

-- ---- what is found is spelled

-- tokens whose front has a property, and what is left of them
pub record Fronts (P : List Token → Type 0) (ts rest : List Token) : Type 0 where
  pub mine : List Token
  pub joined : ts ≡ mine ++ rest
  pub holds : P mine

list_by : (w : List ℕ) (ts : List Token) (o : Option (Found Words)) (f : Found Words) → with_names (w ∷ []) o ≡ Some f
    → ((g : Found Words) → o ≡ Some g → ts ≡ map word g.item ++ closes_list ∷ g.rest) → word w ∷ ts ≡ map word f.item ++ closes_list ∷ f.rest
list_by w ts None f h later = cc
list_by w ts (Some g) f h later =
    let same : record { item = w ∷ g.item; rest = g.rest } ≡ f = cc in
    ap (λ us. word w ∷ us) (later g refl) ∙ ap (λ (k : Found Words). map word k.item ++ closes_list ∷ k.rest) same

list_sound : (ts : List Token) (f : Found Words) → list_front ts ≡ Some f → ts ≡ map word f.item ++ closes_list ∷ f.rest
list_sound [] f h = cc
list_sound (word w ∷ ts) f h = list_by w ts (list_front ts) f h (list_sound ts)
list_sound (closes_list ∷ ts) f h =
    let same : record { item = []; rest = ts } ≡ f = cc in
    ap (λ (k : Found Words). map word k.item ++ closes_list ∷ k.rest) same
list_sound (opens ∷ ts) f h = cc
list_sound (closes ∷ ts) f h = cc
list_sound (opens_list ∷ ts) f h = cc
list_sound (stray ∷ ts) f h = cc

braced_sound : (ts : List Token) (f : Found Words) → list_front ts ≡ Some f → opens_list ∷ ts ≡ braced f.item ++ f.rest
braced_sound ts f h = ap (λ us. opens_list ∷ us) (list_sound ts f h ∙ sym (append_assoc (map word f.item) (closes_list ∷ []) f.rest))

names_sound : (ts : List Token) (f : Found Words) → names_front ts ≡ Some f → Fronts (AreNames f.item) ts f.rest
names_sound [] f h = cc
names_sound (word w ∷ ts) f h =
    let same : record { item = w ∷ []; rest = ts } ≡ f = cc in
    subst (λ (k : Found Words). Fronts (AreNames k.item) (word w ∷ ts) k.rest) same (record { mine = word w ∷ []; joined = refl; holds = inl (w, refl, refl) })
names_sound (opens_list ∷ ts) f h = record { mine = braced f.item; joined = braced_sound ts f h; holds = inr refl }
names_sound (opens ∷ ts) f h = cc
names_sound (closes ∷ ts) f h = cc
names_sound (closes_list ∷ ts) f h = cc
names_sound (stray ∷ ts) f h = cc

closed_sound : (xs : Words) (rest : List Token) (f : Found Words) → closed_by xs rest ≡ Some f → (xs ≡ f.item) × (rest ≡ closes ∷ f.rest)
closed_sound xs [] f h = cc
closed_sound xs (closes ∷ ts) f h =
    let same : record { item = xs; rest = ts } ≡ f = cc in
    (ap (λ (k : Found Words). k.item) same, ap (λ (k : Found Words). closes ∷ k.rest) same)
closed_sound xs (word w ∷ ts) f h = cc
closed_sound xs (opens ∷ ts) f h = cc
closed_sound xs (opens_list ∷ ts) f h = cc
closed_sound xs (closes_list ∷ ts) f h = cc
closed_sound xs (stray ∷ ts) f h = cc

get_names : (get : List ℕ) (ts : List Token) (o : Option (Found Words)) (f : Found Words) → names_front ts ≡ o → closed o ≡ Some f
    → Fronts (IsGiven get f.item) (opens ∷ word get ∷ ts) f.rest
get_names get ts None f e h = cc
get_names get ts (Some g) f e h =
    let end = closed_sound g.item g.rest f h in
    let n = names_sound ts g e in
    record {
      mine = opens ∷ word get ∷ (n.mine ++ closes ∷ []);
      joined = ap (λ us. opens ∷ word get ∷ us) (n.joined ∙ ap (λ us. n.mine ++ us) end.1 ∙ sym (append_assoc n.mine (closes ∷ []) f.rest));
      holds = record { names = n.mine; spelled = refl; are_names = subst (λ (xs : Words). AreNames xs n.mine) end.0 n.holds };
    }

get_by : (get w : List ℕ) (ts : List Token) (b : Bool) (f : Found Words) → bytes_eq w get ≡ b → (if b then closed (names_front ts) else None) ≡ Some f
    → Fronts (IsGiven get f.item) (opens ∷ word w ∷ ts) f.rest
get_by get w ts true f e h =
    subst (λ (x : List ℕ). Fronts (IsGiven get f.item) (opens ∷ word x ∷ ts) f.rest) (sym (same_bytes w get e)) (get_names get ts (names_front ts) f refl h)
get_by get w ts false f e h = cc

get_sound : (get : List ℕ) (ts : List Token) (f : Found Words) → get_front get ts ≡ Some f → Fronts (IsGiven get f.item) (opens ∷ ts) f.rest
get_sound get [] f h = cc
get_sound get (word w ∷ ts) f h = get_by get w ts (bytes_eq w get) f refl h
get_sound get (opens ∷ ts) f h = cc
get_sound get (closes ∷ ts) f h = cc
get_sound get (opens_list ∷ ts) f h = cc
get_sound get (closes_list ∷ ts) f h = cc
get_sound get (stray ∷ ts) f h = cc

word_by : (w : List ℕ) (ts : List Token) (b : Bool) (f : Found (List ℕ)) → is_option w ≡ b → (if b then None else Some (record { item = w; rest = ts })) ≡ Some f
    → Fronts (IsWord f.item) (word w ∷ ts) f.rest
word_by w ts true f e h = cc
word_by w ts false f e h =
    let same : record { item = w; rest = ts } ≡ f = cc in
    subst (λ (k : Found (List ℕ)). Fronts (IsWord k.item) (word w ∷ ts) k.rest) same (record { mine = word w ∷ []; joined = refl; holds = (refl, e) })

word_sound : (ts : List Token) (f : Found (List ℕ)) → word_front ts ≡ Some f → Fronts (IsWord f.item) ts f.rest
word_sound [] f h = cc
word_sound (word w ∷ ts) f h = word_by w ts (is_option w) f refl h
word_sound (opens ∷ ts) f h = cc
word_sound (closes ∷ ts) f h = cc
word_sound (opens_list ∷ ts) f h = cc
word_sound (closes_list ∷ ts) f h = cc
word_sound (stray ∷ ts) f h = cc

-- a property that follows from another
weaker : {P Q : List Token → Type 0} (ts rest : List Token) → ((us : List Token) → P us → Q us) → Fronts P ts rest → Fronts Q ts rest
weaker ts rest k p = record { mine = p.mine; joined = p.joined; holds = k p.mine p.holds }

single_sound : (xs : Words) (ts rest : List Token) (f : Found (List ℕ)) → single_by xs rest ≡ Some f → Fronts (IsGiven (codes "get_clocks") xs) ts rest
    → Fronts (IsTaken takes.Clock f.item) ts f.rest
single_sound [] ts rest f h p = cc
single_sound (x ∷ []) ts rest f h p =
    let same : record { item = x; rest = rest } ≡ f = cc in
    subst (λ (k : Found (List ℕ)). Fronts (IsTaken takes.Clock k.item) ts k.rest) same (weaker ts rest (λ us g. inr g) p)
single_sound (x ∷ y ∷ xs) ts rest f h p = cc

clock_given : (ts : List Token) (o : Option (Found Words)) (f : Found (List ℕ)) → get_front (codes "get_clocks") ts ≡ o → single o ≡ Some f
    → Fronts (IsTaken takes.Clock f.item) (opens ∷ ts) f.rest
clock_given ts None f e h = cc
clock_given ts (Some g) f e h = single_sound g.item (opens ∷ ts) g.rest f h (get_sound (codes "get_clocks") ts g e)

clock_sound : (ts : List Token) (f : Found (List ℕ)) → clock_front ts ≡ Some f → Fronts (IsTaken takes.Clock f.item) ts f.rest
clock_sound [] f h = cc
clock_sound (word w ∷ ts) f h = weaker (word w ∷ ts) f.rest (λ us k. inl k) (word_by w ts (is_option w) f refl h)
clock_sound (opens ∷ ts) f h = clock_given ts (get_front (codes "get_clocks") ts) f refl h
clock_sound (closes ∷ ts) f h = cc
clock_sound (opens_list ∷ ts) f h = cc
clock_sound (closes_list ∷ ts) f h = cc
clock_sound (stray ∷ ts) f h = cc

braces_by : (ts : List Token) (o : Option (Found Words)) (f : Found (List ℕ)) → list_front ts ≡ o → unnamed o ≡ Some f
    → Fronts (IsTaken takes.List f.item) (opens_list ∷ ts) f.rest
braces_by ts None f e h = cc
braces_by ts (Some g) f e h =
    let same : record { item = []; rest = g.rest } ≡ f = cc in
    subst (λ (k : Found (List ℕ)). Fronts (IsTaken takes.List k.item) (opens_list ∷ ts) k.rest) same
    (record { mine = braced g.item; joined = braced_sound ts g e; holds = ((g.item, refl), refl) })

braces_sound : (ts : List Token) (f : Found (List ℕ)) → braces_front ts ≡ Some f → Fronts (IsTaken takes.List f.item) ts f.rest
braces_sound [] f h = cc
braces_sound (opens_list ∷ ts) f h = braces_by ts (list_front ts) f refl h
braces_sound (word w ∷ ts) f h = cc
braces_sound (opens ∷ ts) f h = cc
braces_sound (closes ∷ ts) f h = cc
braces_sound (closes_list ∷ ts) f h = cc
braces_sound (stray ∷ ts) f h = cc

taken_sound : (t : Takes) (ts : List Token) (f : Found (List ℕ)) → taken_front t ts ≡ Some f → Fronts (IsTaken t f.item) ts f.rest
taken_sound takes.Nothing ts f h =
    let same : record { item = []; rest = ts } ≡ f = cc in
    subst (λ (k : Found (List ℕ)). Fronts (IsTaken takes.Nothing k.item) ts k.rest) same (record { mine = []; joined = refl; holds = (refl, refl) })
taken_sound takes.Word ts f h = word_sound ts f h
taken_sound takes.Clock ts f h = clock_sound ts f h
taken_sound takes.List ts f h = braces_sound ts f h

-- the option that a word is, is written so
abbrev IsNamed : List ℕ → Option Choice → Type 0
IsNamed w None = Unit {0}
IsNamed w (Some c) = w ≡ name_of c

choice_named : (w : List ℕ) → IsNamed w (choice_of w)
choice_named w =
    choose (IsNamed w) w (codes "-period") (Some Period) _ (λ e. e)
    (choose (IsNamed w) w (codes "-name") (Some ClockName) _ (λ e. e)
    (choose (IsNamed w) w (codes "-waveform") (Some Waveform) _ (λ e. e)
    (choose (IsNamed w) w (codes "-clock") (Some OfClock) _ (λ e. e)
    (choose (IsNamed w) w (codes "-max") (Some Max) _ (λ e. e)
    (choose (IsNamed w) w (codes "-lib_cell") (Some LibCell) _ (λ e. e)
    (choose (IsNamed w) w (codes "-pin") (Some Pin) _ (λ e. e)
    (choose (IsNamed w) w (codes "-input_transition_rise") (Some Rise) _ (λ e. e)
    (choose (IsNamed w) w (codes "-input_transition_fall") (Some Fall) _ (λ e. e)
    (choose (IsNamed w) w (codes "-pin_load") (Some PinLoad) None (λ e. e) tt)))))))))

chosen_sound : (c : Choice) (ts : List Token) (o : Option (Found (List ℕ))) (f : Found Part) → taken_front (takes_of c) ts ≡ o → chosen_by c o ≡ Some f
    → Fronts (Spells f.item) (word (name_of c) ∷ ts) f.rest
chosen_sound c ts None f e h = cc
chosen_sound c ts (Some g) f e h =
    let same : record { item = chosen c g.item; rest = g.rest } ≡ f = cc in
    let t = taken_sound (takes_of c) ts g e in
    subst (λ (k : Found Part). Fronts (Spells k.item) (word (name_of c) ∷ ts) k.rest) same
    (record { mine = word (name_of c) ∷ t.mine; joined = ap (λ us. word (name_of c) ∷ us) t.joined; holds = (t.mine, refl, t.holds) })

option_by : (w : List ℕ) (ts : List Token) (o : Option Choice) (f : Found Part) → IsNamed w o → chosen_front o ts ≡ Some f
    → Fronts (Spells f.item) (word w ∷ ts) f.rest
option_by w ts None f named h = cc
option_by w ts (Some c) f named h =
    subst (λ (x : List ℕ). Fronts (Spells f.item) (word x ∷ ts) f.rest) (sym named) (chosen_sound c ts (taken_front (takes_of c) ts) f refl h)

front_word : (w : List ℕ) (ts : List Token) (b : Bool) (f : Found Part) → is_option w ≡ b
    → (if b then chosen_front (choice_of w) ts else Some (record { item = value w; rest = ts })) ≡ Some f → Fronts (Spells f.item) (word w ∷ ts) f.rest
front_word w ts true f e h = option_by w ts (choice_of w) f (choice_named w) h
front_word w ts false f e h =
    let same : record { item = value w; rest = ts } ≡ f = cc in
    subst (λ (k : Found Part). Fronts (Spells k.item) (word w ∷ ts) k.rest) same (record { mine = word w ∷ []; joined = refl; holds = (refl, e) })

ports_sound : (xs : Words) (ts rest : List Token) (f : Found Part) → ports_by xs rest ≡ Some f → Fronts (IsGiven (codes "get_ports") xs) ts rest
    → Fronts (Spells f.item) ts f.rest
ports_sound [] ts rest f h p = cc
ports_sound (x ∷ xs) ts rest f h p =
    let same : record { item = ports (x ∷ xs); rest = rest } ≡ f = cc in
    subst (λ (k : Found Part). Fronts (Spells k.item) ts k.rest) same (weaker ts rest (λ us g. (g, omega arith)) p)

ports_by_front : (ts : List Token) (o : Option (Found Words)) (f : Found Part) → get_front (codes "get_ports") ts ≡ o → ports_front o ≡ Some f
    → Fronts (Spells f.item) (opens ∷ ts) f.rest
ports_by_front ts None f e h = cc
ports_by_front ts (Some g) f e h = ports_sound g.item (opens ∷ ts) g.rest f h (get_sound (codes "get_ports") ts g e)

pub part_sound : (ts : List Token) (f : Found Part) → front ts ≡ Some f → Fronts (Spells f.item) ts f.rest
part_sound [] f h = cc
part_sound (word w ∷ ts) f h = front_word w ts (is_option w) f refl h
part_sound (opens ∷ ts) f h = ports_by_front ts (get_front (codes "get_ports") ts) f refl h
part_sound (closes ∷ ts) f h = cc
part_sound (opens_list ∷ ts) f h = cc
part_sound (closes_list ∷ ts) f h = cc
part_sound (stray ∷ ts) f h = cc

-- ---- no spelling is empty

some_by : (ts us : List Token) → ts ≡ us → 0 < length us → 0 < length ts
some_by ts us e h = subst (λ vs. 0 < length vs) (sym e) h

pub spells_some : (p : Part) (ts : List Token) → Spells p ts → 0 < length ts
spells_some (value w) ts h = some_by ts (word w ∷ []) h.0 (omega arith)
spells_some (ports xs) ts h = some_by ts (opens ∷ word (codes "get_ports") ∷ (h.0.names ++ closes ∷ [])) h.0.spelled (omega arith)
spells_some (chosen c w) ts h = some_by ts (word (name_of c) ∷ h.0) h.1 (omega arith)
