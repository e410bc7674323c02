-- The steps of the reader's maps, over any maps.

use Rattle.std.proofs.Common.{◌≡◌, ℕ, ◌+◌, ◌-◌, ◌<◌, ◌≤◌, ◌==◌, zero, suc, List, [], ◌∷◌, ◌++◌, length, get_or, set, eqb, refl, sym, ap, subst, ◌∙◌, Bool, true, false, cond, ◌||◌, Option, None, Some, if◌then◌else◌, arith, length-append}
use Rattle.std.specs.List.{list_any}
use Rattle.std.specs.Map.{update}
use Rattle.std.specs.Option.{is_some, unwrap_or}
use Rattle.std.specs.Ordering.{is_eq, nat_cmp}
use Rattle.std.specs.Str.{bytes_eq}
use Rattle.std.proofs.lemmas.Bool.Decides.{nat_tests}
use Rattle.std.proofs.lemmas.List.Folds.{list_any-append}
use Rattle.gs_verilog.specs.Index.{place_of, PinAt}
use Rattle.gs_verilog.specs.Machine.{with_net, with_link, last_has}
use Rattle.gs_verilog.specs.Text.{number}
use Rattle.gs_verilog.specs.declared.parts.Link.{Link}
use Rattle.gs_verilog.specs.declared.parts.Port.{Port}
use Rattle.gs_verilog.specs.declared.parts.RawInst.{RawInst}
use Rattle.gs_verilog.proofs.Numbers.{absent-length, position-found, position-inside, itself, same_bytes, apart, with_net-new, number-put}

-- ---- nets

-- what a place says of the list
abbrev Says : Option ℕ → List (List ℕ) → List ℕ → Type 0
Says None names q = list_any (bytes_eq q) names ≡ false
Says (Some n) names q = (list_any (bytes_eq q) names ≡ true) × (n ≡ number names q)

says_by : (names : List (List ℕ)) (q : List ℕ) (b : Bool) → list_any (bytes_eq q) names ≡ b → Says (if b then Some (number names q) else None) names q
says_by names q true e = (e, refl)
says_by names q false e = e

says : (names : List (List ℕ)) (q : List ℕ) (o : Option ℕ) → o ≡ place_of names q → Says o names q
says names q o e = subst (λ p. Says p names q) (sym e) (says_by names q (list_any (bytes_eq q) names) refl)

-- a name that isn't
put_new : (names : List (List ℕ)) (name : List ℕ) → None ≡ place_of names name → (names ++ name ∷ [] ≡ with_net names name) × (length names ≡ number names name)
put_new names name e =
    let s = says names name None e in
    (sym (with_net-new names name s), sym (absent-length (bytes_eq name) names s))

place_kept : (names : List (List ℕ)) (name q : List ℕ) (b : Bool) → list_any (bytes_eq q) names ≡ b → bytes_eq q name ≡ false
    → place_of (names ++ name ∷ []) q ≡ place_of names q
place_kept names name q true e h =
    let k : list_any (bytes_eq q) (names ++ name ∷ []) ≡ true = list_any-append (bytes_eq q) names (name ∷ []) ∙ rw e refl in
    let f = position-found (bytes_eq q) names (name ∷ []) e in
    rw (k, e, f) refl
place_kept names name q false e h =
    let k : list_any (bytes_eq q) (names ++ name ∷ []) ≡ false = list_any-append (bytes_eq q) names (name ∷ []) ∙ rw (e, h) refl in
    rw (k, e) refl

place_last : (names : List (List ℕ)) (name : List ℕ) → list_any (bytes_eq name) names ≡ false → place_of (names ++ name ∷ []) name ≡ Some (length names)
place_last names name e =
    let k : list_any (bytes_eq name) (names ++ name ∷ []) ≡ true = list_any-append (bytes_eq name) names (name ∷ []) ∙ rw (e, itself name) refl in
    let n : number (names ++ name ∷ []) name ≡ length names =
    ap (λ ms. number ms name) (sym (with_net-new names name e)) ∙ number-put names name false e ∙ absent-length (bytes_eq name) names e in
    rw (k, n) refl

finds_by : (f : List ℕ → Option ℕ) (names : List (List ℕ)) (name q : List ℕ) (b : Bool) → bytes_eq name q ≡ b
    → f q ≡ place_of names q → list_any (bytes_eq name) names ≡ false
    → cond (bytes_eq name q) (Some (length names)) (f q) ≡ place_of (names ++ name ∷ []) q
finds_by f names name q true e h n =
    let same : name ≡ q = same_bytes name q e in
    rw e (sym (place_last names name n) ∙ ap (place_of (names ++ name ∷ [])) same)
finds_by f names name q false e h n =
    let k = apart q name e in
    rw e (h ∙ sym (place_kept names name q (list_any (bytes_eq q) names) refl k))

-- the map after a new name
pub finds_new : (f g : List ℕ → Option ℕ) (names : List (List ℕ)) (name : List ℕ)
    → ((q : List ℕ) → f q ≡ place_of names q) → None ≡ f name
    → ((q : List ℕ) → g q ≡ update bytes_eq f name (Some (length names)) q)
    → (q : List ℕ) → g q ≡ place_of (names ++ name ∷ []) q
finds_new f g names name h absent after q =
    let s = says names name None (absent ∙ h name) in
    after q ∙ finds_by f names name q (bytes_eq name q) refl (h q) s

-- a name that is found at the next number, or not at all, is new
pub put_last : (f g : List ℕ → Option ℕ) (names : List (List ℕ)) (name : List ℕ) (n : ℕ) (o : Option ℕ) → f name ≡ o
    → ((q : List ℕ) → f q ≡ place_of names q) → n ≡ unwrap_or o (length names) → n ≡ length names
    → ((q : List ℕ) → g q ≡ update bytes_eq f name (Some n) q)
    → ((q : List ℕ) → g q ≡ place_of (names ++ name ∷ []) q) × (names ++ name ∷ [] ≡ with_net names name) × (n ≡ number names name)
put_last f g names name n None e h is last after =
    let new = put_new names name (sym e ∙ h name) in
    (finds_new f g names name h (sym e) (λ q. after q ∙ ap (λ m. update bytes_eq f name (Some m) q) last), new.0, last ∙ new.1)
put_last f g names name n (Some m) e h is last after =
    let s = says names name (Some m) (sym e ∙ h name) in
    let less : number names name < length names = position-inside (bytes_eq name) names s.0 in
    absurd (omega (arith, less, s.1, is, last))

-- ---- directions

pub is_eq-nat_cmp : (x y : ℕ) → is_eq (nat_cmp x y) ≡ eqb x y
is_eq-nat_cmp x y = grind (arith, nat_tests)

directed_by : (ps : List Port) (p : Port) (n : ℕ) (b : Bool) → eqb p.net n ≡ b → eqb n p.net ≡ b
    → cond (eqb p.net n) true (list_any (λ (q : Port). eqb n q.net) ps) ≡ (list_any (λ (q : Port). eqb n q.net) ps || (eqb n p.net || false))
directed_by ps p n true e f = rw (e, f) (or_true (list_any (λ (q : Port). eqb n q.net) ps))
  where
    or_true : (b : Bool) → true ≡ (b || (true || false))
    or_true true = refl
    or_true false = refl
directed_by ps p n false e f = rw (e, f) (or_false (list_any (λ (q : Port). eqb n q.net) ps))
  where
    or_false : (b : Bool) → b ≡ (b || (false || false))
    or_false true = refl
    or_false false = refl

eqb_flip : (x y : ℕ) → eqb x y ≡ eqb y x
eqb_flip x y = grind (arith, nat_tests)

-- the set after a new port
pub directed_new : (f g : ℕ → Bool) (ps : List Port) (p : Port)
    → ((n : ℕ) → f n ≡ list_any (λ (q : Port). eqb n q.net) ps)
    → ((n : ℕ) → g n ≡ cond (is_eq (nat_cmp p.net n)) true (f n))
    → (n : ℕ) → g n ≡ list_any (λ (q : Port). eqb n q.net) (ps ++ p ∷ [])
directed_new f g ps p h after n =
    let a : cond (is_eq (nat_cmp p.net n)) true (f n) ≡ cond (eqb p.net n) true (list_any (λ (q : Port). eqb n q.net) ps) =
    ap (λ b. cond b true (f n)) (is_eq-nat_cmp p.net n) ∙ ap (λ b. cond (eqb p.net n) true b) (h n) in
    after n ∙ a ∙ directed_by ps p n (eqb p.net n) refl (eqb_flip n p.net) ∙ sym (list_any-append (λ (q : Port). eqb n q.net) ps (p ∷ []))

-- ---- instances

named_by : (b : Bool) (x : List ℕ) (q : List ℕ) (n : ℕ) (r : Bool) (o : Option ℕ) → bytes_eq x q ≡ r → bytes_eq q x ≡ r → is_some o ≡ b
    → is_some (cond (bytes_eq x q) (Some n) o) ≡ (b || (bytes_eq q x || false))
named_by true x q n true o e f h = rw e refl
named_by false x q n true o e f h = rw (e, f) refl
named_by true x q n false o e f h = rw e h
named_by false x q n false o e f h = rw (e, f) h

bytes_flip : (x y : List ℕ) (b : Bool) → bytes_eq x y ≡ b → bytes_eq y x ≡ b
bytes_flip x y true e = let same : x ≡ y = same_bytes x y e in let P : List ℕ → Type 0 = λ z. bytes_eq z x ≡ true in subst P same (itself x)
bytes_flip x y false e = apart y x e

-- the map after a new instance
pub named_new : (f g : List ℕ → Option ℕ) (is : List RawInst) (i : RawInst) (n : ℕ)
    → ((q : List ℕ) → is_some (f q) ≡ list_any (λ (j : RawInst). bytes_eq q j.name) is)
    → ((q : List ℕ) → g q ≡ update bytes_eq f i.name (Some n) q)
    → (q : List ℕ) → is_some (g q) ≡ list_any (λ (j : RawInst). bytes_eq q j.name) (is ++ i ∷ [])
named_new f g is i n h after q =
    let r = bytes_eq i.name q in
    ap (λ (o : Option ℕ). is_some o) (after q)
    ∙ named_by (list_any (λ (j : RawInst). bytes_eq q j.name) is) i.name q n r (f q) refl (bytes_flip i.name q r refl) (h q)
    ∙ sym (list_any-append (λ (j : RawInst). bytes_eq q j.name) is (i ∷ []))

-- ---- pins

pub last_has-new : (is : List RawInst) (i : RawInst) (q : List ℕ) → last_has (is ++ i ∷ []) q ≡ list_any (λ (l : Link). bytes_eq q l.pin) i.links
last_has-new [] i q = refl
last_has-new (j ∷ []) i q = refl
last_has-new (j ∷ k ∷ is) i q = last_has-new (k ∷ is) i q

pin_later : (n : ℕ) (o : Option ℕ) (has : Bool) → PinAt n o has → PinAt (n + 1) o false
pin_later n None has h = refl
pin_later n (Some m) has h = (omega (arith, h.0), less m n h.0)
  where
    less : (m n : ℕ) → m ≤ n → (m == n + 1) ≡ false
    less m n le = grind (arith, nat_tests)

-- the pins after a new instance
pub pins_new : (f : List ℕ → Option ℕ) (is : List RawInst) (i : RawInst) → i.links ≡ []
    → ((q : List ℕ) → PinAt (length is) (f q) (last_has is q)) → (q : List ℕ) → PinAt (length (is ++ i ∷ [])) (f q) (last_has (is ++ i ∷ []) q)
pins_new f is i none h q =
    let n : length (is ++ i ∷ []) ≡ length is + 1 = length-append is (i ∷ []) in
    let b : last_has (is ++ i ∷ []) q ≡ false = last_has-new is i q ∙ ap (list_any (λ (l : Link). bytes_eq q l.pin)) none in
    rw (n, b) (pin_later (length is) (f q) (last_has is q) (h q))

pub last_has-link : (is : List RawInst) (l : Link) (q : List ℕ) → 0 < length is → last_has (with_link is l) q ≡ (last_has is q || (bytes_eq q l.pin || false))
last_has-link [] l q h = absurd (omega arith)
last_has-link (i ∷ []) l q h = list_any-append (λ (k : Link). bytes_eq q k.pin) i.links (l ∷ [])
last_has-link (i ∷ j ∷ []) l q h = last_has-link (j ∷ []) l q (omega arith)
last_has-link (i ∷ j ∷ k ∷ is) l q h = last_has-link (j ∷ k ∷ is) l q (omega arith)

pub length-with_link : (is : List RawInst) (l : Link) → length (with_link is l) ≡ length is
length-with_link [] l = refl
length-with_link (i ∷ []) l = refl
length-with_link (i ∷ j ∷ is) l = ap (λ n. suc n) (length-with_link (j ∷ is) l)

pin_by : (n : ℕ) (pin q : List ℕ) (r : Bool) (o : Option ℕ) (has : Bool) → bytes_eq pin q ≡ r → bytes_eq q pin ≡ r → PinAt n o has
    → PinAt n (cond (bytes_eq pin q) (Some n) o) (has || (bytes_eq q pin || false))
pin_by n pin q true o true e f h = rw e (omega arith, same n)
  where
    same : (n : ℕ) → (n == n) ≡ true
    same n = grind (arith, nat_tests)
pin_by n pin q true o false e f h = rw (e, f) (omega arith, same n)
  where
    same : (n : ℕ) → (n == n) ≡ true
    same n = grind (arith, nat_tests)
pin_by n pin q false o true e f h = rw e h
pin_by n pin q false o false e f h = rw (e, f) h

-- the pins after a connection of the last instance
pub pins_linked : (f g : List ℕ → Option ℕ) (is : List RawInst) (l : Link) → 0 < length is
    → ((q : List ℕ) → PinAt (length is) (f q) (last_has is q))
    → ((q : List ℕ) → g q ≡ update bytes_eq f l.pin (Some (length is)) q)
    → (q : List ℕ) → PinAt (length (with_link is l)) (g q) (last_has (with_link is l) q)
pins_linked f g is l some h after q =
    let r = bytes_eq l.pin q in
    let k = pin_by (length is) l.pin q r (f q) (last_has is q) refl (bytes_flip l.pin q r refl) (h q) in
    rw (length-with_link is l, last_has-link is l q some, after q) k

-- whether the pin is of the last instance, from its place
pub pin_found : (n m : ℕ) (has : Bool) → PinAt n (Some m) has → (m == n) ≡ has
pin_found n m has h = h.1

-- a link to the last instance, by its place
pub with_link-set : (is : List RawInst) (l : Link) (d : RawInst) → 0 < length is
    → set is (length is - 1) (record (get_or is (length is - 1) d) { links = (get_or is (length is - 1) d).links ++ l ∷ [] }) ≡ with_link is l
with_link-set is l d h = by_place is l d (length is - 1) (omega arith)
  where
    by_place : (is : List RawInst) (l : Link) (d : RawInst) (n : ℕ) → n + 1 ≡ length is
        → set is n (record (get_or is n d) { links = (get_or is n d).links ++ l ∷ [] }) ≡ with_link is l
    by_place [] l d n e = absurd (omega arith)
    by_place (i ∷ []) l d zero e = refl
    by_place (i ∷ []) l d (suc n) e = absurd (omega arith)
    by_place (i ∷ j ∷ is) l d zero e = absurd (omega arith)
    by_place (i ∷ j ∷ is) l d (suc n) e = ap (λ js. i ∷ js) (by_place (j ∷ is) l d n (omega arith))

pub link_set : (is : List RawInst) (l : Link) (last : RawInst) (count : ℕ) (links : List Link) → count ≡ length is → 0 < count
    → last ≡ get_or is (count - 1) last → links ≡ last.links ++ l ∷ [] → set is (count - 1) (record last { links = links }) ≡ with_link is l
link_set is l last count links e lt same h =
    let some : 0 < length is = omega arith in
    ap (λ ks. set is (count - 1) (record last { links = ks })) h
    ∙ ap (λ (x : RawInst). set is (count - 1) (record x { links = x.links ++ l ∷ [] })) same
    ∙ ap (λ n. set is (n - 1) (record (get_or is (n - 1) last) { links = (get_or is (n - 1) last).links ++ l ∷ [] })) e
    ∙ with_link-set is l last some

-- a link changes no name
pub names_linked : (is : List RawInst) (l : Link) (q : List ℕ) → list_any (λ (j : RawInst). bytes_eq q j.name) (with_link is l) ≡ list_any (λ (j : RawInst). bytes_eq q j.name) is
names_linked [] l q = refl
names_linked (i ∷ []) l q = refl
names_linked (i ∷ j ∷ is) l q = ap (λ b. bytes_eq q i.name || b) (names_linked (j ∷ is) l q)

-- without an instance nothing is linked
pub none_linked : (is : List RawInst) (l : Link) → length is ≡ 0 → with_link is l ≡ is
none_linked [] l e = refl
none_linked (i ∷ is) l e = absurd (omega arith)
