-- How many cells have a key, one cell after another.

use Rattle.std.proofs.Common.{◌≡◌, ◌∙◌, ap, sym, refl, ℕ, zero, suc, ◌+◌, ◌<◌, ◌≤◌, nat_lt, List, [], ◌∷◌, ◌++◌, length, get_or, map, take, filter, Bool, true, false, cond, ◌&&◌, ◌||◌, Option, None, Some, arith, eqb}
use Rattle.std.specs.BTreeMap.{is_at}
use Rattle.std.specs.Cmp.Lexicographic.{slice_cmp}
use Rattle.std.specs.List.{list_any}
use Rattle.std.specs.Option.{unwrap_or}
use Rattle.std.specs.Ordering.{is_eq, nat_cmp, ordering_then}
use Rattle.std.specs.declared.cmp.Ordering.{Ordering}
use Rattle.std.specs.declared.cmp.Ordering.TheVariants.{Less, Equal, Greater}
use Rattle.std.specs.Str.{bytes_eq}
use Rattle.std.proofs.lemmas.Bool.Decides.{Decides-eqb, nat_tests, same_from_decides}
use Rattle.std.proofs.lemmas.Cmp.{nat_list_eq_equiv}
use Rattle.std.proofs.lemmas.List.{get_or-map, length-append, length-map, map_more}
use Rattle.std.proofs.lemmas.Map.Text.{is_eq-slice_cmp}
use Rattle.std.proofs.lemmas.Slice.Eq.{bytes_eq-Decides}
use Rattle.gs_design.specs.declared.cell.Cell.{Cell}
use Rattle.gs_lib.specs.Classes.{Key, class_key, has_key, key_cmp, key_count, matches_by, same_key}
use Rattle.gs_lib.specs.Draft.{CellLists, cell_lists}
use Rattle.gs_lib.specs.Library.{alike_lists, has_large_class}
use Rattle.gs_lib.proofs.ClassLaws.{alike_key, lonely}
use Rattle.gs_lib.proofs.Lists.{filter_push}

-- ---- keys

pub and_first : (a b : Bool) → a && b ≡ true → a ≡ true
and_first true b h = refl
and_first false b h = h

pub and_second : (a b : Bool) → a && b ≡ true → b ≡ true
and_second true b h = h
and_second false b h = let never : false ≡ true = h in cc

eq_swap : (x y : ℕ) → eqb x y ≡ eqb y x
eq_swap x y =
    let d = Decides-eqb y x in
    same_from_decides (eqb x y) (eqb y x) (Decides-eqb x y) ((λ h. sym (d.0 h)), (λ e. d.1 (sym e)))

key_swap : (a b : Key) → same_key a b ≡ same_key b a
key_swap a b = ap (λ e. e && bytes_eq a.1 b.1) (eq_swap a.0 b.0) ∙ ap (λ e. eqb b.0 a.0 && e) (nat_list_eq_equiv.symm a.1 b.1)

key_exact : (a b : Key) → same_key a b ≡ true → a ≡ b
key_exact a b h =
    let x : a.0 ≡ b.0 = (Decides-eqb a.0 b.0).0 (and_first (eqb a.0 b.0) (bytes_eq a.1 b.1) h) in
    let y : a.1 ≡ b.1 = (bytes_eq-Decides a.1 b.1).0 (and_second (eqb a.0 b.0) (bytes_eq a.1 b.1) h) in
    λ i. (x i, y i)

key_self : (a : Key) → same_key a a ≡ true
key_self a =
    let x : eqb a.0 a.0 ≡ true = (Decides-eqb a.0 a.0).1 refl in
    let y : bytes_eq a.1 a.1 ≡ true = (bytes_eq-Decides a.1 a.1).1 refl in
    ap (λ e. e && bytes_eq a.1 a.1) x ∙ y

then_eq : (a b : Ordering) → is_eq (ordering_then a b) ≡ is_eq a && is_eq b
then_eq Less b = refl
then_eq Equal b = refl
then_eq Greater b = refl

eq_cond : (b : Bool) → is_eq (cond b Equal Greater) ≡ b
eq_cond true = refl
eq_cond false = refl

nat_eq_by : (x y : ℕ) (b : Bool) → nat_lt x y ≡ b → is_eq (cond b Less (cond (eqb x y) Equal Greater)) ≡ eqb x y
nat_eq_by x y true e =
    let apart : eqb x y ≡ false = grind (arith, nat_tests) in
    sym apart
nat_eq_by x y false e = eq_cond (eqb x y)

nat_eq_cmp : (x y : ℕ) → is_eq (nat_cmp x y) ≡ eqb x y
nat_eq_cmp x y = nat_eq_by x y (nat_lt x y) refl

pub at_key : (k q : Key) → is_at (key_cmp k) q ≡ same_key k q
at_key k q =
    then_eq (nat_cmp k.0 q.0) (slice_cmp nat_cmp k.1 q.1)
    ∙ ap (λ e. e && is_eq (slice_cmp nat_cmp k.1 q.1)) (nat_eq_cmp k.0 q.0)
    ∙ ap (λ e. eqb k.0 q.0 && e) (is_eq-slice_cmp k.1 q.1)

-- ---- one more in the map

module _ (old new : Key → Option ℕ) (k : Key) (n : ℕ) (count : n ≡ unwrap_or (old k) 0 + 1) (updates : (q : Key) → new q ≡ cond (is_at (key_cmp k) q) (Some n) (old q)) where
  counted_by : (q : Key) (b : Bool) → same_key k q ≡ b → unwrap_or (new q) 0 ≡ unwrap_or (old q) 0 + cond (same_key q k) 1 0
  counted_by q true e =
      let same : k ≡ q = key_exact k q e in
      let back : same_key q k ≡ true = key_swap q k ∙ e in
      ap (λ o. unwrap_or o 0) (updates q ∙ ap (λ b. cond b (Some n) (old q)) (at_key k q ∙ e))
      ∙ count
      ∙ ap (λ p. unwrap_or (old p) 0 + 1) same
      ∙ ap (λ b. unwrap_or (old q) 0 + cond b 1 0) (sym back)
  counted_by q false e =
      let back : same_key q k ≡ false = key_swap q k ∙ e in
      let none : unwrap_or (old q) 0 ≡ unwrap_or (old q) 0 + 0 = omega arith in
      ap (λ o. unwrap_or o 0) (updates q ∙ ap (λ b. cond b (Some n) (old q)) (at_key k q ∙ e))
      ∙ none
      ∙ ap (λ b. unwrap_or (old q) 0 + cond b 1 0) (sym back)

  pub counted : (c : CellLists) → class_key c ≡ Some k → (q : Key) → unwrap_or (new q) 0 ≡ unwrap_or (old q) 0 + cond (has_key q c) 1 0
  counted c e q = counted_by q (same_key k q) refl ∙ ap (λ o. unwrap_or (old q) 0 + cond (matches_by q o) 1 0) (sym e)

  pub own_count : (c : CellLists) → class_key c ≡ Some k → (l : Key) → class_key c ≡ Some l → n ≡ unwrap_or (new l) 0
  own_count c e l f =
      let both : Some k ≡ Some l = sym e ∙ f in
      let same : k ≡ l = cc in
      let here : unwrap_or (new k) 0 ≡ n = ap (λ o. unwrap_or o 0) (updates k ∙ ap (λ b. cond b (Some n) (old k)) (at_key k k ∙ key_self k)) in
      sym here ∙ ap (λ p. unwrap_or (new p) 0) same

pub uncounted : (f : Key → Option ℕ) (c : CellLists) → class_key c ≡ None → (q : Key) → unwrap_or (f q) 0 ≡ unwrap_or (f q) 0 + cond (has_key q c) 1 0
uncounted f c e q =
    let none : unwrap_or (f q) 0 ≡ unwrap_or (f q) 0 + 0 = omega arith in
    none ∙ ap (λ o. unwrap_or (f q) 0 + cond (matches_by q o) 1 0) (sym e)

-- ---- one cell more

one_by : (p : CellLists → Bool) (x : CellLists) (b : Bool) → p x ≡ b → length (filter p (x ∷ [])) ≡ cond (p x) 1 0
one_by p x true e = rw e refl
one_by p x false e = rw e refl

module _ (cells : List Cell) (i : ℕ) (d : Cell) (lt : i < length cells) where
  abbrev c : CellLists
  c = cell_lists (get_or cells i d)

  abbrev so_far : List CellLists
  so_far = map cell_lists (take i cells)

  abbrev more : List CellLists
  more = map cell_lists (take (i + 1) cells)

  more_is : more ≡ so_far ++ c ∷ []
  more_is = map_more cell_lists cells i d lt

  pub passed_more : (p : CellLists → Bool) → length (filter p more) ≡ length (filter p so_far) + cond (p c) 1 0
  passed_more p =
      ap (λ cs. length (filter p cs)) more_is
      ∙ ap length (filter_push p so_far c)
      ∙ length-append (filter p so_far) (filter p (c ∷ []))
      ∙ ap (λ n. length (filter p so_far) + n) (one_by p c (p c) refl)

  pub count_more : (q : Key) → key_count q more ≡ key_count q so_far + cond (has_key q c) 1 0
  count_more q = passed_more (has_key q)

  small_with : (q : Key) (o : Option Key) (b : Bool) → class_key c ≡ o → matches_by q o ≡ b → key_count q so_far ≤ 1024
      → ((k : Key) → o ≡ Some k → key_count k more ≤ 1024) → key_count q more ≤ 1024
  small_with q None b e h small own =
      let none : has_key q c ≡ false = ap (matches_by q) e in
      omega (arith, count_more q ∙ ap (λ t. key_count q so_far + cond t 1 0) none, small)
  small_with q (Some k) true e h small own =
      let same : q ≡ k = key_exact q k h in
      omega (arith, own k refl, ap (λ p. key_count p more) same)
  small_with q (Some k) false e h small own =
      let none : has_key q c ≡ false = ap (matches_by q) e ∙ h in
      omega (arith, count_more q ∙ ap (λ t. key_count q so_far + cond t 1 0) none, small)

  pub small_more : (n : ℕ) → n ≤ 1024 → ((k : Key) → class_key c ≡ Some k → n ≡ key_count k more) → ((q : Key) → key_count q so_far ≤ 1024) → (q : Key) → key_count q more ≤ 1024
  small_more n le own small q = small_with q (class_key c) (matches_by q (class_key c)) refl refl (small q) (λ k e. omega (arith, le, own k e))

-- ---- classes and keys

same_by : (f g : CellLists → Bool) (x : CellLists) (xs : List CellLists) (b : Bool) → g x ≡ b → f x ≡ g x → length (filter f xs) ≡ length (filter g xs) → length (filter f (x ∷ xs)) ≡ length (filter g (x ∷ xs))
same_by f g x xs true e h k =
    let here : f x ≡ true = h ∙ e in
    rw (here, e) (ap suc k)
same_by f g x xs false e h k =
    let here : f x ≡ false = h ∙ e in
    rw (here, e) k

filter_same : (f g : CellLists → Bool) → ((x : CellLists) → f x ≡ g x) → (xs : List CellLists) → length (filter f xs) ≡ length (filter g xs)
filter_same f g h [] = refl
filter_same f g h (x ∷ xs) = same_by f g x xs (g x) refl (h x) (filter_same f g h xs)

none_pass : (f : CellLists → Bool) → ((x : CellLists) → f x ≡ false) → (xs : List CellLists) → length (filter f xs) ≡ 0
none_pass f h [] = refl
none_pass f h (x ∷ xs) = rw (h x) (none_pass f h xs)

class_of : (cells : List CellLists) (c : CellLists) (k : Key) → class_key c ≡ Some k → length (filter (alike_lists c) cells) ≡ key_count k cells
class_of cells c k e = filter_same (alike_lists c) (has_key k) (λ x. alike_key c x k e) cells

size_by : (cells : List CellLists) (c : CellLists) (o : Option Key) → class_key c ≡ o → ((q : Key) → key_count q cells ≤ 1024) → length (filter (alike_lists c) cells) ≤ 1024
size_by cells c None e small = omega (arith, none_pass (alike_lists c) (λ x. lonely c x e) cells)
size_by cells c (Some k) e small = omega (arith, class_of cells c k e, small k)

fine : (n : ℕ) → n ≤ 1024 → nat_lt 1024 n ≡ false
fine n le = grind (arith, nat_tests)

none_large : (all cs : List CellLists) → ((c : CellLists) → length (filter (alike_lists c) all) ≤ 1024) → list_any (λ c. nat_lt 1024 (length (filter (alike_lists c) all))) cs ≡ false
none_large all [] small = refl
none_large all (c ∷ cs) small =
    ap (λ b. b || list_any (λ x. nat_lt 1024 (length (filter (alike_lists x) all))) cs) (fine (length (filter (alike_lists c) all)) (small c))
    ∙ none_large all cs small

pub none_alike : (cells : List CellLists) → ((c : CellLists) → length (filter (alike_lists c) cells) ≤ 1024) → has_large_class cells ≡ false
none_alike cells small = none_large cells cells small

pub no_large : (cells : List CellLists) → ((q : Key) → key_count q cells ≤ 1024) → has_large_class cells ≡ false
no_large cells small = none_alike cells (λ c. size_by cells c (class_key c) refl small)

fewer_by : (p : CellLists → Bool) (x : CellLists) (ys xs : List CellLists) (b : Bool) → p x ≡ b → length (filter p ys) ≤ length (filter p xs) → length (filter p (x ∷ ys)) ≤ length (filter p (x ∷ xs))
fewer_by p x ys xs true e h = rw e (omega (arith, h))
fewer_by p x ys xs false e h = rw e h

take_fewer : (p : CellLists → Bool) (n : ℕ) (xs : List CellLists) → length (filter p (take n xs)) ≤ length (filter p xs)
take_fewer p zero xs = omega arith
take_fewer p (suc n) [] = omega arith
take_fewer p (suc n) (x ∷ xs) = fewer_by p x (take n xs) xs (p x) refl (take_fewer p n xs)

or_true : (b : Bool) → b || true ≡ true
or_true true = refl
or_true false = refl

map_take : {X Y : Type 0} (f : X → Y) (n : ℕ) (xs : List X) → map f (take n xs) ≡ take n (map f xs)
map_take f zero xs = refl
map_take f (suc n) [] = refl
map_take f (suc n) (x ∷ xs) = ap (λ ys. f x ∷ ys) (map_take f n xs)

any_at : {X : Type 0} (f : X → Bool) (xs : List X) (k : ℕ) (d : X) → k < length xs → f (get_or xs k d) ≡ true → list_any f xs ≡ true
any_at f [] k d lt h = absurd (omega arith)
any_at f (x ∷ xs) zero d lt h = ap (λ b. b || list_any f xs) h
any_at f (x ∷ xs) (suc k) d lt h = ap (λ b. f x || b) (any_at f xs k d (omega arith) h) ∙ or_true (f x)

many : (n : ℕ) → 1024 < n → nat_lt 1024 n ≡ true
many n lt = grind (arith, nat_tests)

large_by : (cells : List Cell) (i : ℕ) (d : Cell) (lt : i < length cells) (n : ℕ) (o : Option Key) → class_key (cell_lists (get_or cells i d)) ≡ o → 1024 < n
    → (o ≡ None → n ≡ 0) → ((k : Key) → o ≡ Some k → n ≡ key_count k (map cell_lists (take (i + 1) cells)))
    → 1024 < length (filter (alike_lists (cell_lists (get_or cells i d))) (map cell_lists cells))
large_by cells i d lt n None e big none own = absurd (omega (arith, none refl, big))
large_by cells i d lt n (Some k) e big none own =
    let fewer : key_count k (take (i + 1) (map cell_lists cells)) ≤ key_count k (map cell_lists cells) = take_fewer (has_key k) (i + 1) (map cell_lists cells) in
    let front : key_count k (map cell_lists (take (i + 1) cells)) ≡ key_count k (take (i + 1) (map cell_lists cells)) = ap (key_count k) (map_take cell_lists (i + 1) cells) in
    omega (arith, big, own k refl, front, fewer, class_of (map cell_lists cells) (cell_lists (get_or cells i d)) k e)

pub is_large : (cells : List Cell) (i : ℕ) (d : Cell) → i < length cells → (n : ℕ) → 1024 < n
    → (class_key (cell_lists (get_or cells i d)) ≡ None → n ≡ 0)
    → ((k : Key) → class_key (cell_lists (get_or cells i d)) ≡ Some k → n ≡ key_count k (map cell_lists (take (i + 1) cells)))
    → has_large_class (map cell_lists cells) ≡ true
is_large cells i d lt n big none own =
    let inside : i < length (map cell_lists cells) = omega (arith, lt, length-map cells cell_lists) in
    let size = large_by cells i d lt n (class_key (cell_lists (get_or cells i d))) refl big none own in
    any_at (λ c. nat_lt 1024 (length (filter (alike_lists c) (map cell_lists cells)))) (map cell_lists cells) i (cell_lists d) inside
    (ap (λ c. nat_lt 1024 (length (filter (alike_lists c) (map cell_lists cells)))) (get_or-map cell_lists cells i d (cell_lists d) lt)
    ∙ many (length (filter (alike_lists (cell_lists (get_or cells i d))) (map cell_lists cells))) size)
