-- Cells with one more: what is kept of them.

use Rattle.std.specs.Prelude.{All}
use Rattle.std.proofs.Common.{◌≡◌, ◌∙◌, ap, sym, subst, refl, ℕ, List, [], ◌∷◌, ◌++◌, length, map, Bool, true, false, cond, ◌||◌, ◌==◌, Option, None, Some, arith}
use Rattle.std.specs.List.{IsDistinct, list_any}
use Rattle.std.specs.Map.{update}
use Rattle.std.specs.Option.{is_some}
use Rattle.std.specs.Str.{bytes_eq}
use Rattle.std.proofs.lemmas.Bool.Decides.{nat_tests}
use Rattle.std.proofs.lemmas.Cmp.{nat_list_eq_equiv}
use Rattle.std.proofs.lemmas.List.{map-append}
use Rattle.std.proofs.lemmas.List.Elements.{All-from_get_or, All-nil, All-push}
use Rattle.std.proofs.lemmas.Map.Keys.{IsDistinct-push}
use Rattle.gs_design.specs.Cells.{cell_name}
use Rattle.gs_design.specs.declared.cell.Cell.{Cell}
use Rattle.gs_lib.specs.Index.{IsKept}
use Rattle.gs_lib.specs.Profile.{is_broken}
use Rattle.gs_lib.specs.declared.builder.Builder.{Builder}
use Rattle.gs_lib.proofs.Whole.{any_none, or_first, or_second}
use Rattle.gs_names.specs.Names.{HasBuckets, find}
use Rattle.gs_text.specs.Bytes.{is_white}
use Rattle.gs_text.specs.Pieces.{IsUnbroken}

or_false : (b : Bool) → b || false ≡ b
or_false true = refl
or_false false = refl

or_assoc : (a b c : Bool) → a || (b || c) ≡ (a || b) || c
or_assoc true b c = refl
or_assoc false b c = refl

any_push : {X : Type 0} (f : X → Bool) (xs : List X) (x : X) → list_any f (xs ++ x ∷ []) ≡ list_any f xs || f x
any_push f [] x = or_false (f x)
any_push f (y ∷ ys) x = ap (λ b. f y || b) (any_push f ys x) ∙ or_assoc (f y) (list_any f ys) (f x)

found_by : {V : Type 0} (b : Bool) (o : Option V) (any : Bool) (v : V) → is_some o ≡ any → is_some (cond b (Some v) o) ≡ any || b
found_by true o true v h = refl
found_by true o false v h = refl
found_by false o true v h = h
found_by false o false v h = h

-- the map after a name more
pub finds_put : {V : Type 0} (f g : List ℕ → Option V) (names : List (List ℕ)) (name : List ℕ) (v : V)
    → ((q : List ℕ) → is_some (f q) ≡ list_any (bytes_eq q) names)
    → ((q : List ℕ) → g q ≡ update bytes_eq f name (Some v) q)
    → (q : List ℕ) → is_some (g q) ≡ list_any (bytes_eq q) (names ++ name ∷ [])
finds_put f g names name v finds after q =
    ap (λ o. is_some o) (after q)
    ∙ ap (λ b. is_some (cond b (Some v) (f q))) (nat_list_eq_equiv.symm name q)
    ∙ found_by (bytes_eq q name) (f q) (list_any (bytes_eq q) names) v (finds q)
    ∙ sym (any_push (bytes_eq q) names name)

pub kept_put : (old new : Builder) (c : Cell) → IsKept old → new.cells.items ≡ old.cells.items ++ c ∷ []
    → list_any (bytes_eq c.name) (map cell_name old.cells.items) ≡ false → IsUnbroken c.name → HasBuckets new.names
    → ((q : List ℕ) → is_some (find new.names q) ≡ list_any (bytes_eq q) (map cell_name old.cells.items ++ c.name ∷ []))
    → IsKept new
kept_put old new c k items fresh solid buckets finds =
    let names : map cell_name new.cells.items ≡ map cell_name old.cells.items ++ c.name ∷ [] =
    ap (map cell_name) items ∙ map-append cell_name old.cells.items (c ∷ []) in
    record {
      buckets = buckets;
      finds = λ q. finds q ∙ ap (list_any (bytes_eq q)) (sym names);
      differ = subst (IsDistinct bytes_eq) (sym names) (IsDistinct-push nat_list_eq_equiv (map cell_name old.cells.items) c.name k.differ fresh);
      named = subst (All (λ (x : Cell). IsUnbroken x.name)) (sym items) (All-push (λ (x : Cell). IsUnbroken x.name) old.cells.items c k.named solid);
    }

pub kept_none : (b : Builder) → b.cells.items ≡ [] → HasBuckets b.names → ((q : List ℕ) → find b.names q ≡ None) → IsKept b
unfolding IsDistinct
kept_none b items buckets empty = record {
  buckets = buckets;
  finds = λ q. ap (λ (o : Option (Unit {0})). is_some o) (empty q) ∙ sym (ap (λ cs. list_any (bytes_eq q) (map cell_name cs)) items);
  differ = subst (λ cs. IsDistinct bytes_eq (map cell_name cs)) (sym items) tt;
  named = subst (All (λ (x : Cell). IsUnbroken x.name)) (sym items) (All-nil (λ (x : Cell). IsUnbroken x.name));
}

-- a name that isn't broken
pub unbroken : (name : List ℕ) → is_broken name ≡ false → IsUnbroken name
unbroken name h =
    let e : (length name == 0) ≡ false = or_first (length name == 0) (list_any is_white name) h in
    record {
      some = grind (arith, nat_tests);
      solid = All-from_get_or (λ c. is_white c ≡ false) name 0 (λ k lt. any_none is_white name k 0 (or_second (length name == 0) (list_any is_white name) h) lt);
    }
