-- Ports that are given a value one after another.

use Rattle.std.proofs.Common.{◌≡◌, ℕ, ℤ, ◌+◌, ◌<◌, ◌≤◌, List, [], ◌∷◌, ◌++◌, length, take, drop, map, get_or, refl, sym, ap, subst, ◌∙◌, append_assoc, append-nil, Bool, true, false, ◌||◌, cond, Option, None, Some}
use Rattle.std.specs.List.{AllByRecursion, IsDistinct, list_any}
use Rattle.std.specs.Map.{update}
use Rattle.std.specs.Option.{is_some}
use Rattle.std.specs.Str.{bytes_eq}
use Rattle.std.proofs.lemmas.List.{drop_all, drop_more, map-append, take_all, take_more}
use Rattle.std.proofs.lemmas.List.Folds.{list_any-append}
use Rattle.gs_text.specs.Pieces.{text_of}
use Rattle.gs_text.specs.declared.kinds.Piece.{Piece}
use Rattle.gs_names.specs.Names.{HasBuckets, find}
use Rattle.gs_sdc.specs.Reader.{HasPorts, IsDriven, IsValues, StopsAgain, is_named}
use Rattle.gs_sdc.specs.Reads.{names_of}
use Rattle.gs_sdc.specs.Sdc.{driven, repeats, valued}
use Rattle.gs_sdc.specs.Terms.{HasTransitions, driver_port, value_port}
use Rattle.gs_sdc.specs.declared.constraints.PortValue.{PortValue}
use Rattle.gs_sdc.specs.declared.constraints.DriverSpec.{DriverSpec}
use Rattle.gs_sdc.specs.declared.error.Fault.TheVariants as faults
use Rattle.gs_sdc.specs.declared.error.Stop.{Stop}
use Rattle.gs_sdc.specs.declared.error.Stop.TheVariants as stops
use Rattle.gs_sdc.specs.declared.given.Values.{Values}
use Rattle.gs_sdc.specs.declared.given.Driven.{Driven}

-- ---- one port more

either : (a b : Bool) → (b || a) ≡ (a || (b || false))
either true true = refl
either true false = refl
either false true = refl
either false false = refl

some_by : {V : Type 0} (b : Bool) (v : V) (o : Option V) → is_some (cond b (Some v) o) ≡ (b || is_some o)
some_by true v o = refl
some_by false v o = refl

apart_by : (y x : List ℕ) (r b : Bool) → (bytes_eq y x || b) ≡ false → bytes_eq y x ≡ r → (r ≡ false) × (b ≡ false)
apart_by y x true b h e = let never : (true || b) ≡ false = rw e at h in cc
apart_by y x false b h e = (refl, rw e at h)

apart_more : (y x : List ℕ) (ys : List (List ℕ)) → bytes_eq y x ≡ false → AllByRecursion (λ z. bytes_eq y z ≡ false) ys → AllByRecursion (λ z. bytes_eq y z ≡ false) (ys ++ x ∷ [])
apart_more y x [] e h = (e, tt)
apart_more y x (z ∷ ys) e h = (h.0, apart_more y x ys e h.1)

distinct_more : (ys : List (List ℕ)) (x : List ℕ) → IsDistinct bytes_eq ys → is_named x ys ≡ false → IsDistinct bytes_eq (ys ++ x ∷ [])
unfolding IsDistinct
distinct_more [] x d h = (tt, tt)
distinct_more (y ∷ ys) x d h =
    let parts = apart_by y x (bytes_eq y x) (is_named x ys) h refl in
    (apart_more y x ys parts.0 d.0, distinct_more ys x d.1 parts.1)

pub no_ports : {V : Type 0} (f : List ℕ → Option V) → ((q : List ℕ) → f q ≡ None) → HasPorts (λ q. is_some (f q)) []
unfolding IsDistinct
no_ports f none = record { finds = λ q. ap (λ o. is_some o) (none q); differ = tt }

pub values_none : (v : Values) → HasBuckets v.ports → ((q : List ℕ) → find v.ports q ≡ None) → v.list.items ≡ [] → IsValues v
values_none v buckets none empty =
    record {
      buckets = buckets;
      ports = subst (λ (vs : List PortValue). HasPorts (λ q. is_some (find v.ports q)) (map value_port vs)) (sym empty) (no_ports (find v.ports) none);
    }

pub driven_none : (d : Driven) → HasBuckets d.ports → ((q : List ℕ) → find d.ports q ≡ None) → d.list.items ≡ [] → IsDriven d
driven_none d buckets none empty =
    record {
      buckets = buckets;
      ports = subst (λ (ds : List DriverSpec). HasPorts (λ q. is_some (find d.ports q)) (map driver_port ds)) (sym empty) (no_ports (find d.ports) none);
    }

-- the ports after one that wasn't there
pub ports_more : {V : Type 0} (v : V) (f g : List ℕ → Option V) (names : List (List ℕ)) (port : List ℕ) → HasPorts (λ q. is_some (f q)) names
    → is_some (f port) ≡ false → ((q : List ℕ) → g q ≡ update bytes_eq f port (Some v) q) → HasPorts (λ q. is_some (g q)) (names ++ port ∷ [])
ports_more v f g names port h fresh after =
    record {
      finds = λ q.
          ap (λ o. is_some o) (after q) ∙ some_by (bytes_eq port q) v (f q) ∙ ap (λ b. bytes_eq port q || b) (h.finds q)
          ∙ either (is_named q names) (bytes_eq port q) ∙ sym (list_any-append (λ y. bytes_eq y q) names (port ∷ []));
      differ = distinct_more names port h.differ (sym (h.finds port) ∙ fresh);
    }

-- ---- the ports of a command, one after another

abbrev pub port_at : (bytes : List ℕ) → List Piece → ℕ → Piece → List ℕ
port_at bytes ps i d = text_of bytes (get_or ps i d)

names_from : (bytes : List ℕ) (ps : List Piece) (i : ℕ) (d : Piece) → i < length ps → names_of bytes (drop i ps) ≡ port_at bytes ps i d ∷ names_of bytes (drop (i + 1) ps)
names_from bytes ps i d lt = ap (names_of bytes) (drop_more ps i d lt)

names_upto : (bytes : List ℕ) (ps : List Piece) (i : ℕ) (d : Piece) → i < length ps → names_of bytes (take (i + 1) ps) ≡ names_of bytes (take i ps) ++ port_at bytes ps i d ∷ []
names_upto bytes ps i d lt = ap (names_of bytes) (take_more ps i d lt) ∙ map-append (text_of bytes) (take i ps) (get_or ps i d ∷ [])

pub again_turn : (before : List (List ℕ)) (bytes : List ℕ) (ps : List Piece) (i : ℕ) (d : Piece) → i < length ps → is_named (port_at bytes ps i d) before ≡ false
    → repeats (before ++ port_at bytes ps i d ∷ []) (names_of bytes (drop (i + 1) ps)) ≡ repeats before (names_of bytes (drop i ps))
again_turn before bytes ps i d lt fresh =
    sym (ap (repeats before) (names_from bytes ps i d lt)
    ∙ ap (λ b. b || repeats (before ++ port_at bytes ps i d ∷ []) (names_of bytes (drop (i + 1) ps))) fresh)

pub again_stop : (before : List (List ℕ)) (bytes : List ℕ) (ps : List Piece) (i : ℕ) (d : Piece) → i < length ps → is_named (port_at bytes ps i d) before ≡ true
    → repeats before (names_of bytes (drop i ps)) ≡ true
again_stop before bytes ps i d lt there =
    ap (repeats before) (names_from bytes ps i d lt)
    ∙ ap (λ b. b || repeats (before ++ port_at bytes ps i d ∷ []) (names_of bytes (drop (i + 1) ps))) there

pub again_end : (before : List (List ℕ)) (bytes : List ℕ) (ps : List Piece) (i : ℕ) → length ps ≤ i → repeats before (names_of bytes (drop i ps)) ≡ false
again_end before bytes ps i le = ap (λ qs. repeats before (names_of bytes qs)) (drop_all i ps le)

pub stops_again : (e : Stop) (a b : Bool) → (a ≡ true → b ≡ true) → StopsAgain e a → StopsAgain e b
stops_again (stops.At faults.TwoValues) a b k h = k h
stops_again (stops.At faults.NotBuilt) a b k h = h
stops_again (stops.At faults.BadLine) a b k h = h
stops_again (stops.At faults.TwoClocks) a b k h = h
stops_again stops.Mem a b k h = tt

-- ---- values

pub valued-append : (amount : ℤ) (xs ys : List (List ℕ)) → valued amount (xs ++ ys) ≡ valued amount xs ++ valued amount ys
valued-append amount [] ys = refl
valued-append amount (x ∷ xs) ys = ap (λ vs. record { port = x; value = amount } ∷ vs) (valued-append amount xs ys)

pub valued_turn : (bytes : List ℕ) (ps : List Piece) (i : ℕ) (d : Piece) (amount : ℤ) (start old new : List PortValue) → i < length ps
    → old ≡ start ++ valued amount (names_of bytes (take i ps)) → new ≡ old ++ record { port = port_at bytes ps i d; value = amount } ∷ []
    → new ≡ start ++ valued amount (names_of bytes (take (i + 1) ps))
valued_turn bytes ps i d amount start old new lt so_far more =
    let one : List PortValue = record { port = port_at bytes ps i d; value = amount } ∷ [] in
    more ∙ ap (λ vs. vs ++ one) so_far ∙ append_assoc start (valued amount (names_of bytes (take i ps))) one
    ∙ ap (λ vs. start ++ vs) (sym (valued-append amount (names_of bytes (take i ps)) (port_at bytes ps i d ∷ [])))
    ∙ ap (λ xs. start ++ valued amount xs) (sym (names_upto bytes ps i d lt))

pub valued_end : (bytes : List ℕ) (ps : List Piece) (i : ℕ) (amount : ℤ) (start new : List PortValue) → length ps ≤ i
    → new ≡ start ++ valued amount (names_of bytes (take i ps)) → new ≡ start ++ valued amount (names_of bytes ps)
valued_end bytes ps i amount start new le so_far = so_far ∙ ap (λ qs. start ++ valued amount (names_of bytes qs)) (take_all i ps le)

pub values_named : (old new : List PortValue) (port : List ℕ) (amount : ℤ) → new ≡ old ++ record { port = port; value = amount } ∷ []
    → map value_port new ≡ map value_port old ++ port ∷ []
values_named old new port amount more = ap (map value_port) more ∙ map-append value_port old (record { port = port; value = amount } ∷ [])

pub values_again : (bytes : List ℕ) (ps : List Piece) (i : ℕ) (d : Piece) (amount : ℤ) (old new : List PortValue) (all : Bool) → i < length ps
    → new ≡ old ++ record { port = port_at bytes ps i d; value = amount } ∷ [] → is_named (port_at bytes ps i d) (map value_port old) ≡ false
    → repeats (map value_port old) (names_of bytes (drop i ps)) ≡ all → repeats (map value_port new) (names_of bytes (drop (i + 1) ps)) ≡ all
values_again bytes ps i d amount old new all lt more fresh so_far =
    ap (λ xs. repeats xs (names_of bytes (drop (i + 1) ps))) (values_named old new (port_at bytes ps i d) amount more)
    ∙ again_turn (map value_port old) bytes ps i d lt fresh ∙ so_far

-- ---- driving cells

pub driven-append : (cell : List ℕ) (pin : Option (List ℕ)) (rise fall : ℤ) (xs ys : List (List ℕ)) → driven cell pin rise fall (xs ++ ys) ≡ driven cell pin rise fall xs ++ driven cell pin rise fall ys
driven-append cell pin rise fall [] ys = refl
driven-append cell pin rise fall (x ∷ xs) ys =
    ap (λ ds. record { port = x; cell = cell; pin = pin; rise = rise; fall = fall } ∷ ds) (driven-append cell pin rise fall xs ys)

module _ (cell : List ℕ) (pin : Option (List ℕ)) (rise fall : ℤ) where
  abbrev pub driver : List ℕ → DriverSpec
  driver port = record { port = port; cell = cell; pin = pin; rise = rise; fall = fall }

  pub driven_turn : (bytes : List ℕ) (ps : List Piece) (i : ℕ) (d : Piece) (start old new : List DriverSpec) → i < length ps
      → old ≡ start ++ driven cell pin rise fall (names_of bytes (take i ps)) → new ≡ old ++ driver (port_at bytes ps i d) ∷ []
      → new ≡ start ++ driven cell pin rise fall (names_of bytes (take (i + 1) ps))
  driven_turn bytes ps i d start old new lt so_far more =
      let one : List DriverSpec = driver (port_at bytes ps i d) ∷ [] in
      more ∙ ap (λ vs. vs ++ one) so_far ∙ append_assoc start (driven cell pin rise fall (names_of bytes (take i ps))) one
      ∙ ap (λ vs. start ++ vs) (sym (driven-append cell pin rise fall (names_of bytes (take i ps)) (port_at bytes ps i d ∷ [])))
      ∙ ap (λ xs. start ++ driven cell pin rise fall xs) (sym (names_upto bytes ps i d lt))

  pub driven_end : (bytes : List ℕ) (ps : List Piece) (i : ℕ) (start new : List DriverSpec) → length ps ≤ i
      → new ≡ start ++ driven cell pin rise fall (names_of bytes (take i ps)) → new ≡ start ++ driven cell pin rise fall (names_of bytes ps)
  driven_end bytes ps i start new le so_far = so_far ∙ ap (λ qs. start ++ driven cell pin rise fall (names_of bytes qs)) (take_all i ps le)

  pub drivers_named : (old new : List DriverSpec) (port : List ℕ) → new ≡ old ++ driver port ∷ [] → map driver_port new ≡ map driver_port old ++ port ∷ []
  drivers_named old new port more = ap (map driver_port) more ∙ map-append driver_port old (driver port ∷ [])

  pub drivers_again : (bytes : List ℕ) (ps : List Piece) (i : ℕ) (d : Piece) (old new : List DriverSpec) (all : Bool) → i < length ps
      → new ≡ old ++ driver (port_at bytes ps i d) ∷ [] → is_named (port_at bytes ps i d) (map driver_port old) ≡ false
      → repeats (map driver_port old) (names_of bytes (drop i ps)) ≡ all → repeats (map driver_port new) (names_of bytes (drop (i + 1) ps)) ≡ all
  drivers_again bytes ps i d old new all lt more fresh so_far =
      ap (λ xs. repeats xs (names_of bytes (drop (i + 1) ps))) (drivers_named old new (port_at bytes ps i d) more)
      ∙ again_turn (map driver_port old) bytes ps i d lt fresh ∙ so_far

-- ---- numbers

numbers_append : {T : Type 0} (P : T → Type 0) (xs ys : List T) → AllByRecursion P xs → AllByRecursion P ys → AllByRecursion P (xs ++ ys)
numbers_append P [] ys h k = k
numbers_append P (x ∷ xs) ys h k = (h.0, numbers_append P xs ys h.1 k)

valued_numbers : (P : ℤ → Type 0) (amount : ℤ) (xs : List (List ℕ)) → P amount → AllByRecursion (λ (v : PortValue). P v.value) (valued amount xs)
valued_numbers P amount [] h = tt
valued_numbers P amount (x ∷ xs) h = (h, valued_numbers P amount xs h)

pub values_numbers : (P : ℤ → Type 0) (amount : ℤ) (xs : List (List ℕ)) (old new : List PortValue) → new ≡ old ++ valued amount xs → P amount
    → AllByRecursion (λ (v : PortValue). P v.value) old → AllByRecursion (λ (v : PortValue). P v.value) new
values_numbers P amount xs old new more h k =
    subst (AllByRecursion (λ (v : PortValue). P v.value)) (sym more) (numbers_append (λ (v : PortValue). P v.value) old (valued amount xs) k (valued_numbers P amount xs h))

driven_numbers : (cell : List ℕ) (pin : Option (List ℕ)) (rise fall : ℤ) (xs : List (List ℕ)) → HasTransitions (record { port = []; cell = cell; pin = pin; rise = rise; fall = fall })
    → AllByRecursion HasTransitions (driven cell pin rise fall xs)
driven_numbers cell pin rise fall [] h = tt
driven_numbers cell pin rise fall (x ∷ xs) h = (h, driven_numbers cell pin rise fall xs h)

pub drivers_numbers : (cell : List ℕ) (pin : Option (List ℕ)) (rise fall : ℤ) (xs : List (List ℕ)) (old new : List DriverSpec) → new ≡ old ++ driven cell pin rise fall xs
    → HasTransitions (record { port = []; cell = cell; pin = pin; rise = rise; fall = fall })
    → AllByRecursion HasTransitions old → AllByRecursion HasTransitions new
drivers_numbers cell pin rise fall xs old new more h k =
    subst (AllByRecursion HasTransitions) (sym more) (numbers_append HasTransitions old (driven cell pin rise fall xs) k (driven_numbers cell pin rise fall xs h))
