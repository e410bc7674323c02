-- The steps of the reader.

use Rattle.std.proofs.Common.{◌≡◌, ℕ, ℤ, List, [], ◌∷◌, ◌++◌, refl, sym, ap, subst, ◌∙◌, Bool, true, false, ◌||◌, cond, map, Option, None, Some, Result, Ok, Err, if◌then◌else◌}
use Rattle.std.specs.Prelude.{OnOk}
use Rattle.std.specs.List.{AllByRecursion, IsDistinct, list_any}
use Rattle.std.specs.Map.{update}
use Rattle.std.specs.Option.{is_some}
use Rattle.std.specs.Str.{bytes_eq}
use Rattle.std.proofs.lemmas.List.Folds.{list_any-append}
use Rattle.gs_names.specs.Names.{HasBuckets, find}
use Rattle.gs_amount.specs.Amount.{IsAmount, amount_of}
use Rattle.gs_spef.specs.Format.{tens}
use Rattle.gs_spef.specs.Reader.{Adds, Begins, Holds, IsReader, of_net}
use Rattle.gs_spef.specs.Spef.{Row, begin_fault, net_fault, net_named, unit_of, wire_by, wires}
use Rattle.gs_spef.specs.Wires.{IsWires, wire_net}
use Rattle.gs_spef.specs.declared.error.Fault.TheVariants.{TwoNets}
use Rattle.gs_spef.specs.declared.format.Unit.{Unit as CapUnit}
use Rattle.gs_spef.specs.declared.reader.Reader.{Reader}
use Rattle.gs_spef.specs.declared.wires.Wire.{Wire}

either : (a b : Bool) → (b || a) ≡ (a || (b || false))
either true true = refl
either true false = refl
either false true = refl
either false false = refl

apart_by : (v w : Wire) (r : Bool) (b : Bool) → (bytes_eq v.net w.net || b) ≡ false → bytes_eq v.net w.net ≡ r → (r ≡ false) × (b ≡ false)
apart_by v w true b h e = let never : (true || b) ≡ false = rw e at h in cc
apart_by v w false b h e = (refl, rw e at h)

apart_more : (v w : Wire) (ws : List Wire) → bytes_eq v.net w.net ≡ false → AllByRecursion (λ y. bytes_eq v.net y ≡ false) (map wire_net ws)
    → AllByRecursion (λ y. bytes_eq v.net y ≡ false) (map wire_net (ws ++ w ∷ []))
apart_more v w [] e h = (e, tt)
apart_more v w (x ∷ ws) e h = (h.0, apart_more v w ws e h.1)

-- a list with one more net that is apart from all
distinct_more : (ws : List Wire) (w : Wire) → IsDistinct bytes_eq (map wire_net ws) → list_any (of_net w.net) ws ≡ false → IsDistinct bytes_eq (map wire_net (ws ++ w ∷ []))
unfolding IsDistinct
distinct_more [] w d h = (tt, tt)
distinct_more (v ∷ ws) w d h =
    let parts = apart_by v w (bytes_eq v.net w.net) (list_any (of_net w.net) ws) h refl in
    (apart_more v w ws parts.0 d.0, distinct_more ws w d.1 parts.1)

amounts_more : (ws : List Wire) (w : Wire) → AllByRecursion (λ x. IsAmount x.total) ws → IsAmount w.total → AllByRecursion (λ x. IsAmount x.total) (ws ++ w ∷ [])
amounts_more [] w h k = (k, tt)
amounts_more (v ∷ ws) w h k = (h.0, amounts_more ws w h.1 k)

some_by : {V : Type 0} (b : Bool) (v : V) (o : Option V) → is_some (cond b (Some v) o) ≡ (b || is_some o)
some_by true v o = refl
some_by false v o = refl

-- the nets with one more wire
nets_more : {V : Type 0} (v : V) (f g : List ℕ → Option V) (ws : List Wire) (w : Wire) → ((q : List ℕ) → is_some (f q) ≡ list_any (of_net q) ws)
    → ((q : List ℕ) → g q ≡ update bytes_eq f w.net (Some v) q) → (q : List ℕ) → is_some (g q) ≡ list_any (of_net q) (ws ++ w ∷ [])
nets_more v f g ws w h after q =
    ap (λ o. is_some o) (after q) ∙ some_by (bytes_eq w.net q) v (f q) ∙ ap (λ b. bytes_eq w.net q || b) (h q)
    ∙ either (list_any (of_net q) ws) (bytes_eq w.net q) ∙ sym (list_any-append (of_net q) ws (w ∷ []))

-- a reader with one more wire
pub kept_more : (old new : Reader) (w : Wire) → IsReader old → IsAmount w.total → list_any (of_net w.net) old.wires.items ≡ false
    → new.names ≡ old.names → HasBuckets new.nets → ((q : List ℕ) → find new.nets q ≡ update bytes_eq (find old.nets) w.net (Some tt) q)
    → new.wires.items ≡ old.wires.items ++ w ∷ [] → IsReader new
kept_more old new w k amount fresh names buckets nets wires_are =
    record {
      names = subst (λ m. HasBuckets m) (sym names) k.names;
      nets = buckets;
      finds = λ q. nets_more tt (find old.nets) (find new.nets) old.wires.items w k.finds nets q ∙ ap (list_any (of_net q)) (sym wires_are);
      wires_kept = subst IsWires (sym wires_are) (record {
        differ = distinct_more old.wires.items w k.wires_kept.differ fresh;
        amounts = amounts_more old.wires.items w k.wires_kept.amounts amount;
      });
    }

-- a reader without a wire
pub kept_none : (r : Reader) → HasBuckets r.names → HasBuckets r.nets → ((q : List ℕ) → find r.nets q ≡ None) → r.wires.items ≡ [] → IsReader r
unfolding IsDistinct
kept_none r names nets none wires_are =
    record {
      names = names;
      nets = nets;
      finds = λ q. ap (λ o. is_some o) (none q) ∙ ap (list_any (of_net q)) (sym wires_are);
      wires_kept = subst IsWires (sym wires_are) (record { differ = tt; amounts = tt });
    }

begins : (old new : Reader) (past : List Row) (ref total : List ℕ) (amount : ℤ) (net : List ℕ)
    → Some amount ≡ amount_of total (tens old.unit) → net_named past ref ≡ Some net → Holds old past → Adds old new net amount → Begins old new past ref total
begins old new past ref total amount net given named h a =
    let e : amount_of total (tens (unit_of past)) ≡ Some amount = ap (λ (u : CapUnit). amount_of total (tens u)) (sym h.unit) ∙ sym given in
    record {
      good = ap (λ o. begin_fault past o ref) e ∙ ap (net_fault past) named ∙ ap (λ b. if b then Some TwoNets else None) (ap (list_any (of_net net)) (sym h.wires_are) ∙ a.fresh);
      place = a.place;
      unit = a.unit;
      names = a.names;
      wires_are = a.wires_are ∙ ap (λ ws. ws ++ wire_by (Some net) (Some amount)) h.wires_are
          ∙ ap (λ o. wires past ++ wire_by o (Some amount)) (sym named) ∙ ap (λ o. wires past ++ wire_by (net_named past ref) o) (sym e);
    }

pub begins_ok : {T E : Type 0} (r : Result T E) (old new : Reader) (ref total : List ℕ) (amount : ℤ) (net : List ℕ)
    → Some amount ≡ amount_of total (tens old.unit) → ((past : List Row) → Holds old past → net_named past ref ≡ Some net)
    → OnOk r (Adds old new net amount) → OnOk r ((past : List Row) → Holds old past → Begins old new past ref total)
begins_ok (Ok v) old new ref total amount net given named a = λ past h. begins old new past ref total amount net given (named past h) h a
begins_ok (Err e) old new ref total amount net given named a = a
