-- Two records of a net that are the same are equal.

use Rattle.std.proofs.Common.{◌≡◌, ℕ, Bool, true, false, not, ◌&&◌, List, Option, None, Some, ℤ, refl, sym, ◌∙◌, ap}
use Rattle.std.specs.Option.{option_eq}
use Rattle.std.specs.Ordering.{int_eq}
use Rattle.std.proofs.lemmas.Bool.{and_from, and_parts}
use Rattle.std.proofs.lemmas.Bool.Decides.{Decides-int_eq}
use Rattle.gs_design.specs.Times.{time_at}
use Rattle.gs_design.specs.declared.time.Edge.{Edge}
use Rattle.gs_design.specs.declared.time.NetTime.{NetTime}
use Rattle.gs_move.specs.Records.{differ, same_edge, same_record}

bound_is : (a b : Option ℤ) → option_eq int_eq a b ≡ true → a ≡ b
bound_is None None e = refl
bound_is None (Some y) e = absurd cc
bound_is (Some x) None e = absurd cc
bound_is (Some x) (Some y) e = ap (λ z. Some z) ((Decides-int_eq x y).0 e)

edge_is : (a b : Edge) → same_edge a b ≡ true → a ≡ b
edge_is a b e =
    let parts = and_parts (int_eq a.arrival b.arrival) (int_eq a.slew b.slew) e in
    λ i. record { arrival = (Decides-int_eq a.arrival b.arrival).0 parts.0 i; slew = (Decides-int_eq a.slew b.slew).0 parts.1 i }

abbrev same_bounds : (a b : NetTime) → Bool
same_bounds a b = option_eq int_eq a.load_bound b.load_bound && option_eq int_eq a.slew_bound b.slew_bound

abbrev same_edges : (a b : NetTime) → Bool
same_edges a b = same_edge a.rise b.rise && same_edge a.fall b.fall

pub record_is : (a b : NetTime) → same_record a b ≡ true → a ≡ b
record_is a b e =
    let parts = and_parts (int_eq a.load b.load && same_bounds a b) (same_edges a b) e in
    let first = and_parts (int_eq a.load b.load) (same_bounds a b) parts.0 in
    let bound = and_parts (option_eq int_eq a.load_bound b.load_bound) (option_eq int_eq a.slew_bound b.slew_bound) first.1 in
    let edge = and_parts (same_edge a.rise b.rise) (same_edge a.fall b.fall) parts.1 in
    λ i. record {
      load = (Decides-int_eq a.load b.load).0 first.0 i;
      load_bound = bound_is a.load_bound b.load_bound bound.0 i;
      slew_bound = bound_is a.slew_bound b.slew_bound bound.1 i;
      rise = edge_is a.rise b.rise edge.0 i;
      fall = edge_is a.fall b.fall edge.1 i;
    }

bound_same : (a : Option ℤ) → option_eq int_eq a a ≡ true
bound_same None = refl
bound_same (Some x) = (Decides-int_eq x x).1 refl

edge_same : (a : Edge) → same_edge a a ≡ true
edge_same a = and_from (int_eq a.arrival a.arrival) (int_eq a.slew a.slew) ((Decides-int_eq a.arrival a.arrival).1 refl) ((Decides-int_eq a.slew a.slew).1 refl)

record_same : (a : NetTime) → same_record a a ≡ true
record_same a =
    and_from (int_eq a.load a.load && same_bounds a a) (same_edges a a)
    (and_from (int_eq a.load a.load) (same_bounds a a) ((Decides-int_eq a.load a.load).1 refl)
    (and_from (option_eq int_eq a.load_bound a.load_bound) (option_eq int_eq a.slew_bound a.slew_bound) (bound_same a.load_bound) (bound_same a.slew_bound)))
    (and_from (same_edge a.rise a.rise) (same_edge a.fall a.fall) (edge_same a.rise) (edge_same a.fall))

not_false : (b : Bool) → not b ≡ false → b ≡ true
not_false true e = refl
not_false false e = absurd cc

-- records that don't differ are equal, and equal records don't differ
pub equal_unless : (t u : List NetTime) (n : ℕ) → differ t u n ≡ false → time_at t n ≡ time_at u n
equal_unless t u n e = record_is (time_at t n) (time_at u n) (not_false (same_record (time_at t n) (time_at u n)) e)

pub equal_same : (t u : List NetTime) (n : ℕ) → time_at t n ≡ time_at u n → differ t u n ≡ false
equal_same t u n e = ap (λ r. not (same_record (time_at t n) r)) (sym e) ∙ ap not (record_same (time_at t n))
