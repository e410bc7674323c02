-- The parts that the reader holds, as parts of a command.

use Rattle.std.proofs.Common.{◌≡◌, ℕ, ℤ, zero, suc, ◌+◌, ◌<◌, ◌≤◌, List, [], ◌∷◌, ◌++◌, length, drop, map, get_or, refl, sym, ap, subst, ◌∙◌, append_assoc, append-nil, arith, Bool, true, false, not, ◌||◌, ◌&&◌, Option, None, Some, IfSome, if◌then◌else◌}
use Rattle.std.specs.List.{All, list_any}
use Rattle.std.specs.Option.{option_map}
use Rattle.std.proofs.lemmas.List.{drop_all, drop_more, length-map, map-append}
use Rattle.std.proofs.lemmas.List.Folds.{list_any-append}
use Rattle.gs_design.specs.declared.units.Units.{Units}
use Rattle.gs_sdc.specs.Command.{drives_by, first_of, has, same_slot, slot_of, the_ports, the_word, transition_in}
use Rattle.gs_sdc.specs.Front.{Found, front, is_taken, misfit, parts_of, parts_past, said_by, with_parts}
use Rattle.gs_sdc.specs.Parts as spec
use Rattle.gs_sdc.specs.Reads.{HasInside, fits_is, part_of, slot_is}
use Rattle.gs_text.specs.declared.kinds.Piece.{Piece}
use Rattle.gs_sdc.specs.Token.{Token, token_of}
use Rattle.gs_sdc.specs.declared.command.Command.{Command}
use Rattle.gs_sdc.specs.declared.parts.Choice.TheVariants.{LibCell, Pin, Rise, Fall}
use Rattle.gs_sdc.specs.declared.parts.Part.{Part}
use Rattle.gs_sdc.specs.declared.parts.Part.TheVariants.{Value, Ports, Chosen}
use Rattle.gs_sdc.specs.declared.parts.Slot.{Slot}
use Rattle.gs_sdc.proofs.PartLaws.{ends, none_past, refuses, takes}

pub slot_part : (bytes : List ℕ) (p : Part) → slot_of (part_of bytes p) ≡ slot_is p
slot_part bytes (Value w) = refl
slot_part bytes (Ports xs) = refl
slot_part bytes (Chosen c w) = refl

-- ---- a driving cell

pub drives_same : (ps : List spec.Part) (tens : ℕ) (cell pin : Option (List ℕ)) (rise_word fall_word : Option (List ℕ)) (rise fall : Option ℤ) (xs : Option (List (List ℕ)))
    → cell ≡ the_word LibCell ps → pin ≡ the_word Pin ps → rise_word ≡ the_word Rise ps → rise ≡ transition_in rise_word tens
    → fall_word ≡ the_word Fall ps → fall ≡ transition_in fall_word tens → xs ≡ the_ports ps
    → drives_by cell pin rise fall xs ≡ drives_by (the_word LibCell ps) (the_word Pin ps) (transition_in (the_word Rise ps) tens) (transition_in (the_word Fall ps) tens) (the_ports ps)
drives_same ps tens cell pin rise_word fall_word rise fall xs a b r1 r2 f1 f2 x =
    ap (λ o. drives_by o pin rise fall xs) a ∙ ap (λ o. drives_by (the_word LibCell ps) o rise fall xs) b
    ∙ ap (λ (o : Option ℤ). drives_by (the_word LibCell ps) (the_word Pin ps) o fall xs) (r2 ∙ ap (λ w. transition_in w tens) r1)
    ∙ ap (λ (o : Option ℤ). drives_by (the_word LibCell ps) (the_word Pin ps) (transition_in (the_word Rise ps) tens) o xs) (f2 ∙ ap (λ w. transition_in w tens) f1)
    ∙ ap (drives_by (the_word LibCell ps) (the_word Pin ps) (transition_in (the_word Rise ps) tens) (transition_in (the_word Fall ps) tens)) x

-- ---- the first part of a kind

first_by : (s : Slot) (bytes : List ℕ) (p : Part) (ps : List spec.Part) (b : Bool) → same_slot s (slot_is p) ≡ b
    → first_of s (part_of bytes p ∷ ps) ≡ (if b then Some (part_of bytes p) else first_of s ps)
first_by s bytes p ps b e =
    ap (λ k. if same_slot s k then Some (part_of bytes p) else first_of s ps) (slot_part bytes p) ∙ ap (λ x. if x then Some (part_of bytes p) else first_of s ps) e

pub first_turn : (s : Slot) (parts : List Part) (i : ℕ) (d : Part) → i < length parts → same_slot s (slot_is (get_or parts i d)) ≡ false
    → (bytes : List ℕ) → first_of s (map (part_of bytes) (drop (i + 1) parts)) ≡ first_of s (map (part_of bytes) (drop i parts))
first_turn s parts i d lt other bytes =
    sym (ap (λ ps. first_of s (map (part_of bytes) ps)) (drop_more parts i d lt)
    ∙ first_by s bytes (get_or parts i d) (map (part_of bytes) (drop (i + 1) parts)) false other)

pub first_here : (s : Slot) (parts : List Part) (i : ℕ) (d : Part) → i < length parts → same_slot s (slot_is (get_or parts i d)) ≡ true
    → (bytes : List ℕ) → Some (part_of bytes (get_or parts i d)) ≡ first_of s (map (part_of bytes) (drop i parts))
first_here s parts i d lt here bytes =
    sym (ap (λ ps. first_of s (map (part_of bytes) ps)) (drop_more parts i d lt)
    ∙ first_by s bytes (get_or parts i d) (map (part_of bytes) (drop (i + 1) parts)) true here)

pub first_none : (s : Slot) (parts : List Part) (i : ℕ) → length parts ≤ i → (bytes : List ℕ) → None ≡ first_of s (map (part_of bytes) (drop i parts))
first_none s parts i le bytes = sym (ap (λ ps. first_of s (map (part_of bytes) ps)) (drop_all i parts le))

-- ---- whether a part fits

taken_is : (s : Slot) (bytes : List ℕ) (ps : List Part) → is_taken s (map (part_of bytes) ps) ≡ list_any (λ q. same_slot s (slot_is q)) ps
taken_is s bytes [] = refl
taken_is s bytes (p ∷ ps) =
    ap (λ k. same_slot s k || is_taken s (map (part_of bytes) ps)) (slot_part bytes p) ∙ ap (λ b. same_slot s (slot_is p) || b) (taken_is s bytes ps)

-- the parts so far as a past, the latest first, say of each kind whether it is taken
pub record SameTaken (bytes : List ℕ) (past : List spec.Part) (ps : List Part) : Type 0 where
  pub same : (s : Slot) → is_taken s past ≡ is_taken s (map (part_of bytes) ps)

misfit_by : (c : Command) (bytes : List ℕ) (past : List spec.Part) (ps : List Part) (p : Part) (b : Bool) → SameTaken bytes past ps → fits_is c ps p ≡ b
    → misfit c past (part_of bytes p) ≡ (if b then None else Some (slot_is p))
misfit_by c bytes past ps p b t e =
    ap (λ s. if has c s && not (is_taken s past) then None else Some s) (slot_part bytes p)
    ∙ ap (λ x. if has c (slot_is p) && not x then None else Some (slot_is p)) (t.same (slot_is p) ∙ taken_is (slot_is p) bytes ps)
    ∙ ap (λ x. if x then None else Some (slot_is p)) e

either : (a b : Bool) → (b || a) ≡ (a || (b || false))
either true true = refl
either true false = refl
either false true = refl
either false false = refl

taken_more : (bytes : List ℕ) (past : List spec.Part) (ps : List Part) (p : Part) → SameTaken bytes past ps → SameTaken bytes (part_of bytes p ∷ past) (ps ++ p ∷ [])
taken_more bytes past ps p t =
    record {
      same = λ s.
          ap (λ b. same_slot s (slot_of (part_of bytes p)) || b) (t.same s)
          ∙ either (is_taken s (map (part_of bytes) ps)) (same_slot s (slot_of (part_of bytes p)))
          ∙ sym (list_any-append (λ q. same_slot s (slot_of q)) (map (part_of bytes) ps) (part_of bytes p ∷ []))
          ∙ ap (is_taken s) (sym (map-append (part_of bytes) ps (p ∷ [])));
    }

-- ---- the loop

pub none_inside : (bytes : List ℕ) → All (HasInside bytes) []
none_inside bytes = λ k d lt. absurd (omega (arith, lt))

-- what is read so far, and what is left, make all parts
pub record Reads (c : Command) (bytes : List ℕ) (ps : List Part) (left all : List Token) : Type 0 where
  pub past : List spec.Part
  pub many : ℕ
  pub enough : length left ≤ many
  pub so_far : with_parts (map (part_of bytes) ps) (parts_past c past many left) ≡ parts_of c all
  pub taken : SameTaken bytes past ps

with_none : (o : Option (List spec.Part)) → with_parts [] o ≡ o
with_none None = refl
with_none (Some qs) = refl

with_more : (xs ys : List spec.Part) (o : Option (List spec.Part)) → with_parts xs (with_parts ys o) ≡ with_parts (xs ++ ys) o
with_more xs ys None = refl
with_more xs ys (Some qs) = ap (λ zs. Some zs) (sym (append_assoc xs ys qs))

pub begins : (c : Command) (bytes : List ℕ) (all : List Token) → Reads c bytes [] all all
begins c bytes all =
    record { past = []; many = length all; enough = omega arith; so_far = with_none (parts_of c all); taken = record { same = λ s. refl } }

pub turns : (c : Command) (bytes : List ℕ) (ps : List Part) (p : Part) (left rest all : List Token) → Reads c bytes ps left all → 0 < length left
    → length rest < length left → Some (record { item = part_of bytes p; rest = rest }) ≡ front left → fits_is c ps p ≡ true → Reads c bytes (ps ++ p ∷ []) rest all
turns c bytes ps p left rest all r some shorter found fits = by_many r.many refl
  where
    by_many : (m : ℕ) → r.many ≡ m → Reads c bytes (ps ++ p ∷ []) rest all
    by_many zero e = absurd (omega (arith, r.enough))
    by_many (suc m) e =
        let step = takes c r.past m left (part_of bytes p) rest some (sym found) (misfit_by c bytes r.past ps p true r.taken fits) in
        record {
          past = part_of bytes p ∷ r.past;
          many = m;
          enough = omega (arith, r.enough);
          so_far = ap (λ qs. with_parts qs (parts_past c (part_of bytes p ∷ r.past) m rest)) (map-append (part_of bytes) ps (p ∷ []))
              ∙ sym (with_more (map (part_of bytes) ps) (part_of bytes p ∷ []) (parts_past c (part_of bytes p ∷ r.past) m rest))
              ∙ ap (with_parts (map (part_of bytes) ps)) (sym step)
              ∙ ap (λ n. with_parts (map (part_of bytes) ps) (parts_past c r.past n left)) (sym e)
              ∙ r.so_far;
          taken = taken_more bytes r.past ps p r.taken;
        }

pub unfit : (c : Command) (bytes : List ℕ) (ps : List Part) (p : Part) (left rest all : List Token) → Reads c bytes ps left all → 0 < length left
    → Some (record { item = part_of bytes p; rest = rest }) ≡ front left → fits_is c ps p ≡ false → None ≡ parts_of c all
unfit c bytes ps p left rest all r some found fits = by_many r.many refl
  where
    by_many : (m : ℕ) → r.many ≡ m → None ≡ parts_of c all
    by_many zero e = absurd (omega (arith, r.enough))
    by_many (suc m) e =
        ap (with_parts (map (part_of bytes) ps)) (sym (refuses c r.past m left (part_of bytes p) rest (slot_is p) some (sym found) (misfit_by c bytes r.past ps p false r.taken fits)))
        ∙ ap (λ n. with_parts (map (part_of bytes) ps) (parts_past c r.past n left)) (sym e) ∙ r.so_far

pub no_part : (c : Command) (bytes : List ℕ) (ps : List Part) (left all : List Token) → Reads c bytes ps left all → 0 < length left → None ≡ front left → None ≡ parts_of c all
no_part c bytes ps left all r some found = by_many r.many refl
  where
    by_many : (m : ℕ) → r.many ≡ m → None ≡ parts_of c all
    by_many zero e = absurd (omega (arith, r.enough))
    by_many (suc m) e =
        ap (with_parts (map (part_of bytes) ps)) (sym (ends c r.past m left some (sym found)))
        ∙ ap (λ n. with_parts (map (part_of bytes) ps) (parts_past c r.past n left)) (sym e) ∙ r.so_far

pub all_read : (c : Command) (bytes : List ℕ) (ps : List Part) (all : List Token) → Reads c bytes ps [] all → Some (map (part_of bytes) ps) ≡ parts_of c all
all_read c bytes ps all r =
    ap (λ qs. Some qs) (sym (append-nil (map (part_of bytes) ps))) ∙ ap (with_parts (map (part_of bytes) ps)) (sym (none_past c r.past r.many)) ∙ r.so_far

-- no piece is left at the end
pub all_read_at : (c : Command) (bytes : List ℕ) (ps : List Part) (left : List Piece) (all : List Token) → length left ≤ 0 → Reads c bytes ps (map (token_of bytes) left) all
    → Some (map (part_of bytes) ps) ≡ parts_of c all
all_read_at c bytes ps [] all le r = all_read c bytes ps all r
all_read_at c bytes ps (p ∷ left) all le r = absurd (omega arith)

-- ---- parts that may be none

pub said_some : {V : Type 0} (u : Units) (c : Command) (o : Option V) (v : V) (f : V → List spec.Part) → o ≡ Some v → said_by u c (Some (f v)) ≡ said_by u c (option_map f o)
said_some u c o v f e = ap (λ p. said_by u c (option_map f p)) (sym e)

pub inside_some : {V : Type 0} (o : Option V) (v : V) (P : V → Type 0) → o ≡ Some v → IfSome o P → P v
inside_some o v P e h = subst (λ p. IfSome p P) e h
