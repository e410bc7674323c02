-- One write and one read more, where the bytes are known.
use Rattle.std.proofs.Common.{Result, Ok, Err, IfOk, OnOk, ◌≡◌, ℕ, ◌+◌, ◌-◌, ◌≤◌, List, ◌++◌, Option, Some, None, length, take, drop, ap, ◌∙◌, arith}
use Rattle.std.proofs.Math.Seq.{take-add, take-append-add}
use Rattle.std.proofs.lemmas.List.{length-take-le, take_rest, take-append-le}
use Rattle.std.proofs.lemmas.Grind.{common_steps}
use borrow.Rule.Slice.PartMut.{put_mid}
use Rattle.std.specs.Io.KnownBytes.{Appends, Consumes}
use Rattle.gs_shelf.specs.Transfer.{FillsFrom, ReadsFile, WritesFile}

appends_more : (a b c : Option (List ℕ)) (xs ys : List ℕ) → Appends a b xs → Appends b c ys → Appends a c (xs ++ ys)
appends_more None b c xs ys p q = tt
appends_more (Some a) None c xs ys p q = absurd p
appends_more (Some a) (Some b) None xs ys p q = absurd q
appends_more (Some a) (Some b) (Some c) xs ys p q = grind (arith, common_steps, p, q)

consumes_more : (a b c : Option (List ℕ)) (xs ys : List ℕ) → Consumes a b xs → Consumes b c ys → Consumes a c (xs ++ ys)
consumes_more None b c xs ys p q = tt
consumes_more (Some a) None c xs ys p q = absurd p
consumes_more (Some a) (Some b) None xs ys p q = absurd q
consumes_more (Some a) (Some b) (Some c) xs ys p q = grind (arith, common_steps, p, q)

-- i bytes were written, and of the rest n
pub written_more : (a b c : Option (List ℕ)) (bytes : List ℕ) (i n : ℕ) → Appends a b (take i bytes) → Appends b c (take n (take (length bytes - i) (drop i bytes))) → Appends a c (take (i + n) bytes)
written_more a b c bytes i n p q =
    let r = rw take_rest at q in
    rw (take-add i n bytes) (appends_more a b c (take i bytes) (take n (drop i bytes)) p r)

-- the room's front after n bytes came past place i
front_more : (room part : List ℕ) (i k n : ℕ) → i ≤ length room → n ≤ length part → take (i + n) (put_mid i k room part) ≡ take i room ++ take n part
front_more room part i k n fits few =
    let rest = drop k (drop i room) in
    let past : take (length (take i room) + n) (take i room ++ (part ++ rest)) ≡ take i room ++ take n (part ++ rest) = take-append-add (take i room) (part ++ rest) n in
    let past = rw (length-take-le i room fits) at past in
    past ∙ ap (λ xs. take i room ++ xs) (take-append-le n part rest few)

-- i bytes had come, and n more
pub came_more : (a b c : Option (List ℕ)) (room part : List ℕ) (i k n : ℕ) → i ≤ length room → n ≤ length part → Consumes a b (take i room) → Consumes b c (take n part) → Consumes a c (take (i + n) (put_mid i k room part))
came_more a b c room part i k n fits few p q = rw (front_more room part i k n fits few) (consumes_more a b c (take i room) (take n part) p q)

pub file_written : {F T E : Type 0} (holds : F → Option (List ℕ)) (made closed : F) (bytes : List ℕ) (r : Result T E) → OnOk r (Appends (holds made) (holds closed) bytes) → OnOk r (WritesFile holds bytes)
file_written holds made closed bytes (Ok x) h = record { made = made; closed = closed; written = h }
file_written holds made closed bytes (Err e) h = tt

pub file_read : {F E : Type 0} (place : F → Option ℕ) (left : F → Option (List ℕ)) (opened closed : F) (from : ℕ) (room : List ℕ) (r : Result ℕ E) → IfOk r (λ n. FillsFrom place left opened closed from n room) → IfOk r (λ n. ReadsFile place left from n room)
file_read place left opened closed from room (Ok n) h = record { opened = opened; closed = closed; filled = h }
file_read place left opened closed from room (Err e) h = tt
