-- The buckets in which names are found.

use Rattle.std.specs.Prelude.{ℕ, ◌+◌, ◌-◌, ◌*◌, ◌%◌, ◌<◌, ◌^◌, List, length, take, Option, None, Some}
use Rattle.std.specs.BTreeMap.{BTreeMap, get}
use Rattle.std.specs.Cmp.Lexicographic.{slice_cmp}
use Rattle.std.specs.Int.Bits.{bit_and}
use Rattle.std.specs.List.{fold, slice_get}
use Rattle.std.specs.Ordering.{nat_cmp, ordering_then}
use Rattle.std.specs.declared.cmp.Ordering.{Ordering}
use Rattle.gs_verilog.specs.declared.names.NameMap.{NameMap}
use denote.Ref.{Bor}

-- the number of some bytes and one more
abbrev pub hash_with : (hash byte : ℕ) → ℕ
hash_with hash byte = ((hash * 31) % 2 ^ 64 + byte) % 2 ^ 64

-- all bytes as one number
unfoldable pub hash_of : List ℕ → ℕ
hash_of name = fold hash_with 0 name

-- a name without its last byte
abbrev pub front_of : List ℕ → List ℕ
front_of name = take (length name - 1) name

-- the place of a name's bucket, of so many: names that differ in their last byte alone stand in one bucket
unfoldable pub place_in : (count : ℕ) → (name : List ℕ) → ℕ
place_in count name = bit_and (hash_of (front_of name)) (count - 1)

abbrev pub Key : Type 0
Key = ℕ × Bor (List ℕ)

-- the order of the keys
abbrev pub key_cmp : Key → Key → Ordering
key_cmp x y = ordering_then (nat_cmp x.0 y.0) (slice_cmp nat_cmp x.1.now y.1.now)

abbrev pub key_of : List ℕ → Key
key_of name = (hash_of name, record { ref_ptr = (0, 0); now = name })

-- the number of a key in a bucket
abbrev pub find_in : Option (BTreeMap Key ℕ) → Key → Option ℕ
find_in None k = None
find_in (Some bucket) k = get key_cmp bucket k

-- the number of a name, in the bucket at its place
abbrev pub find : NameMap → List ℕ → Option ℕ
find m name = find_in (slice_get m.buckets.items (place_in (length m.buckets.items) name)) (key_of name)

abbrev pub HasBuckets : NameMap → Type 0
HasBuckets m = 0 < length m.buckets.items
