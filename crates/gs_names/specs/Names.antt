-- What a map from names holds.

use Rattle.std.specs.Prelude.{ℕ, ◌+◌, ◌*◌, ◌%◌, ◌<◌, ◌^◌, List, length, Option, None, Some}
use Rattle.std.specs.BTreeMap.{BTreeMap, get}
use Rattle.std.specs.Cmp.Lexicographic.{slice_cmp}
use Rattle.std.specs.List.{fold, slice_get}
use Rattle.std.specs.Ordering.{nat_cmp, ordering_then}
use Rattle.std.specs.declared.cmp.Ordering.{Ordering}
use Rattle.gs_names.specs.declared.names.NameMap.{NameMap}

-- all bytes as one number
unfoldable pub hash_of : List ℕ → ℕ
hash_of name = fold (λ hash byte. ((hash * 31) % 2 ^ 64 + byte) % 2 ^ 64) 0 name

abbrev pub Key : Type 0
Key = ℕ × List ℕ

-- the order of the keys
abbrev pub key_cmp : Key → Key → Ordering
key_cmp x y = ordering_then (nat_cmp x.0 y.0) (slice_cmp nat_cmp x.1 y.1)

abbrev pub key_of : List ℕ → Key
key_of name = (hash_of name, name)

-- the value of a key in a bucket
abbrev pub find_in : {V : Type 0} → Option (BTreeMap Key V) → Key → Option V
find_in None k = None
find_in (Some bucket) k = get key_cmp bucket k

-- the value of a name: its bucket is the one at its hash, modulo their number
abbrev pub find : {V : Type 0} → NameMap V → List ℕ → Option V
find m name = find_in (slice_get m.buckets.items (hash_of name % length m.buckets.items)) (key_of name)

abbrev pub HasBuckets : {V : Type 0} → NameMap V → Type 0
HasBuckets m = 0 < length m.buckets.items
