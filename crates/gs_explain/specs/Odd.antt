-- Files that are no texts of their format at all: empty, compressed, or with a byte order mark.
use Rattle.std.specs.Prelude.{ℕ, Bool, ◌==◌, ◌&&◌, List, [], ◌∷◌, codes, length, take, drop, Option, None, Some, if◌then◌else◌}
use Rattle.std.specs.Str.{bytes_eq}

-- the bytes begin with these
abbrev pub begins_with : (front bytes : List ℕ) → Bool
begins_with front bytes = bytes_eq (take (length front) bytes) front

-- the marks by which the file formats of gzip, zip, xz, zstd and bzip2 are known
abbrev pub gzip : List ℕ
gzip = 31 ∷ 139 ∷ []

abbrev pub zip : List ℕ
zip = 80 ∷ 75 ∷ 3 ∷ 4 ∷ []

abbrev pub xz : List ℕ
xz = 253 ∷ 55 ∷ 122 ∷ 88 ∷ 90 ∷ 0 ∷ []

abbrev pub zstd : List ℕ
zstd = 40 ∷ 181 ∷ 47 ∷ 253 ∷ []

-- of bzip2 those past its first four bytes, the last of which is a digit
abbrev pub bzip2 : List ℕ
bzip2 = 49 ∷ 65 ∷ 89 ∷ 38 ∷ 83 ∷ 89 ∷ []

-- the byte order mark of UTF-8
abbrev pub order_mark : List ℕ
order_mark = 239 ∷ 187 ∷ 191 ∷ []

-- what is said of such a file, and nothing of any other
abbrev pub odd_text : List ℕ → Option (List ℕ)
odd_text bytes =
    if length bytes == 0 then Some (codes "the file is empty")
    else if begins_with order_mark bytes then Some (codes "the file begins with a byte order mark; save it without one")
    else if begins_with gzip bytes then Some (codes "the file is compressed (gzip); unpack it first")
    else if begins_with zip bytes then Some (codes "the file is compressed (zip); unpack it first")
    else if begins_with xz bytes then Some (codes "the file is compressed (xz); unpack it first")
    else if begins_with zstd bytes then Some (codes "the file is compressed (zstd); unpack it first")
    else if begins_with (codes "BZh") bytes && begins_with bzip2 (drop 4 bytes) then Some (codes "the file is compressed (bzip2); unpack it first")
    else None
