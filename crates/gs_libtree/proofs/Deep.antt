-- A content is shallow exactly where each of its groups has room to open.

use Rattle.std.proofs.Common.{◌≡◌, refl, ℕ, ◌+◌, ◌<◌, ◌≤◌, true, arith}
use Rattle.std.proofs.lemmas.Bool.Decides.{nat_tests}
use Rattle.gs_libtree.specs.Depth.{Fits}
use Rattle.gs_libtree.specs.Machine.{limit, no_limit}
use Rattle.gs_libtree.specs.Text.{depth}
use Rattle.gs_libtree.specs.Tree.{Content, nothing, stray, simple, complex, subgroup}

has_room : (o : ℕ) → o < 64 → limit o ≡ true
has_room o lt = grind (arith, nat_tests)

room_left : (o : ℕ) → limit o ≡ true → o < 64
room_left o e = grind (arith, nat_tests)

pub shallow_fits : (c : Content) (o : ℕ) → o + depth c ≤ 64 → Fits limit o c
shallow_fits nothing o h = tt
shallow_fits (stray c) o h = shallow_fits c o h
shallow_fits (simple n v vs c) o h = shallow_fits c o h
shallow_fits (complex n a c) o h = shallow_fits c o h
shallow_fits (subgroup n a i c) o h =
    (has_room o (omega arith), shallow_fits i (o + 1) (omega arith), shallow_fits c o (omega arith))

pub fits_shallow : (c : Content) (o : ℕ) → o ≤ 64 → Fits limit o c → o + depth c ≤ 64
fits_shallow nothing o le f = omega arith
fits_shallow (stray c) o le f = fits_shallow c o le f
fits_shallow (simple n v vs c) o le f = fits_shallow c o le f
fits_shallow (complex n a c) o le f = fits_shallow c o le f
fits_shallow (subgroup n a i c) o le f =
    let room : o < 64 = room_left o f.0 in
    let inner : o + 1 + depth i ≤ 64 = fits_shallow i (o + 1) (omega arith) f.1 in
    let rest : o + depth c ≤ 64 = fits_shallow c o le f.2 in
    omega arith

pub all_fit : (c : Content) (o : ℕ) → Fits no_limit o c
all_fit nothing o = tt
all_fit (stray c) o = all_fit c o
all_fit (simple n v vs c) o = all_fit c o
all_fit (complex n a c) o = all_fit c o
all_fit (subgroup n a i c) o = (refl, all_fit i (o + 1), all_fit c o)
