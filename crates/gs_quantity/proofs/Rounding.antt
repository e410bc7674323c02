-- Rounding a fraction once.
use Rattle.std.proofs.Common.{ℕ, zero, suc, ◌+◌, ◌-◌, ◌*◌, ◌/◌, ◌%◌, ◌^◌, ◌<◌, ◌≤◌, ◌≡◌, ◌∙◌, ap, arith}
use Rattle.std.proofs.lemmas.Nat.{div-add-mod', mod_below, le-div, div_below, div-mul-add, mul-le}
use Rattle.std.proofs.Math.Nat.{pow-suc, pow-le-pow_right}
use Rattle.gs_quantity.specs.declared.limits.TheConstants.{NUMBER_LIMIT}
use Rattle.gs_quantity.specs.Nearest.{nearest, IsNearest}

within_from : (w b n : ℕ) → w * (2 * b) ≤ n + b → (2 * w - 1) * b ≤ n
within_from zero b n h = omega arith
within_from (suc k) b n h = let e : 2 * suc k - 1 ≡ 2 * k + 1 = omega arith in rw e (omega (arith, h))

within_to : (w b n : ℕ) → (2 * w - 1) * b ≤ n → w * (2 * b) ≤ n + b
within_to zero b n h = omega arith
within_to (suc k) b n h = let e : 2 * suc k - 1 ≡ 2 * k + 1 = omega arith in omega (arith, rw e at h)

-- the whole number nearest to a / b is the greatest that is at most one half above it
pub nearest_is : (a b : ℕ) → 0 < b → IsNearest a b (nearest a b)
unfolding nearest
nearest_is a b h = record {
  within = within_from ((2 * a + b) / (2 * b)) b (2 * a) (omega (arith, div-add-mod' (2 * a + b) (2 * b)));
  greatest = λ v k. le-div v (2 * a + b) (2 * b) (omega arith) (within_to v b (2 * a) k);
}

-- there is one
pub nearest_one : (a b v w : ℕ) → IsNearest a b v → IsNearest a b w → v ≡ w
nearest_one a b v w h k = omega (arith, h.greatest w k.within, k.greatest v h.within)

-- a whole number of times the denominator
pub nearest_whole : (v c p : ℕ) → 0 < p → nearest (v * (p * c)) p ≡ v * c
unfolding nearest
nearest_whole v c p h =
    let e : 2 * (v * (p * c)) + p ≡ (v * c) * (2 * p) + p = omega arith in
    ap (λ n. n / (2 * p)) e ∙ div-mul-add (v * c) (2 * p) p (omega arith)

-- a common factor
pub nearest_cancel : (v c q : ℕ) → 0 < c → 0 < q → nearest (v * c) (c * q) ≡ nearest v q
unfolding nearest
nearest_cancel v c q hc hq =
    let w : ℕ = (2 * v + q) / (2 * q) in
    let r : ℕ = (2 * v + q) % (2 * q) in
    let split : w * (2 * q) + r ≡ 2 * v + q = div-add-mod' (2 * v + q) (2 * q) in
    let low : r < 2 * q = mod_below (2 * v + q) (2 * q) (omega arith) in
    let e : 2 * (v * c) + c * q ≡ w * (2 * (c * q)) + c * r = omega (arith, ap (λ n. c * n) split) in
    let small : c * r < 2 * (c * q) = omega (arith, mul-le c (r + 1) c (2 * q) (omega arith) (omega arith)) in
    ap (λ n. n / (2 * (c * q))) e ∙ div-mul-add w (2 * (c * q)) (c * r) small

up_at : (q m p r : ℕ) → r < p → m ≤ 4 → nearest ((q * 10 + (m + 5)) * p + r) (10 * p) ≡ q + 1
unfolding nearest
up_at q m p r h k =
    let e : 2 * ((q * 10 + (m + 5)) * p + r) + 10 * p ≡ (q + 1) * (2 * (10 * p)) + (2 * m * p + 2 * r) = omega arith in
    let small : 2 * m * p + 2 * r < 2 * (10 * p) = omega (arith, mul-le m p 4 p (omega arith) (omega arith)) in
    ap (λ n. n / (2 * (10 * p))) e ∙ div-mul-add (q + 1) (2 * (10 * p)) (2 * m * p + 2 * r) small

-- the first digit that is dropped decides
pub nearest_up : (q d p r : ℕ) → r < p → d ≤ 9 → 5 ≤ d → nearest ((q * 10 + d) * p + r) (10 * p) ≡ q + 1
nearest_up q d p r h k five =
    let e : d ≡ d - 5 + 5 = omega arith in
    ap (λ n. nearest ((q * 10 + n) * p + r) (10 * p)) e ∙ up_at q (d - 5) p r h (omega arith)

pub nearest_down : (q d p r : ℕ) → r < p → d < 5 → nearest ((q * 10 + d) * p + r) (10 * p) ≡ q
unfolding nearest
nearest_down q d p r h k =
    let e : 2 * ((q * 10 + d) * p + r) + 10 * p ≡ q * (2 * (10 * p)) + ((2 * d + 10) * p + 2 * r) = omega arith in
    let small : (2 * d + 10) * p + 2 * r < 2 * (10 * p) = omega (arith, mul-le (2 * d + 10) p 18 p (omega arith) (omega arith)) in
    ap (λ n. n / (2 * (10 * p))) e ∙ div-mul-add q (2 * (10 * p)) ((2 * d + 10) * p + 2 * r) small

-- far below one half
pub nearest_none : (v q : ℕ) → 2 * v < q → nearest v q ≡ 0
unfolding nearest
nearest_none v q h =
    let small : (2 * v + q) / (2 * q) < 1 = div_below (2 * v + q) (2 * q) 1 (omega arith) (omega arith) in omega (arith, small)

-- a number above 0 with 13 zeros or more behind it
pub zeros_far : (n k : ℕ) → 0 < n → 12 < k → NUMBER_LIMIT ≤ n * 10 ^ k
zeros_far n k h more =
    let ten : 0 < 10 = omega arith in
    let p : 10 ^ 13 ≤ 10 ^ k = pow-le-pow_right ten (let low : 13 ≤ k = omega arith in low) in
    omega (arith, mul-le 1 (10 ^ 13) n (10 ^ k) h p)

-- one more zero
pub zero_more : (m i : ℕ) → m * 10 ^ (i + 1) ≡ m * 10 ^ i * 10
zero_more m i =
    let e : i + 1 ≡ suc i = omega arith in
    let p : 10 ^ (i + 1) ≡ 10 ^ i * 10 = ap (λ n. 10 ^ n) e ∙ pow-suc 10 i in
    ap (λ n. m * n) p ∙ (omega arith)

pub fewer_zeros : (m i k : ℕ) → i ≤ k → m * 10 ^ i ≤ m * 10 ^ k
fewer_zeros m i k h =
    let ten : 0 < 10 = omega arith in
    mul-le m (10 ^ i) m (10 ^ k) (omega arith) (pow-le-pow_right ten h)
