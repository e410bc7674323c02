-- Sums over the numbers below a count.

use Rattle.std.proofs.Common.{◌≡◌, ℕ, zero, suc, ◌+◌, ◌*◌, ◌<◌, ◌≤◌, Bool, true, false, sum_by, refl, sym, ◌∙◌, ap, arith}
use Rattle.std.specs.Prelude.{if◌then◌else◌}
use Rattle.std.specs.List.{range_with_len}
use Rattle.std.proofs.lemmas.List.{map-id}
use Rattle.std.proofs.lemmas.List.FromFn.{sum_by-map-range_with_len_more}
use Rattle.gs_lagrange.specs.Carry.{total}

pub total_same : (f g : ℕ → ℕ) (n : ℕ) → ((k : ℕ) → k < n → f k ≡ g k) → total f n ≡ total g n
total_same f g zero h = refl
total_same f g (suc n) h =
    let here : f n ≡ g n = h n (omega arith) in
    let rest : total f n ≡ total g n = total_same f g n (λ k lt. h k (omega (arith, lt))) in
    omega (arith, here, rest)

pub total_two : (f a b : ℕ → ℕ) (n : ℕ) → ((k : ℕ) → k < n → f k ≡ a k + b k) → total f n ≡ total a n + total b n
total_two f a b zero h = refl
total_two f a b (suc n) h =
    let here : f n ≡ a n + b n = h n (omega arith) in
    let rest : total f n ≡ total a n + total b n = total_two f a b n (λ k lt. h k (omega (arith, lt))) in
    omega (arith, here, rest)

pub total_three : (f a b c : ℕ → ℕ) (n : ℕ) → ((k : ℕ) → k < n → f k ≡ a k + b k + c k) → total f n ≡ total a n + total b n + total c n
total_three f a b c zero h = refl
total_three f a b c (suc n) h =
    let here : f n ≡ a n + b n + c n = h n (omega arith) in
    let rest : total f n ≡ total a n + total b n + total c n = total_three f a b c n (λ k lt. h k (omega (arith, lt))) in
    omega (arith, here, rest)

pub total_le : (f : ℕ → ℕ) (b n : ℕ) → ((k : ℕ) → k < n → f k ≤ b) → total f n ≤ n * b
total_le f b zero h = omega arith
total_le f b (suc n) h =
    let here : f n ≤ b = h n (omega arith) in
    let rest : total f n ≤ n * b = total_le f b n (λ k lt. h k (omega (arith, lt))) in
    omega (arith, here, rest)

total_zero : (n : ℕ) → total (λ k. 0) n ≡ 0
total_zero zero = refl
total_zero (suc n) = let rest : total (λ k. 0) n ≡ 0 = total_zero n in omega (arith, rest)

pub total_if : (b : Bool) (f : ℕ → ℕ) (n : ℕ) → total (λ k. if b then f k else 0) n ≡ (if b then total f n else 0)
total_if true f n = refl
total_if false f n = total_zero n

-- as a sum over a list
sum_range_more : (f : ℕ → ℕ) (n : ℕ) → sum_by f (range_with_len 0 (n + 1)) ≡ sum_by f (range_with_len 0 n) + f n
sum_range_more f n =
    ap (sum_by f) (sym (map-id (range_with_len 0 (n + 1)))) ∙ sum_by-map-range_with_len_more f (λ (k : ℕ). k) 0 n n (omega arith)
    ∙ ap (λ ks. sum_by f ks + f n) (map-id (range_with_len 0 n))

pub total_is : (f : ℕ → ℕ) (n : ℕ) → total f n ≡ sum_by f (range_with_len 0 n)
total_is f zero = refl
total_is f (suc n) =
    let one : suc n ≡ n + 1 = omega arith in
    ap (λ s. s + f n) (total_is f n) ∙ sym (sum_range_more f n) ∙ ap (λ k. sum_by f (range_with_len 0 k)) (sym one)
