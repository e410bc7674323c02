use Rattle.std.proofs.Common.{◌≡◌, ◌+◌, ◌∙◌, sym, refl, true, false, length, min, arith, length-append}
use Rattle.gs_quantity.specs.Decimal.{digits_of, power_of, raised, lowered, scaled}
use Rattle.gs_quantity.proofs.Scaling.{down_capped, up_capped, bounded_same}
use Rattle.gs_quantity.proofs.spelling.Spelling.magnitude.Goals as goal

pub returns-then-has_negative_power : goal.returns-then-has_negative_power
returns-then-has_negative_power c =
    let d = c.args.self.now in
    let down : d.power_negative ≡ true = sym c.has_negative_power.ensures ∙ c.if-has_negative_power.true in
    let cap : c.from-power.result ≡ min (power_of d) 18446744073709551615 = c.from-power.ensures ∙ c.power.ensures in
    let up : c.from-up.result + 6 ≡ raised d c.args.tens = rw down (omega (arith, c.from-up.ensures)) in
    let low : c.places-places.result + c.from-power.result ≡ length d.part + min (power_of d) 18446744073709551615 = omega (arith, cap, c.places-places.ensures.value) in
    let all : length d.part + power_of d ≡ lowered d = rw down refl in
    bounded_same c.scaled_by.result _ _
    ((λ i. scaled (digits_of d) (up i) (low i))
    ∙ down_capped (digits_of d) (raised d c.args.tens) (length d.part) (power_of d) 18446744073709551615 c.places-places.ensures.digits
    (omega (arith, length-append d.whole d.part, c.places-places.ensures.room, c.places-places.ensures.short, up, c.from-up.ensures, c.requires))
    ∙ (λ i. scaled (digits_of d) (raised d c.args.tens) (all i)))
    c.scaled_by.ensures

pub returns-else-has_negative_power : goal.returns-else-has_negative_power
returns-else-has_negative_power c =
    let d = c.args.self.now in
    let up : d.power_negative ≡ false = sym c.has_negative_power.ensures ∙ c.if-has_negative_power.false in
    let cap : c.from-power.result ≡ min (power_of d) 18446744073709551615 = c.from-power.ensures ∙ c.power.ensures in
    let high : c.from-up.result + 6 + c.from-power.result ≡ c.args.tens + 6 + min (power_of d) 18446744073709551615 = omega (arith, cap, c.from-up.ensures) in
    let low : c.places-places.result ≡ lowered d = rw up (omega (arith, c.places-places.ensures.value)) in
    let all : c.args.tens + 6 + power_of d ≡ raised d c.args.tens = rw up refl in
    let capped = bounded_same c.scaled_by-else-has_negative_power.result _ _ (λ i. scaled (digits_of d) (high i) (low i)) c.scaled_by-else-has_negative_power.ensures in
    bounded_same c.scaled_by-else-has_negative_power.result _ _ (λ i. scaled (digits_of d) (all i) (lowered d))
    (up_capped c.scaled_by-else-has_negative_power.result (digits_of d) (c.args.tens + 6) (lowered d) (power_of d) 18446744073709551615
    (omega (arith, low, c.places-places.ensures.short)) capped)
