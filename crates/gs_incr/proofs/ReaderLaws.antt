-- Which ranks wait after a net has changed, and at the start.

use Rattle.std.proofs.Common.{◌≡◌, ℕ, ◌<◌, ◌==◌, Bool, true, ◌&&◌, List, length, slice_index, slice_index_or, refl, sym, ◌∙◌, ap, subst, arith, ◌⊎◌, inl, inr}
use Rattle.std.specs.List.{list_any, range_with_len}
use Rattle.std.proofs.lemmas.Bool.{and_from, and_parts, or_cases, or_left, or_right}
use Rattle.std.proofs.lemmas.Bool.Decides.{Decides-eqb}
use Rattle.std.proofs.lemmas.List.Folds.{list_any_at}
use Rattle.gs_design.specs.Ends.{input_pins, is_gate_inst, pin_net, pins_of_inst, pins_on}
use Rattle.gs_design.specs.Insts.{inst_at}
use Rattle.gs_design.specs.Nets.{net_at}
use Rattle.gs_design.specs.declared.design.Design.{Design}
use Rattle.gs_design.specs.declared.sink.Sink.{Sink}
use Rattle.gs_design.specs.declared.time.NetTime.{NetTime}
use Rattle.gs_move.specs.Cone.{has_changed_input, in_cone_of, is_on}
use Rattle.gs_move.specs.Records.{differ}
use Rattle.gs_move.specs.declared.moves.Move.{Move}
use Rattle.gs_incr.specs.Walk.{has_rank, is_reader, is_seed}
use Rattle.gs_incr.proofs.Lists.{any_below, any_elim, any_filter, any_flat_map, any_map}

module _ (d : Design) where
  -- the net of a rank
  pub net_of : (r n : ℕ) → n < length d.nets → has_rank d r n ≡ true → n ≡ slice_index d.order r
  net_of r n lt e = sym (d.well.order_kept.net_of_rank n lt) ∙ ap (λ k. slice_index d.order k) ((Decides-eqb (slice_index d.ranks n) r).0 e)

  pub rank_in : (r n : ℕ) → n < length d.nets → has_rank d r n ≡ true → r < length d.nets
  rank_in r n lt e = let is : slice_index d.ranks n ≡ r = (Decides-eqb (slice_index d.ranks n) r).0 e in omega (arith, is, d.well.order_kept.rank_in n lt)

  -- a gate's input pin is among the sinks of the net at it
  module _ (g i : ℕ) (g_in : g < length d.insts) (gate : is_gate_inst d.cells (inst_at d.insts g) ≡ true) (i_in : i < length (inst_at d.insts g).inputs) where
    abbrev net : ℕ
    net = slice_index (inst_at d.insts g).inputs i

    abbrev reads : ℕ → Sink → Bool
    reads r k = (pin_net d.insts k == net) && is_reader d r k

    one_pin : (r : ℕ) → has_rank d r (inst_at d.insts g).output ≡ true → list_any (reads r) (pins_of_inst d.insts g) ≡ true
    one_pin r is =
        any_map (reads r) (λ p. record { inst = g; pin = p }) (range_with_len 0 (length (inst_at d.insts g).inputs))
        ∙ any_below (λ p. reads r (record { inst = g; pin = p })) (length (inst_at d.insts g).inputs) i i_in
        (and_from (net == net) (is_reader d r (record { inst = g; pin = i })) ((Decides-eqb net net).1 refl)
        (and_from (is_gate_inst d.cells (inst_at d.insts g)) (has_rank d r (inst_at d.insts g).output) gate is))

    among_pins : (r : ℕ) → has_rank d r (inst_at d.insts g).output ≡ true → list_any (is_reader d r) (pins_on d.insts net) ≡ true
    among_pins r is =
        any_filter (is_reader d r) (λ k. pin_net d.insts k == net) (input_pins d.insts)
        ∙ any_flat_map (reads r) (pins_of_inst d.insts) (range_with_len 0 (length d.insts))
        ∙ any_below (λ k. list_any (reads r) (pins_of_inst d.insts k)) (length d.insts) g g_in (one_pin r is)

    pub reader_waits : (r : ℕ) → has_rank d r (inst_at d.insts g).output ≡ true → list_any (is_reader d r) (net_at d.nets net).sinks ≡ true
    reader_waits r is =
        let net_in : net < length d.nets = d.well.inputs_in g g_in i 0 i_in in
        ap (list_any (is_reader d r)) (d.well.nets_kept net net_in).sinks_are ∙ among_pins r is

  -- what waits for a changed net is in the cone
  module _ (m : Move) (t u : List NetTime) (n : ℕ) (lt : n < length d.nets) (changed : differ t u n ≡ true) (r : ℕ) where
    abbrev Waits : Type 0
    Waits = (r < length d.nets) × (in_cone_of d m t u (slice_index d.order r) ≡ true)

    by_sink : (k : Sink) → k.inst < length d.insts → k.pin < length (inst_at d.insts k.inst).inputs → pin_net d.insts k ≡ n → is_reader d r k ≡ true → Waits
    by_sink k inst_in pin_in on passes =
        let parts = and_parts (is_gate_inst d.cells (inst_at d.insts k.inst)) (has_rank d r (inst_at d.insts k.inst).output) passes in
        let out : ℕ = (inst_at d.insts k.inst).output in
        let out_in : (inst_at d.insts k.inst).output < length d.nets = d.well.output_in k.inst inst_in in
        let any : list_any (differ t u) (inst_at d.insts k.inst).inputs ≡ true =
        list_any_at (differ t u) (inst_at d.insts k.inst).inputs k.pin 0 pin_in (ap (differ t u) on ∙ changed) in
        let has_input : has_changed_input d t u (net_at d.nets (inst_at d.insts k.inst).output).driver ≡ true =
        ap (has_changed_input d t u) (d.well.drives k.inst inst_in)
        ∙ and_from (is_gate_inst d.cells (inst_at d.insts k.inst)) (list_any (differ t u) (inst_at d.insts k.inst).inputs) parts.0 any in (
          rank_in r out out_in parts.1,
          subst (λ k. in_cone_of d m t u k ≡ true) (net_of r out out_in parts.1)
              (or_right (is_on (inst_at d.insts m.inst) out) (has_changed_input d t u (net_at d.nets out).driver) has_input),
        )

    pub readers_wait : list_any (is_reader d r) (net_at d.nets n).sinks ≡ true → Waits
    readers_wait any =
        any_elim (is_reader d r) Waits (net_at d.nets n).sinks
        (λ k e kt passes.
        let sink = (d.well.nets_kept n lt).sinks_in k e kt in
        by_sink (slice_index_or (net_at d.nets n).sinks k e) sink.inst_in sink.pin_in sink.on passes)
        any

  -- the seeds
  module _ (m : Move) (t u : List NetTime) (inst_in : m.inst < length d.insts) (r : ℕ) where
    abbrev Seeded : Type 0
    Seeded = (r < length d.nets) × (in_cone_of d m t u (slice_index d.order r) ≡ true)

    seed_at : (n : ℕ) → n < length d.nets → has_rank d r n ≡ true → is_on (inst_at d.insts m.inst) n ≡ true → Seeded
    seed_at n lt is on = (
      rank_in r n lt is,
      subst (λ k. in_cone_of d m t u k ≡ true) (net_of r n lt is)
          (or_left (is_on (inst_at d.insts m.inst) n) (has_changed_input d t u (net_at d.nets n).driver) on),
    )

    seed_of : (list_any (has_rank d r) (inst_at d.insts m.inst).inputs ≡ true) ⊎ (has_rank d r (inst_at d.insts m.inst).output ≡ true) → Seeded
    seed_of (inl any) =
        any_elim (has_rank d r) Seeded (inst_at d.insts m.inst).inputs
        (λ k e kt is.
        let n : ℕ = slice_index_or (inst_at d.insts m.inst).inputs k e in
        seed_at n (d.well.inputs_in m.inst inst_in k e kt) is
        (or_left (list_any (λ j. j == n) (inst_at d.insts m.inst).inputs) ((inst_at d.insts m.inst).output == n)
        (list_any_at (λ j. j == n) (inst_at d.insts m.inst).inputs k e kt ((Decides-eqb n n).1 refl))))
        any
    seed_of (inr is) =
        let n : ℕ = (inst_at d.insts m.inst).output in
        seed_at n (d.well.output_in m.inst inst_in) is
        (or_right (list_any (λ j. j == n) (inst_at d.insts m.inst).inputs) (n == n) ((Decides-eqb n n).1 refl))

    pub seeds_wait : is_seed d (inst_at d.insts m.inst) r ≡ true → Seeded
    seeds_wait e = seed_of (or_cases (list_any (has_rank d r) (inst_at d.insts m.inst).inputs) (has_rank d r (inst_at d.insts m.inst).output) e)

  -- each net of an instance is a seed
  module _ (g n : ℕ) where
    on_of : (list_any (λ k. k == n) (inst_at d.insts g).inputs ≡ true) ⊎ (((inst_at d.insts g).output == n) ≡ true) → is_seed d (inst_at d.insts g) (slice_index d.ranks n) ≡ true
    on_of (inl any) =
        or_left (list_any (has_rank d (slice_index d.ranks n)) (inst_at d.insts g).inputs) (has_rank d (slice_index d.ranks n) (inst_at d.insts g).output)
        (any_elim (λ k. k == n) (list_any (has_rank d (slice_index d.ranks n)) (inst_at d.insts g).inputs ≡ true) (inst_at d.insts g).inputs
        (λ k e kt is.
        let same : slice_index d.ranks (slice_index_or (inst_at d.insts g).inputs k e) ≡ slice_index d.ranks n = ap (λ j. slice_index d.ranks j) ((Decides-eqb (slice_index_or (inst_at d.insts g).inputs k e) n).0 is) in
        list_any_at (has_rank d (slice_index d.ranks n)) (inst_at d.insts g).inputs k e kt
        ((Decides-eqb (slice_index d.ranks (slice_index_or (inst_at d.insts g).inputs k e)) (slice_index d.ranks n)).1 same))
        any)
    on_of (inr is) =
        let same : slice_index d.ranks (inst_at d.insts g).output ≡ slice_index d.ranks n = ap (λ j. slice_index d.ranks j) ((Decides-eqb (inst_at d.insts g).output n).0 is) in
        or_right (list_any (has_rank d (slice_index d.ranks n)) (inst_at d.insts g).inputs) (has_rank d (slice_index d.ranks n) (inst_at d.insts g).output)
        ((Decides-eqb (slice_index d.ranks (inst_at d.insts g).output) (slice_index d.ranks n)).1 same)

    pub on_is_seed : is_on (inst_at d.insts g) n ≡ true → is_seed d (inst_at d.insts g) (slice_index d.ranks n) ≡ true
    on_is_seed e = on_of (or_cases (list_any (λ k. k == n) (inst_at d.insts g).inputs) ((inst_at d.insts g).output == n) e)
