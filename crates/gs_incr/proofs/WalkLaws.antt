-- The walk through the cone: where it begins, how it passes a net that doesn't wait, how it evaluates one that does, and where it ends.

use Rattle.std.proofs.Common.{◌≡◌, ◌≢◌, ℕ, zero, suc, ◌+◌, ◌<◌, ◌≤◌, Bool, true, false, not, ◌&&◌, ◌||◌, All, List, [], ◌∷◌, ◌++◌, filter, map, take, length, slice_index, slice_index_or, cond, ◌-◌, refl, sym, ◌∙◌, ap, subst, arith, ◌⊎◌, inl, inr}
use Rattle.std.specs.List.{list_any}
use Rattle.std.proofs.lemmas.Bool.{and_from, and_parts, cases_eq, false_from_ne_true, or_cases, or_from, or_left, or_right}
use Rattle.std.proofs.lemmas.Bool.Decides.{Decides-eqb}
use Rattle.std.proofs.lemmas.List.{append-nil, map-append, take_all}
use Rattle.std.proofs.lemmas.List.Elements.{filter_more}
use Rattle.std.proofs.lemmas.List.Folds.{list_any_none}
use Rattle.std.proofs.lemmas.Grind.{get_or_default_zero}
use Rattle.gs_design.specs.Ends.{is_gate_inst}
use Rattle.gs_design.specs.Insts.{inst_at}
use Rattle.gs_design.specs.Nets.{net_at}
use Rattle.gs_design.specs.Times.{time_at}
use Rattle.gs_design.specs.Timing.{local_of}
use Rattle.gs_design.specs.declared.design.Design.{Design}
use Rattle.gs_design.specs.declared.sink.Driver.{Driver}
use Rattle.gs_design.specs.declared.sink.Driver.TheVariants.{Inst, Port}
use Rattle.gs_design.specs.declared.time.NetAt.{NetAt}
use Rattle.gs_design.specs.declared.time.NetTime.{NetTime}
use Rattle.gs_incr.specs.Queue.{has}
use Rattle.gs_incr.specs.Seen.{net_with, seen_between}
use Rattle.gs_incr.specs.Walk.{IsWalk, has_rank, is_reader, is_seed}
use Rattle.gs_move.specs.Cone.{has_changed_input, in_cone_of, is_on}
use Rattle.gs_move.specs.Moves.{after}
use Rattle.gs_move.specs.Records.{differ, same_record}
use Rattle.gs_move.specs.declared.moves.Move.{Move}
use Rattle.gs_timing.specs.Calm.{IsCalm, IsCalmAt}
use Rattle.gs_timing.specs.Late.{IsLate}
use Rattle.gs_incr.proofs.ConeLaws.{IsMoved, calm}
use Rattle.gs_incr.proofs.Lists.{never}
use Rattle.gs_incr.proofs.ReaderLaws.{on_is_seed, reader_waits, readers_wait, seeds_wait}
use Rattle.gs_incr.proofs.Records.{equal_same}

-- ---- the order

module _ (d : Design) where
  -- a net of a rank
  rank_same : (n b : ℕ) → n < length d.nets → slice_index d.ranks n ≡ b → n ≡ slice_index d.order b
  rank_same n b lt e = sym (d.well.order_kept.net_of_rank n lt) ∙ ap (λ k. slice_index d.order k) e

  -- the inputs of a gate are nets of smaller rank
  input_in : (n g : ℕ) → n < length d.nets → (net_at d.nets n).driver ≡ Inst g → All (λ k. k < length d.nets) (inst_at d.insts g).inputs
  input_in n g lt drives = d.well.inputs_in g ((d.well.nets_kept n lt).inst_in g drives)

  -- the nets of the cone among the first of the order, with one more
  module _ (p : ℕ → Bool) (b : ℕ) (lt : b < length d.nets) where
    pub order_more : filter p (take (b + 1) d.order) ≡ filter p (take b d.order) ++ cond (p (slice_index d.order b)) (slice_index d.order b ∷ []) []
    order_more = filter_more p d.order b 0 (omega (arith, lt, d.well.order_kept.ordered))

    pub order_skip : p (slice_index d.order b) ≡ false → filter p (take (b + 1) d.order) ≡ filter p (take b d.order)
    order_skip out = order_more ∙ ap (λ c. filter p (take b d.order) ++ cond c (slice_index d.order b ∷ []) []) out ∙ append-nil (filter p (take b d.order))

    pub order_take : p (slice_index d.order b) ≡ true → filter p (take (b + 1) d.order) ≡ filter p (take b d.order) ++ slice_index d.order b ∷ []
    order_take here = order_more ∙ ap (λ c. filter p (take b d.order) ++ cond c (slice_index d.order b ∷ []) []) here

-- ---- the start

pub starts : (d : Design) (m : Move) (t u v : List NetTime) (queue : List ℕ) (seen : List NetAt) → m.inst < length d.insts → seen ≡ []
    → ((n : ℕ) → n < length d.nets → time_at v n ≡ time_at t n)
    → ((r : ℕ) → has queue r ≡ is_seed d (inst_at d.insts m.inst) r) → IsWalk d m t u v queue seen 0
starts d m t u v queue seen inst_in empty base seeded = record {
  within = omega arith;
  seen_are = empty;
  done = λ n lt below. absurd (omega (arith, below));
  ahead = λ n lt le. base n lt;
  waits_in = λ r le held. (seeds_wait d m t u inst_in r (sym (seeded r) ∙ held)).0;
  waits = λ r le held. (seeds_wait d m t u inst_in r (sym (seeded r) ∙ held)).1;
  seeds = λ n lt le on. seeded (slice_index d.ranks n) ∙ on_is_seed d m.inst n on;
  readers = λ n g lt le drives gate i e it below. absurd (omega (arith, below));
}

-- ---- another queue that has the same ranks ahead

pub requeue : (d : Design) (m : Move) (t u v : List NetTime) (queue next_queue : List ℕ) (seen : List NetAt) (b : ℕ)
    → ((q : ℕ) → b ≤ q → has next_queue q ≡ has queue q) → IsWalk d m t u v queue seen b → IsWalk d m t u v next_queue seen b
requeue d m t u v queue next_queue seen b same w = record {
  within = w.within;
  seen_are = w.seen_are;
  done = w.done;
  ahead = w.ahead;
  waits_in = λ r le held. w.waits_in r le (sym (same r le) ∙ held);
  waits = λ r le held. w.waits r le (sym (same r le) ∙ held);
  seeds = λ n lt le on. same (slice_index d.ranks n) le ∙ w.seeds n lt le on;
  readers = λ n g lt le drives gate i e it below changed. same (slice_index d.ranks n) le ∙ w.readers n g lt le drives gate i e it below changed;
}

module _ (d : Design) (s : List ℕ) (m : Move) (t u : List NetTime) (h : IsMoved d s m t u) where
  -- ---- a net that doesn't wait

  module _ (v : List NetTime) (queue : List ℕ) (seen : List NetAt) (b : ℕ) (w : IsWalk d m t u v queue seen b) (lt : b < length d.nets) (idle : has queue b ≡ false) where
    abbrev passed_net : ℕ
    passed_net = slice_index d.order b

    net_in : slice_index d.order b < length d.nets
    net_in = d.well.order_kept.net_in b lt

    rank_is : slice_index d.ranks (slice_index d.order b) ≡ b
    rank_is = d.well.order_kept.rank_of_net b lt

    not_held : has queue (slice_index d.ranks passed_net) ≡ true → ⊥
    not_held held = never (has queue b) (ap (has queue) (sym rank_is) ∙ held) idle

    off : is_on (inst_at d.insts m.inst) passed_net ≡ false
    off = false_from_ne_true (is_on (inst_at d.insts m.inst) passed_net) (λ on. not_held (w.seeds passed_net net_in (omega (arith, rank_is)) on))

    no_change : (g : ℕ) → (net_at d.nets passed_net).driver ≡ Inst g → (c : Bool) → is_gate_inst d.cells (inst_at d.insts g) ≡ c → (c && list_any (differ t u) (inst_at d.insts g).inputs) ≡ false
    no_change g drives false gate = refl
    no_change g drives true gate =
        list_any_none (differ t u) (inst_at d.insts g).inputs
        (λ i e it.
        let k : ℕ = slice_index_or (inst_at d.insts g).inputs i e in
        let before = d.well.inputs_before passed_net g net_in drives gate i e it in
        false_from_ne_true (differ t u k) (λ changed. not_held (w.readers passed_net g net_in (omega (arith, rank_is)) drives gate i e it (omega (arith, before, rank_is)) changed)))

    still : (dr : Driver) → (net_at d.nets passed_net).driver ≡ dr → has_changed_input d t u dr ≡ false
    still (Port delay c) drives = refl
    still (Inst g) drives = no_change g drives (is_gate_inst d.cells (inst_at d.insts g)) refl

    outside : in_cone_of d m t u passed_net ≡ false
    outside = or_from (is_on (inst_at d.insts m.inst) passed_net) (has_changed_input d t u (net_at d.nets passed_net).driver) off (still (net_at d.nets passed_net).driver refl)

    same : time_at t passed_net ≡ time_at u passed_net
    same = calm d s m t u h passed_net net_in outside

    done_at : (n : ℕ) → n < length d.nets → slice_index d.ranks n < b + 1 → (slice_index d.ranks n ≡ b) ⊎ (slice_index d.ranks n ≡ b → ⊥) → time_at v n ≡ time_at u n
    done_at n nt below (inl e) = subst (λ k. time_at v k ≡ time_at u k) (sym (rank_same d n b nt e)) (w.ahead passed_net net_in (omega (arith, rank_is)) ∙ same)
    done_at n nt below (inr other) = w.done n nt (omega (arith, below, other))

    read_at : (n g i e : ℕ) → n < length d.nets → b + 1 ≤ slice_index d.ranks n → (net_at d.nets n).driver ≡ Inst g → is_gate_inst d.cells (inst_at d.insts g) ≡ true
        → i < length (inst_at d.insts g).inputs → slice_index d.ranks (slice_index_or (inst_at d.insts g).inputs i e) < b + 1 → differ t u (slice_index_or (inst_at d.insts g).inputs i e) ≡ true
        → (slice_index d.ranks (slice_index_or (inst_at d.insts g).inputs i e) ≡ b) ⊎ (slice_index d.ranks (slice_index_or (inst_at d.insts g).inputs i e) ≡ b → ⊥)
        → has queue (slice_index d.ranks n) ≡ true
    read_at n g i e nt le drives gate it below changed (inl here) =
        let k : ℕ = slice_index_or (inst_at d.insts g).inputs i e in
        let is_net : slice_index_or (inst_at d.insts g).inputs i e ≡ slice_index d.order b = rank_same d k b (input_in d n g nt drives i e it) here in
        absurd (never (differ t u passed_net) (ap (differ t u) (sym is_net) ∙ changed) (equal_same t u passed_net same))
    read_at n g i e nt le drives gate it below changed (inr other) = w.readers n g nt (omega (arith, le)) drives gate i e it (omega (arith, below, other)) changed

    pub passed : IsWalk d m t u v queue seen (b + 1)
    passed = record {
      within = omega (arith, lt);
      seen_are = w.seen_are ∙ ap (map (net_with u)) (sym (order_skip d (in_cone_of d m t u) b lt outside));
      done = λ n nt below. done_at n nt below (cases_eq (slice_index d.ranks n) b);
      ahead = λ n nt le. w.ahead n nt (omega (arith, le));
      waits_in = λ r le held. w.waits_in r (omega (arith, le)) held;
      waits = λ r le held. w.waits r (omega (arith, le)) held;
      seeds = λ n nt le on. w.seeds n nt (omega (arith, le)) on;
      readers = λ n g nt le drives gate i e it below changed.
          read_at n g i e nt le drives gate it below changed (cases_eq (slice_index d.ranks (slice_index_or (inst_at d.insts g).inputs i e)) b);
    }

  -- so many of them
  pub skip : (k b c : ℕ) (v : List NetTime) (queue : List ℕ) (seen : List NetAt) → b + k ≡ c → c ≤ length d.nets
      → ((q : ℕ) → b ≤ q → q < c → has queue q ≡ false) → IsWalk d m t u v queue seen b → IsWalk d m t u v queue seen c
  skip zero b c v queue seen sum le idle w = let e : b ≡ c = omega (arith, sum) in subst (λ x. IsWalk d m t u v queue seen x) e w
  skip (suc k) b c v queue seen sum le idle w =
      skip k (b + 1) c v queue seen (omega (arith, sum)) le (λ q from below. idle q (omega (arith, from)) below)
      (passed v queue seen b w (omega (arith, sum, le)) (idle b (omega arith) (omega (arith, sum))))

  -- from a place to the least rank that waits, where that is a net's
  pub goes_on : (b r : ℕ) (v : List NetTime) (queue : List ℕ) (seen : List NetAt) → b ≤ r → has queue r ≡ true → ((q : ℕ) → q < r → has queue q ≡ false)
      → IsWalk d m t u v queue seen b → IsWalk d m t u v queue seen r
  goes_on b r v queue seen le held least w =
      let in_nets = w.waits_in r le held in
      skip (r - b) b r v queue seen (omega (arith, le)) (omega (arith, in_nets)) (λ q from below. least q below) w

  -- ---- the end

  pub ends : (b : ℕ) (v : List NetTime) (queue : List ℕ) (seen : List NetAt) → ((q : ℕ) → has queue q ≡ false) → IsWalk d m t u v queue seen b → seen ≡ seen_between d m t u
  ends b v queue seen none w =
      let le = w.within in
      let w' = skip (length d.nets - b) b (length d.nets) v queue seen (omega (arith, le)) (omega arith) (λ q from below. none q) w in
      w'.seen_are ∙ ap (λ o. map (net_with u) (filter (in_cone_of d m t u) o)) (take_all (length d.nets) d.order (omega (arith, d.well.order_kept.ordered)))

  -- ---- a net that waits

  module _ (v : List NetTime) (queue : List ℕ) (seen : List NetAt) (b : ℕ) (w : IsWalk d m t u v queue seen b) (held : has queue b ≡ true) where
    lt : b < length d.nets
    lt = w.waits_in b (omega arith) held

    abbrev here : ℕ
    here = slice_index d.order b

    here_in : slice_index d.order b < length d.nets
    here_in = d.well.order_kept.net_in b lt

    here_rank : slice_index d.ranks (slice_index d.order b) ≡ b
    here_rank = d.well.order_kept.rank_of_net b lt

    -- the inputs of a gate that drives it have their new records
    inputs_done : (g : ℕ) → (net_at d.nets here).driver ≡ Inst g → is_gate_inst d.cells (inst_at d.insts g) ≡ true → All (λ k. time_at v k ≡ time_at u k) (inst_at d.insts g).inputs
    inputs_done g drives gate i e it =
        let before = d.well.inputs_before here g here_in drives gate i e it in
        w.done (slice_index_or (inst_at d.insts g).inputs i e) (input_in d here g here_in drives i e it) (omega (arith, before, here_rank))

    pub new_record : local_of d (after s m) v here ≡ time_at u here
    new_record =
        h.reads (after s m) (after s m) v u here h.fit_after here_in
        (record { sinks = λ k e kt. refl; driver = λ g drives. refl })
        inputs_done
        ∙ sym (h.later.each here here_in)

    pub here_calm : ((n : ℕ) → n < length d.nets → IsLate (time_at u n) 1152921504606846975) → IsCalmAt d v here
    here_calm late g drives gate i e it =
        let k : ℕ = slice_index_or (inst_at d.insts g).inputs i e in
        let k_late = late k (input_in d here g here_in drives i e it) in
        subst IsCalm (sym (inputs_done g drives gate i e it)) (record { rise = omega (arith, k_late.rise); fall = omega (arith, k_late.fall) })

    -- it is evaluated
    module _ (v' : List NetTime) (queue' : List ℕ) (seen' : List NetAt) (time : NetTime) (changed : Bool)
        (time_is : time ≡ local_of d (after s m) v here)
        (put_here : time_at v' here ≡ time) (put_other : (n : ℕ) → n < length d.nets → n ≢ here → time_at v' n ≡ time_at v n)
        (changed_is : changed ≡ differ t u here)
        (queue_is : (q : ℕ) → has queue' q ≡ (has queue q || (changed && list_any (is_reader d q) (net_at d.nets here).sinks)))
        (seen_is : seen' ≡ seen ++ record { net = here; time = time } ∷ []) where
      time_new : time ≡ time_at u here
      time_new = time_is ∙ new_record

      kept : (q : ℕ) → has queue q ≡ true → has queue' q ≡ true
      kept q was = queue_is q ∙ or_left (has queue q) (changed && list_any (is_reader d q) (net_at d.nets here).sinks) was

      abbrev Waits : ℕ → Type 0
      Waits q = (q < length d.nets) × (in_cone_of d m t u (slice_index d.order q) ≡ true)

      waits_by : (q : ℕ) → b + 1 ≤ q → (has queue q ≡ true) ⊎ ((changed && list_any (is_reader d q) (net_at d.nets here).sinks) ≡ true) → Waits q
      waits_by q le (inl was) = (w.waits_in q (omega (arith, le)) was, w.waits q (omega (arith, le)) was)
      waits_by q le (inr new) =
          let parts = and_parts changed (list_any (is_reader d q) (net_at d.nets here).sinks) new in
          readers_wait d m t u here here_in (sym changed_is ∙ parts.0) q parts.1

      waits_at : (q : ℕ) → b + 1 ≤ q → has queue' q ≡ true → Waits q
      waits_at q le now = waits_by q le (or_cases (has queue q) (changed && list_any (is_reader d q) (net_at d.nets here).sinks) (sym (queue_is q) ∙ now))

      put_at : (n : ℕ) → n < length d.nets → slice_index d.ranks n < b + 1 → (slice_index d.ranks n ≡ b) ⊎ (slice_index d.ranks n ≡ b → ⊥) → time_at v' n ≡ time_at u n
      put_at n nt below (inl e) = subst (λ k. time_at v' k ≡ time_at u k) (sym (rank_same d n b nt e)) (put_here ∙ time_new)
      put_at n nt below (inr other) = put_other n nt (λ e. other (ap (λ k. slice_index d.ranks k) e ∙ here_rank)) ∙ w.done n nt (omega (arith, below, other))

      reads_at : (n g i e : ℕ) → n < length d.nets → b + 1 ≤ slice_index d.ranks n → (net_at d.nets n).driver ≡ Inst g → is_gate_inst d.cells (inst_at d.insts g) ≡ true
          → i < length (inst_at d.insts g).inputs → slice_index d.ranks (slice_index_or (inst_at d.insts g).inputs i e) < b + 1 → differ t u (slice_index_or (inst_at d.insts g).inputs i e) ≡ true
          → (slice_index d.ranks (slice_index_or (inst_at d.insts g).inputs i e) ≡ b) ⊎ (slice_index d.ranks (slice_index_or (inst_at d.insts g).inputs i e) ≡ b → ⊥)
          → has queue' (slice_index d.ranks n) ≡ true
      reads_at n g i e nt le drives gate it below differs (inr other) = kept (slice_index d.ranks n) (w.readers n g nt (omega (arith, le)) drives gate i e it (omega (arith, below, other)) differs)
      reads_at n g i e nt le drives gate it below differs (inl at) =
          let k : ℕ = slice_index_or (inst_at d.insts g).inputs i e in
          let is_here : slice_index_or (inst_at d.insts g).inputs i e ≡ slice_index d.order b = rank_same d k b (input_in d n g nt drives i e it) at in
          let zero_is : slice_index (inst_at d.insts g).inputs i ≡ slice_index d.order b = sym (get_or_default_zero (inst_at d.insts g).inputs i e it) ∙ is_here in
          let g_in = (d.well.nets_kept n nt).inst_in g drives in
          let out : has_rank d (slice_index d.ranks n) (inst_at d.insts g).output ≡ true =
          (Decides-eqb (slice_index d.ranks (inst_at d.insts g).output) (slice_index d.ranks n)).1 (ap (λ j. slice_index d.ranks j) ((d.well.nets_kept n nt).inst_drives g drives)) in
          let any : list_any (is_reader d (slice_index d.ranks n)) (net_at d.nets here).sinks ≡ true =
          subst (λ j. list_any (is_reader d (slice_index d.ranks n)) (net_at d.nets j).sinks ≡ true) zero_is (reader_waits d g i g_in gate it (slice_index d.ranks n) out) in
          queue_is (slice_index d.ranks n)
          ∙ or_right (has queue (slice_index d.ranks n)) (changed && list_any (is_reader d (slice_index d.ranks n)) (net_at d.nets here).sinks)
          (and_from changed (list_any (is_reader d (slice_index d.ranks n)) (net_at d.nets here).sinks) (changed_is ∙ ap (differ t u) (sym is_here) ∙ differs) any)

      pub evaluated : IsWalk d m t u v' queue' seen' (b + 1)
      evaluated = record {
        within = omega (arith, lt);
        seen_are =
            seen_is ∙ ap (λ r. seen ++ record { net = here; time = r } ∷ []) time_new ∙ ap (λ xs. xs ++ net_with u here ∷ []) w.seen_are
            ∙ sym (map-append (net_with u) (filter (in_cone_of d m t u) (take b d.order)) (here ∷ []))
            ∙ ap (map (net_with u)) (sym (order_take d (in_cone_of d m t u) b lt (w.waits b (omega arith) held)));
        done = λ n nt below. put_at n nt below (cases_eq (slice_index d.ranks n) b);
        ahead = λ n nt le. put_other n nt (λ e. omega (arith, le, ap (λ k. slice_index d.ranks k) e, here_rank)) ∙ w.ahead n nt (omega (arith, le));
        waits_in = λ r le now. (waits_at r le now).0;
        waits = λ r le now. (waits_at r le now).1;
        seeds = λ n nt le on. kept (slice_index d.ranks n) (w.seeds n nt (omega (arith, le)) on);
        readers = λ n g nt le drives gate i e it below differs.
            reads_at n g i e nt le drives gate it below differs (cases_eq (slice_index d.ranks (slice_index_or (inst_at d.insts g).inputs i e)) b);
      }

    -- the net has a name of its own
    pub visited : (net : ℕ) (v' : List NetTime) (queue' : List ℕ) (seen' : List NetAt) (time : NetTime) (changed : Bool) → net ≡ slice_index d.order b
        → time ≡ local_of d (after s m) v net → time_at v' net ≡ time → ((n : ℕ) → n < length d.nets → n ≢ net → time_at v' n ≡ time_at v n)
        → changed ≡ not (same_record (time_at t net) time)
        → ((q : ℕ) → has queue' q ≡ (has queue q || (changed && list_any (is_reader d q) (net_at d.nets net).sinks)))
        → seen' ≡ seen ++ record { net = net; time = time } ∷ [] → IsWalk d m t u v' queue' seen' (b + 1)
    visited net v' queue' seen' time changed net_is time_is put_here put_other changed_is queue_is seen_is =
        let local : time ≡ local_of d (after s m) v here = time_is ∙ ap (λ k. local_of d (after s m) v k) net_is in
        evaluated v' queue' seen' time changed local
        (ap (λ k. time_at v' k) (sym net_is) ∙ put_here)
        (λ n nt apart. put_other n nt (λ e. apart (e ∙ net_is)))
        (changed_is ∙ ap (λ k. not (same_record (time_at t k) time)) net_is ∙ ap (λ r. not (same_record (time_at t here) r)) (local ∙ new_record))
        (λ q. queue_is q ∙ ap (λ k. has queue q || (changed && list_any (is_reader d q) (net_at d.nets k).sinks)) net_is)
        (seen_is ∙ ap (λ k. seen ++ record { net = k; time = time } ∷ []) net_is)
