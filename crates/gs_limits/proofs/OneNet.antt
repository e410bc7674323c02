-- A design of one net, between an input port and an output port.

use Rattle.std.proofs.Common.{◌≡◌, ℕ, zero, suc, ◌<◌, List, [], ◌∷◌, None, pos, nat_abs, refl, sym, subst, arith}
use Rattle.std.specs.Prelude.{nat_lt, slice_index}
use Rattle.std.proofs.lemmas.Int.{ints}
use Rattle.gs_design.specs.Design.{AreEnds, IsDesign, IsNet, IsOrder}
use Rattle.gs_design.specs.Ends.{end_at, is_at_port, port_count}
use Rattle.gs_design.specs.Insts.{Inst}
use Rattle.gs_design.specs.Library.{IsLibrary}
use Rattle.gs_design.specs.Nets.{Net, net_at}
use Rattle.gs_design.specs.declared.cell.Cell.{Cell}
use Rattle.gs_design.specs.declared.end.End.{End}
use Rattle.gs_design.specs.declared.end.EndPlace.TheVariants.{Output as AtPort, Pin as AtPin}
use Rattle.gs_design.specs.declared.sink.Driver.TheVariants.{Port, Inst as OfInst}

abbrev pub the_net : Net
the_net = record { name = 122 ∷ []; wire = pos 0; port_load = pos 0; driver = Port (pos 0) None; sinks = [] }

abbrev pub the_end : End
the_end = record { place = AtPort; net = 0; bound = pos 15000000 }

net_kept : IsNet [] [] 0 the_net
net_kept = record {
  inst_in = λ g e. absurd cc;
  inst_drives = λ g e. absurd cc;
  delay_in = λ delay cell e. let zero_delay : pos 0 ≡ delay = cc in subst (λ z. nat_abs z < 1099511627776) zero_delay (omega arith);
  driven = λ delay c e. absurd cc;
  sinks_are = refl;
  sinks_in = λ k d lt. absurd (omega arith);
  few_sinks = omega arith;
  wire_in = (omega (arith, ints), omega (arith, ints));
  port_load_in = (omega (arith, ints), omega (arith, ints));
}

nets_kept : (n : ℕ) → n < 1 → IsNet [] [] n (net_at (the_net ∷ []) n)
nets_kept zero lt = net_kept
nets_kept (suc n) lt = absurd (omega arith)

abbrev one_end : List End
one_end = the_end ∷ []

net_in : (e : ℕ) → e < 1 → (end_at one_end e).net < 1
net_in zero lt = omega arith
net_in (suc e) lt = absurd (omega arith)

at_port : (e : ℕ) → e < 1 → is_at_port (end_at one_end e).place ≡ nat_lt e (port_count one_end)
at_port zero lt = refl
at_port (suc e) lt = absurd (omega arith)

no_pin : (e g p : ℕ) → e < 1 → (end_at one_end e).place ≡ AtPin g p → ⊥
no_pin zero g p lt is = cc
no_pin (suc e) g p lt is = absurd (omega arith)

bound_in : (e : ℕ) → e < 1 → nat_abs (end_at one_end e).bound < 2199023255552
bound_in zero lt = omega arith
bound_in (suc e) lt = absurd (omega arith)

ends_kept : AreEnds [] [] (the_net ∷ []) one_end
ends_kept = record {
  few = omega arith;
  nets_in = net_in;
  ports_first = at_port;
  ports_rise = λ e lt. absurd (omega arith);
  pins_are = refl;
  pins_in = λ e g p lt is. absurd (no_pin e g p lt is);
  pins_on_net = λ e g p lt is. absurd (no_pin e g p lt is);
  bounds = bound_in;
}

below : (k : ℕ) → k < 1 → slice_index (0 ∷ []) k < 1
below zero lt = omega arith
below (suc k) lt = absurd (omega arith)

back : (k : ℕ) → k < 1 → slice_index (0 ∷ []) (slice_index (0 ∷ []) k) ≡ k
back zero lt = refl
back (suc k) lt = absurd (omega arith)

order_kept : IsOrder 1 (0 ∷ []) (0 ∷ [])
order_kept = record { ordered = refl; ranked = refl; net_in = below; rank_in = below; rank_of_net = back; net_of_rank = back }

no_inst_drives : (n g : ℕ) → n < 1 → (net_at (the_net ∷ []) n).driver ≡ OfInst g → ⊥
no_inst_drives zero g lt is = cc
no_inst_drives (suc n) g lt is = absurd (omega arith)

library_kept : IsLibrary None []
library_kept = record {
  few = omega arith;
  differ = λ i j d lt end. absurd (omega arith);
  named = λ k d lt. absurd (omega arith);
  classes = λ k d lt. absurd (omega arith);
  slew_default_in = λ z e. absurd cc;
}

pub wire_kept : IsDesign [] None [] (the_net ∷ []) one_end (0 ∷ []) (0 ∷ []) (pos 100000000) None
wire_kept = record {
  library = library_kept;
  few_insts = omega arith;
  few_nets = omega arith;
  few_pins = omega arith;
  names_differ = λ i j d lt end. absurd (omega arith);
  named = λ k d lt. absurd (omega arith);
  alts = λ g lt. absurd (omega arith);
  inputs_in = λ g lt. absurd (omega arith);
  output_in = λ g lt. absurd (omega arith);
  drives = λ g lt. absurd (omega arith);
  nets_kept = nets_kept;
  ends_kept = ends_kept;
  pin_bounds = λ e g p lt is. absurd (no_pin e g p lt is);
  order_kept = order_kept;
  inputs_before = λ n g lt is gate. absurd (no_inst_drives n g lt is);
  period_in = omega arith;
  area_bound_in = λ z e. absurd cc;
}

module _ (cells : List Cell) (insts : List Inst) (nets : List Net) (ends : List End) (order ranks : List ℕ) where
  pub wire_is : cells ≡ [] → insts ≡ [] → nets ≡ the_net ∷ [] → ends ≡ one_end → order ≡ 0 ∷ [] → ranks ≡ 0 ∷ [] → IsDesign cells None insts nets ends order ranks (pos 100000000) None
  wire_is c i n e o r =
      subst (λ x. IsDesign x None insts nets ends order ranks (pos 100000000) None) (sym c)
      (subst (λ x. IsDesign [] None x nets ends order ranks (pos 100000000) None) (sym i)
      (subst (λ x. IsDesign [] None [] x ends order ranks (pos 100000000) None) (sym n)
      (subst (λ x. IsDesign [] None [] (the_net ∷ []) x order ranks (pos 100000000) None) (sym e)
      (subst (λ x. IsDesign [] None [] (the_net ∷ []) one_end x ranks (pos 100000000) None) (sym o)
      (subst (λ x. IsDesign [] None [] (the_net ∷ []) one_end (0 ∷ []) x (pos 100000000) None) (sym r) wire_kept)))))
