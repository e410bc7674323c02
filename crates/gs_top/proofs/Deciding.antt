-- Stages that are decided, one after another.
use Rattle.std.proofs.Common.{◌≢◌, ◌∙◌, refl, sym, ap, subst, inl, inr, ◌⊎◌, ℕ, ◌<◌, ◌≤◌, List, length, map, Option, None, Some, arith}
use Rattle.std.proofs.lemmas.Bool.{cases_lt}
use Rattle.gs_grammar.specs.Lawful.{IsLawful}
use Rattle.gs_design.specs.Insts.{inst_first}
use Rattle.gs_design.specs.declared.library.Library.{Library}
use Rattle.gs_design.specs.declared.parts.Parts.{Parts}
use Rattle.gs_design.specs.declared.units.Units.{Units}
use Rattle.gs_lib.specs.Library as lib
use Rattle.gs_lib.specs.Library.{IsLibraryOf}
use Rattle.gs_lib.specs.declared.error.LibErr.TheVariants as lib_err
use Rattle.gs_libtree.specs.Refusal as tree
use Rattle.gs_libtree.specs.Refusal.{IsLiberty}
use Rattle.gs_libtree.specs.declared.error.LibTextErr.TheVariants as tree_err
use Rattle.gs_libtree.specs.declared.tree.Node.{Node}
use Rattle.gs_link.specs.Answers.{IsLawfulUpToCycle}
use Rattle.gs_link.specs.Cause as linking
use Rattle.gs_link.specs.Linked.{Linked}
use Rattle.gs_sdc.specs.Sdc as sdc
use Rattle.gs_sdc.specs.Sdc.{IsSdc}
use Rattle.gs_sdc.specs.Terms.{Terms}
use Rattle.gs_sdc.specs.declared.error.SdcErr.TheVariants as sdc_err
use Rattle.gs_sizes.specs.Refusal as sizes
use Rattle.gs_sizes.specs.Sizes.{IsSizes}
use Rattle.gs_sizes.specs.declared.error.SizesErr.TheVariants as sizes_err
use Rattle.gs_spef.specs.Refusal as spef
use Rattle.gs_spef.specs.Spef.{IsSpef}
use Rattle.gs_spef.specs.declared.error.SpefErr.TheVariants as spef_err
use Rattle.gs_spef.specs.declared.wires.Wire.{Wire}
use Rattle.gs_shelf.specs.declared.whole.TheConstants.{FILE_LIMIT}
use Rattle.gs_survey.specs.declared.error.LinkErr.{LinkErr}
use Rattle.gs_survey.specs.declared.error.LinkErr.TheVariants as link_err
use Rattle.gs_verilog.specs.Circuit.{Circuit, IsNetlist}
use Rattle.gs_verilog.specs.Refusal as netlist
use Rattle.gs_verilog.specs.Refusal.{IsVerilog}
use Rattle.gs_verilog.specs.declared.error.VerilogErr.TheVariants as verilog_err
use Rattle.gs_top.specs.Command.{inputs_of}
use Rattle.gs_top.specs.Design.{LibertyCause, NetlistCause, SpefCause, SdcCause, LinkCause, liberty, library_in, library, netlist_text, spef_text, sdc_text, link, linked_with, design}
use Rattle.gs_top.specs.Kind.{SameRefusal, cycle_aside}
use Rattle.gs_top.specs.Law.{IsDecided, EachJobIsDecided}
use Rattle.gs_top.specs.Refusal.{tree_status, lib_status, verilog_status, spef_status, sdc_status, sizes_status, link_status}
use Rattle.gs_top.specs.Stage.{Bytes, Stage, and_then, give, judge, fetch, Caused}
use Rattle.gs_top.specs.Start.{SizesCause, from_text, sized, start, start_in}
use Rattle.gs_top.specs.declared.job.Job.TheVariants.{Size, Check}
use Rattle.gs_top.specs.declared.status.Input.{Input}
use Rattle.gs_top.specs.declared.status.Input.TheVariants.{Lib, Verilog, Spef, Sdc, From}
use Rattle.gs_top.specs.declared.status.Status.{Status}
use Rattle.gs_top.specs.declared.status.Status.TheVariants.{TooLarge}
use Rattle.gs_top.proofs.Linking.{one_status}

module _ {V W : Type 0} (a : Stage V) (next : V → Stage W) (b : Bytes) (first : IsDecided a b) (second : (v : V) → a.makes b v → IsDecided (next v) b) where
  some_then : (v : V) → a.makes b v → ((w : W) × (next v).makes b w) ⊎ ((s : Status) × (next v).refuses b s)
      → ((w : W) × (and_then a next).makes b w) ⊎ ((s : Status) × (and_then a next).refuses b s)
  some_then v m (inl h) = inl (h.0, (v, m, h.1))
  some_then v m (inr h) = inr (h.0, inr (v, m, h.1))

  some_of : ((v : V) × a.makes b v) ⊎ ((s : Status) × a.refuses b s) → ((w : W) × (and_then a next).makes b w) ⊎ ((s : Status) × (and_then a next).refuses b s)
  some_of (inl h) = some_then h.0 h.1 (second h.0 h.1).some
  some_of (inr h) = inr (h.0, inl h.1)

  apart_of : (w : W) (s : Status) → (and_then a next).makes b w → (and_then a next).refuses b s → ⊥
  apart_of w s m (inl h) = first.apart m.0 s m.1 h
  apart_of w s m (inr h) = (second m.0 m.1).apart w s m.2 (subst (λ x. (next x).refuses b s) (first.one_value m.0 h.0 m.1 h.1) h.2)

  one_of : (s t : Status) → (and_then a next).refuses b s → (and_then a next).refuses b t → SameRefusal t s
  one_of s t (inl h) (inl k) = first.one_refusal s t h k
  one_of s t (inl h) (inr k) = absurd (first.apart k.0 s k.1 h)
  one_of s t (inr h) (inl k) = absurd (first.apart h.0 t h.1 k)
  one_of s t (inr h) (inr k) =
      (second h.0 h.1).one_refusal s t h.2 (subst (λ x. (next x).refuses b t) (first.one_value h.0 k.0 h.1 k.1) k.2)

  pub decided_then : IsDecided (and_then a next) b
  decided_then = record {
    some = some_of first.some;
    apart = apart_of;
    one_value = λ w u m n. (second m.0 m.1).one_value w u m.2 (subst (λ x. (next x).makes b u) (first.one_value m.0 n.0 m.1 n.1) n.2);
    one_refusal = one_of;
  }

le_or_lt : (m n : ℕ) → (m ≤ n) ⊎ (n < m)
le_or_lt m n = elim (cases_lt n m) [ inl h ↦ inr h | inr h ↦ inl h ]

not_both : (m n : ℕ) → m < n → n ≤ m → ⊥
not_both m n h k = omega arith

module _ (file : Input) (b : Bytes) where
  fetch_some : (length (b file) ≤ FILE_LIMIT) ⊎ (FILE_LIMIT < length (b file)) → ((v : List ℕ) × (fetch file).makes b v) ⊎ ((s : Status) × (fetch file).refuses b s)
  fetch_some (inl h) = inl (b file, (refl, h))
  fetch_some (inr h) = inr (TooLarge file, (refl, h))

  pub decided_fetch : IsDecided (fetch file) b
  decided_fetch = record {
    some = fetch_some (le_or_lt (length (b file)) FILE_LIMIT);
    apart = λ v s m h. not_both FILE_LIMIT (length (b file)) h.1 m.1;
    one_value = λ v w m n. n.0 ∙ sym m.0;
    one_refusal = λ s t h k. ap cycle_aside (k.0 ∙ sym h.0);
  }

module _ {V E : Type 0} (mem : E) (status_of : E → Status) (Is : V → Type 0) (Has : E → Type 0) (law : IsLawful mem Is Has) where
  judged_some : ((v : V) × Is v) ⊎ ((e : E) × (e ≢ mem) × Has e) → ((v : V) × Is v) ⊎ ((s : Status) × Caused mem status_of Has s)
  judged_some (inl h) = inl h
  judged_some (inr h) = inr (status_of h.0, (h.0, h.1, h.2, refl))

  -- what a lawful reader reads is decided
  pub decided_read : (b : Bytes) → IsDecided (judge Is (Caused mem status_of Has)) b
  decided_read b = record {
    some = judged_some law.decided;
    apart = λ v s m h. law.apart v h.0 m h.1 h.2;
    one_value = law.one_value;
    one_refusal = λ s t h k. ap cycle_aside (k.3 ∙ ap status_of (law.one_cause h.0 k.0 h.1 h.2 k.1 k.2) ∙ sym h.3);
  }

module _ (l : Library) (c : Circuit) (w : List Wire) (k : Terms) (law : IsLawfulUpToCycle (Linked c l w k) (linking.HasCause c l w k)) where
  link_some : ((p : Parts) × Linked c l w k p) ⊎ ((e : LinkErr) × (e ≢ link_err.Mem) × linking.HasCause c l w k e) → ((p : Parts) × Linked c l w k p) ⊎ ((s : Status) × LinkCause l c w k s)
  link_some (inl h) = inl h
  link_some (inr h) = inr (link_status h.0, (h.0, h.1, h.2, refl))

  -- what four parsed files make is decided
  pub link_decided : (b : Bytes) → IsDecided (link l c w k) b
  link_decided b = record {
    some = link_some law.decided;
    apart = λ p s m h. law.apart p h.0 m h.1 h.2;
    one_value = law.one_design;
    one_refusal = λ s t h k. ap cycle_aside k.3 ∙ one_status k.0 h.0 k.1 h.1 (law.one_cause h.0 k.0 h.1 h.2 k.1 k.2) ∙ sym (ap cycle_aside h.3);
  }

-- what is given is decided
decided_give : {V : Type 0} (x : V) (b : Bytes) → IsDecided (give x) b
decided_give x b = record {
  some = inl (x, refl);
  apart = λ v s m h. h;
  one_value = λ v w m n. n ∙ sym m;
  one_refusal = λ s t h k. absurd h;
}

-- ## The stages of each command

-- what each reader's law says, and that of the link
pub record Laws : Type 0 where
  pub liberties : (bytes : List ℕ) → IsLawful tree_err.Mem (IsLiberty bytes) (tree.HasCause bytes)
  pub trees : (root : Node) → IsLawful lib_err.Mem (IsLibraryOf root) (lib.HasCause root)
  pub netlists : (bytes : List ℕ) → IsLawful verilog_err.Mem (IsVerilog bytes) (netlist.HasCause bytes)
  pub wires : (bytes : List ℕ) → IsLawful spef_err.Mem (IsSpef bytes) (spef.HasCause bytes)
  pub constraints : (units : Units) (bytes : List ℕ) → IsLawful sdc_err.Mem (IsSdc units bytes) (sdc.HasCause units bytes)
  pub kept : (bytes : List ℕ) (c : Circuit) → IsVerilog bytes c → IsNetlist c
  pub froms : (p : Parts) (bytes : List ℕ) → IsLawful sizes_err.Mem (IsSizes p bytes) (sizes.HasCause p bytes)
  pub links : (c : Circuit) (l : Library) (w : List Wire) (k : Terms) → IsNetlist c → IsLawfulUpToCycle (Linked c l w k) (linking.HasCause c l w k)

module _ (laws : Laws) (b : Bytes) where
  liberty_decided : IsDecided liberty b
  liberty_decided =
      decided_then (fetch Lib) (λ bytes. judge (IsLiberty bytes) (LibertyCause bytes)) b (decided_fetch Lib b) (λ bytes m. decided_read tree_err.Mem tree_status (IsLiberty bytes) (tree.HasCause bytes) (laws.liberties bytes) b)

  library_decided : IsDecided library b
  library_decided =
      decided_then liberty library_in b liberty_decided (λ root m. decided_read lib_err.Mem lib_status (IsLibraryOf root) (lib.HasCause root) (laws.trees root) b)

  netlist_decided : IsDecided netlist_text b
  netlist_decided =
      decided_then (fetch Verilog) (λ bytes. judge (IsVerilog bytes) (NetlistCause bytes)) b (decided_fetch Verilog b) (λ bytes m. decided_read verilog_err.Mem verilog_status (IsVerilog bytes) (netlist.HasCause bytes) (laws.netlists bytes) b)

  wires_decided : IsDecided spef_text b
  wires_decided =
      decided_then (fetch Spef) (λ bytes. judge (IsSpef bytes) (SpefCause bytes)) b (decided_fetch Spef b) (λ bytes m. decided_read spef_err.Mem spef_status (IsSpef bytes) (spef.HasCause bytes) (laws.wires bytes) b)

  constraints_decided : (units : Units) → IsDecided (sdc_text units) b
  constraints_decided units =
      decided_then (fetch Sdc) (λ bytes. judge (IsSdc units bytes) (SdcCause units bytes)) b (decided_fetch Sdc b) (λ bytes m. decided_read sdc_err.Mem sdc_status (IsSdc units bytes) (sdc.HasCause units bytes) (laws.constraints units bytes) b)

  linked_decided : (l : Library) (c : Circuit) → IsNetlist c → IsDecided (linked_with l c) b
  linked_decided l c kept =
      decided_then spef_text (λ w. and_then (sdc_text l.units) (λ k. link l c w k)) b wires_decided (λ w m. decided_then (sdc_text l.units) (λ k. link l c w k) b (constraints_decided l.units) (λ k n. link_decided l c w k (laws.links c l w k kept) b))

  design_decided : IsDecided design b
  design_decided =
      decided_then library (λ l. and_then netlist_text (λ c. linked_with l c)) b library_decided (λ l m. decided_then netlist_text (λ c. linked_with l c) b netlist_decided (λ c n. linked_decided l c (laws.kept n.0 c n.2)))

  from_decided : (p : Parts) → IsDecided (from_text p) b
  from_decided p =
      decided_then (fetch From) (λ bytes. judge (IsSizes p bytes) (SizesCause p bytes)) b (decided_fetch From b) (λ bytes m. decided_read sizes_err.Mem sizes_status (IsSizes p bytes) (sizes.HasCause p bytes) (laws.froms p bytes) b)

  start_in_decided : (from : Option (List ℕ)) (p : Parts) → IsDecided (start_in from p) b
  start_in_decided None p = decided_give (map inst_first p.insts) b
  start_in_decided (Some name) p = from_decided p

  start_decided : (from : Option (List ℕ)) → IsDecided (start from) b
  start_decided from =
      decided_then design (λ p. and_then (start_in from p) (λ s. give (sized p s))) b design_decided (λ p m. decided_then (start_in from p) (λ s. give (sized p s)) b (start_in_decided from p) (λ s n. decided_give (sized p s) b))

pub each_job : Laws → EachJobIsDecided
each_job laws (Size j) files = start_decided laws (inputs_of (Size j) files) j.from
each_job laws (Check j) files = start_decided laws (inputs_of (Check j) files) j.from
