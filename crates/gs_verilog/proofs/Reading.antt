-- What a reader may rest on after some pieces, and the clauses of the public call.

use Rattle.std.proofs.Common.{◌≡◌, ◌≢◌, ℕ, ◌+◌, ◌≤◌, ◌^◌, List, [], ◌∷◌, length, map, refl, ap, subst, ◌∙◌, Option, None, Some, Result, Ok, Err, IfOk, arith, length-append}
use Rattle.std.specs.List.{All, AllByRecursion, list_any}
use Rattle.std.specs.Str.{bytes_eq}
use Rattle.std.proofs.lemmas.List.{length-map}
use Rattle.std.proofs.lemmas.List.Elements.{All-head, All-tail}
use Rattle.gs_drive.specs.Cause.{Cause}
use Rattle.gs_drive.specs.Pieces.{HasPieces}
use Rattle.gs_drive.specs.Read.{HasRead}
use Rattle.gs_drive.specs.Tokens.{token_of, tokens_from}
use Rattle.gs_drive.specs.declared.refusal.Refusal.{Refusal}
use Rattle.gs_grammar.specs.Machine.{run}
use Rattle.gs_grammar.proofs.Answers.{SameCauses}
use Rattle.gs_grammar.proofs.Runs.{begins, run-nil}
use Rattle.gs_text.specs.Bytes.{max_text}
use Rattle.gs_text.specs.Faults.{HasFault}
use Rattle.gs_text.specs.Pieces.{HasGoodText, IsUnbroken, text_of}
use Rattle.gs_text.specs.declared.kinds.Kind.{Kind}
use Rattle.gs_text.specs.declared.kinds.Kind.TheVariants.{Word, Escaped, Text, Mark}
use Rattle.gs_text.specs.declared.kinds.Piece.{Piece}
use Rattle.gs_text.specs.declared.kinds.Style.TheVariants.{Verilog}
use Rattle.gs_text.specs.declared.kinds.TextErr.{TextErr}
use Rattle.gs_verilog.specs.Circuit.{Circuit, IsNetlist}
use Rattle.gs_verilog.specs.Index.{refusal_of}
use Rattle.gs_verilog.specs.Machine.{State, step, no_rule, named_before, arrived, next, moved, class, start, with_net}
use Rattle.gs_verilog.specs.Refusal.{HasCause, IsVerilog}
use Rattle.gs_verilog.specs.Text.{VerilogText, number}
use Rattle.gs_verilog.specs.Token.{Token, token, tokens}
use Rattle.gs_verilog.specs.Tree.{IsForm}
use Rattle.gs_verilog.specs.declared.error.Rule.{Rule}
use Rattle.gs_verilog.specs.declared.error.VerilogErr.{VerilogErr}
use Rattle.gs_verilog.specs.declared.machine.Place.{Place}
use Rattle.gs_verilog.specs.declared.machine.Place.TheVariants.{Names, Instance, Net}
use Rattle.gs_verilog.specs.declared.machine.Role.TheVariants.{Input, Output, Wire}
use Rattle.gs_verilog.specs.declared.parts.Link.{Link}
use Rattle.gs_verilog.specs.declared.parts.RawInst.{RawInst}
use Rattle.gs_verilog.proofs.Fits.{HoldsAt, HoldsOf, with_net-few}
use Rattle.gs_verilog.proofs.Indexes.{length-with_link}
use Rattle.gs_verilog.proofs.Laws.{kept, run_of_text}
use Rattle.gs_verilog.proofs.Rules.{allowed}

-- ---- one step adds at most one net and one instance

pub record AddsFew (c d : Circuit) : Type 0 where
  pub nets : length d.nets ≤ length c.nets + 1
  pub insts : length d.insts ≤ length c.insts + 1

net_few : (c : Circuit) (x : List ℕ) → length (with_net c.nets x) ≤ length c.nets + 1
net_few c x = with_net-few c.nets x (list_any (bytes_eq x) c.nets) refl

moved_few : (p to : Place) (c : Circuit) (cell pin text : List ℕ) → AddsFew c (moved p to c cell pin text).circuit
moved_few (Names Input) to c cell pin text = record { nets = net_few c text; insts = omega arith }
moved_few (Names Output) to c cell pin text = record { nets = net_few c text; insts = omega arith }
moved_few (Names Wire) to c cell pin text = record { nets = net_few c text; insts = omega arith }
moved_few Instance to c cell pin text =
    let i : RawInst = record { name = text; cell = cell; links = [] } in
    record { nets = omega arith; insts = omega (arith, length-append c.insts (i ∷ [])) }
moved_few Net to c cell pin text =
    let l : Link = record { pin = pin; net = number c.nets text } in
    record { nets = net_few c text; insts = omega (arith, length-with_link c.insts l) }
moved_few _ to c cell pin text = record { nets = omega arith; insts = omega arith }

arrived_few : (o : Option Place) (s m : State) (text : List ℕ) → arrived no_rule o s text ≡ Ok m → AddsFew s.circuit m.circuit
arrived_few None s m text h = cc
arrived_few (Some to) s m text h =
    let same : moved s.place to s.circuit s.cell s.pin text ≡ m = cc in
    let P : State → Type 0 = λ x. AddsFew s.circuit x.circuit in
    subst P same (moved_few s.place to s.circuit s.cell s.pin text)

pub step_few : (s m : State) (t : Token) → step named_before s t ≡ Ok m → AddsFew s.circuit m.circuit
step_few s m t h = arrived_few (next s.place (class t)) s m t.text (allowed s m t h).free

-- ---- the tokens of pieces

good_of : (kind : Kind) (text : List ℕ) → HasGoodText kind text → HoldsOf IsUnbroken kind text
good_of Word text h = h
good_of Escaped text h = h
good_of Text text h = h
good_of Mark text h = h

pub good_tokens : (bytes : List ℕ) (ps : List Piece) → All (λ (p : Piece). HasGoodText p.kind (text_of bytes p)) ps → AllByRecursion (HoldsAt IsUnbroken) (map (token_of token bytes) ps)
good_tokens bytes [] h = tt
good_tokens bytes (p ∷ ps) h =
    let P : Piece → Type 0 = λ q. HasGoodText q.kind (text_of bytes q) in
    (good_of p.kind (text_of bytes p) (All-head P p ps h), good_tokens bytes ps (All-tail P p ps h))

-- ---- what a reader that has read so much may rest on

pub record AreFew (n : ℕ) (c : Circuit) : Type 0 where
  pub nets : length c.nets ≤ n
  pub insts : length c.insts ≤ n

few_after : (m n : ℕ) (c d : Circuit) → AreFew m c → AddsFew c d → m + 1 ≤ n → AreFew n d
few_after m n c d f a le = record { nets = omega (arith, f.nets, a.nets); insts = omega (arith, f.insts, a.insts) }

run_few_from : (ts : List Token) (s end : State) (n : ℕ) → run (step named_before) s ts ≡ Ok end → AreFew n s.circuit → AreFew (n + length ts) end.circuit
run_few_from [] s end n h f =
    let same : s ≡ end = cc (run-nil (step named_before) s) in
    let P : State → Type 0 = λ x. AreFew (n + 0) x.circuit in
    subst P same (record { nets = omega (arith, f.nets); insts = omega (arith, f.insts) })
run_few_from (t ∷ ts) s end n h f =
    let b = begins (step named_before) s end t ts h in
    let next : AreFew (n + 1) b.middle.circuit = few_after n (n + 1) s.circuit b.middle.circuit f (step_few s b.middle t b.first) (omega arith) in
    let all = run_few_from ts b.middle end (n + 1) b.rest next in
    record { nets = omega (arith, all.nets); insts = omega (arith, all.insts) }

-- so many tokens make at most as many nets and instances
run_few : (ts : List Token) (end : State) → run (step named_before) start ts ≡ Ok end → AreFew (length ts) end.circuit
run_few ts end h =
    let all = run_few_from ts start end 0 h (record { nets = omega arith; insts = omega arith }) in
    record { nets = omega (arith, all.nets); insts = omega (arith, all.insts) }

abbrev pub Read : State → Type 0
Read s = HasRead token (step named_before) start s

pub read_few : (s : State) → Read s → AreFew max_text s.circuit
read_few s h =
    let f = run_few (map (token_of token h.bytes) h.pieces) s h.run_is in
    let n = length-map h.pieces (token_of token h.bytes) in
    record { nets = omega (arith, f.nets, n, h.few); insts = omega (arith, f.insts, n, h.few) }

pub read_kept : (s : State) → Read s → IsNetlist s.circuit
read_kept s h = kept (map (token_of token h.bytes) h.pieces) s h.run_is (good_tokens h.bytes h.pieces h.solid)

-- ---- the clauses of the public call

text_few : (ts : List Token) (c : Circuit) → VerilogText ts c → length c.insts ≤ length ts
text_few ts c t =
    let w = run_of_text ts c t in
    let f = run_few ts w.end w.by in
    omega (arith, f.insts, ap (λ (d : Circuit). length d.insts) w.circuit)

few_by : (bytes : List ℕ) (c : Circuit) → IsVerilog bytes c → HasPieces Verilog bytes → length c.insts ≤ length bytes
few_by bytes c v h =
    let found : tokens bytes ≡ Ok (map (token_of token bytes) h.found) = ap (tokens_from token bytes) h.cut_is in
    let same : v.0 ≡ map (token_of token bytes) h.found = cc (v.1, found) in
    omega (arith, text_few v.0 c v.2, ap (λ (ts : List Token). length ts) same, length-map h.found (token_of token bytes), h.few)

pub few_insts : (bytes : List ℕ) (r : Result Circuit (Refusal Rule)) → IfOk r (λ c. IsVerilog bytes c) → IfOk r (λ _. HasPieces Verilog bytes)
    → IfOk r (λ c. length c.insts ≤ length bytes)
few_insts bytes (Ok c) v h = few_by bytes c v h
few_insts bytes (Err e) v h = tt

-- the driver's causes
abbrev pub Causes : List ℕ → Refusal Rule → Type 0
Causes bytes e = Cause (HasFault Verilog bytes) IsForm VerilogText (λ _ (_ : Rule). Unit {0}) (tokens bytes) e

named : (bytes : List ℕ) (e : Refusal Rule) → Causes bytes e → HasCause bytes (refusal_of e)
named bytes (Refusal.Text (TextErr.OpenString at)) c = absurd c
named bytes (Refusal.Text (TextErr.OpenComment at)) c = c
named bytes (Refusal.Text TextErr.Mem) c = tt
named bytes (Refusal.Bad i) c = c
named bytes (Refusal.Broken i rule) c = (c.0, c.1, c.2.0)
named bytes (Refusal.Early i) c = c
named bytes Refusal.Mem c = tt

back : (bytes : List ℕ) (f : VerilogErr) → f ≢ VerilogErr.Mem → HasCause bytes f → (e : Refusal Rule) × (Causes bytes e) × (refusal_of e ≡ f)
back bytes (VerilogErr.OpenComment at) n c = (Refusal.Text (TextErr.OpenComment at), c, refl)
back bytes (VerilogErr.BadPiece i) n c = (Refusal.Bad i, c, refl)
back bytes (VerilogErr.TwoNames i) n c = (Refusal.Broken i Rule.NamesDiffer, (c.0, c.1, (c.2, tt)), refl)
back bytes (VerilogErr.NoEnd i) n c = (Refusal.Early i, c, refl)
back bytes VerilogErr.Mem n c = absurd (n refl)

stays : (bytes : List ℕ) (e : Refusal Rule) → e ≢ Refusal.Mem → Causes bytes e → refusal_of e ≢ VerilogErr.Mem
stays bytes (Refusal.Text (TextErr.OpenString at)) n c h = cc
stays bytes (Refusal.Text (TextErr.OpenComment at)) n c h = cc
stays bytes (Refusal.Text TextErr.Mem) n c h = c
stays bytes (Refusal.Bad i) n c h = cc
stays bytes (Refusal.Broken i rule) n c h = cc
stays bytes (Refusal.Early i) n c h = cc
stays bytes Refusal.Mem n c h = n refl

pub same_causes : (bytes : List ℕ) → SameCauses Refusal.Mem VerilogErr.Mem refusal_of (Causes bytes) (HasCause bytes)
same_causes bytes = record { memory = refl; there = named bytes; back = back bytes; stays = stays bytes }
