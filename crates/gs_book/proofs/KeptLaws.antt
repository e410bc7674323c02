-- What a book keeps after one more entry.

use Rattle.std.proofs.Common.{◌≡◌, ℕ, suc, Bool, true, false, ◌&&◌, ◌==◌, List, [], ◌∷◌, ◌++◌, length, slice_index, slice_set, refl, sym, ◌∙◌, ap, subst}
use Rattle.std.specs.Prelude.{if◌then◌else◌}
use Rattle.std.proofs.lemmas.Bool.Decides.{Decides-eqb}
use Rattle.std.proofs.lemmas.Grind.{get_or-set_at}
use Rattle.std.proofs.lemmas.List.{get_or-set_other, length-set}
use Rattle.gs_book.specs.Book.{IsKept}
use Rattle.gs_book.specs.Journal.{committed_at}
use Rattle.gs_book.specs.Noted.{IsNoted, Noted, noted_with, spot_of}
use Rattle.gs_design.specs.Sizes.{FitSizes}
use Rattle.gs_design.specs.Timing.{FitTiming, timing_of}
use Rattle.gs_design.specs.declared.design.Design.{Design}
use Rattle.gs_design.specs.declared.time.NetTime.{NetTime}
use Rattle.gs_move.specs.Delta.{AreInstalled, AreRecordsFor}
use Rattle.gs_move.specs.Entries.{IsMoveOf, is_commit}
use Rattle.gs_move.specs.Judge.{Answers}
use Rattle.gs_move.specs.Legal.{IsLegal}
use Rattle.gs_move.specs.Moves.{after}
use Rattle.gs_move.specs.Settle.{last_reject, rejects, same_move}
use Rattle.gs_move.specs.State.{sizes_now}
use Rattle.gs_move.specs.Trial.{changed_nets, delta_of}
use Rattle.gs_move.specs.declared.delta.Delta.{Delta}
use Rattle.gs_move.specs.declared.entry.Entry.{Entry}
use Rattle.gs_move.specs.declared.entry.Entry.TheVariants.{Commit, Reject}
use Rattle.gs_move.specs.declared.moves.Move.{Move}
use Rattle.gs_move.specs.declared.trial.JournalEntry.{JournalEntry}
use Rattle.gs_book.proofs.JournalLaws.{journal_commit, journal_reject, sizes_commit, sizes_reject}
use Rattle.gs_book.proofs.NotedLaws.{last_push, spot_alone, spot_in}

apart : (b : Bool) → b ≡ true → b ≡ false → ⊥
apart b t f = absurd cc

both : (a b : Bool) → (a && b) ≡ true → (a ≡ true) × (b ≡ true)
both true b e = (refl, e)
both false b e = absurd cc

move_is : (a b : Move) → same_move a b ≡ true → a ≡ b
move_is a b e =
    let parts = both (a.inst == b.inst) (a.place == b.place) e in
    λ i. record { inst = (Decides-eqb a.inst b.inst).0 parts.0 i; place = (Decides-eqb a.place b.place).0 parts.1 i }

module _ (d : Design) (es : List Entry) (x : Noted) (noted : IsNoted d es x) (m : Move) (h : IsMoveOf d m) (w : ℕ) where
  number_by : (n : Move) → IsMoveOf d n → (b : Bool) → same_move n m ≡ b
      → slice_index (slice_set x.numbers (spot_of x.starts m) (suc (length es))) (spot_of x.starts n) ≡ (if b then suc (length es) else last_reject es (length es) n)
  number_by n hn true e =
      get_or-set_at x.numbers (spot_of x.starts m) (spot_of x.starts n) (suc (length es)) 0 (ap (spot_of x.starts) (move_is n m e)) (spot_in d x noted.places m h)
  number_by n hn false e =
      get_or-set_other x.numbers (spot_of x.starts m) (spot_of x.starts n) (suc (length es)) 0 (λ same. apart (same_move n m) (spot_alone d x noted.places m n h hn same) e)
      ∙ noted.each n hn

  noted_reject : IsNoted d (es ++ Reject m w ∷ []) (noted_with x m (suc (length es)))
  noted_reject = record {
    places = record { as_many = noted.places.as_many; begin = noted.places.begin; whole = length-set x.numbers (spot_of x.starts m) (suc (length es)) ∙ noted.places.whole };
    each = λ n hn. number_by n hn (same_move n m) refl ∙ sym (last_push (rejects n) es (Reject m w));
  }

  noted_commit : IsNoted d (es ++ Commit m w ∷ []) x
  noted_commit = record { places = noted.places; each = λ n hn. noted.each n hn ∙ sym (last_push (rejects n) es (Commit m w)) }

module _ (J : Answers) (d : Design) (start : List ℕ) (budget : ℕ) (es : List Entry) (journal : List JournalEntry) (sizes : List ℕ) (timing : List NetTime) (x : Noted) (last : ℕ)
    (kept : IsKept J d start budget es journal sizes timing x last) (m : Move) (h : IsMoveOf d m) (w : ℕ) where
  -- a reject is noted at the move's place
  pub kept_reject : IsLegal J d start budget (es ++ Reject m w ∷ []) → IsKept J d start budget (es ++ Reject m w ∷ []) journal sizes timing (noted_with x m (suc (length es))) last
  kept_reject legal = record {
    fits = kept.fits;
    sizes_are = kept.sizes_are ∙ sym (sizes_reject start es m w);
    sizes_fit = kept.sizes_fit;
    timing_is = kept.timing_is;
    journal_is = kept.journal_is ∙ sym (journal_reject d start es m w);
    legal = legal;
    noted = noted_reject d es x kept.noted m h w;
    last_is = kept.last_is ∙ sym (last_push is_commit es (Reject m w));
  }

  -- a commit changes sizes, timing and journal as its move does, and is the last
  pub kept_commit : (t : List NetTime) → FitSizes d (after sizes m) → t ≡ timing_of d (after sizes m) → IsLegal J d start budget (es ++ Commit m w ∷ [])
      → IsKept J d start budget (es ++ Commit m w ∷ []) (journal ++ committed_at d (sizes_now start es) m w ∷ []) (after sizes m) t x (suc (length es))
  kept_commit t fit timed legal = record {
    fits = kept.fits;
    sizes_are = ap (λ s. after s m) kept.sizes_are ∙ sym (sizes_commit start es m w);
    sizes_fit = fit;
    timing_is = timed;
    journal_is = ap (λ js. js ++ committed_at d (sizes_now start es) m w ∷ []) kept.journal_is ∙ sym (journal_commit d start es m w);
    legal = legal;
    noted = noted_commit d es x kept.noted m h w;
    last_is = sym (last_push is_commit es (Commit m w));
  }

  -- the same where a delta of the move at these sizes was installed
  pub kept_installed : (delta : Delta) (t : List NetTime) → delta ≡ delta_of m (changed_nets d (sizes_now start es) m) → AreInstalled delta.nets timing t
      → (AreInstalled (changed_nets d (sizes_now start es) m) (timing_of d (sizes_now start es)) t → t ≡ timing_of d (after (sizes_now start es) m))
      → FitSizes d (after (sizes_now start es) m) → IsLegal J d start budget (es ++ Commit m w ∷ [])
      → IsKept J d start budget (es ++ Commit m w ∷ []) (journal ++ record { mv = m; worker = w; delta = delta } ∷ []) (slice_set sizes delta.inst delta.place) t x (suc (length es))
  kept_installed delta t is installed exact fit legal =
      let nets : AreInstalled (changed_nets d (sizes_now start es) m) timing t = subst (λ (δ : Delta). AreInstalled δ.nets timing t) is installed in
      let before : timing ≡ timing_of d (sizes_now start es) = kept.timing_is ∙ ap (timing_of d) kept.sizes_are in
      let now : t ≡ timing_of d (after (sizes_now start es) m) = exact (subst (λ u. AreInstalled (changed_nets d (sizes_now start es) m) u t) before nets) in
      subst (λ (δ : Delta). IsKept J d start budget (es ++ Commit m w ∷ []) (journal ++ record { mv = m; worker = w; delta = δ } ∷ []) (slice_set sizes δ.inst δ.place) t x (suc (length es))) (sym is)
      (kept_commit t (subst (λ s. FitSizes d (after s m)) (sym kept.sizes_are) fit) (now ∙ ap (λ s. timing_of d (after s m)) (sym kept.sizes_are)) legal)

-- such a delta can be installed
pub installable : (d : Design) (s : List ℕ) (m : Move) (delta : Delta) (timing : List NetTime) → delta ≡ delta_of m (changed_nets d s m) → timing ≡ timing_of d s → FitTiming d (timing_of d s)
    → AreRecordsFor (length d.nets) (changed_nets d s m) → AreRecordsFor (length timing) delta.nets
installable d s m delta timing is timed whole fits =
    subst (λ n. AreRecordsFor n delta.nets) (sym (ap length timed ∙ whole))
    (subst (λ (δ : Delta). AreRecordsFor (length d.nets) δ.nets) (sym is) fits)
