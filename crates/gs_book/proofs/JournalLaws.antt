-- The journal of one more entry, and the sizes after it.

use Rattle.std.proofs.Common.{◌≡◌, ℕ, suc, List, [], ◌∷◌, ◌++◌, map, length, refl, ap}
use Rattle.gs_book.specs.Journal.{committed_at, journal_move, journal_of}
use Rattle.gs_design.specs.declared.design.Design.{Design}
use Rattle.gs_move.specs.Entries.{commits_of}
use Rattle.gs_move.specs.Moves.{after}
use Rattle.gs_move.specs.State.{sizes_now}
use Rattle.gs_move.specs.declared.entry.Entry.{Entry}
use Rattle.gs_move.specs.declared.entry.Entry.TheVariants.{Commit, Reject}
use Rattle.gs_move.specs.declared.moves.Move.{Move}

pub journal_moves : (d : Design) (s : List ℕ) (es : List Entry) → map journal_move (journal_of d s es) ≡ commits_of es
journal_moves d s [] = refl
journal_moves d s (Commit m w ∷ es) = ap (λ ms. m ∷ ms) (journal_moves d (after s m) es)
journal_moves d s (Reject m w ∷ es) = journal_moves d s es

pub journal_length : (d : Design) (s : List ℕ) (es : List Entry) → length (journal_of d s es) ≡ length (commits_of es)
journal_length d s [] = refl
journal_length d s (Commit m w ∷ es) = ap suc (journal_length d (after s m) es)
journal_length d s (Reject m w ∷ es) = journal_length d s es

pub journal_commit : (d : Design) (s : List ℕ) (es : List Entry) (m : Move) (w : ℕ)
    → journal_of d s (es ++ Commit m w ∷ []) ≡ journal_of d s es ++ committed_at d (sizes_now s es) m w ∷ []
journal_commit d s [] m w = refl
journal_commit d s (Commit n v ∷ es) m w = ap (λ js. committed_at d s n v ∷ js) (journal_commit d (after s n) es m w)
journal_commit d s (Reject n v ∷ es) m w = journal_commit d s es m w

pub journal_reject : (d : Design) (s : List ℕ) (es : List Entry) (m : Move) (w : ℕ) → journal_of d s (es ++ Reject m w ∷ []) ≡ journal_of d s es
journal_reject d s [] m w = refl
journal_reject d s (Commit n v ∷ es) m w = ap (λ js. committed_at d s n v ∷ js) (journal_reject d (after s n) es m w)
journal_reject d s (Reject n v ∷ es) m w = journal_reject d s es m w

pub sizes_commit : (s : List ℕ) (es : List Entry) (m : Move) (w : ℕ) → sizes_now s (es ++ Commit m w ∷ []) ≡ after (sizes_now s es) m
sizes_commit s [] m w = refl
sizes_commit s (Commit n v ∷ es) m w = sizes_commit (after s n) es m w
sizes_commit s (Reject n v ∷ es) m w = sizes_commit s es m w

pub sizes_reject : (s : List ℕ) (es : List Entry) (m : Move) (w : ℕ) → sizes_now s (es ++ Reject m w ∷ []) ≡ sizes_now s es
sizes_reject s [] m w = refl
sizes_reject s (Commit n v ∷ es) m w = sizes_reject (after s n) es m w
sizes_reject s (Reject n v ∷ es) m w = sizes_reject s es m w
