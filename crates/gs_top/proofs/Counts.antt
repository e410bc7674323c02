-- Counts of faults over several calls.
use Rattle.std.proofs.Common.{◌≡◌, ◌∙◌, ℕ, ◌≤◌, arith}
use Rattle.gs_shelf.specs.Faults.{Counts, CountsStay, NoneFell, Rose}

pub rose_later : (a b c : ℕ) → a ≤ b → Rose b c → Rose a c
rose_later a b c h r = omega arith

pub rose_longer : (a b c : ℕ) → Rose a b → b ≤ c → Rose a c
rose_longer a b c r h = omega arith

at_most : (a b c : ℕ) → a ≤ b → b ≤ c → a ≤ c
at_most a b c h k = omega arith

pub fell_on : (old mid new : Counts) → NoneFell old mid → NoneFell mid new → NoneFell old new
fell_on old mid new h k = λ op name. at_most (old op name) (mid op name) (new op name) (h op name) (k op name)

pub stay_on : (old mid new : Counts) → CountsStay old mid → CountsStay mid new → CountsStay old new
stay_on old mid new h k = λ op name. k op name ∙ h op name

no_more : (a b : ℕ) → b ≡ a → a ≤ b
no_more a b e = omega arith

pub fell_still : (old new : Counts) → CountsStay old new → NoneFell old new
fell_still old new h = λ op name. no_more (old op name) (new op name) (h op name)
