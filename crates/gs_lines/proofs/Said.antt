-- What is said of an input is an answer to it.

use Rattle.std.proofs.Common.{◌≡◌, inr, Result, Ok, Err}
use Rattle.gs_grammar.specs.Answers.{Answers}

-- what is said is an answer
pub says_itself : {V E : Type 0} (mem : E) (said r : Result V E) → said ≡ r → Answers mem said r
says_itself mem said (Ok v) h = h
says_itself mem said (Err e) h = inr h
