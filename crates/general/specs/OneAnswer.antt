-- What it is for a function's arguments to decide its answer, and what it leaves in the memory that was lent to it: two that both meet its contract are one. `Out n ps r` is the
-- kind of a contract that Rattle made of the source's `ensures`, so what is said here is said of the contract itself. Definitions only.
use Rattle.std.specs.Prelude.{◌≡◌, List, ℕ}
use contract.Lifetimes.{Lfts}
use denote.Triple.Clauses.{Lasts, AtExit, at_exit}
use borrow.Fn.Kinds.{ParamKind, ResultKind, Out, Dens, res_t, ended_of}

-- at the same arguments any two answers that the contract lets through are equal
abbrev pub OneAnswer : (n : ℕ) (ps : List (ParamKind n)) (r : ResultKind n) → Out n ps r → Type 0
OneAnswer n ps r Post =
    (κs : Lfts n) (a : Dens κs ps) (z z' : (res_t r κs).Denot) (e e' : AtExit (ended_of n ps r) κs) → Post κs a z e → Post κs a z' e' → z ≡ z'

-- at the same arguments any two calls that the contract lets through leave the same in lent memory: `last` is what a call leaves there
abbrev pub OneExit : (n : ℕ) (ps : List (ParamKind n)) (r : ResultKind n) → Out n ps r → Type 0
OneExit n ps r Post =
    let T = ended_of n ps r in
    (κs : Lfts n) (a : Dens κs ps) (z z' : (res_t r κs).Denot) (last last' : Lasts T κs a)
    → Post κs a z (at_exit T κs a last) → Post κs a z' (at_exit T κs a last') → at_exit T κs a last ≡ at_exit T κs a last'

-- a call that meets the contract: its arguments, its answer, and what stands in the lent memory when it returns. A theorem about a function's calls takes one
pub record Call (n : ℕ) (ps : List (ParamKind n)) (r : ResultKind n) (Post : Out n ps r) : Type 0 where
  pub lifetimes : Lfts n
  pub arguments : Dens lifetimes ps
  pub told : (res_t r lifetimes).Denot
  pub exit : AtExit (ended_of n ps r) lifetimes
  pub meets : Post lifetimes arguments told exit
