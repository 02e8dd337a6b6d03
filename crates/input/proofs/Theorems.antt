-- What is shown in this crate beside the contracts of src/: the theorems that docs/PROMISES.md names, in words of specs/. The law behind each is the one that its proof names.
use Rattle.refusal.specs.declared.Refusal.{Refusal}
use mathlib.Core.Path.{◌≡◌}
use Prim.Native.Nat.{◌≤◌}
use lib.ListN.{length}
use borrow.Fn.Kinds.{Dens, ended_of}
use contract.Lifetimes.{Lfts}
use denote.Triple.Clauses.{AtExit}
use denote.RattleType.{RattleType}
use denote.Param.Laws.{Laws}
use mir.Syntax.{Dict}
use Rattle.std.specs.declared.io.traits.Read.{Ghosts}
use Rattle.std.specs.contracts.io.Error.{the_row as error}
use Rattle.input.proofs.report.Kinds as report-kinds
use Rattle.input.proofs.report.Reads as report
use Rattle.input.specs.Whole.{Whole}
use Rattle.std.specs.Prelude.{Result, Ok, Err, ℕ}
use Rattle.input.proofs as laws

-- A call that is lent 84 bytes or more, and in which no read failed, leaves a whole report.
pub room-enough :
    {T : RattleType} (L : Laws T) (read : Ghosts T.Denot) (dict : Dict) (κs : Lfts 3) (a : Dens κs (report-kinds.ps T L)) (z : Result (Result ℕ Refusal) error.Denot) (e : AtExit (ended_of 3 (report-kinds.ps T L) (report-kinds.r T L)) κs)
    → report.Post T L read dict κs a z e
    → (said : Result ℕ Refusal) → z ≡ Ok said → 84 ≤ length a.1.0.now → Whole said e.1.0.now
room-enough = laws.Room.room-enough

-- A call in which a read failed leaves the text as it was.
pub unchanged :
    {T : RattleType} (L : Laws T) (read : Ghosts T.Denot) (dict : Dict) (κs : Lfts 3) (a : Dens κs (report-kinds.ps T L)) (z : Result (Result ℕ Refusal) error.Denot) (e : AtExit (ended_of 3 (report-kinds.ps T L) (report-kinds.r T L)) κs)
    → report.Post T L read dict κs a z e
    → (why : error.Denot) → z ≡ Err why → e.1.0.now ≡ a.1.0.now
unchanged = laws.Room.unchanged
