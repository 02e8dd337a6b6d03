-- The numbers of the faults of a list, and of the choices between two. For contracts inside. Definitions only.
use Rattle.std.specs.Prelude.{ℕ, Result, Ok, Err}
use Rattle.route.specs.declared.Fault.{Fault}
use Rattle.route.specs.declared.Fault.TheVariants.{Empty, WrongStart, NotANeighbor, Blocked, WrongGoal, WrongCost}
use Rattle.route.specs.declared.Flown.{Flown}
use Rattle.route.specs.declared.Flown.TheVariants.{Neither, Sent, Homing}

-- "20 empty; 21 wrong start; then per index 22 not a neighbour, 23 blocked; 24 wrong goal; 25 wrong cost bits"
abbrev pub fault_number : Fault → ℕ
fault_number Empty = 20
fault_number WrongStart = 21
fault_number NotANeighbor = 22
fault_number Blocked = 23
fault_number WrongGoal = 24
fault_number WrongCost = 25

-- what was found of a list as a verdict: 0 where nothing is wrong
abbrev pub judged : Result (Unit {0}) Fault → ℕ
judged (Ok done) = 0
judged (Err fault) = fault_number fault

-- "the sent list itself if accepted, else the homing list itself if that is accepted, else an empty part of the sent one": 1, 2, 0
abbrev pub flown_number : Flown → ℕ
flown_number Neither = 0
flown_number Sent = 1
flown_number Homing = 2
