-- What C is told of an answer or a refusal: the structs of include/tishkolan.h. A refusal has its number and what it carries, by the table of `refusal`; the answer beside it
-- is zero where the call refuses. An answer into a lent buffer fills its front and leaves the rest; a refusal leaves all of it. Definitions only.
use Rattle.snap.specs.declared.BitsOfPoint.{BitsOfPoint}
use Rattle.std.specs.Prelude.{Bool, true, false, List, ◌++◌, ℕ, leb, ℤ, pos, length, drop, Float, Result, Ok, Err}
use Rattle.std.specs.Float.{binary64}
use Rattle.std.specs.Float.Ieee.{to_bits}
use Rattle.refusal.specs.declared.Coord.{Coord}
use Rattle.refusal.specs.declared.Room.TheVariants.{Output}
use Rattle.refusal.specs.declared.Refusal.{Refusal}
use Rattle.refusal.specs.declared.Refusal.TheVariants.{NoRoom}
use Rattle.refusal.specs.Refusals.{no_coord, row_of}
use Rattle.lattice.specs.declared.Parity.{Parity}
use Rattle.lattice.specs.declared.Parity.TheVariants.{Even, Odd}
use Rattle.face.specs.declared.RefusalTold.{RefusalTold}
use Rattle.face.specs.declared.NumberTold.{NumberTold}
use Rattle.face.specs.declared.BitsTold.{BitsTold}
use Rattle.face.specs.declared.CoordTold.{CoordTold}
use Rattle.face.specs.declared.PointTold.{PointTold}
use Rattle.general.specs.Refuse.{refuse_unless}

-- ---- refusals

-- a refusal by its number, its room and its coordinates
abbrev pub telling : ℕ → ℕ → Coord → RefusalTold
telling n room c = record { number = n; room = room; x = c.x; y = c.y; z = c.z }

-- no refusal
abbrev pub answered : RefusalTold
answered = telling 0 0 no_coord

-- number, room and coordinates of its row. 7, 8, 12 and 30 to 35 carry more than these fields hold: the calls that give them have structs of their own, filled from the same row
abbrev pub told_of : Refusal → RefusalTold
told_of r = telling (row_of r).number (row_of r).room (row_of r).coord

-- ---- answers that are numbers, bits or a place

-- an answer that is a number
abbrev pub number_told : ℤ → NumberTold
number_told n = record { refusal = answered; value = n }

-- refused: the number is zero
abbrev pub no_number : Refusal → NumberTold
no_number r = record { refusal = told_of r; value = pos 0 }

-- a number, or the refusal
abbrev pub of_number : Result ℤ Refusal → NumberTold
of_number (Ok n) = number_told n
of_number (Err r) = no_number r

-- 0 even, 1 odd
abbrev pub parity_number : Parity → ℤ
parity_number Even = pos 0
parity_number Odd = pos 1

-- a parity by its number, or the refusal
abbrev pub of_parity : Result Parity Refusal → NumberTold
of_parity (Ok p) = number_told (parity_number p)
of_parity (Err r) = no_number r

-- 1 for yes, 0 for no
abbrev pub truth_number : Bool → ℤ
truth_number true = pos 1
truth_number false = pos 0

-- whether something is so, or the refusal
abbrev pub of_truth : Result Bool Refusal → NumberTold
of_truth (Ok b) = number_told (truth_number b)
of_truth (Err r) = no_number r

-- an answer that is 64 bits
abbrev pub bits_told : ℕ → BitsTold
bits_told b = record { refusal = answered; bits = b }

-- refused: the bits are zero
abbrev pub no_bits : Refusal → BitsTold
no_bits r = record { refusal = told_of r; bits = 0 }

-- a root by its bits, or the refusal
abbrev pub of_root : Result ℕ Refusal → BitsTold
of_root (Ok b) = bits_told b
of_root (Err r) = no_bits r

-- a distance by its bits, or the refusal
abbrev pub of_distance : Result Float Refusal → BitsTold
of_distance (Ok d) = bits_told (to_bits binary64 d)
of_distance (Err r) = no_bits r

-- a place, or the refusal with zeros for the place
abbrev pub of_coord : Result Coord Refusal → CoordTold
of_coord (Ok c) = record { refusal = answered; x = c.x; y = c.y; z = c.z }
of_coord (Err r) = record { refusal = told_of r; x = pos 0; y = pos 0; z = pos 0 }

-- a physical point by its bits, or the refusal with zeros for it
abbrev pub of_point : Result BitsOfPoint Refusal → PointTold
of_point (Ok p) = record { refusal = answered; x = p.x; y = p.y; z = p.z }
of_point (Err r) = record { refusal = told_of r; x = 0; y = 0; z = 0 }

-- ---- answers into a lent buffer

-- what a call says, and what stands in the buffer when it returns
pub record Filled (A : Type 0) : Type 0 where
  pub told : RefusalTold
  pub out : List A

-- this told, with this in the buffer
abbrev pub filled : {A : Type 0} → RefusalTold → List A → Filled A
filled t l = record { told = t; out = l }

-- l in place of as many elements at the front
abbrev pub fronted : {A : Type 0} → List A → List A → List A
fronted l out = l ++ drop (length l) out

-- l at the front, if there is room for it: NoRoom 3 otherwise
abbrev pub fill : {A : Type 0} → List A → List A → Filled A
fill l out = refuse_unless (leb (length l) (length out)) (filled (told_of (NoRoom Output)) out) (filled answered (fronted l out))

-- what is made of an answer at the front so; a refusal leaves the buffer as it was
abbrev pub fill_by : {A B : Type 0} → (A → List B) → Result A Refusal → List B → Filled B
fill_by f (Err r) out = filled (told_of r) out
fill_by f (Ok x) out = fill (f x) out
