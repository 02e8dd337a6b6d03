-- Sizes and rooms of rings, by computation.
use Rattle.std.specs.Prelude.{Result, Ok, Err}
use Rattle.refusal.specs.declared.Refusal.{Refusal}
use mathlib.Core.Path.{◌≡◌, refl}
use mathlib.Core.Bool.{Bool, true, false}
use mathlib.Core.List.{[]}
use Prim.Native.Nat.{ℕ}
use lib.IntN.{pos}
use Rattle.refusal.specs.declared.Cell.{Cell}
use Rattle.refusal.specs.declared.Room.TheVariants.{Known, Waiting, Output}
use Rattle.refusal.specs.declared.Refusal.TheVariants.{NoRoom, InvalidParity}
use Rattle.refusal.specs.Refusals.{raw_of}
use Rattle.lattice.specs.Lattice.{at}
use Rattle.ring.specs.declared.Rooms.{Rooms}
use Rattle.ring.specs.Ring.{walk_of, listed_by}

abbrev rooms : ℕ → ℕ → ℕ → Rooms
rooms known waiting output = record { known = known; waiting = waiting; output = output }

abbrev wide : Rooms
wide = rooms 65536 65536 65536

abbrev plain : Cell
plain = record { high = 0; low = 0 }

abbrev flagged : Cell
flagged = record { high = 0; low = 0x0010_0000 }

-- at (1, 0, 0)
abbrev mixed : Cell
mixed = record { high = 0; low = 0x0000_0001_0000_0000 }

-- what a ring or a shell says
abbrev says : Bool → Rooms → ℕ → Cell → Result ℕ Refusal
says every rooms k center = (listed_by (walk_of every rooms k center) []).said

-- ---- sizes: a centre that is not plain is met again as its plain twin, two steps away

pub plain-ring-one : says true wide 1 plain ≡ Ok 15
unfolding walk_of raw_of
plain-ring-one = refl

pub flagged-ring-one : says true wide 1 flagged ≡ Ok 15
unfolding walk_of raw_of
flagged-ring-one = refl

pub plain-ring-two : says true wide 2 plain ≡ Ok 65
unfolding walk_of raw_of
plain-ring-two = refl

pub flagged-ring-two : says true wide 2 flagged ≡ Ok 66
unfolding walk_of raw_of
flagged-ring-two = refl

pub plain-shell-two : says false wide 2 plain ≡ Ok 50
unfolding walk_of raw_of
plain-shell-two = refl

pub flagged-shell-two : says false wide 2 flagged ≡ Ok 51
unfolding walk_of raw_of
flagged-shell-two = refl

-- ---- "k = 0 is the centre, unchecked"

pub mixed-alone : says true wide 0 mixed ≡ Ok 1
unfolding walk_of raw_of
mixed-alone = refl

pub mixed-expanded : says true wide 1 mixed ≡ Err (InvalidParity (at (pos 1) (pos 0) (pos 0)))
unfolding walk_of raw_of
mixed-expanded = refl

-- ---- rooms: the centre is listed before its neighbours are seen, and does not wait any more while they are

pub ring-without-output : says true (rooms 1 1 0) 1 plain ≡ Err (NoRoom Output)
unfolding walk_of raw_of
ring-without-output = refl

pub shell-without-output : says false (rooms 1 1 0) 1 plain ≡ Err (NoRoom Known)
unfolding walk_of raw_of
shell-without-output = refl

pub ring-that-waits : says true (rooms 15 13 15) 1 plain ≡ Err (NoRoom Waiting)
unfolding walk_of raw_of
ring-that-waits = refl

pub ring-that-fits : says true (rooms 15 14 15) 1 plain ≡ Ok 15
unfolding walk_of raw_of
ring-that-fits = refl
