-- The table "Refusal numbers" of the scope document, and the refusals that requests add to it: each refusal's number and all that it carries, in the order of the numbers. What C is told
-- of a refusal and what the report prints of it are made of its row and of nothing else. Definitions only.
use Rattle.std.specs.Prelude.{ℕ, ◌+◌, ◌*◌, ◌/◌, ◌%◌, ◌^◌, pos}
use Rattle.refusal.specs.declared.Coord.{Coord}
use Rattle.refusal.specs.declared.Cell.{Cell}
use Rattle.refusal.specs.declared.Ends.{Ends}
use Rattle.refusal.specs.declared.Spent.{Spent}
use Rattle.refusal.specs.declared.RefusalRow.{RefusalRow}
use Rattle.refusal.specs.declared.Room.{Room}
use Rattle.refusal.specs.declared.Room.TheVariants.{Known, Waiting, Output, Layer}
use Rattle.refusal.specs.declared.LabelFault.{LabelFault}
use Rattle.refusal.specs.declared.LabelFault.TheVariants.{Prefix, MixedCase, Character, Length, Checksum, Padding}
use Rattle.refusal.specs.declared.Refusal.{Refusal}
use Rattle.refusal.specs.declared.Refusal.TheVariants.{InvalidParity, NoParent, NoChildren, OutOfRange, NoValues, HasNan, SearchLimitExceeded, NoPathFound, CoordOverflow, NoRoom, BadWorkspace, BadFile, BadList, BadLayer, BadRule, BadLabel}

-- a cell's 128 bits as one number
unfoldable pub raw_of : Cell → ℕ
raw_of c = c.high * 2 ^ 64 + c.low

-- the cell of a raw number of 128 bits
abbrev pub cell_of : ℕ → Cell
cell_of n = record { high = n / 2 ^ 64; low = n % 2 ^ 64 }

-- ---- what a refusal carries; where it does not carry such a thing, zeros stand for it

-- zeros where a refusal carries no coordinates
abbrev pub no_coord : Coord
no_coord = record { x = pos 0; y = pos 0; z = pos 0 }

-- zeros where no cell is carried
abbrev no_cell : Cell
no_cell = record { high = 0; low = 0 }

-- zeros where no expansions and no limit are carried
abbrev pub none_spent : Spent
none_spent = record { expansions = 0; limit = 0 }

-- zeros where no start and no goal are carried
abbrev pub no_ends : Ends
no_ends = record { start = no_cell; goal = no_cell }

-- the room of refusal 10
abbrev pub room_of : Room → ℕ
room_of Known = 1
room_of Waiting = 2
room_of Output = 3
room_of Layer = 4

-- the refusals of a label: "30 for the prefix, 31 mixed case, 32 character, 33 length, 34 checksum, 35 non-zero padding"
abbrev pub fault_of : LabelFault → ℕ
fault_of Prefix = 30
fault_of MixedCase = 31
fault_of Character = 32
fault_of Length = 33
fault_of Checksum = 34
fault_of Padding = 35

-- ---- the table

-- a row of the table: the number, and all that the refusal carries
abbrev pub carrying : ℕ → Coord → Spent → Ends → ℕ → ℕ → RefusalRow
carrying number coord spent ends room place = record { number = number; coord = coord; spent = spent; ends = ends; room = room; place = place }

-- a refusal that carries nothing
abbrev pub carrying_nothing : ℕ → RefusalRow
carrying_nothing number = carrying number no_coord none_spent no_ends 0 0

-- each refusal's row, in the order of the numbers
abbrev pub row_of : Refusal → RefusalRow
row_of (InvalidParity coord) = carrying 1 coord none_spent no_ends 0 0
row_of NoParent = carrying_nothing 2
row_of NoChildren = carrying_nothing 3
row_of OutOfRange = carrying_nothing 4
row_of NoValues = carrying_nothing 5
row_of HasNan = carrying_nothing 6
row_of (SearchLimitExceeded spent) = carrying 7 no_coord spent no_ends 0 0
row_of (NoPathFound ends) = carrying 8 no_coord none_spent ends 0 0
row_of CoordOverflow = carrying_nothing 9
row_of (NoRoom room) = carrying 10 no_coord none_spent no_ends (room_of room) 0
row_of BadWorkspace = carrying_nothing 11
row_of (BadFile place) = carrying 12 no_coord none_spent no_ends 0 place
row_of BadList = carrying_nothing 13
row_of BadLayer = carrying_nothing 14
row_of BadRule = carrying_nothing 15
row_of (BadLabel m) = carrying (fault_of m.fault) no_coord none_spent no_ends 0 m.place

-- its number in the table
abbrev pub number_of : Refusal → ℕ
number_of r = (row_of r).number

-- the byte place of refusal 12 and the place of 30 to 35; the others have none
abbrev pub place_of : Refusal → ℕ
place_of r = (row_of r).place
