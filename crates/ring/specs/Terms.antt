-- What theorems say of rings: a ring as a smaller ring and a shell, which cells it has, and what a call's answer is. Definitions only.
use Rattle.std.specs.Prelude.{Bool, true, false, ◌↔◌, ◌≡◌, ℕ, length, Ok}
use mathlib.Core.List.{◌++◌, List, Memᴰ}
use Rattle.refusal.specs.declared.Cell.{Cell}
use Rattle.cell.specs.Bytes.{from_bytes_of}
use Rattle.cell_list.specs.Listing.{cells_laid}
use Rattle.ring.specs.Ring.{Sight, Walk, going}
use Rattle.ring.specs.Reach.{Within, Exactly, Distinct}

-- the walk that listed the inner cells, the walk that listed the outer ones, and the cells of both
pub record Parts (inner outer : Walk) (s : Sight) : Type 0 where
  pub ring : Sight
  pub shell : Sight
  pub ring-goes : inner ≡ going ring
  pub shell-goes : outer ≡ going shell
  pub joined : s.listed ≡ ring.listed ++ shell.listed

-- a ring has the cells within k steps, a shell those at exactly k
abbrev pub Has : Bool → ℕ → Cell → Cell → Type 0
Has true = Within
Has false = Exactly

-- a call's answer n and its output m: the cells of the ring or shell around the centre, each once, at the front, and behind them what stood there in l
pub record Answer (every : Bool) (center : List ℕ) (k n : ℕ) (l m : List ℕ) : Type 0 where
  pub around : Cell
  pub cells : List Cell
  pub read : from_bytes_of center ≡ Ok around
  pub which : (d : Cell) → Memᴰ d cells ↔ Has every k around d
  pub distinct : Distinct cells
  pub size : n ≡ length cells
  pub laid : m ≡ cells_laid cells l
