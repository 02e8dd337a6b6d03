-- The points of the scope document's section "Known points" that are marked P, in its order, as one table: each row is an equation of two values that compute, the left one of what
-- the contracts of the C calls cite.
use Rattle.std.specs.Prelude.{Ok, Err}
use mathlib.Core.Path.{◌≡◌, refl}
use mathlib.Core.Bool.{true, false}
use mathlib.Core.List.{List, [], ◌∷◌, ◌++◌, flat_map}
use Prim.Native.Nat.{ℕ}
use lib.IntN.{pos, negsuc}
use lib.Ieee.{Float, fin, of_bits, to_bits}
use lib.ListN.{replicate}
use Rattle.refusal.specs.declared.Refusal.TheVariants.{InvalidParity, OutOfRange}
use Rattle.root.specs.Root.{root_bits_of}
use Rattle.lattice.specs.Lattice.{at, is_lattice_point, parity_of, parent_of}
use Rattle.snap.specs.Snap.{point, snap_of}
use Rattle.refusal.specs.Refusals.{raw_of}
use Rattle.words.specs.Word.{low_digits, number, ordered, bytes_of, word}
use Rattle.cell.specs.Cell.{packed}
use Rattle.cell.specs.Bytes.{cell_bytes}
use Rattle.cell_list.specs.Listing.{cells_laid}
use Rattle.search.specs.Plan.{search_of}
use Rattle.known.specs.Workspace.{in_rooms}
use Rattle.astar.specs.Call.{has_rooms, search_in, asking, buffers}
use Rattle.face.specs.declared.RefusalTold.{RefusalTold}
use Rattle.face.specs.declared.SearchTold.{SearchTold}
use Rattle.face.specs.Told.{filled}
use Rattle.face.specs.Searches.{SearchingTold, search_told, of_searched}
use Rattle.face.specs.Cells.{new_told}
use Rattle.table.specs.Records.{layer}

abbrev nought : Float
nought = fin false 0 (pos 0)

abbrev half : Float
half = fin false 1 (negsuc 0)

-- a refusal of which nothing but the number is told; 0 is none
abbrev carrying_nothing : ℕ → RefusalTold
carrying_nothing n = record { number = n; room = 0; x = pos 0; y = pos 0; z = pos 0 }

-- ---- searches

-- the bytes of a plain cell of frame 0 and resolution 0, each coordinate below 256: z comes first
abbrev plain : ℕ → ℕ → ℕ → List ℕ
plain x y z = 0 ∷ 0 ∷ 0 ∷ z ∷ 0 ∷ 0 ∷ 0 ∷ y ∷ 0 ∷ 0 ∷ 0 ∷ x ∷ 0 ∷ 0 ∷ 0 ∷ 0 ∷ []

-- from (0,0,0) to (2,2,0) with no flags kept, in rooms of 32 cells and 32 entries, with an output of 4 cells; each lent byte is 9 at entry
abbrev searching : ℕ → ℕ → SearchingTold
searching rule limit = of_searched (search_in (asking (plain 0 0 0) (plain 2 2 0) (in_rooms 32 32) limit rule (layer [] 0)) (buffers (replicate 1472 9) (replicate 1024 9) (replicate 64 9)))

-- what C is told; both workspaces are zeros at exit
abbrev leaves : SearchTold → List ℕ → SearchingTold
leaves t out = search_told t (replicate 1472 0) (replicate 1024 0) out

abbrev route_of : ℕ → ℕ → ℕ → SearchTold
route_of cells cost expansions = record { refusal = carrying_nothing 0; cells = cells; cost = cost; expansions = expansions; limit = 0; start_high = 0; start_low = 0; goal_high = 0; goal_low = 0 }

abbrev beyond : ℕ → ℕ → SearchTold
beyond expansions limit = record { refusal = carrying_nothing 7; cells = 0; cost = 0; expansions = expansions; limit = limit; start_high = 0; start_low = 0; goal_high = 0; goal_low = 0 }

pub record SearchCalls (rule : ℕ) : Type 0 where
  -- the route through (1,1,1), its cost and its expansions
  pub route : searching rule 100000 ≡ leaves (route_of 3 0x400B_B67A_E858_4CAA 3) (plain 0 0 0 ++ (plain 1 1 1 ++ (plain 2 2 0 ++ replicate 16 9)))
  -- limit 2 refuses with 3, 2; limit 0 with 1, 0
  pub limit-two : searching rule 2 ≡ leaves (beyond 3 2) (replicate 64 9)
  pub limit-nought : searching rule 0 ≡ leaves (beyond 1 0) (replicate 64 9)

pub search-calls-free : SearchCalls 0
unfolding search_in has_rooms word number ordered search_of packed raw_of cells_laid flat_map cell_bytes bytes_of low_digits
search-calls-free = record { route = refl; limit-two = refl; limit-nought = refl }

pub search-calls-avoiding : SearchCalls 1
unfolding search_in has_rooms word number ordered search_of packed raw_of cells_laid flat_map cell_bytes bytes_of low_digits
search-calls-avoiding = record { route = refl; limit-two = refl; limit-nought = refl }

-- ---- the table

pub record KnownPoints : Type 0 where
  -- fields (0,3), (1,-1,1), exponent 28, flags 165: 00000001 FFFFFFFF 00000001 0A5C0300; the byte behind them stays
  pub bytes :
      new_told 0 3 (at (pos 1) (negsuc 0) (pos 1)) 28 165 (replicate 17 9)
      ≡ filled (carrying_nothing 0) (0x00 ∷ 0x00 ∷ 0x00 ∷ 0x01 ∷ 0xFF ∷ 0xFF ∷ 0xFF ∷ 0xFF ∷ 0x00 ∷ 0x00 ∷ 0x00 ∷ 0x01 ∷ 0x0A ∷ 0x5C ∷ 0x03 ∷ 0x00 ∷ 9 ∷ [])
  -- (0,1,0) mixed
  pub mixed : parity_of (at (pos 0) (pos 1) (pos 0)) ≡ Err (InvalidParity (at (pos 0) (pos 1) (pos 0)))
  -- parent coordinates: (4,2,2) to (1,1,1); (-2,0,0) to (-2,0,0); (-3,1,-1) to (-2,0,0)
  pub even-parent : parent_of (at (pos 4) (pos 2) (pos 2)) ≡ Ok (at (pos 1) (pos 1) (pos 1))
  pub negative-parent : parent_of (at (negsuc 1) (pos 0) (pos 0)) ≡ Ok (at (negsuc 1) (pos 0) (pos 0))
  pub odd-parent : parent_of (at (negsuc 2) (pos 1) (negsuc 0)) ≡ Ok (at (negsuc 1) (pos 0) (pos 0))
  -- snap at 0: (0.5,0.5,0.5) to (0,0,0); (-1,0,0) to (-2,0,0); (2147483646,0,0) stands, 2147483646.5 refused
  pub tie : snap_of (point half half half) 0 ≡ Ok (at (pos 0) (pos 0) (pos 0))
  pub away : snap_of (point (fin true 1 (pos 0)) nought nought) 0 ≡ Ok (at (negsuc 1) (pos 0) (pos 0))
  -- 2147483646 is 1073741823 times two, and 2147483646.5 is half of 4294967293
  pub last : snap_of (point (fin false 1073741823 (pos 1)) nought nought) 0 ≡ Ok (at (pos 2147483646) (pos 0) (pos 0))
  pub past : snap_of (point (fin false 4294967293 (negsuc 0)) nought nought) 0 ≡ Err OutOfRange
  -- root of 3.0: 0x3FFBB67AE8584CAA
  pub root-of-three : root_bits_of 0x4008_0000_0000_0000 ≡ Ok 0x3FFB_B67A_E858_4CAA
  -- (0,0,0) to (2,2,0), plain, open: the route's bytes, its cost and its expansions; limits 2 and 0; under either rule
  pub free : SearchCalls 0
  pub avoiding : SearchCalls 1

pub known-points : KnownPoints
unfolding new_told cell_bytes bytes_of low_digits ordered packed is_lattice_point parity_of parent_of snap_of root_bits_of of_bits to_bits
known-points =
    record {
      bytes = refl;
      mixed = refl;
      even-parent = refl;
      negative-parent = refl;
      odd-parent = refl;
      tie = refl;
      away = refl;
      last = refl;
      past = refl;
      root-of-three = refl;
      free = search-calls-free;
      avoiding = search-calls-avoiding;
    }
