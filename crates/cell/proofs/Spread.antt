-- What is said of a cell's places, said of the cells there: it is refused where it is refused of the places.
use Rattle.std.proofs.Common.{◌≡◌, Bool, true, false, Result, Ok, Err, refl}
use Rattle.refusal.specs.declared.Coord.{Coord}
use Rattle.refusal.specs.declared.Refusal.{Refusal}
use Rattle.refusal.specs.declared.Refusal.TheVariants.{CoordOverflow}
use Rattle.general.specs.Refuse.{refuse_unless}
use Rattle.lattice.specs.declared.Parity.{Parity}
use Rattle.lattice.specs.Lattice.{parity_of, on_parity, spread}

module _ {A B : Type 0} (f : A → B) where
  -- an answer by what is made of it; a refusal as it is
  abbrev pub made : Result A Refusal → Result B Refusal
  made (Ok x) = Ok (f x)
  made (Err r) = Err r

  by-room : (room : Bool) (x : A) → refuse_unless room (Err CoordOverflow) (Ok (f x)) ≡ made (refuse_unless room (Err CoordOverflow) (Ok x))
  by-room true x = refl
  by-room false x = refl

  by-parity : (p : Result Parity Refusal) (room : Bool) (x : A)
      → on_parity Err (λ q. refuse_unless room (Err CoordOverflow) (Ok (f x))) p ≡ made (on_parity Err (λ q. refuse_unless room (Err CoordOverflow) (Ok x)) p)
  by-parity (Ok q) room x = by-room room x
  by-parity (Err r) room x = refl

  pub spread-made : (c : Coord) (room : Bool) (x : A) → spread Err c room (Ok (f x)) ≡ made (spread Err c room (Ok x))
  spread-made c room x = by-parity (parity_of c) room x
