-- What it is for an f64 to be nearer to a root than another, and to lie from 1 to 2 ^ 32: the words of the theorems about roots. Definitions only.
use Rattle.std.specs.Prelude.{ℕ, ◌+◌, ◌*◌, ◌<◌, false, T, pos, Float}
use Rattle.std.specs.Float.{fin, binary64}
use Rattle.std.specs.Float.Ieee.{fits, le}
use Rattle.std.specs.Float.Ieee.Positive.{num, den, positive}

-- r is nearer to √n than y is, unless they are of one size: where y is above r, √n < (r + y) / 2, and where y is below r, (r + y) / 2 < √n. Each is said of the squares, times 4
-- and the square of the denominators' product. A value is read without its sign: `num` / `den`.
pub record Nearer (n : ℕ) (r y : Float) : Type 0 where
  pub above : num r * den y < num y * den r → 4 * (n * (den r * den y * (den r * den y))) < (num r * den y + num y * den r) * (num r * den y + num y * den r)
  pub below : num y * den r < num r * den y → (num r * den y + num y * den r) * (num r * den y + num y * den r) < 4 * (n * (den r * den y * (den r * den y)))

-- r is an f64, finite and above zero, from 1 to 2 ^ 32
pub record Bounded (r : Float) : Type 0 where
  pub holds : T (fits binary64 r)
  pub above : T (positive r)
  pub least : T (le (fin false 1 (pos 0)) r)
  pub most : T (le r (fin false 1 (pos 32)))
