-- The program reads 65,536 bytes at most. A longer input is longer than any right file, so it is refused, and by its first bytes alone.
use mathlib.Core.Path.{◌≡◌, ap}
use mathlib.Core.List.{List}
use Prim.Native.Nat.{ℕ}
use native.Mathlib.Omega.{arith}
use lib.ListN.{take}
use Rattle.file.proofs.Longer.{header-by-front}
use Rattle.survey.specs.Survey.{written}
use Rattle.report_text.specs.Summary.{refused_line}
use Rattle.rewrite_bytes.specs.Rewrite.{ascending_file, rewrite_of, rewrite_in}

-- of an input the same is printed as of its first 65,536 bytes
pub longer : (l : List ℕ) → rewrite_of (take 65536 l) ≡ rewrite_of l
unfolding rewrite_of
longer l = header-by-front refused_line ascending_file 65536 (omega arith) l

-- and the same is left in the output
pub longer-in : (l out : List ℕ) → rewrite_in (take 65536 l) out ≡ rewrite_in l out
longer-in l out = ap (λ (text : List ℕ). written text out) (longer l)
