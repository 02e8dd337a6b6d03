-- The characters of a string, each by its ASCII number, and their places, counted from 0. Definitions only.
use Rattle.std.specs.Prelude.{Bool, true, false, cond, ◌&&◌, List, [], ◌∷◌, Option, None, Some, ℕ, ◌+◌, ◌<◌, ◌≡◌, leb}

-- ---- characters

-- a to z
abbrev pub is_lower : ℕ → Bool
is_lower b = leb 97 b && leb b 122

-- A to Z
abbrev pub is_upper : ℕ → Bool
is_upper b = leb 65 b && leb b 90

-- a letter in lower case; what is no letter stays
abbrev pub lowered : ℕ → ℕ
lowered b = cond (is_upper b) (b + 32) b

-- answers about bytes that are those of a test
abbrev pub Tests : (ℕ → Bool → Type 0) → (ℕ → Bool) → Type 0
Tests answers t = (b : ℕ) (r : Bool) → b < 256 → answers b r → r ≡ t b

-- ---- places

-- the first place whose character passes a test; the first character stands at place i
unfoldable pub first_from : (ℕ → Bool) → ℕ → List ℕ → Option ℕ
first_from t i [] = None
first_from t i (b ∷ s) = cond (t b) (Some i) (first_from t (i + 1) s)

-- a later place, if there is one
abbrev pub or_else : Option ℕ → Option ℕ → Option ℕ
or_else (Some k) p = Some k
or_else None p = p

-- the last place whose character passes a test; the first character stands at place i
unfoldable pub last_from : (ℕ → Bool) → ℕ → List ℕ → Option ℕ
last_from t i [] = None
last_from t i (b ∷ s) = or_else (last_from t (i + 1) s) (cond (t b) (Some i) None)

-- there is such a place
abbrev pub found : Option ℕ → Bool
found (Some i) = true
found None = false

-- a character of the string passes the test
abbrev pub some_is : (ℕ → Bool) → List ℕ → Bool
some_is t s = found (first_from t 0 s)
