-- The version of the library, as C is told it. Definitions only.
use Rattle.std.specs.Prelude.{ℕ, ◌+◌, ◌*◌}

-- before 1, a minor version may change calls and structs
abbrev pub major : ℕ
major = 0

-- more calls, or others
abbrev pub minor : ℕ
minor = 4

-- no other calls and structs
abbrev pub patch : ℕ
patch = 1

-- "major.minor.patch" as one number, with three digits for each of the last two
abbrev pub version_told : ℕ
version_told = 1000000 * major + 1000 * minor + patch
