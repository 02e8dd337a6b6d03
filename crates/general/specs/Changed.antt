-- What a call that may write hands back: what it says, beside what it leaves in the memory that was lent to it. Definitions only.
use Rattle.std.specs.Prelude.{List, ℕ}

-- what a call says, and what stands in the lent bytes when it returns
pub record Changed (A : Type 0) : Type 0 where
  pub said : A
  pub bytes : List ℕ

-- this said, with these bytes in the lent memory
abbrev pub changed : {A : Type 0} → A → List ℕ → Changed A
changed a l = record { said = a; bytes = l }

-- the same bytes, and what is said put in another way
abbrev pub saying : {A B : Type 0} → (A → B) → Changed A → Changed B
saying f a = changed (f a.said) a.bytes
