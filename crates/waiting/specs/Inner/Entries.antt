-- Waiting entries in bytes: f, the cell's high word, its low word and g, four little-endian words to an entry. An entry's key is one number, so that the order of the words is the
-- order of numbers. Definitions only.
use Rattle.std.specs.Prelude.{List, ℕ, ◌+◌, ◌*◌, ◌/◌, ◌%◌, ◌^◌, ◌<◌}
use Rattle.words.specs.Word.{little, word, stored}
use Rattle.cell.specs.Terms.{Words}
use Rattle.waiting.specs.declared.Entry.{Entry}
use Rattle.waiting.specs.Width.{entry_width}

-- an entry as one number: the lesser f is the lesser number, at equal f the lesser cell, and at one cell the lesser g
unfoldable pub entry_key : Entry → ℕ
entry_key e = ((e.f * 2 ^ 64 + e.cell.high) * 2 ^ 64 + e.cell.low) * 2 ^ 64 + e.g

-- the entry that has this key
unfoldable pub entry_of : ℕ → Entry
entry_of k =
    record {
      f = k / 2 ^ 64 / 2 ^ 64 / 2 ^ 64;
      cell = record { high = k / 2 ^ 64 / 2 ^ 64 % 2 ^ 64; low = k / 2 ^ 64 % 2 ^ 64 };
      g = k % 2 ^ 64;
    }

-- an entry as the code holds it: words of 64 bits
pub record EntryWords (e : Entry) : Type 0 where
  pub f-word : e.f < 2 ^ 64
  pub cell-words : Words e.cell
  pub g-word : e.g < 2 ^ 64

-- the entry at place i
abbrev pub entry_at : List ℕ → ℕ → Entry
entry_at l i =
    record {
      f = word little 8 l (entry_width * i);
      cell = record { high = word little 8 l (entry_width * i + 8); low = word little 8 l (entry_width * i + 16) };
      g = word little 8 l (entry_width * i + 24);
    }

-- the key of the entry at place i
unfoldable pub key_in : List ℕ → ℕ → ℕ
key_in l i = entry_key (entry_at l i)

-- the list after e is stored at place i
unfoldable pub entry_stored : List ℕ → ℕ → Entry → List ℕ
entry_stored l i e =
    stored little 8 (stored little 8 (stored little 8 (stored little 8 l (entry_width * i) e.f) (entry_width * i + 8) e.cell.high) (entry_width * i + 16) e.cell.low) (entry_width * i + 24) e.g
