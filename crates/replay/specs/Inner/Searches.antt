-- How long the records of a list of searches are. Definitions only.
use Rattle.std.specs.Prelude.{cond, List, ℕ, ◌/◌, ltb, length}
use Rattle.words.specs.Word.{big, word}
use Rattle.replay.specs.declared.each.Kind.{Kind}
use Rattle.replay.specs.declared.each.Kind.TheVariants.{Searches}

-- They end where the first of them says that its body begins. There are none where the list has no whole record, or ends before that place.
unfoldable pub record_bytes : List ℕ → ℕ
record_bytes l = cond (ltb (length l) 64) 0 (cond (ltb (length l) (word big 2 l 6)) 0 (word big 2 l 6))

-- How many records a list has.
abbrev pub records_in : Kind → List ℕ → ℕ
records_in Searches l = record_bytes l / 64
records_in _ l = length l / 64
