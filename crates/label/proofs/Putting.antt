-- A label is its beginning, the characters of the values behind it, and those of the checksum behind these.
use mathlib.Core.List.{List, [], ◌∷◌, ◌++◌, map, append-nil, map-append}
use mathlib.Core.Path.{◌≡◌, sym, ap, ap₂, ◌∙◌}
use Prim.Native.Nat.{ℕ, suc, ◌+◌, ◌<◌}
use native.Mathlib.Omega.{arith}
use lib.ListN.{length, get_or, take, drop, replicate, length-map, length-append, drop_of_length-le, get_or-map}
use lib.Seq.{drop-cons, take_at}
use Rattle.refusal.specs.declared.Cell.{Cell}
use Rattle.bech32m.specs.Checksum.{character_of, created}
use Rattle.bech32m.proofs.Created.{length-created}
use Rattle.label.specs.Label.{prefix, beginning, data_width, data_of, label_of}
use Rattle.label.proofs.Data.{length-data}

-- within a list it does not matter what stands behind it
pub character-at : (l : List ℕ) (i : ℕ) → i < length l → get_or (map character_of l) i 0 ≡ character_of (get_or l i 0)
character-at l i h =
    let first : get_or l i 32 ∷ drop (suc i) l ≡ get_or l i 0 ∷ drop (suc i) l = sym (drop-cons l i 32 h) ∙ drop-cons l i 0 h in
    let same : get_or l i 32 ≡ get_or l i 0 = cc in
    get_or-map character_of l i 32 ∙ ap character_of same

-- the beginning, and zeros for what stands behind it; then the characters of the values; then those of the checksum
put-together : (values sum : List ℕ) {begun filled label : List ℕ} → length values ≡ data_width → length sum ≡ 6 → begun ≡ beginning ++ replicate 32 0 → filled ≡ take 5 begun ++ (map character_of values ++ drop (5 + length values) begun) → label ≡ take 31 filled ++ (map character_of sum ++ drop (31 + length sum) filled) → label ≡ beginning ++ map character_of (values ++ sum)
put-together values sum {begun} {filled} {label} long six e g h =
    let written : List ℕ = map character_of values in
    let zeros : List ℕ = replicate 6 0 in
    let front : length (beginning ++ written) ≡ 31 = omega (arith, length-append beginning written, length-map values character_of) in
    let middle : filled ≡ (beginning ++ written) ++ zeros = g ∙ ap₂ (λ (l : List ℕ) (n : ℕ). take 5 l ++ (written ++ drop (5 + n) l)) e long in
    let past : drop (31 + length sum) filled ≡ [] = drop_of_length-le filled {i = 31 + length sum} (omega (arith, ap length middle, length-append (beginning ++ written) zeros)) in
    let before : take 31 filled ≡ beginning ++ written = ap (take 31) middle ∙ take_at (beginning ++ written) zeros 31 front in
    h
    ∙ ap₂ (λ (l m : List ℕ). l ++ (map character_of sum ++ m)) before past
    ∙ ap (λ (l : List ℕ). (beginning ++ written) ++ l) (append-nil (map character_of sum))
    ∙ ap (λ (l : List ℕ). beginning ++ l) (sym (map-append character_of values sum))

-- and with the cell's values and their checksum it is the cell's label
pub label-together : (c : Cell) (values sum : List ℕ) {begun filled label : List ℕ} → values ≡ data_of c → sum ≡ created prefix values → begun ≡ beginning ++ replicate 32 0 → filled ≡ take 5 begun ++ (map character_of values ++ drop (5 + length values) begun) → label ≡ take 31 filled ++ (map character_of sum ++ drop (31 + length sum) filled) → label ≡ label_of c
unfolding label_of
label-together c values sum of-cell of_values e g h =
    put-together values sum (ap length of-cell ∙ length-data c) (ap length of_values ∙ length-created prefix values) e g h
    ∙ ap (λ (l : List ℕ). beginning ++ map character_of (values ++ l)) of_values
    ∙ ap (λ (l : List ℕ). beginning ++ map character_of (l ++ created prefix l)) of-cell
