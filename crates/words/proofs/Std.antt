-- What std's methods make of bytes, and of a number, in words of specs/Word.antt.
use Rattle.std.proofs.Common.{◌≡◌, ℕ, zero, suc, ◌+◌, ◌-◌, ◌/◌, ◌%◌, ◌^◌, ◌≤◌, ◌<◌, List, [], ◌∷◌, ◌++◌, length, take, drop, reverse, refl, sym, ap, ◌∙◌, arith, append_assoc}
use mathlib.Core.List.{reverse-append}
use native.Mathlib.Nat.{div-one, div-div-eq-div-mul, pow-suc}
use borrow.Rule.Slice.PartMut.{put_mid, Post-is}
use Rattle.std.specs.Int.{w16, w32, w64, byte_at, bytes_low_first, bytes_high_first, from_be_bytes, from_le_bytes}
use Rattle.std.proofs.lemmas.Nat.{be_bytes_2, be_bytes_4, be_bytes_8, le_bytes_4, le_bytes_8}
use lib.ListN.{length-drop}
use lib.Seq.{length-take-le}
use Rattle.words.specs.Word.{Order, big, little, low_digits, ordered, bytes_of, word, stored, Bytes}
use Rattle.words.proofs.Laws.{digits_append, number_digits, ordered-ordered, stored-parts, bytes_take, bytes_drop}

-- byte i of a number
byte : (i v : ℕ) → byte_at i v ≡ v / 256 ^ i % 256
byte zero v = rw div-one
byte (suc i) v = refl

from_byte : (i n v : ℕ) → bytes_low_first i n v ≡ low_digits n (v / 256 ^ i)
unfolding low_digits
from_byte i zero v = refl
from_byte i (suc n) v = rw (byte i v, from_byte (suc i) n v, div-div-eq-div-mul, pow-suc)

-- what `to_le_bytes` and `to_be_bytes` make of a number
little_bytes : (n v : ℕ) → bytes_low_first 0 n v ≡ bytes_of little n v
unfolding bytes_of ordered
little_bytes n v = rw (from_byte 0 n v, div-one)

big_bytes : (n v : ℕ) → bytes_high_first n v ≡ bytes_of big n v
unfolding bytes_of ordered low_digits
big_bytes zero v = refl
big_bytes (suc n) v =
    let digits : low_digits (suc n) v ≡ low_digits n v ++ (v / 256 ^ n % 256 ∷ []) = ap (λ (k : ℕ). low_digits k v) {x = suc n} (omega arith) ∙ digits_append n 1 v in
    rw (byte n v, big_bytes n v) (sym (ap reverse digits ∙ reverse-append (low_digits n v) (v / 256 ^ n % 256 ∷ [])))

-- the number that n bytes at p make
read : (o : Order) (n v : ℕ) (l : List ℕ) (p : ℕ) → bytes_of o n v ≡ take n (drop p l) → v < 256 ^ n → v ≡ word o n l p
unfolding word bytes_of
read o n v l p e small = rw (← e, ordered-ordered) (sym (number_digits n v small))

part : (n : ℕ) (l : List ℕ) (p : ℕ) → p + n ≤ length l → length (take n (drop p l)) ≡ n
part n l p fits = length-take-le n (drop p l) (rw length-drop (omega arith))

bytes_at : (n : ℕ) (l : List ℕ) (p : ℕ) → Bytes l → Bytes (take n (drop p l))
bytes_at n l p b = bytes_take n (drop p l) (bytes_drop p l b)

pub read_big_2 : (v : ℕ) (l : List ℕ) (p : ℕ) → p + 2 ≤ length l → Bytes l → v < 2 ^ 16 → v ≡ from_be_bytes w16 (take 2 (drop p l)) → v ≡ word big 2 l p
read_big_2 v l p fits b small is = read big 2 v l p (sym (big_bytes 2 v) ∙ be_bytes_2 _ v (part 2 l p fits) (bytes_at 2 l p b) is) small

pub read_big_4 : (v : ℕ) (l : List ℕ) (p : ℕ) → p + 4 ≤ length l → Bytes l → v < 2 ^ 32 → v ≡ from_be_bytes w32 (take 4 (drop p l)) → v ≡ word big 4 l p
read_big_4 v l p fits b small is = read big 4 v l p (sym (big_bytes 4 v) ∙ be_bytes_4 _ v (part 4 l p fits) (bytes_at 4 l p b) is) small

pub read_big_8 : (v : ℕ) (l : List ℕ) (p : ℕ) → p + 8 ≤ length l → Bytes l → v < 2 ^ 64 → v ≡ from_be_bytes w64 (take 8 (drop p l)) → v ≡ word big 8 l p
read_big_8 v l p fits b small is = read big 8 v l p (sym (big_bytes 8 v) ∙ be_bytes_8 _ v (part 8 l p fits) (bytes_at 8 l p b) is) small

pub read_little_4 : (v : ℕ) (l : List ℕ) (p : ℕ) → p + 4 ≤ length l → Bytes l → v < 2 ^ 32 → v ≡ from_le_bytes w32 (take 4 (drop p l)) → v ≡ word little 4 l p
read_little_4 v l p fits b small is = read little 4 v l p (sym (little_bytes 4 v) ∙ le_bytes_4 _ v (part 4 l p fits) (bytes_at 4 l p b) is) small

pub read_little_8 : (v : ℕ) (l : List ℕ) (p : ℕ) → p + 8 ≤ length l → Bytes l → v < 2 ^ 64 → v ≡ from_le_bytes w64 (take 8 (drop p l)) → v ≡ word little 8 l p
read_little_8 v l p fits b small is = read little 8 v l p (sym (little_bytes 8 v) ∙ le_bytes_8 _ v (part 8 l p fits) (bytes_at 8 l p b) is) small

-- a list in which bytes were copied to p
written : (o : Order) (n : ℕ) (l : List ℕ) (p v : ℕ) (m : List ℕ) → p + n ≤ length l → m ≡ bytes_of o n v → put_mid p (p + n - p) l m ≡ stored o n l p v
written o n l p v m fits e = rw (e, Post-is p (p + n) l (omega arith), ← append_assoc) (sym (stored-parts o n l p v fits))

pub written_big : (n : ℕ) (l : List ℕ) (p v : ℕ) (m : List ℕ) → p + n ≤ length l → m ≡ bytes_high_first n v → put_mid p (p + n - p) l m ≡ stored big n l p v
written_big n l p v m fits e = written big n l p v m fits (e ∙ big_bytes n v)

pub written_little : (n : ℕ) (l : List ℕ) (p v : ℕ) (m : List ℕ) → p + n ≤ length l → m ≡ bytes_low_first 0 n v → put_mid p (p + n - p) l m ≡ stored little n l p v
written_little n l p v m fits e = written little n l p v m fits (e ∙ little_bytes n v)
