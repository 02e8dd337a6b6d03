-- The laws of words: what stands where a word was stored, what stands elsewhere, and what the bytes of a word are.
-- Each is stated once, over the width, and over the order but for a word of two words, where the order is what matters.
use mathlib.Core.Path.{◌≡◌, refl, sym, ap, ◌∙◌}
use mathlib.Core.List.{List, [], ◌∷◌, ◌++◌, reverse_aux, reverse-append, reverse-reverse, append_assoc}
use Prim.Native.Nat.{ℕ, zero, suc, ◌+◌, ◌-◌, ◌*◌, ◌/◌, ◌%◌, ◌^◌, ◌≤◌, ◌<◌}
use native.Mathlib.Nat.{min-le_left, lt_of_lt_of_le, pow-le-pow_right, pow-suc, pow-succ', zero-add, suc-add, div-one, div-div-eq-div-mul, div-lt_iff_lt-mul, mod-add-div, mul_assoc, add-zero, add-suc, add_comm}
use native.Mathlib.Decide.{dec_le}
use native.Mathlib.Omega.{arith}
use lib.ListN.{length, set, take, drop, replicate, length-take, length-drop, length-reverse, take-append-drop}
use lib.Seq.{take_all, sets, length-sets, sets-eq, length-take-le, take-set-le, drop-set-lt, drop-set-add, get_or-drop, take_at, drop_at, take-take, take-add, drop-drop, take-append-le, drop-append-le, drop-append-add}
use Rattle.words.specs.Word.{Order, big, little, low_digits, number, ordered, bytes_of, word, stored, Bytes}
use Rattle.words.proofs.Word.{Apart}

-- ---- digits in base 256

length_digits : (n v : ℕ) → length (low_digits n v) ≡ n
unfolding low_digits
length_digits zero v = refl
length_digits (suc n) v = ap suc (length_digits n (v / 256))

pub number_digits : (n v : ℕ) → v < 256 ^ n → number (low_digits n v) ≡ v
unfolding low_digits number
number_digits zero v h = omega arith
number_digits (suc n) v h =
    let small : v < 256 ^ n * 256 = rw pow-suc at h in
    rw (number_digits n (v / 256) ((div-lt_iff_lt-mul (omega arith)).1 small)) (mod-add-div v 256)

digits_number : (l : List ℕ) → Bytes l → low_digits (length l) (number l) ≡ l
unfolding low_digits number
digits_number [] b = refl
digits_number (x ∷ l) b =
    let small = b 0 in
    let low : (x + 256 * number l) % 256 ≡ x = omega arith in
    let high : (x + 256 * number l) / 256 ≡ number l = omega arith in
    rw (low, high, digits_number l (λ i. b (suc i)))

number_lt : (l : List ℕ) → Bytes l → number l < 256 ^ length l
unfolding number
number_lt [] b = omega arith
number_lt (x ∷ l) b =
    let small = b 0 in
    let rest = number_lt l (λ i. b (suc i)) in
    rw pow-suc (omega arith)

number_append : (l m : List ℕ) → number (l ++ m) ≡ number l + 256 ^ length l * number m
unfolding number
number_append [] m = omega arith
number_append (x ∷ l) m =
    rw (number_append l m, pow-succ', mul_assoc 256 (256 ^ length l) (number m)) (omega arith)

bytes-digits : (n v : ℕ) → Bytes (low_digits n v)
unfolding low_digits
bytes-digits zero v i = omega arith
bytes-digits (suc n) v zero = omega arith
bytes-digits (suc n) v (suc i) = bytes-digits n (v / 256) i

pub digits_append : (n m v : ℕ) → low_digits (n + m) v ≡ low_digits n v ++ low_digits m (v / 256 ^ n)
unfolding low_digits
digits_append zero m v = rw (zero-add, div-one)
digits_append (suc n) m v = rw (suc-add, digits_append n m (v / 256), div-div-eq-div-mul, pow-succ')

-- what stands above the n digits does not matter
digits_above : (n v w : ℕ) → low_digits n (v + 256 ^ n * w) ≡ low_digits n v
unfolding low_digits
digits_above zero v w = refl
digits_above (suc n) v w =
    let e : v + 256 ^ suc n * w ≡ v + 256 * (256 ^ n * w) = rw (pow-succ', mul_assoc) in
    let low : (v + 256 * (256 ^ n * w)) % 256 ≡ v % 256 = omega arith in
    let high : (v + 256 * (256 ^ n * w)) / 256 ≡ v / 256 + 256 ^ n * w = omega arith in
    rw (e, low, high, digits_above n (v / 256) w)

digits_mod : (n v : ℕ) → low_digits n (v % 256 ^ n) ≡ low_digits n v
digits_mod n v = sym (digits_above n (v % 256 ^ n) (v / 256 ^ n)) ∙ ap (low_digits n) (mod-add-div v (256 ^ n))

-- ---- the order

pub ordered-ordered : (o : Order) (l : List ℕ) → ordered o (ordered o l) ≡ l
unfolding ordered
ordered-ordered big l = reverse-reverse l
ordered-ordered little l = refl

length-ordered : (o : Order) (l : List ℕ) → length (ordered o l) ≡ length l
unfolding ordered
length-ordered big l = length-reverse l
length-ordered little l = refl

bytes-cons : (x : ℕ) (l : List ℕ) → x < 256 → Bytes l → Bytes (x ∷ l)
bytes-cons x l h b zero = h
bytes-cons x l h b (suc i) = b i

bytes-reverse : (l m : List ℕ) → Bytes l → Bytes m → Bytes (reverse_aux l m)
bytes-reverse [] m b c = c
bytes-reverse (x ∷ l) m b c = bytes-reverse l (x ∷ m) (λ i. b (suc i)) (bytes-cons x m (b 0) c)

bytes-ordered : (o : Order) (l : List ℕ) → Bytes l → Bytes (ordered o l)
unfolding ordered
bytes-ordered big l b = bytes-reverse l [] b (λ i. omega arith)
bytes-ordered little l b = b

pub bytes_take : (n : ℕ) (l : List ℕ) → Bytes l → Bytes (take n l)
bytes_take zero l b i = omega arith
bytes_take (suc n) [] b i = omega arith
bytes_take (suc n) (x ∷ l) b i = bytes-cons x (take n l) (b 0) (bytes_take n l (λ k. b (suc k))) i

pub bytes_drop : (n : ℕ) (l : List ℕ) → Bytes l → Bytes (drop n l)
bytes_drop n l b i = rw get_or-drop (b (n + i))

pub bytes-append : (l m : List ℕ) → Bytes l → Bytes m → Bytes (l ++ m)
bytes-append [] m b c = c
bytes-append (x ∷ l) m b c = bytes-cons x (l ++ m) (b 0) (bytes-append l m (λ i. b (suc i)) c)

pub bytes-zeros : (n : ℕ) → Bytes (replicate n 0)
bytes-zeros zero i = omega arith
bytes-zeros (suc n) i = bytes-cons 0 (replicate n 0) (omega arith) (bytes-zeros n) i

bytes-set : (l : List ℕ) (i a : ℕ) → a < 256 → Bytes l → Bytes (set l i a)
bytes-set [] i a h b = b
bytes-set (x ∷ l) zero a h b = bytes-cons a l h (λ k. b (suc k))
bytes-set (x ∷ l) (suc i) a h b = bytes-cons x (set l i a) (b 0) (bytes-set l i a h (λ k. b (suc k)))

bytes-sets : (l : List ℕ) (i : ℕ) (m : List ℕ) → Bytes m → Bytes l → Bytes (sets l i m)
bytes-sets l i [] c b = b
bytes-sets l i (a ∷ m) c b = bytes-sets (set l i a) (suc i) m (λ k. c (suc k)) (bytes-set l i a (c 0) b)

-- ---- a run of stores

-- the m elements at q, before the run
run-before : (l : List ℕ) (i : ℕ) (r : List ℕ) (q m : ℕ) → q + m ≤ i → take m (drop q (sets l i r)) ≡ take m (drop q l)
run-before l i [] q m h = refl
run-before l i (a ∷ r) q m h =
    let e : q + (i - q) ≡ i = omega arith in
    run-before (set l i a) (suc i) r q m (omega arith)
    ∙ ap (λ (k : ℕ). take m (drop q (set l k a))) (sym e)
    ∙ ap (take m) (drop-set-add q l (i - q) a)
    ∙ take-set-le m (drop q l) (i - q) a (omega arith)

-- what comes after the run
run-after : (l : List ℕ) (i : ℕ) (r : List ℕ) (q : ℕ) → i + length r ≤ q → drop q (sets l i r) ≡ drop q l
run-after l i [] q h = refl
run-after l i (a ∷ r) q h = run-after (set l i a) (suc i) r q (omega arith) ∙ drop-set-lt q l i a (omega arith)

pub sets-append : (l : List ℕ) (i : ℕ) (r s : List ℕ) → sets l i (r ++ s) ≡ sets (sets l i r) (i + length r) s
sets-append l i [] s = rw add-zero
sets-append l i (a ∷ r) s = rw (sets-append (set l i a) (suc i) r s, add-suc, suc-add)

-- ---- the bytes of a number

pub length-bytes_of : (o : Order) (n v : ℕ) → length (bytes_of o n v) ≡ n
unfolding bytes_of
length-bytes_of o n v = length-ordered o (low_digits n v) ∙ length_digits n v

pub bytes-bytes_of : (o : Order) (n v : ℕ) → Bytes (bytes_of o n v)
unfolding bytes_of
bytes-bytes_of o n v = bytes-ordered o (low_digits n v) (bytes-digits n v)

-- a number's bytes make it again
pub word-bytes_of : (o : Order) (n v : ℕ) → v < 256 ^ n → word o n (bytes_of o n v) 0 ≡ v
unfolding word bytes_of
word-bytes_of o n v h =
    let long = length-bytes_of o n v in
    rw (take_all n (bytes_of o n v) (omega arith), ordered-ordered) (number_digits n v h)

-- n bytes are those of the number that they make
pub bytes_of-word : (o : Order) (n : ℕ) (l : List ℕ) → length l ≡ n → Bytes l → bytes_of o n (word o n l 0) ≡ l
unfolding word bytes_of
bytes_of-word o n l e b =
    let long : length (ordered o l) ≡ n = length-ordered o l ∙ e in
    rw (take_all n l (omega arith))
    (ap (ordered o) (rw long at (digits_number (ordered o l) (bytes-ordered o l b))) ∙ ordered-ordered o l)

-- ---- a word is a word of its own bytes alone

pub word-part : (o : Order) (n : ℕ) (l : List ℕ) (p : ℕ) → word o n l p ≡ word o n (take n (drop p l)) 0
unfolding word
word-part o n l p = rw (take-take n n (drop p l) (omega arith))

pub word-drop : (o : Order) (n : ℕ) (l : List ℕ) (k p : ℕ) → word o n (drop k l) p ≡ word o n l (k + p)
unfolding word
word-drop o n l k p = rw (drop-drop p k l)

pub word-append-left : (o : Order) (n : ℕ) (l m : List ℕ) (p : ℕ) → p + n ≤ length l → word o n (l ++ m) p ≡ word o n l p
unfolding word
word-append-left o n l m p h =
    let fits : n ≤ length (drop p l) = rw length-drop (omega arith) in
    rw (drop-append-le p l m (omega arith), take-append-le n (drop p l) m fits)

pub word-append-right : (o : Order) (n : ℕ) (l m : List ℕ) (p : ℕ) → word o n (l ++ m) (length l + p) ≡ word o n m p
unfolding word
word-append-right o n l m p = rw drop-append-add

pub word-take : (o : Order) (n : ℕ) (l : List ℕ) (k p : ℕ) → p + n ≤ k → k ≤ length l → word o n (take k l) p ≡ word o n l p
word-take o n l k p h f =
    let long = length-take-le k l f in
    sym (word-append-left o n (take k l) (drop k l) p (omega arith)) ∙ ap (λ (m : List ℕ). word o n m p) (take-append-drop k l)

-- the bytes of the word at p are those that stand there
pub bytes_of-part : (o : Order) (n : ℕ) (l : List ℕ) (p : ℕ) → p + n ≤ length l → Bytes l → bytes_of o n (word o n l p) ≡ take n (drop p l)
bytes_of-part o n l p h b =
    let long : length (take n (drop p l)) ≡ n = length-take-le n (drop p l) (rw length-drop (omega arith)) in
    ap (bytes_of o n) (word-part o n l p) ∙ bytes_of-word o n (take n (drop p l)) long (bytes_take n (drop p l) (bytes_drop p l b))

-- ---- zeros

zeros-part : (n k p : ℕ) (m : List ℕ) → p + n ≤ k → take n (drop p (replicate k 0 ++ m)) ≡ replicate n 0
zeros-part zero k p m within = refl
zeros-part (suc n) zero p m within = absurd (omega arith)
zeros-part (suc n) (suc k) zero m within = ap (λ (l : List ℕ). 0 ∷ l) (zeros-part n k 0 m (omega arith))
zeros-part (suc n) (suc k) (suc p) m within = zeros-part (suc n) k p m (omega arith)

zeros-reversed : (n : ℕ) (l : List ℕ) → number l ≡ 0 → number (reverse_aux (replicate n 0) l) ≡ 0
unfolding number
zeros-reversed zero l e = e
zeros-reversed (suc n) l e = zeros-reversed n (0 ∷ l) (omega arith)

number-zeros : (o : Order) (n : ℕ) → number (ordered o (replicate n 0)) ≡ 0
unfolding ordered number
number-zeros big n = zeros-reversed n [] refl
number-zeros little zero = refl
number-zeros little (suc n) = omega (arith, number-zeros little n)

-- zeros make the number 0
pub word-zeros : (o : Order) (n k p : ℕ) (m : List ℕ) → p + n ≤ k → word o n (replicate k 0 ++ m) p ≡ 0
unfolding word
word-zeros o n k p m within = ap (λ (l : List ℕ). number (ordered o l)) (zeros-part n k p m within) ∙ number-zeros o n

-- ---- the range of a word

pub word_lt : (o : Order) (n : ℕ) (l : List ℕ) (p : ℕ) → Bytes l → word o n l p < 256 ^ n
unfolding word
word_lt o n l p b =
    let part = take n (drop p l) in
    let short : length (ordered o part) ≤ n = rw (length-ordered, length-take) (min-le_left n (length (drop p l))) in
    lt_of_lt_of_le (number_lt (ordered o part) (bytes-ordered o part (bytes_take n (drop p l) (bytes_drop p l b)))) (pow-le-pow_right (omega arith) short)

-- ---- a stored word

pub length-stored : (o : Order) (n : ℕ) (l : List ℕ) (p v : ℕ) → length (stored o n l p v) ≡ length l
unfolding stored
length-stored o n l p v = length-sets l p (bytes_of o n v)

-- the list in three parts
pub stored-parts : (o : Order) (n : ℕ) (l : List ℕ) (p v : ℕ) → p + n ≤ length l → stored o n l p v ≡ take p l ++ bytes_of o n v ++ drop (p + n) l
unfolding stored
stored-parts o n l p v h =
    let long = length-bytes_of o n v in
    rw long at (sets-eq (bytes_of o n v) l p (omega arith))

-- what stands behind the word stays
pub drop-after-stored : (o : Order) (n : ℕ) (l : List ℕ) (p v q : ℕ) → p + n ≤ q → drop q (stored o n l p v) ≡ drop q l
unfolding stored
drop-after-stored o n l p v q after =
    let long = length-bytes_of o n v in
    run-after l p (bytes_of o n v) q (omega arith)

-- the n bytes at p
pub part-stored : (o : Order) (n : ℕ) (l : List ℕ) (p v : ℕ) → p + n ≤ length l → take n (drop p (stored o n l p v)) ≡ bytes_of o n v
part-stored o n l p v h =
    let long = length-take-le p l (omega arith) in
    rw (stored-parts o n l p v h, append_assoc, drop_at (take p l) _ p long, take_at (bytes_of o n v) _ n (length-bytes_of o n v))

-- what is stored is read
pub word-stored : (o : Order) (n : ℕ) (l : List ℕ) (p v : ℕ) → p + n ≤ length l → v < 256 ^ n → word o n (stored o n l p v) p ≡ v
word-stored o n l p v h small =
    word-part o n (stored o n l p v) p
    ∙ ap (λ (m : List ℕ). word o n m 0) (part-stored o n l p v h)
    ∙ word-bytes_of o n v small

-- a word elsewhere, of any order and width, is not changed
pub word-stored-apart : (o s : Order) (n m : ℕ) (l : List ℕ) (p v q : ℕ) → Apart p n q m → word o m (stored s n l p v) q ≡ word o m l q
unfolding word stored
word-stored-apart o s n m l p v q h = ap (λ (r : List ℕ). number (ordered o r)) (apart (dec_le (q + m) p))
  where
    long : length (bytes_of s n v) ≡ n
    long = length-bytes_of s n v

    apart : Dec (q + m ≤ p) → take m (drop q (sets l p (bytes_of s n v))) ≡ take m (drop q l)
    apart (yes before) = run-before l p (bytes_of s n v) q m before
    apart (no after) = ap (take m) (run-after l p (bytes_of s n v) q (omega (arith, long)))

pub bytes-stored : (o : Order) (n : ℕ) (l : List ℕ) (p v : ℕ) → Bytes l → Bytes (stored o n l p v)
unfolding stored
bytes-stored o n l p v b = bytes-sets l p (bytes_of o n v) (bytes-bytes_of o n v) b

-- what a number has above n bytes is not stored
pub stored-mod : (o : Order) (n : ℕ) (l : List ℕ) (p v : ℕ) → stored o n l p (v % 256 ^ n) ≡ stored o n l p v
unfolding stored bytes_of
stored-mod o n l p v = rw digits_mod

-- ---- a word of two words: the order says which of the two is the higher

pub word-split-big : (n m : ℕ) (l : List ℕ) (p : ℕ) → p + n + m ≤ length l → word big (n + m) l p ≡ word big m l (p + n) + 256 ^ m * word big n l p
unfolding word ordered
word-split-big n m l p h =
    let long : length (take m (drop (p + n) l)) ≡ m = length-take-le m (drop (p + n) l) (rw length-drop (omega arith)) in
    rw (take-add n m (drop p l), drop-drop n p l, reverse-append, number_append, length-reverse, long)

pub word-split-little : (n m : ℕ) (l : List ℕ) (p : ℕ) → p + n + m ≤ length l → word little (n + m) l p ≡ word little n l p + 256 ^ n * word little m l (p + n)
unfolding word ordered
word-split-little n m l p h =
    let long : length (take n (drop p l)) ≡ n = length-take-le n (drop p l) (rw length-drop (omega arith)) in
    rw (take-add n m (drop p l), drop-drop n p l, number_append, long)

pub stored-split-big : (n m : ℕ) (l : List ℕ) (p v : ℕ) → stored big (n + m) l p v ≡ stored big m (stored big n l p (v / 256 ^ m)) (p + n) (v % 256 ^ m)
unfolding stored bytes_of ordered
stored-split-big n m l p v =
    rw (add_comm n m, digits_append m n v, reverse-append, sets-append, length-reverse, length_digits, digits_mod)

pub stored-split-little : (n m : ℕ) (l : List ℕ) (p v : ℕ) → stored little (n + m) l p v ≡ stored little m (stored little n l p (v % 256 ^ n)) (p + n) (v / 256 ^ n)
unfolding stored bytes_of ordered
stored-split-little n m l p v = rw (digits_append, sets-append, length_digits, digits_mod)
