-- Values behind a sum are zeros behind it, xor the number that they make: a difference of fewer than 25 bits does not reach the generators. So six values verify exactly where their
-- number is that of the checksum that BIP 350 creates.
use mathlib.Core.Bool.{true}
use mathlib.Core.List.{List, [], ◌∷◌, ◌++◌, append_assoc}
use mathlib.Core.Logic.{◌↔◌}
use mathlib.Core.Path.{◌≡◌, refl, sym, ap, ap₂, ◌∙◌}
use Prim.Native.Nat.{ℕ, suc, ◌+◌, ◌*◌, ◌/◌, ◌%◌, ◌^◌, ◌<◌, ◌≤◌}
use native.Mathlib.Nat.{add-zero, zero-add, div-eq_of_lt, mod-eq_of_lt, mul_assoc, mul-le-mul_right, le-mul_of_pos_right, le_trans, one-le-pow, pow-succ'}
use native.Mathlib.Omega.{arith}
use borrow.Author.Tests.{eqb-true, eq-eqb}
use lib.Bits.{bit_xor, xor_comm, xor_zero_r, xor_shr, xor_mod, xor_lt, xor_block, xor_shifted}
use lib.Dec.{eqb, lit<, lit≤}
use lib.ListN.{length, replicate}
use Rattle.general.specs.Each.{Each}
use Rattle.general.proofs.Tests.{on_test}
use Rattle.bech32m.specs.Checksum.{number_from, digits, chosen, generators, step, sum_from, polymod, expanded, constant, verified, created}
use Rattle.bech32m.proofs.Digits.{digits-below, digits_number, length_digits, number_digits}
use Rattle.bech32m.proofs.Sums.{sum-append}
use Rattle.bech32m.proofs.Xor.{xor_assoc, xor-cancel}

-- ---- one step

-- a difference below 2^25 does not reach the generators
step-difference : (c d v : ℕ) → d < 2 ^ 25 → v < 32 → step (bit_xor c d) v ≡ bit_xor (step c 0) (d * 32 + v)
unfolding step
step-difference c d v h k =
    let high : bit_xor c d / 2 ^ 25 ≡ c / 2 ^ 25 = xor_shr c d 25 ∙ ap (bit_xor (c / 2 ^ 25)) (div-eq_of_lt h) ∙ xor_zero_r (c / 2 ^ 25) in
    let low : bit_xor c d % 2 ^ 25 ≡ bit_xor (c % 2 ^ 25) d = xor_mod c d 25 ∙ ap (bit_xor (c % 2 ^ 25)) (mod-eq_of_lt h) in
    let p = c % 2 ^ 25 in
    let g = generators (c / 2 ^ 25) in
    let shifted : bit_xor p d * 2 ^ 5 ≡ bit_xor (p * 2 ^ 5) (d * 2 ^ 5) = sym (ap₂ bit_xor (sym (add-zero (p * 2 ^ 5))) (sym (add-zero (d * 2 ^ 5))) ∙ xor_block 5 p d 0 0 (lit< tt) (lit< tt) ∙ add-zero (bit_xor p d * 2 ^ 5)) in
    let joined : bit_xor (d * 2 ^ 5) v ≡ d * 32 + v = xor_shifted d 5 v k in
    ap₂ (λ (x y : ℕ). bit_xor (bit_xor (x * 2 ^ 5) v) (generators y)) low high
    ∙ ap (λ (x : ℕ). bit_xor (bit_xor x v) g) shifted
    ∙ ap (λ (x : ℕ). bit_xor x g) (xor_assoc (p * 2 ^ 5) (d * 2 ^ 5) v ∙ ap (bit_xor (p * 2 ^ 5)) joined)
    ∙ xor_assoc (p * 2 ^ 5) (d * 32 + v) g
    ∙ ap (bit_xor (p * 2 ^ 5)) (xor_comm (d * 32 + v) g)
    ∙ sym (xor_assoc (p * 2 ^ 5) g (d * 32 + v))
    ∙ ap (λ (x : ℕ). bit_xor (bit_xor x g) (d * 32 + v)) (sym (xor_zero_r (p * 2 ^ 5)))

chosen-lt : (b g : ℕ) → g < 2 ^ 30 → chosen b g < 2 ^ 30
chosen-lt b g h = on_test (λ (x : ℕ). x < 2 ^ 30) (eqb (b % 2) 1) g 0 (λ e. h) (λ e. lit< tt)

-- a sum with a zero behind it has 30 bits, whatever it had before
step-lt : (c : ℕ) → step c 0 < 2 ^ 30
unfolding step
step-lt c =
    let b = c / 2 ^ 25 in
    let p = c % 2 ^ 25 * 2 ^ 5 in
    let shifted : p < 2 ^ 30 = omega arith in
    xor_lt 30 (bit_xor p 0) (generators b) (xor_lt 30 p 0 shifted (lit< tt))
    (both
    (both (both (both (chosen-lt b 0x3b6a57b2 (lit< tt)) (chosen-lt (b / 2) 0x26508e6d (lit< tt))) (chosen-lt (b / 4) 0x1ea119fa (lit< tt))) (chosen-lt (b / 8) 0x3d4233dd (lit< tt)))
    (chosen-lt (b / 16) 0x2a1462b3 (lit< tt)))
  where
    both : {x y : ℕ} → x < 2 ^ 30 → y < 2 ^ 30 → bit_xor x y < 2 ^ 30
    both {x} {y} h k = xor_lt 30 x y h k

-- ---- a run of values

-- as long as the number that the values make, behind d, has at most 30 bits
run : (c d : ℕ) (vs : List ℕ) → Each (λ v. v < 32) vs → suc d * 32 ^ length vs ≤ 2 ^ 30 → sum_from (bit_xor c d) vs ≡ bit_xor (sum_from c (replicate (length vs) 0)) (number_from d vs)
unfolding sum_from number_from
run c d [] h k = refl
run c d (v ∷ vs) h k =
    let p = 32 ^ length vs in
    let below = h.0 in
    let whole : suc d * 32 * p ≤ 2 ^ 30 = rw (mul_assoc, ← pow-succ') k in
    let small : suc d * 32 ≤ 2 ^ 30 = le_trans (le-mul_of_pos_right (suc d * 32) (one-le-pow (length vs) 32 (lit< tt))) whole in
    let next : suc (d * 32 + v) ≤ suc d * 32 = omega arith in
    ap (λ (x : ℕ). sum_from x vs) (step-difference c d v (omega arith) below)
    ∙ run (step c 0) (d * 32 + v) vs h.1 (le_trans (mul-le-mul_right p next) whole)

-- six values are six zeros, xor their number
six-values : (c : ℕ) (six : List ℕ) → length six ≡ 6 → Each (λ v. v < 32) six → sum_from c six ≡ bit_xor (sum_from c (replicate 6 0)) (number_from 0 six)
six-values c six e h =
    ap (λ (x : ℕ). sum_from x six) (sym (xor_zero_r c))
    ∙ run c 0 six h (rw e (lit≤ tt))
    ∙ ap (λ (n : ℕ). bit_xor (sum_from c (replicate n 0)) (number_from 0 six)) e

-- ---- the checksum

module _ (hrp values : List ℕ) where
  -- the sum with six zeros behind it
  abbrev zeroed : ℕ
  zeroed = polymod ((expanded hrp ++ values) ++ replicate 6 0)

  zeroed-lt : zeroed < 2 ^ 30
  unfolding sum_from
  zeroed-lt = let l = expanded hrp ++ values in rw (sum-append 1 l (replicate 6 0)) (step-lt (sum_from (polymod l) (replicate 5 0)))

  sum-six : (six : List ℕ) → length six ≡ 6 → Each (λ v. v < 32) six → polymod (expanded hrp ++ (values ++ six)) ≡ bit_xor zeroed (number_from 0 six)
  sum-six six e h =
      let l = expanded hrp ++ values in
      ap polymod (sym (append_assoc (expanded hrp) values six))
      ∙ sum-append 1 l six
      ∙ six-values (polymod l) six e h
      ∙ ap (λ (x : ℕ). bit_xor x (number_from 0 six)) (sym (sum-append 1 l (replicate 6 0)))

  pub length-created : length (created hrp values) ≡ 6
  unfolding created
  length-created = length_digits 6 (bit_xor zeroed constant)

  pub created-below : Each (λ v. v < 32) (created hrp values)
  unfolding created
  created-below = digits-below 6 (bit_xor zeroed constant)

  number-created : number_from 0 (created hrp values) ≡ bit_xor zeroed constant
  unfolding created
  number-created =
      let n = bit_xor zeroed constant in
      let small : n < 2 ^ 30 = xor_lt 30 zeroed constant zeroed-lt (lit< tt) in
      number_digits 0 6 n ∙ zero-add (n % 32 ^ 6) ∙ mod-eq_of_lt small

  -- the created six verify
  pub created-verified : verified hrp (values ++ created hrp values) ≡ true
  created-verified =
      let z = zeroed in
      eq-eqb _ _
      (sum-six (created hrp values) length-created created-below
      ∙ ap (bit_xor z) number-created
      ∙ xor_comm z (bit_xor z constant)
      ∙ ap (λ (x : ℕ). bit_xor x z) (xor_comm z constant)
      ∙ xor-cancel constant z)

  -- and no other six
  only-created : (six : List ℕ) → length six ≡ 6 → Each (λ v. v < 32) six → verified hrp (values ++ six) ≡ true → six ≡ created hrp values
  unfolding created
  only-created six e h t =
      let z = zeroed in
      let n = number_from 0 six in
      let sum : bit_xor z n ≡ constant = sym (sum-six six e h) ∙ eqb-true _ _ t in
      let same : n ≡ bit_xor z constant = sym (xor-cancel n z) ∙ ap (λ (x : ℕ). bit_xor x z) (xor_comm n z ∙ sum) ∙ xor_comm constant z in
      sym (ap (λ (k : ℕ). digits k n) (sym e) ∙ digits_number 0 six h) ∙ ap (digits 6) same

  pub created-exactly : (six : List ℕ) → length six ≡ 6 → Each (λ v. v < 32) six → (verified hrp (values ++ six) ≡ true) ↔ (six ≡ created hrp values)
  created-exactly six e h = (only-created six e h, λ s. ap (λ (l : List ℕ). verified hrp (values ++ l)) s ∙ created-verified)
