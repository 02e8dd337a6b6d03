-- The root of n lies strictly on the near side of the middle between `root_whole n` and any other f64: the laws behind `Nearest.root-nearest`.
-- Where an f64 y is above `root_whole n`, the root is below the middle of the two; where y is below it, the root is above the middle. Each is said of the squares.
use Rattle.std.proofs.Common.{◌≡◌, ℕ, suc, ◌+◌, ◌-◌, ◌*◌, ◌^◌, ◌<◌, ◌≤◌, Bool, true, false, not, T, leb, ◌⊎◌, ℤ, pos, negsuc, sym, ap, ◌∙◌, subst, inl, inr, le_trans, le_of_eq, lt_of_lt_of_le, lt_of_le_of_lt, mul-le-mul_right, mul_assoc, suc-mul, mul_comm, add-mul, lt_of_mul-lt-mul_right, eq-or-lt_of_le, mul-le-mul_left, mul-lt-mul_of_pos_right, mul-pos, pow-suc, mul-one, sub-add_cancel, mul_right_comm, mul_left_comm, arith, leb→le, pow_pos, pow-add}
use lib.Dec.{nleb→lt}
use lib.Ieee.{fin, binary64, up, down, fits}
use lib.Ieee.Fits.{down_pos}
use lib.Ieee.Positive.{num, den, den_pos, value→cross}
use Rattle.root.specs.Root.{shift, significand, root_whole}
use Rattle.float.proofs.Laws.{digits_of}
use Rattle.root.proofs.Isqrt.{sq-le, sq-lt, sq-mul}
use Rattle.root.proofs.Significand.{unit, many, over, under, least, value}

-- ---- against any other f64, y = Y / D without its sign
-- D is a divisor of P, or at least twice P, and then y has few digits
data Apart (m P Y D : ℕ) : Type 0 where
  coarse : (K : ℕ) → Y * P ≡ K * D → Apart m P Y D
  fine : (W : ℕ) → Y ≡ m → D ≡ 2 * W * P → 0 < W → Apart m P Y D

apart : (m i : ℕ) (e : ℤ) → Apart m (2 ^ i) (m * up e) (down e)
apart m i (pos k) = coarse (m * 2 ^ k * 2 ^ i) (sym (mul-one (m * 2 ^ k * 2 ^ i)))
apart m i (negsuc k) = go (leb (suc k) i) (leb→le (suc k) i) (nleb→lt (suc k) i)
  where
    over-i : i < suc k → suc k ≡ suc (k - i) + i
    over-i h = omega arith

    go : (b : Bool) → (T b → suc k ≤ i) → (T (not b) → i < suc k) → Apart m (2 ^ i) (m * 1) (2 ^ suc k)
    go true h g =
        coarse (m * 1 * 2 ^ (i - suc k)) (ap (λ (x : ℕ). m * 1 * x) (ap (λ (x : ℕ). 2 ^ x) (sym (sub-add_cancel (h tt))) ∙ pow-add 2 (i - suc k) (suc k)) ∙ sym (mul_assoc (m * 1) (2 ^ (i - suc k)) (2 ^ suc k)))
    go false h g =
        fine (2 ^ (k - i)) (mul-one m)
        (ap (λ (x : ℕ). 2 ^ x) (over-i (g tt)) ∙ pow-add 2 (suc (k - i)) i ∙ ap (λ (x : ℕ). x * 2 ^ i) (pow-suc 2 (k - i) ∙ mul_comm (2 ^ (k - i)) 2))
        (pow_pos (k - i))

two : {W : ℕ} → 0 < W → 2 ≤ 2 * W
two h = omega arith

module _ {m M P Y D : ℕ} (small : m < 9007199254740992) (many : 4503599627370496 ≤ M) (Ppos : 0 < P) where
  step-up : Apart m P Y D → M * D < Y * P → suc M * D ≤ Y * P
  step-up (coarse K e) h =
      let a : M < K = lt_of_mul-lt-mul_right D (subst (λ (x : ℕ). M * D < x) e h) in
      le_trans (mul-le-mul_right D a) (le_of_eq (sym e))
  step-up (fine W y d w) h =
      let a : M * (2 * W) * P < m * P = lt_of_le_of_lt (le_of_eq (mul_assoc M (2 * W) P ∙ ap (λ (x : ℕ). M * x) (sym d))) (lt_of_lt_of_le h (le_of_eq (ap (λ (x : ℕ). x * P) y))) in
      let b : M * (2 * W) < m = lt_of_mul-lt-mul_right P a in
      let c : M * 2 ≤ M * (2 * W) = mul-le-mul_left M (two w) in
      absurd (clash (M * (2 * W)) b c)
    where
      clash : (x : ℕ) → x < m → M * 2 ≤ x → ⊥
      clash x h k = omega arith

  step_down : Apart m P Y D → Y * P < M * D → (Y * P ≤ (M - 1) * D) ⊎ (M ≡ 4503599627370496)
  step_down (coarse K e) h =
      let a : K < M = lt_of_mul-lt-mul_right D (subst (λ (x : ℕ). x < M * D) e h) in
      let b : K ≤ M - 1 = pred a in
      inl (le_trans (le_of_eq e) (mul-le-mul_right D b))
    where
      pred : {K : ℕ} → K < M → K ≤ M - 1
      pred h = omega arith
  step_down (fine W y d w) h = go (eq-or-lt_of_le many)
    where
      enough : 4503599627370496 < M → m ≤ (M - 1) * 2
      enough h = omega arith

      go : (4503599627370496 ≡ M) ⊎ (4503599627370496 < M) → (Y * P ≤ (M - 1) * D) ⊎ (M ≡ 4503599627370496)
      go (inl e) = inr (sym e)
      go (inr l) =
          inl (le_trans (le_of_eq (ap (λ (x : ℕ). x * P) y))
          (le_trans (mul-le-mul_right P (le_trans (enough l) (mul-le-mul_left (M - 1) (two w)))) (le_of_eq (mul_assoc (M - 1) (2 * W) P ∙ ap (λ (x : ℕ). (M - 1) * x) (sym d)))))

middle-up : (M D s : ℕ) → suc M * D ≤ s → suc (2 * M) * D ≤ M * D + s
middle-up M D s h = let a = suc-mul (2 * M) D in let b = mul_assoc 2 M D in let c = suc-mul M D in omega arith

middle-down : (M D s : ℕ) → 1 ≤ M → s ≤ (M - 1) * D → M * D + s ≤ (2 * M - 1) * D
middle-down M D s p h =
    let t = M - 1 in
    let e : M ≡ suc t = omega arith in
    let f : 2 * M - 1 ≡ suc (2 * t) = omega arith in
    let a = suc-mul (2 * t) D in
    let b = mul_assoc 2 t D in
    let c = suc-mul t D in
    let u : M * D ≡ suc t * D = ap (λ (x : ℕ). x * D) e in
    let v : (2 * M - 1) * D ≡ suc (2 * t) * D = ap (λ (x : ℕ). x * D) f in
    omega arith

module _ (n : ℕ) (first : 1 ≤ n) (last : n ≤ 18446744073709551616) (s : Bool) (m : ℕ) (e : ℤ) (f : T (fits binary64 (fin s m e))) where
  near_up : significand n * down e < m * up e * unit n → 4 * (n * (unit n * unit n)) * (down e * down e) < (significand n * down e + m * up e * unit n) * (significand n * down e + m * up e * unit n)
  near_up h =
      let g = step-up (digits_of s m e f) (many n first last) (pow_pos (shift n - 1)) (apart m (shift n - 1) e) h in
      lt_of_lt_of_le (mul-lt-mul_of_pos_right (under n first last) (mul-pos (down_pos e) (down_pos e)))
      (le_trans (le_of_eq (sym (sq-mul (suc (2 * significand n)) (down e)))) (sq-le (middle-up (significand n) (down e) (m * up e * unit n) g)))

  near_down : m * up e * unit n < significand n * down e → (significand n * down e + m * up e * unit n) * (significand n * down e + m * up e * unit n) < 4 * (n * (unit n * unit n)) * (down e * down e)
  near_down h = go (step_down (digits_of s m e f) (many n first last) (pow_pos (shift n - 1)) (apart m (shift n - 1) e) h)
    where
      one_of : 4503599627370496 ≤ significand n → 1 ≤ significand n
      one_of h = omega arith

      twice-lt : (x s : ℕ) → s < x → x + s < 2 * x
      twice-lt x s h = omega arith

      go : (m * up e * unit n ≤ (significand n - 1) * down e) ⊎ (significand n ≡ 4503599627370496) → (significand n * down e + m * up e * unit n) * (significand n * down e + m * up e * unit n) < 4 * (n * (unit n * unit n)) * (down e * down e)
      go (inl g) =
          lt_of_le_of_lt (sq-le (middle-down (significand n) (down e) (m * up e * unit n) (one_of (many n first last)) g))
          (lt_of_le_of_lt (le_of_eq (sq-mul (2 * significand n - 1) (down e))) (mul-lt-mul_of_pos_right (over n first last) (mul-pos (down_pos e) (down_pos e))))
      go (inr z) =
          lt_of_lt_of_le (sq-lt (twice-lt (significand n * down e) (m * up e * unit n) h))
          (le_trans (le_of_eq (ap (λ (x : ℕ). x * x) (sym (mul_assoc 2 (significand n) (down e))) ∙ sq-mul (2 * significand n) (down e))) (mul-le-mul_right (down e * down e) (least n first last z)))

-- ---- the same of the fraction that `root_whole n` is written as, A / B, which equals M / P
-- a fraction's middle with Y / D, scaled from M / P to A / B
carry : (A B M P Y D : ℕ) → A * P ≡ M * B → (M * D + Y * P) * B ≡ (A * D + Y * B) * P
carry A B M P Y D h =
    add-mul (M * D) (Y * P) B
    ∙ ap (λ (x : ℕ). x + Y * P * B) (mul_right_comm M D B ∙ ap (λ (x : ℕ). x * D) (sym h) ∙ mul_right_comm A P D)
    ∙ ap (λ (x : ℕ). A * D * P + x) (mul_right_comm Y P B)
    ∙ sym (add-mul (A * D) (Y * B) P)

scale-four : (n P D B : ℕ) → 4 * (n * (P * P)) * (D * D) * (B * B) ≡ 4 * (n * (B * D * (B * D))) * (P * P)
scale-four n P D B = simp (mul_assoc, mul_comm, mul_left_comm)

module _ (n A B M P Y D : ℕ) (h : A * P ≡ M * B) (Pp : 0 < P) (Bp : 0 < B) where
  sides : A * D * P ≡ M * D * B
  sides = mul_right_comm A D P ∙ ap (λ (x : ℕ). x * D) h ∙ mul_right_comm M B D

  squares : (M * D + Y * P) * (M * D + Y * P) * (B * B) ≡ (A * D + Y * B) * (A * D + Y * B) * (P * P)
  squares = sym (sq-mul (M * D + Y * P) B) ∙ ap (λ (x : ℕ). x * x) (carry A B M P Y D h) ∙ sq-mul (A * D + Y * B) P

  to-up : A * D < Y * B → M * D < Y * P
  to-up l = lt_of_mul-lt-mul_right B (lt_of_le_of_lt (le_of_eq (sym sides)) (lt_of_lt_of_le (mul-lt-mul_of_pos_right l Pp) (le_of_eq (mul_right_comm Y B P))))

  to-down : Y * B < A * D → Y * P < M * D
  to-down l = lt_of_mul-lt-mul_right B (lt_of_le_of_lt (le_of_eq (mul_right_comm Y P B)) (lt_of_lt_of_le (mul-lt-mul_of_pos_right l Pp) (le_of_eq sides)))

  from_up : 4 * (n * (P * P)) * (D * D) < (M * D + Y * P) * (M * D + Y * P) → 4 * (n * (B * D * (B * D))) < (A * D + Y * B) * (A * D + Y * B)
  from_up l =
      lt_of_mul-lt-mul_right (P * P)
      (lt_of_le_of_lt (le_of_eq (sym (scale-four n P D B))) (lt_of_lt_of_le (mul-lt-mul_of_pos_right l (mul-pos Bp Bp)) (le_of_eq squares)))

  from-down : (M * D + Y * P) * (M * D + Y * P) < 4 * (n * (P * P)) * (D * D) → (A * D + Y * B) * (A * D + Y * B) < 4 * (n * (B * D * (B * D)))
  from-down l =
      lt_of_mul-lt-mul_right (P * P)
      (lt_of_le_of_lt (le_of_eq (sym squares)) (lt_of_lt_of_le (mul-lt-mul_of_pos_right l (mul-pos Bp Bp)) (le_of_eq (scale-four n P D B))))

module _ (n : ℕ) (first : 1 ≤ n) (last : n ≤ 18446744073709551616) (s : Bool) (m : ℕ) (e : ℤ) (f : T (fits binary64 (fin s m e))) where
  abbrev A : ℕ
  A = num (root_whole n)

  abbrev B : ℕ
  B = den (root_whole n)

  cross : A * unit n ≡ significand n * B
  cross = value→cross (root_whole n) (significand n) (unit n) (value n first last)

  pub middle-above : num (root_whole n) * down e < m * up e * den (root_whole n) → 4 * (n * (den (root_whole n) * down e * (den (root_whole n) * down e))) < (num (root_whole n) * down e + m * up e * den (root_whole n)) * (num (root_whole n) * down e + m * up e * den (root_whole n))
  middle-above l =
      let p = pow_pos (shift n - 1) in
      let b = den_pos (root_whole n) in
      from_up n A B (significand n) (unit n) (m * up e) (down e) cross p b (near_up n first last s m e f (to-up n A B (significand n) (unit n) (m * up e) (down e) cross p b l))

  pub middle-below : m * up e * den (root_whole n) < num (root_whole n) * down e → (num (root_whole n) * down e + m * up e * den (root_whole n)) * (num (root_whole n) * down e + m * up e * den (root_whole n)) < 4 * (n * (den (root_whole n) * down e * (den (root_whole n) * down e)))
  middle-below l =
      let p = pow_pos (shift n - 1) in
      let b = den_pos (root_whole n) in
      from-down n A B (significand n) (unit n) (m * up e) (down e) cross p b (near_down n first last s m e f (to-down n A B (significand n) (unit n) (m * up e) (down e) cross p b l))
