-- What the tests of `square_root` say of x, and what `root_of` is there. `one`, `big` and `nought` are the constants 1, 2 ^ 64 and +0.
use Rattle.std.specs.Prelude.{Ok, Err}
use Rattle.std.proofs.Common.{◌≡◌, ℕ, suc, ◌*◌, ◌/◌, ◌%◌, ◌^◌, ◌<◌, ◌≤◌, Bool, true, false, not, ◌&&◌, ◌||◌, T, eqb, ltb, leb, ℤ, pos, negsuc, sym, refl, ap, ◌∙◌, subst, true≢false, le_of_eq, lt_of_le_of_lt, le_of_lt, mul-le-mul_right, mod-eq_of_lt, div-lt_iff_lt-mul, le_antisymm, one-mul, div-add-mod', le-div_iff_mul-le, zero-mul, mul-one, div-le_self, mul_right_comm, not-le_of_lt, le_of_mul-le-mul_right, arith, le→leb, eqb→eq, ltb→lt, leb→le, nltb→le, eq-eqb, eqb-true}
use native.Mathlib.Nat.{mod-one}
use mathlib.Core.Bool.{false≢true, and-true}
use lib.Dec.{nleb→lt}
use lib.Ieee.{Float, nan, inf, fin, binary64, up, down, round, eq, lt, le, fits, to_unsigned, to_bits, is_nan, of_int}
use lib.Ieee.Fits.{down_pos, and_l, and_r, eq→eqb}
use lib.Ieee.Exact.{HasValue}
use lib.Ieee.Back.{whole_unique, round_whole}
use lib.Ieee.Bits.{is_true}
use Rattle.refusal.specs.declared.Refusal.TheVariants.{OutOfRange}
use Rattle.float.proofs.Laws as laws
use Rattle.float.proofs.Laws.{so, at_most, level-or-below, digits_of, cut-is}
use Rattle.root.specs.Root.{root_of, root_whole}
use Rattle.root.proofs.Answers.{in-range, out_of_range}

abbrev pub one : Float
one = fin false 1 (pos 0)

abbrev pub big : Float
big = fin false 1 (pos 64)

abbrev pub nought : Float
nought = fin false 0 (pos 0)

-- ---- Booleans
pub same : (a b : Bool) → (T a → T b) → (T b → T a) → a ≡ b
same true true f g = refl
same true false f g = absurd (f tt)
same false true f g = absurd (g tt)
same false false f g = refl

pub no : {b : Bool} → b ≡ false → T b → ⊥
no e t = subst T e t

-- ---- the four tests of a finite x that is not negative, as tests of the fraction N / D
at-or-below : (a b : ℕ) → (ltb a b || (eqb a b && true)) ≡ leb a b
at-or-below a b =
    same (ltb a b || (eqb a b && true)) (leb a b)
    (λ t. le→leb a b (at_most a b (eqb a b) true (λ q. le_of_eq (eqb-true a b q)) (is_true _ t)))
    (λ t. so (level-or-below a b (eqb a b) (eq-eqb a b) (leb→le a b t)))

module _ (m : ℕ) (e : ℤ) where
  pub le-one : le one (fin false m e) ≡ leb (down e) (m * up e)
  unfolding le
  le-one = at-or-below (1 * down e) (m * up e * 1) ∙ ap (λ (a : ℕ). leb a (m * up e * 1)) (one-mul (down e)) ∙ ap (λ (a : ℕ). leb (down e) a) (mul-one (m * up e))

  pub lt-big : lt (fin false m e) big ≡ ltb (m * up e) (18446744073709551616 * down e)
  unfolding lt
  lt-big = ap (λ (a : ℕ). ltb a (18446744073709551616 * down e)) (mul-one (m * up e))

  pub eq-big : eq (fin false m e) big ≡ eqb (m * up e) (18446744073709551616 * down e)
  unfolding eq
  eq-big = and-true (eqb (m * up e * 1) (18446744073709551616 * down e)) ∙ ap (λ (a : ℕ). eqb a (18446744073709551616 * down e)) (mul-one (m * up e))

  pub eq-nought : eq (fin false m e) nought ≡ eqb (m * up e) 0
  unfolding eq
  eq-nought = and-true (eqb (m * up e * 1) (0 * down e)) ∙ ap (λ (a : ℕ). eqb a (0 * down e)) (mul-one (m * up e)) ∙ ap (λ (a : ℕ). eqb (m * up e) a) (zero-mul (down e))

-- ---- what is not above zero
minus-not-above : (a b : ℕ) → 0 < a → T (eqb a b && (false || eqb a 0)) → ⊥
minus-not-above a b p t = none (eqb→eq a 0 (and_r (eqb a b) (eqb a 0) t)) p
  where
    none : a ≡ 0 → 0 < a → ⊥
    none e h = omega arith

pub not_negative : (m : ℕ) (e : ℤ) → le one (fin true m e) ≡ true → ⊥
unfolding le
not_negative m e t = minus-not-above (1 * down e) (m * up e * 1) (subst (λ (x : ℕ). 0 < x) (sym (one-mul (down e))) (down_pos e)) (so t)

-- ---- 1 ≤ x < 2 ^ 64
pub above_minus_one : (x : Float) → le one x ≡ true → T (lt (fin true 1 (pos 0)) x)
unfolding le lt
above_minus_one nan h = absurd (false≢true h)
above_minus_one (inf true) h = absurd (false≢true h)
above_minus_one (inf false) h = tt
above_minus_one (fin true m e) h = absurd (not_negative m e h)
above_minus_one (fin false m e) h = laws.above_minus_one m e

module _ (m : ℕ) (e : ℤ) (a : le one (fin false m e) ≡ true) (b : lt (fin false m e) big ≡ true) where
  at_least : 1 ≤ m * up e / down e
  at_least = (le-div_iff_mul-le (down_pos e)).1 (subst (λ (x : ℕ). x ≤ m * up e) (sym (one-mul (down e))) (leb→le (down e) (m * up e) (so (sym (le-one m e) ∙ a))))

  less : m * up e / down e < 18446744073709551616
  less = (div-lt_iff_lt-mul (down_pos e)).1 (ltb→lt (m * up e) (18446744073709551616 * down e) (so (sym (lt-big m e) ∙ b)))

  cast_is : to_unsigned 64 (fin false m e) ≡ m * up e / down e
  cast_is = cut-is m e less

pub cast-pos : (x : Float) → le one x ≡ true → lt x big ≡ true → 1 ≤ to_unsigned 64 x
cast-pos nan a b = absurd (false≢true (unfold le in a))
cast-pos (inf true) a b = absurd (false≢true (unfold le in a))
cast-pos (inf false) a b = absurd (false≢true (unfold lt in b))
cast-pos (fin true m e) a b = absurd (not_negative m e a)
cast-pos (fin false m e) a b = subst (λ (x : ℕ). 1 ≤ x) (sym (cast_is m e a b)) (at_least m e a b)

-- ---- whether x is whole, by its whole part as a float
cancel : (k D N g : ℕ) → 0 < g → k * g * D ≡ N * g → k * D ≡ N
cancel k D N g p h = le_antisymm (le_of_mul-le-mul_right (le_of_eq (mul_right_comm k D g ∙ h)) p) (le_of_mul-le-mul_right (le_of_eq (sym (mul_right_comm k D g ∙ h))) p)

value-test : (y : Float) (k m : ℕ) (e : ℤ) → HasValue y false k 1 → eq y (fin false m e) ≡ eqb (k * down e) (m * up e)
unfolding eq
value-test nan k m e h = elim h [ ]
value-test (inf _) k m e h = elim h [ ]
value-test (fin true a g) k m e h = absurd (true≢false h.0)
value-test (fin false a g) k m e h =
    and-true (eqb (a * up g * down e) (m * up e * down g)) ∙ same (eqb (a * up g * down e) (m * up e * down g)) (eqb (k * down e) (m * up e))
    (λ t. eq→eqb (cancel k (down e) (m * up e) (down g) (down_pos g) (ap (λ (x : ℕ). x * down e) (sym v) ∙ eqb→eq (a * up g * down e) (m * up e * down g) t)))
    (λ t. eq→eqb (ap (λ (x : ℕ). x * down e) v ∙ mul_right_comm k (down g) (down e) ∙ ap (λ (x : ℕ). x * down g) (eqb→eq (k * down e) (m * up e) t)))
  where
    v : a * up g ≡ k * down g
    v = sym (mul-one (a * up g)) ∙ h.1

whole_part : (N D : ℕ) → N / D * D ≡ N → N % D ≡ 0
whole_part N D h = let a = div-add-mod' N D in omega arith

part-whole : (N D : ℕ) → N % D ≡ 0 → N / D * D ≡ N
part-whole N D h = let a = div-add-mod' N D in omega arith

back-test : (m : ℕ) (e : ℤ) → m * up e / down e ≤ 9007199254740992 → eq (of_int binary64 (pos (m * up e / down e))) (fin false m e) ≡ eqb (m * up e % down e) 0
unfolding of_int
back-test m e h =
    value-test (round binary64 false (m * up e / down e) 1) (m * up e / down e) m e (round_whole binary64 false (m * up e / down e) h)
    ∙ same (eqb (m * up e / down e * down e) (m * up e)) (eqb (m * up e % down e) 0)
    (λ t. eq→eqb (whole_part (m * up e) (down e) (eqb→eq (m * up e / down e * down e) (m * up e) t)))
    (λ t. eq→eqb (part-whole (m * up e) (down e) (eqb→eq (m * up e % down e) 0 t)))

pub root_below : (x : Float) → le one x ≡ true → lt x big ≡ true → to_unsigned 64 x < 9007199254740992 → eq (of_int binary64 (pos (to_unsigned 64 x))) x ≡ true → root_of x ≡ Ok (root_whole (to_unsigned 64 x))
root_below nan a b l c = absurd (false≢true (unfold le in a))
root_below (inf true) a b l c = absurd (false≢true (unfold le in a))
root_below (inf false) a b l c = absurd (false≢true (unfold lt in b))
root_below (fin true m e) a b l c = absurd (not_negative m e a)
root_below (fin false m e) a b l c =
    let i = cast_is m e a b in
    let t = back-test m e (le_of_lt (subst (λ (k : ℕ). k < 9007199254740992) i l)) in
    in-range m e (eqb→eq (m * up e % down e) 0 (so (sym t ∙ subst (λ (k : ℕ). eq (of_int binary64 (pos k)) (fin false m e) ≡ true) i c))) (le_of_lt (less m e a b))
    ∙ ap (λ (n : ℕ). Ok (root_whole n)) (sym i)

pub none_below : (x : Float) → le one x ≡ true → lt x big ≡ true → to_unsigned 64 x < 9007199254740992 → eq (of_int binary64 (pos (to_unsigned 64 x))) x ≡ false → root_of x ≡ Err OutOfRange
none_below nan a b l c = unfold root_of in refl
none_below (inf s) a b l c = unfold root_of in refl
none_below (fin true m e) a b l c = unfold root_of in refl
none_below (fin false m e) a b l c =
    let i = cast_is m e a b in
    let t = back-test m e (le_of_lt (subst (λ (k : ℕ). k < 9007199254740992) i l)) in
    out_of_range m e (λ z w. no (subst (λ (k : ℕ). eq (of_int binary64 (pos k)) (fin false m e) ≡ false) i c) (subst T (sym t) (eq→eqb z)))

-- at 2 ^ 53 and above each f64 is whole
large : (m : ℕ) (e : ℤ) → T (fits binary64 (fin false m e)) → 9007199254740992 ≤ m * up e / down e → m * up e % down e ≡ 0
large m (pos k) f h = mod-one (m * 2 ^ k)
large m (negsuc k) f h = absurd (not-le_of_lt (lt_of_le_of_lt (div-le_self (m * 1) (2 ^ suc k)) (subst (λ (x : ℕ). x < 9007199254740992) (sym (mul-one m)) (digits_of false m (negsuc k) f))) h)

pub root-above : (x : Float) → T (fits binary64 x) → le one x ≡ true → lt x big ≡ true → 9007199254740992 ≤ to_unsigned 64 x → root_of x ≡ Ok (root_whole (to_unsigned 64 x))
root-above nan f a b l = absurd (false≢true (unfold le in a))
root-above (inf true) f a b l = absurd (false≢true (unfold le in a))
root-above (inf false) f a b l = absurd (false≢true (unfold lt in b))
root-above (fin true m e) f a b l = absurd (not_negative m e a)
root-above (fin false m e) f a b l =
    let i = cast_is m e a b in
    in-range m e (large m e f (subst (λ (k : ℕ). 9007199254740992 ≤ k) i l)) (le_of_lt (less m e a b)) ∙ ap (λ (n : ℕ). Ok (root_whole n)) (sym i)

-- ---- 2 ^ 64 and above
clash : (a d : ℕ) → 0 < d → a ≡ 18446744073709551616 * d → a ≡ 0 → ⊥
clash a d h p q = omega arith

minus-big : (m : ℕ) (e : ℤ) → eq (fin true m e) big ≡ true → ⊥
unfolding eq
minus-big m e c =
    let t = so c in
    let p = eqb→eq (m * up e * 1) (18446744073709551616 * down e) (and_l (eqb (m * up e * 1) (18446744073709551616 * down e)) (eqb (m * up e * 1) 0) t) in
    let q = eqb→eq (m * up e * 1) 0 (and_r (eqb (m * up e * 1) (18446744073709551616 * down e)) (eqb (m * up e * 1) 0) t) in
    clash (m * up e * 1) (down e) (down_pos e) p q

pub is-big : (x : Float) → T (fits binary64 x) → eq x big ≡ true → x ≡ big
is-big nan f c = absurd (false≢true (unfold eq in c))
is-big (inf s) f c = absurd (false≢true (unfold eq in c))
is-big (fin true m e) f c = absurd (minus-big m e c)
is-big (fin false m e) f c =
    whole_unique binary64 (fin false m e) big false 18446744073709551616 f (unfold fits in tt)
    (refl, mul-one (m * up e) ∙ eqb→eq (m * up e) (18446744073709551616 * down e) (so (sym (eq-big m e) ∙ c))) (refl, refl)

pub too-big : (x : Float) → lt x big ≡ false → eq x big ≡ false → root_of x ≡ Err OutOfRange
too-big nan a b = unfold root_of in refl
too-big (inf s) a b = unfold root_of in refl
too-big (fin true m e) a b = unfold root_of in refl
too-big (fin false m e) a b = out_of_range m e (λ z l. over m e a b z l)
  where
    at : (N D : ℕ) → 18446744073709551616 * D ≤ N → N % D ≡ 0 → N / D ≤ 18446744073709551616 → N ≡ 18446744073709551616 * D
    at N D h z l = let p = div-add-mod' N D in let q = mul-le-mul_right D l in omega arith

    over : (m : ℕ) (e : ℤ) → lt (fin false m e) big ≡ false → eq (fin false m e) big ≡ false → m * up e % down e ≡ 0 → m * up e / down e ≤ 18446744073709551616 → ⊥
    over m e a b z l =
        no b (subst T (sym (eq-big m e)) (eq→eqb (at (m * up e) (down e)
        (nltb→le (m * up e) (18446744073709551616 * down e) (subst (λ (t : Bool). T (not t)) (sym (sym (lt-big m e) ∙ a)) tt)) z l)))

-- ---- below 1
pub zero-no-nan : (x : Float) → eq x nought ≡ true → T (not (is_nan x))
unfolding is_nan
zero-no-nan nan c = absurd (false≢true (unfold eq in c))
zero-no-nan (inf s) c = tt
zero-no-nan (fin s m e) c = tt

nought-of : (m : ℕ) (e : ℤ) → T (fits binary64 (fin false m e)) → m * up e ≡ 0 → fin false m e ≡ nought
nought-of m e f z =
    whole_unique binary64 (fin false m e) nought false 0 f (unfold fits in tt) (refl, mul-one (m * up e) ∙ z ∙ sym (zero-mul (down e))) (refl, refl)

minus-bits : (m : ℕ) (e : ℤ) → to_bits binary64 (fin true m e) ≡ 0 → ⊥
unfolding to_bits
minus-bits m e t = omega arith

pub is-nought : (x : Float) → T (fits binary64 x) → eq x nought ≡ true → to_bits binary64 x ≡ 0 → x ≡ nought
is-nought nan f c t = absurd (false≢true (unfold eq in c))
is-nought (inf s) f c t = absurd (false≢true (unfold eq in c))
is-nought (fin true m e) f c t = absurd (minus-bits m e t)
is-nought (fin false m e) f c t = nought-of m e f (eqb→eq (m * up e) 0 (so (sym (eq-nought m e) ∙ c)))

pub minus-nought : (x : Float) → T (fits binary64 x) → eq x nought ≡ true → (to_bits binary64 x ≡ 0 → ⊥) → root_of x ≡ Err OutOfRange
minus-nought nan f c t = unfold root_of in refl
minus-nought (inf s) f c t = unfold root_of in refl
minus-nought (fin true m e) f c t = unfold root_of in refl
minus-nought (fin false m e) f c t =
    absurd (t (ap (λ (x : Float). to_bits binary64 x) (nought-of m e f (eqb→eq (m * up e) 0 (so (sym (eq-nought m e) ∙ c)))) ∙ unfold to_bits in refl))

pub too_small : (x : Float) → le one x ≡ false → eq x nought ≡ false → root_of x ≡ Err OutOfRange
too_small nan a b = unfold root_of in refl
too_small (inf s) a b = unfold root_of in refl
too_small (fin true m e) a b = unfold root_of in refl
too_small (fin false m e) a b =
    out_of_range m e (λ z l. no b (subst T (sym (eq-nought m e)) (eq→eqb (sym (mod-eq_of_lt (nleb→lt (down e) (m * up e) (subst (λ (t : Bool). T (not t)) (sym (sym (le-one m e) ∙ a)) tt))) ∙ z))))
