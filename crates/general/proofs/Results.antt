-- Two answers that are equal are both there or both refused, and say the same.
use Rattle.std.specs.Prelude.{◌≡◌, Result, Ok, Err}

module _ {A E : Type 0} where
  pub ok-path : {a b : A} → ◌≡◌ {A = Result A E} (Ok a) (Ok b) → a ≡ b
  ok-path e = cc

  pub err-path : {r t : E} → ◌≡◌ {A = Result A E} (Err r) (Err t) → r ≡ t
  err-path e = cc

  pub err-is-no-ok : {a : A} {r : E} → ◌≡◌ {A = Result A E} (Err r) (Ok a) → ⊥
  err-is-no-ok e = cc
