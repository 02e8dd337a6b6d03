-- A test, what is answered where it speaks against going on, and the rest: a chain of these reads from top to bottom, in the order of a document's refusals. Definitions only.
use Rattle.std.specs.Prelude.{Bool, cond}

-- refused where the test holds
abbrev pub refuse_if : {A : Type 0} → Bool → A → A → A
refuse_if test refusal rest = cond test refusal rest

-- refused where the test does not hold
abbrev pub refuse_unless : {A : Type 0} → Bool → A → A → A
refuse_unless test refusal rest = cond test rest refusal
