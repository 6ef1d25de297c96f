-- Laws of tests that are joined by "and" and "or". Assumes nothing.
use Rattle.std.specs.Prelude.{◌≡◌, refl, Bool, true, false, ◌&&◌, ◌||◌, ◌⊎◌}
use Rattle.std.proofs.Common.{sym, ◌∙◌, true≢false, inl, inr}

-- both parts of a test that passes, and back
pub and_left : (a b : Bool) → (a && b) ≡ true → a ≡ true
and_left true b e = refl
and_left false b e = e

pub and_right : (a b : Bool) → (a && b) ≡ true → b ≡ true
and_right true b e = e
and_right false true e = refl
and_right false false e = e

pub and_both : {a b : Bool} → a ≡ true → b ≡ true → (a && b) ≡ true
and_both e f = rw (e, f)

-- both parts of a test that fails, and back
pub or_left : (a b : Bool) → (a || b) ≡ false → a ≡ false
or_left true b e = e
or_left false b e = refl

pub or_right : (a b : Bool) → (a || b) ≡ false → b ≡ false
or_right false b e = e
or_right true true e = e
or_right true false e = refl

pub or_none : {a b : Bool} → a ≡ false → b ≡ false → (a || b) ≡ false
or_none e f = rw (e, f)

-- a test passes or fails
pub pass_or_fail : (b : Bool) → (b ≡ true) ⊎ (b ≡ false)
pass_or_fail true = inl refl
pass_or_fail false = inr refl

-- a test does not both pass and fail
pub not_both : {b : Bool} → b ≡ true → b ≡ false → ⊥
not_both e f = true≢false (sym e ∙ f)

pub not_pass : (b : Bool) → (b ≡ true → ⊥) → b ≡ false
not_pass true h = absurd (h refl)
not_pass false h = refl

-- two tests that pass for each other are the same
pub same_test : (a b : Bool) → (a ≡ true → b ≡ true) → (b ≡ true → a ≡ true) → a ≡ b
same_test true b f g = sym (f refl)
same_test false true f g = g refl
same_test false false f g = refl
