-- How the reader's steps follow the grammar of Amount.antt: each law ends in what the code owes, and its premises are what the code knows there.
use Rattle.std.specs.Prelude.{◌≡◌, refl, Bool, true, false, ◌⊎◌, cond, List, [], ◌∷◌, ℕ, ◌+◌, ◌-◌, ◌*◌, ◌^◌, ◌<◌, ◌≤◌, eqb, length, take, drop, get_or, Some, Result, Ok, Err}
use Rattle.std.proofs.Common.{sym, ◌∙◌, ap, arith, eq-eqb, ne_eqb, lt-ltb, le-ltb, ⊎_elim}
use Rattle.std.specs.Cmp.Lexicographic.{pointwise}
use borrow.Author.Rules.{part_to_end}
use Rattle.std.proofs.Math.Bool.{and-false}
use Rattle.amount.specs.declared.Cap.{Cap}
use Rattle.amount.specs.declared.Cap.TheVariants.{Unlimited}
use Rattle.amount.specs.declared.error.AmountError.{AmountError}
use Rattle.amount.specs.declared.error.AmountError.TheVariants.{Text}
use Rattle.amount.specs.declared.unit.ByteUnit.{ByteUnit}
use Rattle.lists.specs.Bytes.{same_bytes}
use Rattle.amount.specs.Digits.{leading, following, number_after, number, AllDigits}
use Rattle.amount.specs.DigitLaws.{number_append, number_after_lem, number_below}
use Rattle.amount.specs.Amount.{size_of, counted, no_amount, within, fraction_digits, is_mark, unit_after, with_unit, after_whole, parse, amount_parsed, amount_of, unlimited_text}

-- Comparing by the library's word.
same_pointwise : (a b : List ℕ) → same_bytes a b ≡ pointwise eqb a b
same_pointwise [] [] = refl
same_pointwise [] (y ∷ b) = refl
same_pointwise (x ∷ a) [] = refl
same_pointwise (x ∷ a) (y ∷ b) = rw (same_pointwise a b)

-- Digits write a number below that power of ten.
pub all_below : (d : List ℕ) → AllDigits d → number d < 10 ^ length d
all_below d a = rw a at (number_below d)

-- The amount of digits and a unit, by the numbers of the two parts.
pub amount_joined : (w f : List ℕ) (u : ByteUnit) → counted ((number w * 10 ^ length f + number f) * size_of u) (10 ^ length f) ≡ amount_parsed (with_unit w f (Some u))
amount_joined w f u = rw (number_append 0 w f, number_after_lem (number w) f)

pub no_digits : AllDigits []
unfolding leading
no_digits = refl

pub no_number : 0 ≡ number []
unfolding number_after
no_number = refl

-- What follows the whole digits w: a mark and a fraction, or the unit.
module _ (w : List ℕ) where
  ended : (rest : List ℕ) → length rest < 1 → amount_parsed (with_unit w [] (unit_after rest)) ≡ amount_parsed (after_whole w rest)
  unfolding unit_after after_whole
  ended [] h = refl
  ended (b ∷ t) h = absurd (omega arith)

  unmarked : (rest : List ℕ) → 1 ≤ length rest → is_mark (get_or rest 0 0) ≡ false → after_whole w rest ≡ with_unit w [] (unit_after rest)
  unfolding after_whole
  unmarked [] h m = absurd (omega arith)
  unmarked (b ∷ t) h m = rw m

  marked : (rest : List ℕ) → 1 ≤ length rest → is_mark (get_or rest 0 0) ≡ true
      → after_whole w rest ≡ cond (fraction_digits (leading (drop 1 rest))) (with_unit w (leading (drop 1 rest)) (unit_after (following (drop 1 rest)))) no_amount
  unfolding after_whole
  marked [] h m = absurd (omega arith)
  marked (b ∷ t) h m = rw m

  module _ (rest : List ℕ) (x : Result Cap AmountError) where
    pub no_mark : x ≡ amount_parsed (with_unit w [] (unit_after rest)) → (length rest < 1) ⊎ ((1 ≤ length rest) × ((get_or rest 0 0 ≡ 44 → ⊥) × (get_or rest 0 0 ≡ 46 → ⊥)))
        → x ≡ amount_parsed (after_whole w rest)
    no_mark e h = e ∙ ⊎_elim (λ l. ended rest l) (λ l. sym (ap amount_parsed (unmarked rest l.0 (rw (ne_eqb (get_or rest 0 0) 44 l.1.0, ne_eqb (get_or rest 0 0) 46 l.1.1))))) h

    -- the mark, and what stands after it
    module _ (h : 1 ≤ length rest) (m : (get_or rest 0 0 ≡ 44) ⊎ (get_or rest 0 0 ≡ 46)) where
      abbrev t : List ℕ
      t = take (length rest - 1) (drop 1 rest)

      on_mark : after_whole w rest ≡ cond (fraction_digits (leading t)) (with_unit w (leading t) (unit_after (following t))) no_amount
      on_mark = rw (part_to_end rest 1) (marked rest h (⊎_elim (λ q. rw q) (λ q. rw q) m))

      pub no_fraction : within 9 (length (leading (take (length rest - 1) (drop 1 rest)))) ≡ false → x ≡ Err Text → x ≡ amount_parsed (after_whole w rest)
      no_fraction f q = q ∙ sym (rw (on_mark, f))

      pub fraction_on : (d r : List ℕ) → d ≡ leading (take (length rest - 1) (drop 1 rest)) → r ≡ following (take (length rest - 1) (drop 1 rest))
          → within 9 (length (leading (take (length rest - 1) (drop 1 rest)))) ≡ true → x ≡ amount_parsed (with_unit w d (unit_after r)) → x ≡ amount_parsed (after_whole w rest)
      fraction_on d r p k f q = q ∙ rw (p, k) (sym (rw (on_mark, f)))

-- A text by its whole digits; b says whether it is the word for no limit.
module _ (t : List ℕ) (b : Bool) (e : b ≡ pointwise eqb t unlimited_text) where
  same : same_bytes t unlimited_text ≡ b
  same = same_pointwise t unlimited_text ∙ sym e

  pub word_read : b ≡ true → Ok Unlimited ≡ amount_of t
  unfolding amount_of
  word_read h = sym (rw (same, h))

  module _ (h : b ≡ false) (x : Result Cap AmountError) where
    no_word : amount_of t ≡ amount_parsed (parse t)
    unfolding amount_of
    no_word = rw (same, h)

    pub no_digits_read : x ≡ Err Text → within 11 (length (leading t)) ≡ false → x ≡ amount_of t
    unfolding parse
    no_digits_read q f = q ∙ sym (no_word ∙ rw f)

    module _ (d r : List ℕ) (p : d ≡ leading t) (k : r ≡ following t) where
      pub zero_first : x ≡ Err Text → 1 < length d → get_or d 0 0 ≡ 48 → x ≡ amount_of t
      unfolding parse
      zero_first q l z = q ∙ sym (no_word ∙ rw (← p, lt-ltb 1 (length d) l, eq-eqb (get_or d 0 0) 48 z, and-false))

      pub whole_read : within 11 (length (leading t)) ≡ true → ((1 < length d) × (get_or d 0 0 ≡ 48 → ⊥)) ⊎ (length d ≤ 1) → x ≡ amount_parsed (after_whole d r) → x ≡ amount_of t
      unfolding parse
      whole_read f z q = q ∙ sym (no_word ∙ rw (← p, ← k) (⊎_elim (λ w. rw (rw (← p) at f, ne_eqb (get_or d 0 0) 48 w.1, and-false)) (λ w. rw (rw (← p) at f, le-ltb 1 (length d) w)) z))
