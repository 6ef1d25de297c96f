-- The number that reading gives is right: what each answer means, for every text, with 10^f for f fraction digits and
-- the whole and the fraction digits as one number. The first three are of a text that the grammar takes; the last two are of all texts.
use Rattle.std.proofs.Math.Path.{◌≡◌, refl}
use Rattle.std.proofs.Common.{ap, sym, ◌∙◌, mul-div_cancel, div-add-mod', arith, eqb-true, leb-true, leb-false, lit≤}
use Rattle.std.specs.Prelude.{Bool, List, ◌++◌, ◌↔◌, ℕ, ◌*◌, ◌/◌, ◌%◌, ◌^◌, ◌<◌, ◌≤◌, eqb, leb, length, Result, Ok, Err}
use Rattle.amount.specs.declared.error.AmountError.{AmountError}
use Rattle.amount.specs.declared.error.AmountError.TheVariants.{Room, Text, NotWhole, TooLarge}
use Rattle.std.proofs.Math.Bool.{true, false, cond, false≢true}
use Rattle.std.proofs.Math.Nat.{mul-mod_left}
use Rattle.std.proofs.lemmas.Bool.{eqb-false}
use Rattle.amount.specs.declared.unit.ByteUnit.{ByteUnit}
use Rattle.amount.specs.declared.Cap.{Cap}
use Rattle.amount.specs.declared.Cap.TheVariants.{Unlimited, Bytes}
use Rattle.lists.specs.Bytes.{same_bytes}
use Rattle.amount.specs.Digits.{number, leading, following}
use Rattle.lists.specs.ByteLaws.{same_eq, same_self}
use Rattle.amount.specs.Amount.{limit, unlimited_text, size_of, Parsed, amount, no_amount, parse, counted, amount_parsed, error_number, read_number, amount_of}
use Rattle.amount.specs.AmountLaws.{power_pos, counted_part, counted_above, counted_read}

-- The cases of a division of n by p, with what holds in each.
data Division (n p : ℕ) : Result Cap AmountError → Type 0 where
  part : (n % p ≡ 0 → ⊥) → Division n p (Err NotWhole)
  above : n % p ≡ 0 → limit < n / p → Division n p (Err TooLarge)
  within : n % p ≡ 0 → n / p ≤ limit → Division n p (Ok (Bytes (n / p)))

divided : (n p : ℕ) → Division n p (counted n p)
unfolding counted
divided n p = go (eqb (n % p) 0) (leb (n / p) limit) refl refl
  where
    go : (d l : Bool) → eqb (n % p) 0 ≡ d → leb (n / p) limit ≡ l → Division n p (cond d (cond l (Ok (Bytes (n / p))) (Err TooLarge)) (Err NotWhole))
    go false l e f = part (eqb-false _ _ e)
    go true false e f = above (eqb-true _ _ e) (leb-false _ _ f)
    go true true e f = within (eqb-true _ _ e) (leb-true _ _ f)

-- A count c with c × p ≡ n, and the division.
exact : (n p c : ℕ) → 0 < p → c * p ≡ n → (n % p ≡ 0) × (n / p ≡ c)
exact n p c h e = (ap (λ (k : ℕ). k % p) (sym e) ∙ mul-mod_left c p, ap (λ (k : ℕ). k / p) (sym e) ∙ mul-div_cancel c h)

whole : (n p : ℕ) → n % p ≡ 0 → n / p * p ≡ n
whole n p e = omega (arith, div-add-mod' n p)

module _ (n p : ℕ) (h : 0 < p) where
  counted_23 : (counted n p ≡ Err NotWhole) ↔ ((c : ℕ) → c * p ≡ n → ⊥)
  counted_23 = (λ e. to (divided n p) e, λ none. counted_part n p (λ e. none (n / p) (whole n p e)))
    where
      to : {r : Result Cap AmountError} → Division n p r → r ≡ Err NotWhole → (c : ℕ) → c * p ≡ n → ⊥
      to (part d) e c q = d (exact n p c h q).0
      to (above d l) e c q = let z : ◌≡◌ {A = ℕ} 0 1 = cc in omega arith
      to (within d l) e c q = let z : ◌≡◌ {A = ℕ} 0 1 = cc in omega arith

  counted_24 : (counted n p ≡ Err TooLarge) ↔ ((c : ℕ) × (c * p ≡ n) × (limit < c))
  counted_24 = (λ e. to (divided n p) e, λ s. counted_above n p (exact n p s.0 h s.1).0 (rw (exact n p s.0 h s.1).1 s.2))
    where
      to : {r : Result Cap AmountError} → Division n p r → r ≡ Err TooLarge → (c : ℕ) × (c * p ≡ n) × (limit < c)
      to (part d) e = absurd (let z : ◌≡◌ {A = ℕ} 0 1 = cc in omega arith)
      to (above d l) e = (n / p, whole n p d, l)
      to (within d l) e = absurd (let z : ◌≡◌ {A = ℕ} 0 1 = cc in omega arith)

  counted_bytes : (c : ℕ) → (counted n p ≡ Ok (Bytes c)) ↔ ((c * p ≡ n) × (c ≤ limit))
  counted_bytes c = (λ e. to (divided n p) e, λ s. counted_read n p (exact n p c h s.0).0 (rw (exact n p c h s.0).1 s.1) ∙ rw (exact n p c h s.0).1)
    where
      to : {r : Result Cap AmountError} → Division n p r → r ≡ Ok (Bytes c) → (c * p ≡ n) × (c ≤ limit)
      to (part d) e = absurd (let z : ◌≡◌ {A = ℕ} 0 1 = cc in omega arith)
      to (above d l) e = absurd (let z : ◌≡◌ {A = ℕ} 0 1 = cc in omega arith)
      to (within d l) e =
          let q : n / p ≡ c = cc in
          (rw (← q) (whole n p d), rw (← q) l)

-- The word for no limit is not an amount by the grammar.
word_no_amount : (t : List ℕ) → same_bytes t unlimited_text ≡ true → parse t ≡ no_amount
unfolding parse leading following
word_no_amount t e = rw (same_eq t unlimited_text e)

-- A text that the grammar takes is no word.
parsed_counted : (t w f : List ℕ) (u : ByteUnit) → parse t ≡ amount w f u → amount_of t ≡ counted (number (w ++ f) * size_of u) (10 ^ length f)
unfolding amount_of
parsed_counted t w f u e = go (same_bytes t unlimited_text) refl
  where
    go : (b : Bool) → same_bytes t unlimited_text ≡ b → cond b (Ok Unlimited) (amount_parsed (parse t)) ≡ counted (number (w ++ f) * size_of u) (10 ^ length f)
    go true q = absurd (let h : no_amount ≡ amount w f u = sym (word_no_amount t q) ∙ e in let z : ◌≡◌ {A = ℕ} 0 1 = cc in omega arith)
    go false q = rw e

-- A refusal's number is not 0, and no two refusals have the same.
pub number_some : (e : AmountError) → 1 ≤ error_number e
number_some Room = lit≤ tt
number_some Text = lit≤ tt
number_some NotWhole = lit≤ tt
number_some TooLarge = lit≤ tt

abbrev numbered : ℕ → AmountError
numbered n = cond (eqb n 12) Room (cond (eqb n 22) Text (cond (eqb n 23) NotWhole TooLarge))

numbered_back : (e : AmountError) → numbered (error_number e) ≡ e
numbered_back Room = refl
numbered_back Text = refl
numbered_back NotWhole = refl
numbered_back TooLarge = refl

pub number_apart : (d e : AmountError) → error_number d ≡ error_number e → d ≡ e
number_apart d e h = sym (numbered_back d) ∙ ap numbered h ∙ numbered_back e

-- An answer has a refusal's number exactly where it is that refusal: the theorems speak of the number.
numbered_exactly : {A : Type 0} (r : Result Cap AmountError) (e : AmountError) → (r ≡ Err e) ↔ A → (read_number r ≡ error_number e) ↔ A
numbered_exactly r e q = (λ h. q.0 (refused_of r h), λ a. ap read_number (q.1 a))
  where
    refused_of : (x : Result Cap AmountError) → read_number x ≡ error_number e → x ≡ Err e
    refused_of (Ok cap) h = absurd (omega (arith, number_some e))
    refused_of (Err d) h = ap Err (number_apart d e h)

-- c bytes are what the digits and the unit say: c × 10^f ≡ digits × unit.
abbrev pub Exactly : ℕ → List ℕ → List ℕ → ByteUnit → Type 0
Exactly c w f u = c * 10 ^ length f ≡ number (w ++ f) * size_of u

-- A text of whole digits w, fraction digits f and the unit u.
module _ (t w f : List ℕ) (u : ByteUnit) (parsed : parse t ≡ amount w f u) where
  -- It is read as c bytes exactly where they are what it says, and at most 2^36.
  pub read_exactly : (c : ℕ) → (amount_of t ≡ Ok (Bytes c)) ↔ (Exactly c w f u × (c ≤ limit))
  read_exactly c = rw (parsed_counted t w f u parsed) (counted_bytes _ _ (power_pos (length f)) c)

  -- 23 exactly where no count of bytes is what it says.
  pub not_whole_exactly : (read_number (amount_of t) ≡ 23) ↔ ((c : ℕ) → Exactly c w f u → ⊥)
  not_whole_exactly = numbered_exactly (amount_of t) NotWhole (rw (parsed_counted t w f u parsed) (counted_23 _ _ (power_pos (length f))))

  -- 24 exactly where a count of bytes is what it says, and is above 2^36.
  pub too_large_exactly : (read_number (amount_of t) ≡ 24) ↔ ((c : ℕ) × Exactly c w f u × (limit < c))
  too_large_exactly = numbered_exactly (amount_of t) TooLarge (rw (parsed_counted t w f u parsed) (counted_24 _ _ (power_pos (length f))))

-- What a division never answers.
never_22 : {n p : ℕ} {r : Result Cap AmountError} → Division n p r → r ≡ Err Text → ⊥
never_22 (part d) e = let z : ◌≡◌ {A = ℕ} 0 1 = cc in omega arith
never_22 (above d l) e = let z : ◌≡◌ {A = ℕ} 0 1 = cc in omega arith
never_22 (within d l) e = let z : ◌≡◌ {A = ℕ} 0 1 = cc in omega arith

never_unlimited : {n p : ℕ} {r : Result Cap AmountError} → Division n p r → r ≡ Ok Unlimited → ⊥
never_unlimited (part d) e = let z : ◌≡◌ {A = ℕ} 0 1 = cc in omega arith
never_unlimited (above d l) e = let z : ◌≡◌ {A = ℕ} 0 1 = cc in omega arith
never_unlimited (within d l) e = let z : ◌≡◌ {A = ℕ} 0 1 = cc in omega arith

parsed_22 : (p : Parsed) → amount_parsed p ≡ Err Text → p ≡ no_amount
parsed_22 (amount w f u) e = absurd (never_22 (divided _ _) e)
parsed_22 no_amount e = refl

parsed_unlimited : (p : Parsed) → amount_parsed p ≡ Ok Unlimited → ⊥
parsed_unlimited (amount w f u) e = never_unlimited (divided _ _) e
parsed_unlimited no_amount e = let z : ◌≡◌ {A = ℕ} 0 1 = cc in omega arith

module _ (t : List ℕ) where
  -- 22 exactly where the text is neither the word nor an amount by the grammar.
  pub text_refused_exactly : (read_number (amount_of t) ≡ 22) ↔ ((t ≡ unlimited_text → ⊥) × (parse t ≡ no_amount))
  unfolding amount_of
  text_refused_exactly =
      numbered_exactly (amount_of t) Text (to (same_bytes t unlimited_text) refl, λ s. from s (same_bytes t unlimited_text) refl)
    where
      to : (b : Bool) → same_bytes t unlimited_text ≡ b → cond b (Ok Unlimited) (amount_parsed (parse t)) ≡ Err Text → (t ≡ unlimited_text → ⊥) × (parse t ≡ no_amount)
      to true q e = absurd (let z : ◌≡◌ {A = ℕ} 0 1 = cc in omega arith)
      to false q e = (λ w. false≢true (sym q ∙ rw w (same_self unlimited_text)), parsed_22 (parse t) e)

      from : (t ≡ unlimited_text → ⊥) × (parse t ≡ no_amount) → (b : Bool) → same_bytes t unlimited_text ≡ b → cond b (Ok Unlimited) (amount_parsed (parse t)) ≡ Err Text
      from s true q = absurd (s.0 (same_eq t unlimited_text q))
      from s false q = rw s.1

  -- No limit exactly where the text is the word.
  pub unlimited_exactly : (amount_of t ≡ Ok Unlimited) ↔ (t ≡ unlimited_text)
  unfolding amount_of
  unlimited_exactly = (to (same_bytes t unlimited_text) refl, λ w. rw w)
    where
      to : (b : Bool) → same_bytes t unlimited_text ≡ b → cond b (Ok Unlimited) (amount_parsed (parse t)) ≡ Ok Unlimited → t ≡ unlimited_text
      to true q e = same_eq t unlimited_text q
      to false q e = absurd (parsed_unlimited (parse t) e)
