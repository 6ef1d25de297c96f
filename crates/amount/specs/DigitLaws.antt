-- Laws of the definitions in Digits.antt.
use Rattle.std.specs.Prelude.{◌≡◌, refl, Bool, true, false, cond, List, [], ◌∷◌, ◌++◌, ℕ, ◌+◌, ◌-◌, ◌*◌, ◌^◌, ◌<◌, ◌≤◌, leb, length, drop, get_or}
use Rattle.std.proofs.Common.{ap, sym, ◌∙◌, add_assoc, add-mul, mul_assoc, mul-one, mul-le-mul_right, zero-add, add-zero, add-one, arith, leb-true, lit<, length-append, drop-cons}
use Rattle.std.proofs.Math.Nat.{pow-succ'}
use Rattle.std.proofs.Math.Seq.{drop-append_seam}
use Rattle.lists.specs.BoolLaws.{and_left, and_right}
use Rattle.amount.specs.Digits.{is_digit, leading, following, number_after, number}

-- A digit lies from 48 to 57.
pub digit_low : (b : ℕ) → is_digit b ≡ true → 48 ≤ b
digit_low b h = leb-true 48 b (and_left (leb 48 b) (leb b 57) h)

pub digit_high : (b : ℕ) → is_digit b ≡ true → b ≤ 57
digit_high b h = leb-true b 57 (and_right (leb 48 b) (leb b 57) h)

-- The leading digits and the rest are the text.
pub leading_following : (t : List ℕ) → leading t ++ following t ≡ t
unfolding leading following
leading_following [] = refl
leading_following (b ∷ t) = go (is_digit b) (leading_following t)
  where
    go : (d : Bool) → leading t ++ following t ≡ t → cond d (b ∷ leading t) [] ++ cond d (following t) (b ∷ t) ≡ b ∷ t
    go true h = ap (λ (l : List ℕ). b ∷ l) h
    go false h = refl

pub drop_leading : (t : List ℕ) → drop (length (leading t)) t ≡ following t
drop_leading t = ap (λ (l : List ℕ). drop (length (leading t)) l) (sym (leading_following t)) ∙ drop-append_seam (leading t) (following t)

pub length_leading : (t : List ℕ) → length (leading t) ≤ length t
length_leading t = omega (arith, length-append (leading t) (following t), ap length (leading_following t))

-- One step along the leading digits.
pub leading_on : {d : Bool} (s : List ℕ) (i : ℕ) → i < length s → d ≡ is_digit (get_or s i 0) → d ≡ true
    → leading (drop i s) ≡ get_or s i 0 ∷ leading (drop (i + 1) s)
unfolding leading
leading_on {d} s i h e t = rw (add-one, drop-cons s i 0, ← e, t)

pub leading_stop : {d : Bool} (s : List ℕ) (i : ℕ) → i < length s → d ≡ is_digit (get_or s i 0) → d ≡ false → leading (drop i s) ≡ []
unfolding leading
leading_stop {d} s i h e t = rw (drop-cons s i 0, ← e, t)

-- Digits after a number: the number moves up by as many places.
pub number_append : (n : ℕ) (a b : List ℕ) → number_after n (a ++ b) ≡ number_after (number_after n a) b
unfolding number_after
number_append n [] b = refl
number_append n (x ∷ a) b = number_append (n * 10 + (x - 48)) a b

shift : (n v p m : ℕ) → (n * 10 + v) * p + m ≡ n * (10 * p) + ((0 * 10 + v) * p + m)
shift n v p m = rw (zero-add v, add-mul (n * 10) v p, mul_assoc n 10 p) (add_assoc _ _ _)

pub number_after_lem : (n : ℕ) (d : List ℕ) → number_after n d ≡ n * 10 ^ length d + number d
unfolding number_after
number_after_lem n [] = sym (simp (mul-one, add-zero))
number_after_lem n (x ∷ d) =
    number_after_lem (n * 10 + (x - 48)) d
    ∙ shift n (x - 48) (10 ^ length d) (number d)
    ∙ rw (pow-succ' 10 (length d), number_after_lem (0 * 10 + (x - 48)) d)

-- So many digits write a number below that power of ten.
below_step : (v p m : ℕ) → v ≤ 9 → m < p → v * p + m < 10 * p
below_step v p m hv hm = omega (arith, mul-le-mul_right p hv)

pub number_below : (t : List ℕ) → number (leading t) < 10 ^ length (leading t)
unfolding leading number_after
number_below [] = lit< tt
number_below (b ∷ t) = go (is_digit b) refl (number_below t)
  where
    go : (d : Bool) → is_digit b ≡ d → number (leading t) < 10 ^ length (leading t) → number (cond d (b ∷ leading t) []) < 10 ^ length (cond d (b ∷ leading t) [])
    go true e h = rw (pow-succ' 10 (length (leading t)), number_after_lem (0 * 10 + (b - 48)) (leading t), zero-add (b - 48)) (below_step _ _ _ (omega (arith, digit_high b e)) h)
    go false e h = lit< tt
