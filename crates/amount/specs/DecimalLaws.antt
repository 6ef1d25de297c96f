-- Laws of `decimal`: its digits are digits, they write the number, and there are no more of them than needed.
use Rattle.std.specs.Prelude.{◌≡◌, refl, Bool, true, false, cond, List, [], ◌∷◌, ◌++◌, ℕ, zero, suc, ◌+◌, ◌*◌, ◌/◌, ◌%◌, ◌^◌, ◌<◌, ◌≤◌, max, ltb, length, get_or}
use Rattle.std.proofs.Common.{ap, sym, ◌∙◌, pow-suc, arith, lt-ltb, le-ltb, le-leb, ltb-true, ltb-false, lit≤, lit<, length-append}
use Rattle.std.proofs.Math.Nat.{pow-succ', pow-le-pow_right}
use Rattle.std.proofs.Math.ListN.{get_or-append}
use Rattle.amount.specs.Digits.{is_digit, leading, following, number_after, number, digit, decimal_within, decimal}
use Rattle.amount.specs.DigitLaws.{number_append, number_below}

-- The bound on the count of digits does not matter once it is large enough.
within_small : (k n : ℕ) → n < 10 → decimal_within k n ≡ digit n ∷ []
unfolding decimal_within
within_small zero n h = refl
within_small (suc k) n h = rw (lt-ltb n 10 h)

within_more : (k n : ℕ) → 10 ≤ n → decimal_within (suc k) n ≡ decimal_within k (n / 10) ++ (digit (n % 10) ∷ [])
unfolding decimal_within
within_more k n h = rw (le-ltb n 10 h)

-- A number is below 10, or a number with one digit less and a last digit.
pub small_or_more : (n : ℕ) (P : Type 0) → (n < 10 → P) → (10 ≤ n → P) → P
small_or_more n P a b = go (ltb n 10) refl
  where
    go : (d : Bool) → ltb n 10 ≡ d → P
    go true e = a (ltb-true n 10 e)
    go false e = b (ltb-false n 10 e)

within_any : (j k n : ℕ) → n ≤ j → n ≤ k → decimal_within j n ≡ decimal_within k n
within_any zero k n h l = within_small zero n (omega arith) ∙ sym (within_small k n (omega arith))
within_any (suc j) zero n h l = within_small (suc j) n (omega arith) ∙ sym (within_small zero n (omega arith))
within_any (suc j) (suc k) n h l =
    small_or_more n _ (λ s. within_small (suc j) n s ∙ sym (within_small (suc k) n s))
    (λ m. within_more j n m ∙ ap (λ (d : List ℕ). d ++ (digit (n % 10) ∷ [])) (within_any j k (n / 10) (omega arith) (omega arith)) ∙ sym (within_more k n m))

pub decimal_small : (n : ℕ) → n < 10 → decimal n ≡ digit n ∷ []
decimal_small n h = within_small n n h

pub decimal_more : (n : ℕ) → 10 ≤ n → decimal n ≡ decimal (n / 10) ++ (digit (n % 10) ∷ [])
decimal_more zero h = absurd (omega arith)
decimal_more (suc k) h = within_more k (suc k) h ∙ ap (λ (d : List ℕ). d ++ (digit (suc k % 10) ∷ [])) (within_any k (suc k / 10) (suc k / 10) (omega arith) (omega arith))

-- Induction along the digits.
pub decimal_ind : (P : ℕ → Type 0) → ((n : ℕ) → n < 10 → P n) → ((n : ℕ) → 10 ≤ n → P (n / 10) → P n) → (n : ℕ) → P n
decimal_ind P small more n = go n n (omega arith)
  where
    go : (k m : ℕ) → m ≤ k → P m
    go zero m h = small m (omega arith)
    go (suc k) m h = small_or_more m (P m) (small m) (λ l. more m l (go k (m / 10) (omega arith)))

-- One digit.
digit_is : (d : ℕ) → d < 10 → is_digit (digit d) ≡ true
digit_is d h = rw (le-leb 48 (48 + d) (omega arith), le-leb (48 + d) 57 (omega arith))

-- Digits in front of a text: those are its leading digits, and then its own.
pub leading_append : (d t : List ℕ) → leading d ≡ d → leading (d ++ t) ≡ d ++ leading t
unfolding leading
leading_append [] t e = refl
leading_append (b ∷ d) t e = go (is_digit b) e (leading_append d t)
  where
    go : (q : Bool) → cond q (b ∷ leading d) [] ≡ b ∷ d → (leading d ≡ d → leading (d ++ t) ≡ d ++ leading t) → cond q (b ∷ leading (d ++ t)) [] ≡ b ∷ (d ++ leading t)
    go true h r = let i : leading d ≡ d = cc in ap (λ (l : List ℕ). b ∷ l) (r i)
    go false h r = absurd (let z : ◌≡◌ {A = ℕ} 0 1 = cc in omega arith)

pub following_append : (d t : List ℕ) → leading d ≡ d → following (d ++ t) ≡ following t
unfolding leading following
following_append [] t e = refl
following_append (b ∷ d) t e = go (is_digit b) e (following_append d t)
  where
    go : (q : Bool) → cond q (b ∷ leading d) [] ≡ b ∷ d → (leading d ≡ d → following (d ++ t) ≡ following t) → cond q (following (d ++ t)) (b ∷ (d ++ t)) ≡ following t
    go true h r = let i : leading d ≡ d = cc in r i
    go false h r = absurd (let z : ◌≡◌ {A = ℕ} 0 1 = cc in omega arith)

one_leading : (d : ℕ) → d < 10 → leading (digit d ∷ []) ≡ digit d ∷ []
unfolding leading
one_leading d h = rw (digit_is d h)

one_number : (n d : ℕ) → number_after n (digit d ∷ []) ≡ n * 10 + d
unfolding number_after
one_number n d = omega arith

-- Every byte of it is a digit.
pub decimal_digits : (n : ℕ) → leading (decimal n) ≡ decimal n
decimal_digits = decimal_ind (λ n. leading (decimal n) ≡ decimal n) small more
  where
    small : (n : ℕ) → n < 10 → leading (decimal n) ≡ decimal n
    small n h = rw (decimal_small n h) (one_leading n h)

    more : (n : ℕ) → 10 ≤ n → leading (decimal (n / 10)) ≡ decimal (n / 10) → leading (decimal n) ≡ decimal n
    more n h r = rw (decimal_more n h, leading_append (decimal (n / 10)) (digit (n % 10) ∷ []) r, one_leading (n % 10) (omega arith))

-- It writes the number.
pub decimal_number : (n : ℕ) → number (decimal n) ≡ n
decimal_number = decimal_ind (λ n. number (decimal n) ≡ n) small more
  where
    small : (n : ℕ) → n < 10 → number (decimal n) ≡ n
    small n h = rw (decimal_small n h, one_number 0 n) (omega arith)

    more : (n : ℕ) → 10 ≤ n → number (decimal (n / 10)) ≡ n / 10 → number (decimal n) ≡ n
    more n h r = rw (decimal_more n h, number_append 0 (decimal (n / 10)) (digit (n % 10) ∷ []), r, one_number (n / 10) (n % 10)) (omega arith)

-- It has a digit, and no more than a number below that power of ten needs.
pub decimal_some : (n : ℕ) → 1 ≤ length (decimal n)
decimal_some n = small_or_more n _ (λ h. rw (decimal_small n h) (lit≤ tt)) (λ h. rw (decimal_more n h, length-append (decimal (n / 10)) (digit (n % 10) ∷ [])) (omega arith))

pub decimal_length : (n m : ℕ) → n < 10 ^ suc m → length (decimal n) ≤ suc m
decimal_length = decimal_ind (λ n. (m : ℕ) → n < 10 ^ suc m → length (decimal n) ≤ suc m) small more
  where
    small : (n : ℕ) → n < 10 → (m : ℕ) → n < 10 ^ suc m → length (decimal n) ≤ suc m
    small n h m l = rw (decimal_small n h) (omega arith)

    more : (n : ℕ) → 10 ≤ n → ((m : ℕ) → n / 10 < 10 ^ suc m → length (decimal (n / 10)) ≤ suc m) → (m : ℕ) → n < 10 ^ suc m → length (decimal n) ≤ suc m
    more n h r zero l = absurd (omega arith)
    more n h r (suc m) l =
        let below : n < 10 ^ suc m * 10 = rw pow-suc at l in
        rw (decimal_more n h, length-append (decimal (n / 10)) (digit (n % 10) ∷ [])) (omega (arith, r m (omega arith)))

-- Its first digit is no 0, unless the number is 0.
pub decimal_first : (n : ℕ) → 1 ≤ n → 48 < get_or (decimal n) 0 0
decimal_first = decimal_ind (λ n. 1 ≤ n → 48 < get_or (decimal n) 0 0) small more
  where
    small : (n : ℕ) → n < 10 → 1 ≤ n → 48 < get_or (decimal n) 0 0
    small n h l = rw (decimal_small n h) (omega arith)

    more : (n : ℕ) → 10 ≤ n → (1 ≤ n / 10 → 48 < get_or (decimal (n / 10)) 0 0) → 1 ≤ n → 48 < get_or (decimal n) 0 0
    more n h r l = rw (decimal_more n h, get_or-append (decimal (n / 10)) (digit (n % 10) ∷ []) 0 0 (decimal_some (n / 10))) (r (omega arith))

-- How many digits a number has, by the power of ten below it; 0 has one, as 1 has.
pub length_by_power : (n k : ℕ) → 10 ^ k ≤ max n 1 → max n 1 < 10 * 10 ^ k → k + 1 ≡ length (decimal n)
length_by_power n k low high =
    let few : length (decimal n) ≤ suc k = decimal_length n k (rw (pow-succ' 10 k) (omega arith)) in
    let some : 1 ≤ length (decimal n) = decimal_some n in
    let below : n < 10 ^ length (decimal n) = rw (decimal_digits n, decimal_number n) at (number_below (decimal n)) in
    go (ltb k (length (decimal n))) refl few some below
  where
    go : (b : Bool) → ltb k (length (decimal n)) ≡ b → length (decimal n) ≤ suc k → 1 ≤ length (decimal n) → n < 10 ^ length (decimal n) → k + 1 ≡ length (decimal n)
    go true e few some below = let h = ltb-true k _ e in omega arith
    go false e few some below =
        let h = ltb-false k _ e in
        let p = pow-le-pow_right {n = 10} (lit< tt) {i = length (decimal n)} {j = k} h in
        let q = pow-le-pow_right {n = 10} (lit< tt) {i = 1} {j = length (decimal n)} some in
        absurd (omega arith)
