-- The laws of numbers as bytes: one round trip each way, over the number of bytes. Assumes nothing.
use Rattle.std.specs.Prelude.{◌≡◌, refl, true, List, [], ◌∷◌, ◌++◌, ℕ, zero, suc, ◌+◌, ◌*◌, ◌/◌, ◌%◌, ◌^◌, ◌<◌, ltb, length}
use Rattle.std.proofs.Common.{sym, ◌∙◌, ap, pow-suc, mul_assoc, mul-one, add-one, arith, length-append, ltb-true}
use Rattle.std.proofs.Math.Nat.{pow-succ', pow-zero}
use Rattle.std.proofs.Math.Pow.{are_bytes}
use Rattle.std.proofs.Math.Arith.{digits_lt}
use Rattle.lists.specs.BoolLaws.{and_left, and_right}
use Rattle.journal.specs.Numbers.{bytes_of, number_of}

-- a number in w bytes has w bytes
pub length_bytes_of : (w n : ℕ) → length (bytes_of w n) ≡ w
unfolding bytes_of
length_bytes_of zero n = refl
length_bytes_of (suc w) n =
    length-append (bytes_of w (n / 256)) (n % 256 ∷ []) ∙ ap (λ (k : ℕ). k + 1) (length_bytes_of w (n / 256)) ∙ add-one w

-- one more byte at the end
pub number_of_snoc : (l : List ℕ) (b : ℕ) → number_of (l ++ (b ∷ [])) ≡ number_of l * 256 + b
unfolding number_of
number_of_snoc [] b = omega (arith, mul-one b)
number_of_snoc (x ∷ l) b =
    let e : length (l ++ (b ∷ [])) ≡ suc (length l) = length-append l (b ∷ []) ∙ add-one (length l) in
    let q : x * 256 ^ length (l ++ (b ∷ [])) ≡ x * 256 ^ length l * 256 = rw (e, pow-suc 256 (length l)) (sym (mul_assoc x (256 ^ length l) 256)) in
    omega (arith, number_of_snoc l b)

-- bytes stand for less than 256 to their number
pub number_of_lt : (l : List ℕ) → are_bytes l ≡ true → number_of l < 256 ^ length l
unfolding number_of
number_of_lt [] h = omega arith
number_of_lt (b ∷ l) h =
    let p : 256 ^ suc (length l) ≡ 256 * 256 ^ length l = pow-succ' 256 (length l) in
    rw p (digits_lt (ltb-true _ _ (and_left (ltb b 256) (are_bytes l) h)) (number_of_lt l (and_right (ltb b 256) (are_bytes l) h)))

-- what is written reads back, over the width
pub number_bytes : (w n : ℕ) → n < 256 ^ w → number_of (bytes_of w n) ≡ n
unfolding bytes_of number_of
number_bytes zero n h = omega (arith, pow-zero 256)
number_bytes (suc w) n h =
    let p : 256 ^ suc w ≡ 256 ^ w * 256 = pow-suc 256 w in
    let k : n / 256 < 256 ^ w = omega arith in
    number_of_snoc (bytes_of w (n / 256)) (n % 256) ∙ ap (λ (m : ℕ). m * 256 + n % 256) (number_bytes w (n / 256) k) ∙ omega arith

-- a byte in front of w others
pub bytes_of_cons : (w b n : ℕ) → b < 256 → n < 256 ^ w → bytes_of (suc w) (b * 256 ^ w + n) ≡ b ∷ bytes_of w n
unfolding bytes_of
bytes_of_cons zero b n hb hn =
    let e : (b * 256 ^ zero + n) % 256 ≡ b = omega (arith, pow-zero 256, mul-one b) in
    rw e
bytes_of_cons (suc w) b n hb hn =
    let p : 256 ^ suc w ≡ 256 ^ w * 256 = pow-suc 256 w in
    let q : b * (256 ^ w * 256) ≡ b * 256 ^ w * 256 = sym (mul_assoc b (256 ^ w) 256) in
    let d : (b * 256 ^ w * 256 + n) / 256 ≡ b * 256 ^ w + n / 256 = omega arith in
    let r : (b * 256 ^ w * 256 + n) % 256 ≡ n % 256 = omega arith in
    let k : n / 256 < 256 ^ w = omega arith in
    rw (p, q, d, r) (ap (λ (l : List ℕ). l ++ (n % 256 ∷ [])) (bytes_of_cons w b (n / 256) hb k))

-- what was read is written as the same bytes
pub bytes_number : (l : List ℕ) → are_bytes l ≡ true → bytes_of (length l) (number_of l) ≡ l
unfolding bytes_of number_of
bytes_number [] h = refl
bytes_number (b ∷ l) h =
    bytes_of_cons (length l) b (number_of l) (ltb-true _ _ (and_left (ltb b 256) (are_bytes l) h)) (number_of_lt l (and_right (ltb b 256) (are_bytes l) h))
    ∙ ap (λ (m : List ℕ). b ∷ m) (bytes_number l (and_right (ltb b 256) (are_bytes l) h))
