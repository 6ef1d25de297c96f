-- Laws of runs of digits: how many a text begins with, and their number.
use Rattle.std.specs.Prelude.{◌≡◌, refl, Bool, true, false, cond, List, [], ◌∷◌, ℕ, zero, suc, ◌+◌, ◌-◌, ◌*◌, ◌^◌, ◌<◌, ◌≤◌, length, take, drop, get_or}
use Rattle.std.proofs.Common.{ap, sym, ◌∙◌, add-zero, zero-add, pow-suc, add-one, arith, lit<, take_at}
use Rattle.std.specs.List.{prefix_len}
use Rattle.std.proofs.Math.Nat.{pow-le-pow_right}
use Rattle.std.proofs.Math.ListN.{drop_of_length-le}
use Rattle.amount.specs.Digits.{is_digit, leading, following, number, number_after, AllDigits}
use Rattle.amount.specs.DigitLaws.{leading_on, leading_stop, digit_low, digit_high, leading_following}

-- Where every byte is a digit, the first is one, and so is every other.
first_digit : (b : ℕ) (t : List ℕ) → AllDigits (b ∷ t) → (is_digit b ≡ true) × AllDigits t
unfolding leading
first_digit b t h = go (is_digit b) h
  where
    go : (q : Bool) → cond q (b ∷ leading t) [] ≡ b ∷ t → (q ≡ true) × (leading t ≡ t)
    go true e = (refl, cc)
    go false e = absurd (let z : ◌≡◌ {A = ℕ} 0 1 = cc in omega arith)

pub digit_at : (s : List ℕ) (i : ℕ) → AllDigits s → i < length s → is_digit (get_or s i 0) ≡ true
unfolding leading
digit_at [] i h l = absurd (omega arith)
digit_at (b ∷ t) i h l = let p = first_digit b t h in at i l p.0 (λ j k. digit_at t j p.1 k)
  where
    at : (i : ℕ) → i < suc (length t) → is_digit b ≡ true → ((j : ℕ) → j < length t → is_digit (get_or t j 0) ≡ true) → is_digit (get_or (b ∷ t) i 0) ≡ true
    at zero l q rest = q
    at (suc j) l q rest = rest j (omega arith)

pub digit_floor : (s : List ℕ) (i : ℕ) → AllDigits s → i < length s → 48 ≤ get_or s i 0
digit_floor s i h l = digit_low _ (digit_at s i h l)

-- The first i bytes of s are digits, of the number v.
pub record Scanned (s : List ℕ) (i v : ℕ) : Type 0 where
  pub below : v < 10 ^ i
  pub counts : length (leading s) ≡ i + length (leading (drop i s))
  pub numbers : number (leading s) ≡ number_after v (leading (drop i s))

pub scanned_start : (s : List ℕ) → Scanned s 0 0
scanned_start s = record { below = lit< tt; counts = sym (zero-add _); numbers = refl }

more_below : (v b p : ℕ) → v < p → b ≤ 57 → v * 10 + (b - 48) < p * 10
more_below v b p h k = omega arith

-- One digit more.
pub scanned_on : {d : Bool} {s : List ℕ} {i v : ℕ} → Scanned s i v → i < length s → d ≡ is_digit (get_or s i 0) → d ≡ true
    → Scanned s (i + 1) (v * 10 + (get_or s i 0 - 48))
unfolding number_after
scanned_on {d} {s} {i} {v} h l e t =
    let on = leading_on s i l e t in
    record {
      below = rw (add-one i, pow-suc 10 i) (more_below v (get_or s i 0) (10 ^ i) h.below (digit_high _ (sym e ∙ t)));
      counts = h.counts ∙ rw on (omega arith);
      numbers = h.numbers ∙ rw on;
    }

-- Where the byte after them is a digit, of the number d, there are more than i, and 19 fit in 64 bits.
module _ (s : List ℕ) (i v : ℕ) (h : Scanned s i v) (l : i < length s) (q : is_digit (get_or s i 0) ≡ true) where
  pub scanned_more : i < length (leading s)
  scanned_more = omega (arith, h.counts, ap length (leading_on s i l refl q))

  pub scanned_fits : (d : ℕ) → d ≡ get_or s i 0 - 48 → i < 19 → v * 10 + d < 2 ^ 64
  scanned_fits d e f =
      let p = pow-le-pow_right {n = 10} (lit< tt) {i = i + 1} {j = 19} (omega arith) in
      omega (arith, (scanned_on h l refl q).below)

-- No digit more.
scanned_end : {s : List ℕ} {i v : ℕ} → Scanned s i v → leading (drop i s) ≡ [] → (i ≡ length (leading s)) × (v ≡ number (leading s))
unfolding number_after
scanned_end {s} {i} {v} h e = (sym (h.counts ∙ rw e (add-zero i)), sym (h.numbers ∙ rw e))

pub scanned_stop : {d : Bool} {s : List ℕ} {i v : ℕ} → Scanned s i v → i < length s → d ≡ is_digit (get_or s i 0) → d ≡ false
    → (i ≡ length (leading s)) × (v ≡ number (leading s))
scanned_stop {d} {s} {i} {v} h l e f = scanned_end h (leading_stop s i l e f)

pub scanned_all : {s : List ℕ} {i v : ℕ} → Scanned s i v → length s ≤ i → (i ≡ length (leading s)) × (v ≡ number (leading s))
unfolding leading
scanned_all {s} {i} {v} h l = scanned_end h (rw (drop_of_length-le s l))

-- The digits that a text begins with, by how many there are.
pub leading_count : (t : List ℕ) → prefix_len is_digit t ≡ length (leading t)
unfolding leading
leading_count [] = refl
leading_count (b ∷ t) = go (is_digit b) (leading_count t)
  where
    go : (q : Bool) → prefix_len is_digit t ≡ length (leading t) → cond q (1 + prefix_len is_digit t) 0 ≡ length (cond q (b ∷ leading t) [])
    go true e = rw e (omega arith)
    go false e = refl

pub leading_taken : (t : List ℕ) → take (length (leading t)) t ≡ leading t
leading_taken t = ap (λ (l : List ℕ). take (length (leading t)) l) (sym (leading_following t)) ∙ take_at (leading t) (following t) (length (leading t)) refl
