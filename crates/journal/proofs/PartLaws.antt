-- The parts of a record's bytes, as the code takes them. Assumes nothing.
use Rattle.std.specs.Prelude.{◌≡◌, refl, List, ◌∷◌, ◌++◌, ℕ, zero, suc, ◌+◌, ◌-◌, ◌≤◌, min, ◌⊎◌, length, take, drop, replicate}
use Rattle.std.proofs.Common.{⊎_elim, arith, sym, ◌∙◌, ap, append-nil, length-drop, drop_of_length-le}
use Rattle.std.proofs.Math.Seq.{take_all, take-append-le, take-append-add, take-length}
use Rattle.journal.specs.Places.{padded32}

fewer : (l z : List ℕ) (n : ℕ) → length l ≤ n → take n (l ++ z) ≡ l ++ take (n - length l) z
fewer l z n h =
    let e : n ≡ length l + (n - length l) = omega arith in
    ap (λ (k : ℕ). take k (l ++ z)) e ∙ take-append-add l z (n - length l)

zeros : ℕ → List ℕ
zeros n = replicate n 0

drop_zeros : (n m : ℕ) → drop n (zeros m) ≡ zeros (m - n)
unfolding zeros
drop_zeros zero m = let e : m ≡ m - 0 = omega arith in ap zeros e
drop_zeros (suc n) zero = let e : 0 ≡ 0 - suc n = omega arith in ap zeros e
drop_zeros (suc n) (suc m) = let e : m - n ≡ suc m - suc n = omega arith in drop_zeros n m ∙ ap zeros e

take_zeros : (j k : ℕ) → j ≤ k → take j (zeros k) ≡ zeros j
unfolding zeros
take_zeros zero k h = refl
take_zeros (suc j) zero h = absurd (omega arith)
take_zeros (suc j) (suc k) h = ap (λ (l : List ℕ). 0 ∷ l) (take_zeros j k (omega arith))

pad_short : (l : List ℕ) → length l ≤ 32 → take (length l) l ++ drop (length l) (replicate 32 0) ≡ padded32 l
unfolding zeros
pad_short l h =
    ap (λ (m : List ℕ). take (length l) l ++ m) (drop_zeros (length l) 32 ∙ sym (take_zeros (32 - length l) 32 (omega arith)))
    ∙ ap (λ (m : List ℕ). m ++ take (32 - length l) (zeros 32)) (take-length l) ∙ sym (fewer l (zeros 32) 32 h)

-- the first 32 bytes of a list, or all of them and then zeros
pad32 : (l : List ℕ) (n : ℕ) → n ≡ min (length l) 32 → take n l ++ drop n (replicate 32 0) ≡ padded32 l
pad32 l n e = ⊎_elim (λ (h : length l ≤ 32). few h) (λ (h : 32 ≤ length l). many h) (by (length l) 32)
  where
    by : (a b : ℕ) → (a ≤ b) ⊎ (b ≤ a)
    by a b = grind arith

    few : length l ≤ 32 → take n l ++ drop n (replicate 32 0) ≡ padded32 l
    few h = let z : n ≡ length l = omega arith in rw z (pad_short l h)

    many : 32 ≤ length l → take n l ++ drop n (replicate 32 0) ≡ padded32 l
    many h = let z : n ≡ 32 = omega arith in rw z (append-nil (take 32 l) ∙ sym (take-append-le 32 l (replicate 32 0) h))

-- all bytes from a place on, or none past the end
from_min : (at m : ℕ) (l : List ℕ) → m ≡ min at (length l) → take (length l - m) (drop m l) ≡ drop at l
from_min at m l e = take_all (length l - m) (drop m l) (omega (arith, length-drop m l)) ∙ ⊎_elim (λ (h : at ≤ length l). within h) (λ (h : length l ≤ at). past h) (by at (length l))
  where
    by : (a b : ℕ) → (a ≤ b) ⊎ (b ≤ a)
    by a b = grind arith

    within : at ≤ length l → drop m l ≡ drop at l
    within h = let z : m ≡ at = omega arith in rw z

    past : length l ≤ at → drop m l ≡ drop at l
    past h = rw (drop_of_length-le l {i = m} (omega arith), drop_of_length-le l {i = at} h)

-- as the code copies them: x is the part of n bytes, over zeros
pub padded_from : (at m n : ℕ) (l x : List ℕ) → m ≡ min at (length l) → n ≡ min (length (take (length l - m) (drop m l))) 32
    → x ≡ take n (take (length l - m) (drop m l)) → x ++ drop n (replicate 32 0) ≡ padded32 (drop at l)
padded_from at m n l x em en ex =
    let e = from_min at m l em in
    rw ex (rw e (pad32 (drop at l) n (rw e at en)))
