-- Where the quick test passes, every part passes; and the loop over the pairs of bytes. Assumes nothing.
use Rattle.std.specs.Prelude.{◌≡◌, refl, Bool, true, false, ◌&&◌, ◌||◌, not, List, [], ◌∷◌, eqb, drop, get_or}
use Rattle.std.proofs.Common.{sym, ◌∙◌, ⊎_elim, eq-eqb, eqb-true, rules, length-drop}
use Rattle.std.proofs.Math.Bool.{and-true, and_assoc}
use Prim.Native.Nat.{ℕ, suc, ◌+◌, ◌-◌, ◌<◌, ◌≤◌}
use native.Mathlib.Omega.{arith}
use Rattle.std.proofs.lemmas.Bool.{not-true}
use Rattle.std.proofs.Math.ListN.{length}
use Rattle.std.proofs.Math.Seq.{drop-cons}
use Rattle.lists.specs.Lists.{all_of}
use Rattle.lists.specs.BoolLaws.{and_left, and_right, and_both, or_left, or_right, pass_or_fail}
use Rattle.text.specs.Text.{slash, dot, parts, is_part}
use Rattle.text.specs.Scan.{is_other, passes}
use Rattle.text.specs.Plain.{is_doubtful, plain_pairs, plain_parts}
use Rattle.text.specs.PathLaws.{known, known_byte, known_passes}

-- a part that begins with neither a slash nor a dot passes
first_other : (b : ℕ) (bs : List ℕ) → (eqb b slash || eqb b dot) ≡ false → is_other (known (parts (b ∷ bs))).first ≡ true
first_other b bs e = rw (known_byte b bs, or_left (eqb b slash) (eqb b dot) e, or_right (eqb b slash) (eqb b dot) e)

-- the parts after the first: all of s after a slash, and those of s after another byte
module _ (a : ℕ) (s : List ℕ) where
  rest_slash : eqb a slash ≡ true → (known (parts (a ∷ s))).rest ≡ passes (known (parts s))
  rest_slash e = rw (known_byte a s, e)

  rest_other : eqb a slash ≡ false → (known (parts (a ∷ s))).rest ≡ (known (parts s)).rest
  rest_other e = rw (known_byte a s, e)

-- the parts after the first pass where all pairs are plain and the last byte is no slash
rest_passes : (a : ℕ) (s : List ℕ) → plain_pairs (a ∷ s) ≡ true → eqb (get_or (a ∷ s) (length s) 0) slash ≡ false → (known (parts (a ∷ s))).rest ≡ true
unfolding plain_pairs known parts
rest_passes a [] e f = rest_other a [] f
rest_passes a (b ∷ bs) e f =
    let after = rest_passes b bs (and_right (not (is_doubtful a b)) (plain_pairs (b ∷ bs)) e) f in
    let pair = not-true (is_doubtful a b) (and_left (not (is_doubtful a b)) (plain_pairs (b ∷ bs)) e) in
    ⊎_elim
    (λ t. rest_slash a (b ∷ bs) t ∙ and_both (first_other b bs (rw t at pair)) after)
    (λ t. rest_other a (b ∷ bs) t ∙ after)
    (pass_or_fail (eqb a slash))

-- with a slash before the bytes, their first part too is one of those after the first
plain_passes : (s : List ℕ) → 1 ≤ length s → plain_parts s ≡ true → all_of is_part (parts s) ≡ true
unfolding plain_pairs
plain_passes [] h e = absurd (omega arith)
plain_passes (b ∷ bs) h e =
    let s = b ∷ bs in
    let first = not (is_doubtful slash b) in
    let last = not (eqb (get_or s (length s - 1) 0) slash) in
    let ends = and_left (first && last) (plain_pairs s) e in
    let pairs = and_both (and_left first last ends) (and_right (first && last) (plain_pairs s) e) in
    let q : length s - 1 ≡ length bs = omega arith in
    let end = rw q at (not-true (eqb (get_or s (length s - 1) 0) slash) (and_right first last ends)) in
    sym (known_passes s) ∙ sym (rest_slash slash s refl) ∙ rest_passes slash s pairs end

-- what the code answers where the quick test, r, passed
pub plain_told : (r : Bool) (s : List ℕ) → r ≡ true → r ≡ plain_parts s → 1 ≤ length s → true ≡ all_of is_part (parts s)
plain_told r s t e h = sym (plain_passes s h (sym e ∙ t))

-- the loop over the pairs: all says whether those before the pair of i - 1 and i are plain
pub record PairsLoop (s : List ℕ) (i : ℕ) (all : Bool) : Type 0 where
  pub place : 0 < i
  pub rest : plain_pairs s ≡ (all && plain_pairs (drop (i - 1) s))

short_plain : (l : List ℕ) → length l ≤ 1 → plain_pairs l ≡ true
unfolding plain_pairs
short_plain [] h = refl
short_plain (a ∷ []) h = refl
short_plain (a ∷ b ∷ l) h = absurd (omega arith)

module _ (s : List ℕ) where
  pub pairs_start : PairsLoop s 1 true
  pairs_start = record { place = omega arith; rest = refl }

  module _ (i : ℕ) (all : Bool) (h : PairsLoop s i all) where
    pair_here : i < length s → plain_pairs (drop (i - 1) s) ≡ (not (is_doubtful (get_or s (i - 1) 0) (get_or s i 0)) && plain_pairs (drop i s))
    unfolding plain_pairs
    pair_here k =
        let q : suc (i - 1) ≡ i = omega (arith, h.place) in
        let l : i - 1 < length s = omega arith in
        rw (drop-cons s (i - 1) 0 l, q, drop-cons s i 0 k)

    -- b is what the code's test said of the pair, and all' what it says after it
    pub pairs_step : (b all' : Bool) → i < length s → b ≡ is_doubtful (get_or s (i - 1) 0) (get_or s i 0) → all' ≡ (all && not b) → PairsLoop s (i + 1) all'
    pairs_step b all' k e q =
        let z : i + 1 - 1 ≡ i = omega arith in
        rw q (record { place = omega arith; rest = h.rest ∙ rw (pair_here k, ← e, z) (sym (and_assoc all (not b) (plain_pairs (drop i s)))) })

    pub pairs_end : length s ≤ i → all ≡ plain_pairs s
    pairs_end k = sym (h.rest ∙ rw (short_plain (drop (i - 1) s) (omega (arith, length-drop (i - 1) s))) (and-true all))

pub ruleset pairs = (pairs_step, pairs_end, pairs_start, rules)
