-- What is promised of writing: the unit is the largest that divides the count, and reading what was written gives the cap again.
use Rattle.std.specs.Prelude.{◌≡◌, refl, Bool, true, false, cond, List, [], ◌∷◌, ◌++◌, ℕ, zero, suc, ◌/◌, ◌%◌, ◌^◌, ◌<◌, ◌≤◌, eqb, ltb, length, take, drop, get_or, Ok, Err}
use Rattle.std.proofs.Common.{sym, ◌∙◌, append-nil, mul-one, div-add-mod', div-le_self, arith, eqb-true, ltb-false, ne_eqb, le-leb, lit≤, take_at}
use Rattle.std.proofs.Math.Bool.{and-false}
use Rattle.std.proofs.lemmas.Bool.{false≢true}
use Rattle.std.proofs.Math.Nat.{mod-one}
use Rattle.amount.specs.declared.unit.ByteUnit.{ByteUnit}
use Rattle.amount.specs.declared.unit.ByteUnit.TheVariants.{B, KiB, MiB, GiB}
use Rattle.amount.specs.declared.Cap.{Cap}
use Rattle.amount.specs.declared.Cap.TheVariants.{Unlimited, Bytes}
use Rattle.amount.specs.declared.error.AmountError.TheVariants.{Room, TooLarge}
use Rattle.amount.specs.Digits.{decimal_within, decimal}
use Rattle.amount.specs.DecimalLaws.{decimal_digits, decimal_number, decimal_some, decimal_length, decimal_first}
use Rattle.amount.specs.Amount.{limit, space, unlimited_text, size_of, name_of, leading_zero, whole_digits, amount, parse, amount_of}
use Rattle.amount.specs.AmountLaws.{size_most}
use Rattle.amount.specs.AmountTheorems.{Exactly, read_exactly, unlimited_exactly}
use Rattle.amount.specs.Grammar.{plain, parse_spelled}
use Rattle.amount.specs.Writing.{divides, unit_for, text_of, above_limit, written_of, buffer_after}

-- The digits of a number have no leading 0, but for those of 0.
decimal_no_zero : (n : ℕ) → leading_zero (decimal n) ≡ false
unfolding decimal_within
decimal_no_zero zero = refl
decimal_no_zero (suc k) = rw (ne_eqb (get_or (decimal (suc k)) 0 0) 48 (λ e. omega (arith, decimal_first (suc k) (omega arith)))) (and-false (ltb 1 (length (decimal (suc k)))))

decimal_whole : (n : ℕ) → n < 10 ^ 11 → whole_digits (decimal n) ≡ true
decimal_whole n h = rw (le-leb 1 (length (decimal n)) (decimal_some n), le-leb (length (decimal n)) 11 (decimal_length n 10 h), decimal_no_zero n)

-- A written text is taken by the grammar: its number, no fraction, its unit.
parse_back : (u : ByteUnit) (n : ℕ) → n < 10 ^ 11 → parse (decimal n ++ (space ∷ name_of u)) ≡ amount (decimal n) [] u
parse_back u n h = parse_spelled (plain (decimal_digits n) (decimal_whole n h))

-- The unit that is chosen divides the count.
pub unit_divides : (n : ℕ) → n % size_of (unit_for n) ≡ 0
unfolding unit_for
unit_divides n = go (eqb n 0) (divides GiB n) (divides MiB n) (divides KiB n) refl refl refl
  where
    go : (z g m k : Bool) → divides GiB n ≡ g → divides MiB n ≡ m → divides KiB n ≡ k
        → n % size_of (cond z B (cond g GiB (cond m MiB (cond k KiB B)))) ≡ 0
    go true g m k eg em ek = mod-one n
    go false true m k eg em ek = eqb-true _ _ eg
    go false false true k eg em ek = eqb-true _ _ em
    go false false false true eg em ek = eqb-true _ _ ek
    go false false false false eg em ek = mod-one n

-- And no larger unit divides it, unless the count is 0.
pub unit_largest : (n : ℕ) (v : ByteUnit) → (n ≡ 0 → ⊥) → divides v n ≡ true → size_of v ≤ size_of (unit_for n)
unfolding unit_for
unit_largest n v h d = rw (ne_eqb n 0 h) (go (divides GiB n) (divides MiB n) (divides KiB n) refl refl refl v d)
  where
    go : (g m k : Bool) → divides GiB n ≡ g → divides MiB n ≡ m → divides KiB n ≡ k → (v : ByteUnit) → divides v n ≡ true
        → size_of v ≤ size_of (cond g GiB (cond m MiB (cond k KiB B)))
    go true m k eg em ek v d = size_most v
    go false m k eg em ek GiB d = absurd (false≢true (sym eg ∙ d))
    go false true k eg em ek MiB d = lit≤ tt
    go false true k eg em ek KiB d = lit≤ tt
    go false true k eg em ek B d = lit≤ tt
    go false false k eg em ek MiB d = absurd (false≢true (sym em ∙ d))
    go false false true eg em ek KiB d = lit≤ tt
    go false false true eg em ek B d = lit≤ tt
    go false false false eg em ek KiB d = absurd (false≢true (sym ek ∙ d))
    go false false false eg em ek B d = lit≤ tt

-- The count in that unit is the count again.
units_exactly : (n : ℕ) → Exactly n (decimal (n / size_of (unit_for n))) [] (unit_for n)
units_exactly n =
    rw (mul-one n, append-nil (decimal (n / size_of (unit_for n))), decimal_number (n / size_of (unit_for n)))
    (omega (arith, div-add-mod' n (size_of (unit_for n)), unit_divides n))

-- A cap that can be written is no limit, or a count up to 2^36. Reading its text gives it again.
pub round_trip : (cap : Cap) → above_limit cap ≡ false → amount_of (text_of cap) ≡ Ok cap
unfolding text_of
round_trip Unlimited h = (unlimited_exactly unlimited_text).1 refl
round_trip (Bytes n) h =
    let l : n ≤ limit = ltb-false limit n h in
    let u = unit_for n in
    let q = n / size_of u in
    let parsed = parse_back u q (omega (arith, div-le_self n (size_of u))) in
    (read_exactly (text_of (Bytes n)) (decimal q) [] u parsed n).1 (units_exactly n, l)

-- Where writing answers a length, the cap can be written and its text has that length.
length_written : (cap : Cap) (size n : ℕ) → written_of cap size ≡ Ok n → (above_limit cap ≡ false) × (length (text_of cap) ≡ n)
unfolding written_of
length_written cap size n = go (above_limit cap) (ltb size (length (text_of cap))) refl
  where
    go : (a s : Bool) → above_limit cap ≡ a
        → cond a (Err TooLarge) (cond s (Err Room) (Ok (length (text_of cap)))) ≡ Ok n
        → (above_limit cap ≡ false) × (length (text_of cap) ≡ n)
    go true s h e = absurd (let z : ◌≡◌ {A = ℕ} 0 1 = cc in omega arith)
    go false true h e = absurd (let z : ◌≡◌ {A = ℕ} 0 1 = cc in omega arith)
    go false false h e = (h, cc)

-- Whatever the buffer: where writing answers a length, reading that many bytes of the buffer gives the cap again.
pub written_round_trip : (cap : Cap) (buf : List ℕ) (n : ℕ) → written_of cap (length buf) ≡ Ok n → amount_of (take n (buffer_after cap buf)) ≡ Ok cap
unfolding buffer_after
written_round_trip cap buf n e =
    let w = length_written cap (length buf) n e in
    rw (e, take_at (text_of cap) (drop n buf) n w.1) (round_trip cap w.0)
