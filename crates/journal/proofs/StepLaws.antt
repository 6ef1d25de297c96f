-- The steps of reading one field, as the code takes them. Assumes nothing.
use Rattle.std.specs.Prelude.{None, Some}
use mathlib.Core.Path.{◌≡◌, refl, sym, ◌∙◌, ap}
use mathlib.Core.Bool.{Bool, true, false}
use mathlib.Core.List.{List}
use Prim.Native.Nat.{ℕ, ◌+◌, ◌^◌, ◌<◌, ◌≤◌}
use native.Mathlib.Omega.{arith}
use lib.Dec.{leb}
use lib.Pow.{are_bytes}
use lib.ListN.{length, take, drop, length-append}
use lib.Seq.{length-take-le}
use borrow.Author.Tests.{le-leb, lt-leb, leb-true, leb-false}
use Rattle.amount.specs.declared.Cap.TheVariants.{Bytes}
use Rattle.journal.specs.declared.Field.{Field}
use Rattle.journal.specs.declared.Field.TheVariants as its
use Rattle.journal.specs.declared.Record.{Record}
use Rattle.journal.specs.Numbers.{bytes_of, number_of}
use Rattle.journal.proofs.NumberLaws.{length_bytes_of, number_of_lt}
use Rattle.journal.specs.Fields.{text, cap, Decoded, nothing, found, on_found, part, as_text, decode_number, decode_text, decode, encode, ValueOf}
use Rattle.journal.proofs.FieldLaws.{bytes_take}
use Rattle.journal.specs.Records.{Version, format_of}
use Rattle.journal.specs.Places.{place}
use Rattle.journal.specs.Table.{number_at, as_answer, width_of, step_number, step_to}
use Rattle.journal.proofs.ByteLaws.{part_there, part_cut}

by_cases : {C : Type 0} (b : Bool) → (b ≡ true → C) → (b ≡ false → C) → C
by_cases true p q = p refl
by_cases false p q = q refl

-- a number that was there
pub record Valued (w : ℕ) (l : List ℕ) (n : ℕ) : Type 0 where
  pub read : decode_number w l ≡ found n (drop w l)
  pub room : w ≤ length l
  pub is : n ≡ number_of (take w l)

pub valued : (w : ℕ) (l : List ℕ) (n : ℕ) → Some n ≡ number_at w l → Valued w l n
unfolding number_at
valued w l n e =
    by_cases (leb w (length l))
    (λ (t : leb w (length l) ≡ true).
    let r = part_there w l (leb-true _ _ t) in
    let q : Some n ≡ Some (number_of (take w l)) = e ∙ ap as_answer r in
    let z : n ≡ number_of (take w l) = cc in
    record { read = rw z r; room = leb-true _ _ t; is = z })
    (λ (t : leb w (length l) ≡ false).
    let r = part_cut w l (lt_of_leb w (length l) t) in
    let q : Some n ≡ None = e ∙ ap as_answer r in
    let z : ◌≡◌ {A = ℕ} 0 1 = cc in absurd (omega arith))
  where
    lt_of_leb : (a b : ℕ) → leb a b ≡ false → b < a
    lt_of_leb a b t = omega (arith, leb-false a b t)

pub not_there : (w : ℕ) (l : List ℕ) → None ≡ number_at w l → decode_number w l ≡ nothing
unfolding number_at
not_there w l e = go (decode_number w l) e
  where
    go : (d : Decoded ℕ) → None ≡ as_answer d → d ≡ nothing
    go nothing e = refl
    go (found n r) e = cc

-- a number that was there has its range
pub valued_lt : (w : ℕ) (l : List ℕ) (n : ℕ) → are_bytes l ≡ true → Valued w l n → n < 256 ^ w
valued_lt w l n h v = rw v.is (rw (length-take-le w l v.room) at (number_of_lt (take w l) (bytes_take w l h)))

-- ---- one field

-- a field that was there, of k bytes
pub step_found : (v : Version) (f : Field) (at : ℕ) (r : Record) (l : List ℕ) (x : ValueOf (format_of v f)) (rest : List ℕ) (k : ℕ) → decode (format_of v f) l ≡ found x rest
    → length (encode (format_of v f) x) ≡ k → Some (place v f at x r, at + k) ≡ step_to v f at r (decode (format_of v f) l)
step_found v f at r l x rest k e h = sym (ap (step_to v f at r) e ∙ ap (λ (n : ℕ). Some (place v f at x r, at + n)) h)

-- bytes
pub part_none : (n : ℕ) (l : List ℕ) → length l < n → part n l ≡ nothing
unfolding part
part_none n l h = rw (lt-leb _ _ h)

pub part_some : (n : ℕ) (l : List ℕ) → n ≤ length l → part n l ≡ found (take n l) (drop n l)
unfolding part
part_some n l h = rw (le-leb _ _ h)

-- a text
pub text_cut : (w most : ℕ) (l : List ℕ) → decode_number w l ≡ nothing → decode (text w most) l ≡ nothing
unfolding decode decode_text
text_cut w most l e = ap (on_found (as_text most)) e

text_at_lem : (w most : ℕ) (l : List ℕ) (n : ℕ) → Valued w l n → decode (text w most) l ≡ as_text most n (drop w l)
unfolding decode decode_text
text_at_lem w most l n v = ap (on_found (as_text most)) v.read

pub text_short : (w most : ℕ) (l : List ℕ) (n : ℕ) → Valued w l n → n ≤ most → length (drop w l) < n → decode (text w most) l ≡ nothing
text_short w most l n v h k = text_at_lem w most l n v ∙ rw (le-leb _ _ h, part_none n (drop w l) k)

pub text_full : (w most : ℕ) (l : List ℕ) (n : ℕ) → Valued w l n → n ≤ most → n ≤ length (drop w l) → decode (text w most) l ≡ found (take n (drop w l)) (drop n (drop w l))
text_full w most l n v h k = text_at_lem w most l n v ∙ rw (le-leb _ _ h, part_some n (drop w l) k)

-- the bytes of a cap with a count
pub length_count : (n : ℕ) → length (encode cap (Bytes n)) ≡ 9
unfolding encode
length_count n = length-append (bytes_of 1 1) (bytes_of 8 n) ∙ rw (length_bytes_of 1 1, length_bytes_of 8 n)

-- a number: two ways on from it agree where they do on every number and on nothing
on_both : {A B : Type 0} (s t : Decoded A → B) → s nothing ≡ t nothing → ((n : A) (rest : List ℕ) → s (found n rest) ≡ t (found n rest)) → (d : Decoded A) → s d ≡ t d
on_both s t p q nothing = p
on_both s t p q (found n rest) = q n rest

pub number_field : (v : Version) (f : Field) (at : ℕ) (r : Record) (l : List ℕ) → 0 < width_of f
    → step_number f at r (decode_number (width_of f) l) ≡ step_to v f at r (decode (format_of v f) l)
unfolding decode encode
number_field v its.Account at r l h = absurd (omega arith)
number_field v its.No at r l h =
    on_both (step_number its.No at r) (step_to v its.No at r) refl (λ n rest. ap (λ (k : ℕ). Some (place v its.No at n r, at + k)) (sym (length_bytes_of 4 n))) (decode_number 4 l)
number_field v its.Slot at r l h =
    on_both (step_number its.Slot at r) (step_to v its.Slot at r) refl (λ n rest. ap (λ (k : ℕ). Some (place v its.Slot at n r, at + k)) (sym (length_bytes_of 1 n))) (decode_number 1 l)
number_field v its.K at r l h =
    on_both (step_number its.K at r) (step_to v its.K at r) refl (λ n rest. ap (λ (k : ℕ). Some (place v its.K at n r, at + k)) (sym (length_bytes_of 1 n))) (decode_number 1 l)
number_field v its.M at r l h =
    on_both (step_number its.M at r) (step_to v its.M at r) refl (λ n rest. ap (λ (k : ℕ). Some (place v its.M at n r, at + k)) (sym (length_bytes_of 1 n))) (decode_number 1 l)
number_field v its.Text at r l h = absurd (omega arith)
number_field v its.Amount at r l h =
    on_both (step_number its.Amount at r) (step_to v its.Amount at r) refl (λ n rest. ap (λ (k : ℕ). Some (place v its.Amount at n r, at + k)) (sym (length_bytes_of 8 n))) (decode_number 8 l)
number_field v its.Hash at r l h = absurd (omega arith)
number_field v its.Mode at r l h = absurd (omega arith)
number_field v its.Cap at r l h = absurd (omega arith)
number_field v its.From at r l h =
    on_both (step_number its.From at r) (step_to v its.From at r) refl (λ n rest. ap (λ (k : ℕ). Some (place v its.From at n r, at + k)) (sym (length_bytes_of 8 n))) (decode_number 8 l)
number_field v its.Until at r l h =
    on_both (step_number its.Until at r) (step_to v its.Until at r) refl (λ n rest. ap (λ (k : ℕ). Some (place v its.Until at n r, at + k)) (sym (length_bytes_of 8 n))) (decode_number 8 l)
