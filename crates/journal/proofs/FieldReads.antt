-- What the reader of each field answers, by what `number_at` says of the bytes at a place. Assumes nothing.
use Rattle.std.specs.Prelude.{◌≡◌, refl, Bool, true, false, cond, List, [], ℕ, ◌+◌, ◌^◌, ◌<◌, ◌≤◌, ◌-◌, Option, None, Some, length, take, drop, get_or, leb, ◌⊎◌}
use Rattle.std.proofs.Common.{inl, inr, arith, sym, ◌∙◌, ap, length-drop, length-append, length-take-le, drop-drop}
use mir.Syntax.{w8}
use mir.Val.{Fits}
use Rattle.amount.specs.declared.Cap.TheVariants.{Bytes}
use Rattle.journal.specs.declared.Field.TheVariants as its
use Rattle.journal.specs.declared.Record.{Record}
use Rattle.journal.specs.Records.{Version}
use Rattle.journal.specs.Places.{place}
use Rattle.journal.specs.Fields.{bytes, cap, Decoded, nothing, found, on_found, as_number, as_bytes, part, decode_number, decode, encode}
use Rattle.journal.specs.Table.{number_at, as_answer, step_to}
use Rattle.journal.proofs.NumberLaws.{length_bytes_of}
use Rattle.journal.proofs.FieldLaws.{bytes_known, bytes_drop}
use Rattle.journal.proofs.StepLaws.{valued, valued_lt, step_found, part_some, length_count}

-- a number and the bytes after it, where there is one
abbrev pub with_rest : ℕ → List ℕ → Option ℕ → Decoded ℕ
with_rest w l None = nothing
with_rest w l (Some n) = found n (drop w l)

pub number_again : (w : ℕ) (l : List ℕ) → decode_number w l ≡ with_rest w l (number_at w l)
unfolding decode_number number_at part
number_again w l = go (leb w (length l))
  where
    go : (t : Bool) → on_found as_number (cond t (found (take w l) (drop w l)) nothing) ≡ with_rest w l (as_answer (on_found as_number (cond t (found (take w l) (drop w l)) nothing)))
    go true = refl
    go false = refl

-- the place after a number that is there is within the bytes, and the number has its range
pub number_room : (w at : ℕ) (l : List ℕ) → at ≤ length l → (number_at w (drop at l) ≡ None) ⊎ (at + w ≤ length l)
number_room w at l h = go (number_at w (drop at l)) refl
  where
    go : (o : Option ℕ) → number_at w (drop at l) ≡ o → (o ≡ None) ⊎ (at + w ≤ length l)
    go None e = inl refl
    go (Some n) e = inr (omega (arith, length-drop at l, (valued w (drop at l) n (sym e)).room))

pub number_fits : (w k at n : ℕ) (l : List ℕ) → w ≡ k → ((i : ℕ) → Fits w8 (get_or l i 0)) → number_at w (drop at l) ≡ Some n → n < 256 ^ k
number_fits w k at n l q b e = rw (← q) (valued_lt w (drop at l) n (bytes_drop at l (bytes_known l (λ i. (b i).fits))) (valued w (drop at l) n (sym e)))

-- an account and a hash: 32 bytes
module _ (v : Version) (at : ℕ) (r : Record) (l : List ℕ) (h : 32 ≤ length l - at) where
  enough : 32 ≤ length (drop at l)
  enough = omega (arith, length-drop at l)

  pub account_read : Some (place v its.Account at [] r, at + 32) ≡ step_to v its.Account at r (decode (bytes 32) (drop at l))
  unfolding decode encode
  account_read =
      let d = drop at l in
      step_found v its.Account at r d (take 32 d) (drop 32 d) 32 (part_some 32 d enough) (length-take-le 32 d enough)

  pub hash_read : Some (place v its.Hash at [] r, at + 32) ≡ step_to v its.Hash at r (decode (bytes 32) (drop at l))
  unfolding decode encode
  hash_read =
      let d = drop at l in
      step_found v its.Hash at r d (take 32 d) (drop 32 d) 32 (part_some 32 d enough) (length-take-le 32 d enough)

-- a cap with a count: a byte, then eight
module _ (v : Version) (at : ℕ) (r : Record) (l : List ℕ) (e : number_at 1 (drop at l) ≡ Some 1) where
  counted : decode cap (drop at l) ≡ on_found as_bytes (decode_number 8 (drop (at + 1) l))
  unfolding decode
  counted = rw (number_again 1 (drop at l), e, drop-drop 1 at l)

  pub count_cut : number_at 8 (drop (at + 1) l) ≡ None → None ≡ step_to v its.Cap at r (decode cap (drop at l))
  count_cut i =
      let d : decode cap (drop at l) ≡ nothing = counted ∙ rw (number_again 8 (drop (at + 1) l), i) in
      sym (ap (step_to v its.Cap at r) d)

  pub count_read : (n : ℕ) → number_at 8 (drop (at + 1) l) ≡ Some n
      → Some (place v its.Cap 0 (Bytes n) r, at + 1 + 8) ≡ step_to v its.Cap at r (decode cap (drop at l))
  count_read n i =
      let s = drop (at + 1) l in
      let c : decode cap (drop at l) ≡ found (Bytes n) (drop 8 s) = counted ∙ rw (number_again 8 s, i) in
      let z : at + 1 + 8 ≡ at + 9 = omega arith in
      rw z (step_found v its.Cap at r (drop at l) (Bytes n) (drop 8 s) 9 c (length_count n))

pub ruleset reads = (number_again, number_room, length_bytes_of, length-drop, length-take-le, length-append, drop-drop)
