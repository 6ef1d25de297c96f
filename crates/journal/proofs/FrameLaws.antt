-- A journal's frame and the parts of a record, as the code takes them. Assumes nothing.
use Rattle.std.specs.Prelude.{IsErrAnd, Err, None, Ok, Option, Result, Some}
use mathlib.Core.Path.{◌≡◌, refl, sym, ◌∙◌, ap}
use mathlib.Core.List.{List, [], ◌∷◌}
use Prim.Native.Nat.{ℕ, ◌+◌, ◌-◌, ◌<◌, ◌≤◌}
use native.Mathlib.Omega.{arith}
use mir.Val.{Fits}
use mir.Syntax.{w8}
use lib.ListN.{length, take, drop, get_or, length-drop}
use lib.Seq.{length-take-le}
use borrow.Author.Tests.{lt-ltb, le-ltb}
use Rattle.journal.specs.declared.errors.JournalError.{JournalError}
use Rattle.journal.specs.declared.errors.JournalError.TheVariants as error
use Rattle.journal.specs.declared.Record.{Record}
use Rattle.journal.specs.Records.{Version, version_numbered}
use Rattle.journal.specs.Places.{read_at}
use Rattle.journal.specs.Journal.{journal_most, framed, start_of, first_byte, version_start, on_body, on_reading, next_in}
use Rattle.journal.specs.Table.{number_at}
use Rattle.journal.proofs.FieldLaws.{bytes_known}
use Rattle.journal.proofs.StepLaws.{Valued, valued, valued_lt, not_there, text_cut, text_short, text_full}

-- ---- the start of a journal, as the code answers

module _ (l : List ℕ) where
  pub too_large_lem : journal_most < length l → Err error.TooLarge ≡ start_of l
  unfolding start_of
  too_large_lem h = sym (rw (lt-ltb _ _ h))

  start_small : length l ≤ journal_most → start_of l ≡ first_byte l
  unfolding start_of
  start_small h = rw (le-ltb _ _ h)

  pub no_version : length l ≤ journal_most → length l < 1 → Err error.Version ≡ start_of l
  no_version h k = sym (start_small h ∙ none l k)
    where
      none : (m : List ℕ) → length m < 1 → first_byte m ≡ Err error.Version
      none [] q = refl
      none (b ∷ m) q = absurd (omega arith)

  -- the first byte
  starts : (n : ℕ) → 1 ≤ length l → get_or l 0 0 ≡ n → first_byte l ≡ version_start (version_numbered n)
  starts n k e = go l k e
    where
      go : (m : List ℕ) → 1 ≤ length m → get_or m 0 0 ≡ n → first_byte m ≡ version_start (version_numbered n)
      go [] q u = absurd (omega arith)
      go (b ∷ m) q u = rw u

  pub by_version : (x : Result Version JournalError) → length l ≤ journal_most → 1 ≤ length l → x ≡ version_start (version_numbered (get_or l 0 0)) → x ≡ start_of l
  by_version x h k e = e ∙ sym (start_small h ∙ starts (get_or l 0 0) k refl)

pub ruleset start_faults = (by_version, too_large_lem, no_version)

-- ---- the next record

pub next_end : (v : Version) (l : List ℕ) → length l < 1 → next_in v l ≡ Ok None
unfolding next_in
next_end v [] h = refl
next_end v (b ∷ l) h = absurd (omega arith)

pub next_frame : (v : Version) (l : List ℕ) → 1 ≤ length l → next_in v l ≡ on_body v (framed l)
unfolding next_in
next_frame v [] h = absurd (omega arith)
next_frame v (b ∷ l) h = refl

-- as the code takes it: x is what stands in the first two bytes
module _ (v : Version) (l : List ℕ) where
  pub at_end : length l < 1 → Ok None ≡ next_in v l
  at_end h = sym (next_end v l h)

  module _ (x : Option ℕ) (e : x ≡ number_at 2 l) where
    pub length_cut : 1 ≤ length l → x ≡ None → Err error.Record ≡ next_in v l
    length_cut h c = sym (next_frame v l h ∙ ap (on_body v) (text_cut 2 65535 l (not_there 2 l (sym c ∙ e))))

    -- a length of n bytes, and y is what was read of them
    module _ (n : ℕ) (w : x ≡ Some n) where
      there : Valued 2 l n
      there = valued 2 l n (sym w ∙ e)

      pub length_there : 2 ≤ length l
      length_there = there.room

      pub body_there : n ≤ length l - 2 → 2 + n ≤ length l
      body_there h = omega (arith, length_there)

      module _ (known : (k : ℕ) → Fits w8 (get_or l k 0)) where
        most : n ≤ 65535
        most = omega (arith, valued_lt 2 l n (bytes_known l (λ k. (known k).fits)) there)

        pub body_cut : length l - 2 < n → Err error.Record ≡ next_in v l
        body_cut h =
            let s : length (drop 2 l) < n = omega (arith, length-drop 2 l, length_there) in
            sym (next_frame v l (omega (arith, length_there)) ∙ ap (on_body v) (text_short 2 65535 l n there most s))

        module _ (y : Result Record JournalError) (q : y ≡ read_at v (take (2 + n - 2) (drop 2 l))) (h : n ≤ length l - 2) where
          body : n ≤ length (drop 2 l)
          body = omega (arith, length-drop 2 l)

          next_read : next_in v l ≡ on_reading (take n (drop 2 l)) y
          next_read =
              let z : 2 + n - 2 ≡ n = omega arith in
              next_frame v l (omega (arith, length_there)) ∙ ap (on_body v) (text_full 2 65535 l n there most body)
              ∙ ap (on_reading (take n (drop 2 l))) (sym (rw z at q))

          pub record_whole : (r : Record) → y ≡ Ok r → Ok (Some (r, 2 + n)) ≡ next_in v l
          record_whole r f = sym (next_read ∙ rw (f, length-take-le n (drop 2 l) body))

          pub record_refused : (m : JournalError) → y ≡ Err m → (x : Result (Option (Record × ℕ)) JournalError) → IsErrAnd x (λ e. e ≡ m) → x ≡ next_in v l
          record_refused m f (Ok n) p = absurd p
          record_refused m f (Err e) p = rw p (sym (next_read ∙ rw f))

pub ruleset nexts = (at_end, length_cut, length_there, body_there, body_cut)
