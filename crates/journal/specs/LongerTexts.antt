-- A call that can be written in a version can be written in one that has longer texts: all other fields are the same. Assumes nothing.
use Rattle.std.specs.Prelude.{◌≡◌, true, List, ◌∷◌, ℕ, ◌^◌, ◌≤◌, leb, ltb}
use Rattle.std.proofs.Common.{arith}
use Rattle.std.proofs.Math.ListN.{length}
use borrow.Author.Tests.{leb-true, le-leb, lt-ltb}
use Rattle.lists.specs.BoolLaws.{and_left, and_right, and_both}
use Rattle.rules.specs.Calls.{advance, create, deposit, delete, undelete, grant, attenuate, revoke, remove, look, register, heartbeat, opens, stages, commits, abandons, Call, ask, on_slot}
use Rattle.journal.specs.Fields.{Format, number, text, bytes, ValueOf, ValuesOf, fits, fits_all}
use Rattle.journal.specs.Records.{Version, text_width, text_most, writable}
use Rattle.journal.specs.VersionLaws.{text_counted}

module _ (v w : Version) (longer : text_most v ≤ text_most w) where
  text_longer : (t : List ℕ) → fits (text (text_width v) (text_most v)) t ≡ true → fits (text (text_width w) (text_most w)) t ≡ true
  unfolding fits
  text_longer t h =
      let k : length t ≤ text_most v = leb-true (length t) (text_most v) (and_left (leb (length t) (text_most v)) (ltb (length t) (256 ^ text_width v)) h) in
      and_both (le-leb (length t) (text_most w) (omega arith)) (lt-ltb (length t) (256 ^ text_width w) (omega (arith, text_counted w)))

  -- a text before other fields, and after one or two
  first : (t : List ℕ) (fs : List Format) (x : ValuesOf fs) → fits_all (text (text_width v) (text_most v) ∷ fs) (t, x) ≡ true
      → fits_all (text (text_width w) (text_most w) ∷ fs) (t, x) ≡ true
  unfolding fits_all
  first t fs x h = and_both (text_longer t (and_left (fits (text (text_width v) (text_most v)) t) (fits_all fs x) h)) (and_right (fits (text (text_width v) (text_most v)) t) (fits_all fs x) h)

  second : (f : Format) (a : ValueOf f) (t : List ℕ) (fs : List Format) (x : ValuesOf fs) → fits_all (f ∷ text (text_width v) (text_most v) ∷ fs) (a, (t, x)) ≡ true
      → fits_all (f ∷ text (text_width w) (text_most w) ∷ fs) (a, (t, x)) ≡ true
  unfolding fits_all
  second f a t fs x h = and_both (and_left (fits f a) (fits_all (text (text_width v) (text_most v) ∷ fs) (t, x)) h) (first t fs x (and_right (fits f a) (fits_all (text (text_width v) (text_most v) ∷ fs) (t, x)) h))

  third : (f g : Format) (a : ValueOf f) (b : ValueOf g) (t : List ℕ) (fs : List Format) (x : ValuesOf fs)
      → fits_all (f ∷ g ∷ text (text_width v) (text_most v) ∷ fs) (a, (b, (t, x))) ≡ true → fits_all (f ∷ g ∷ text (text_width w) (text_most w) ∷ fs) (a, (b, (t, x))) ≡ true
  unfolding fits_all
  third f g a b t fs x h =
      and_both (and_left (fits f a) (fits_all (g ∷ text (text_width v) (text_most v) ∷ fs) (b, (t, x))) h)
      (second g b t fs x (and_right (fits f a) (fits_all (g ∷ text (text_width v) (text_most v) ∷ fs) (b, (t, x))) h))

  pub writable_longer : (c : Call) → writable v c ≡ true → writable w c ≡ true
  unfolding writable
  writable_longer (ask (advance b)) h = h
  writable_longer (ask (create a n k m c)) h = second (bytes 32) a.0 n _ _ h
  writable_longer (ask (deposit n c)) h = h
  writable_longer (ask (delete a n)) h = h
  writable_longer (ask (undelete a n)) h = h
  writable_longer (ask (grant a n s)) h = third (bytes 32) (number 4) a.0 n.0 s.prefix _ _ h
  writable_longer (ask (attenuate k s)) h = second (number 4) k.0 s.prefix _ _ h
  writable_longer (ask (revoke a k)) h = h
  writable_longer (ask (remove a n p)) h = third (bytes 32) (number 4) a.0 n.0 p _ _ h
  writable_longer (ask (look k p)) h = second (number 4) k.0 p _ _ h
  writable_longer (ask (register c)) h = h
  writable_longer (ask (heartbeat r)) h = h
  writable_longer (on_slot s (opens k)) h = h
  writable_longer (on_slot s (stages p n x)) h = second (number 1) s p _ _ h
  writable_longer (on_slot s commits) h = h
  writable_longer (on_slot s abandons) h = h
