-- A text of a record stands in the journal at its place. Assumes nothing.
use mathlib.Core.Path.{◌≡◌, refl, sym, ◌∙◌, ap}
use mathlib.Core.Bool.{Bool, true, false, cond}
use mathlib.Core.List.{List, [], ◌∷◌}
use Prim.Native.Nat.{ℕ, zero, suc, ◌+◌, ◌-◌, ◌<◌, ◌≤◌}
use native.Mathlib.Omega.{arith}
use borrow.Author.Rules.{rules}
use borrow.Author.Tests.{lt-ltb, le-ltb, ltb-true}
use lib.Dec.{ltb}
use lib.ListN.{length, take, drop, drop_of_length-le}
use lib.Seq.{take-nil, drop-drop}
use Rattle.journal.specs.declared.Record.{Record}
use Rattle.journal.specs.Places.{text_at}
use Rattle.kept.specs.Kept.{bytes_in}
use Rattle.journal_calls.specs.NextLaws.{body_at}
use Rattle.journal_calls.specs.Places.{place_in}

-- ---- the place of a byte

module _ (n p byte : ℕ) where
  pub place_past : n < p → 0 ≡ place_in n p byte
  place_past h = sym (rw (lt-ltb n (p + 2 + byte) (omega arith)))

  pub place_cut : n - p < 2 → 0 ≡ place_in n p byte
  place_cut h = sym (rw (lt-ltb n (p + 2 + byte) (omega arith)))

  pub place_beyond : n - (p + 2) < byte → 0 ≡ place_in n p byte
  place_beyond h = sym (rw (lt-ltb n (p + 2 + byte) (omega arith)))

  pub place_there : p ≤ n → 2 ≤ n - p → byte ≤ n - (p + 2) → p + 2 + byte ≡ place_in n p byte
  place_there h k m = sym (rw (le-ltb n (p + 2 + byte) (omega arith)))

pub ruleset byte-places = (place_past, place_cut, place_beyond, place_there, rules)

-- ---- the text there

-- a part of the front of a list is as much of the list
front : (n m : ℕ) (x : List ℕ) → take (length (take n (take m x))) x ≡ take n (take m x)
front zero m x = refl
front (suc n) zero x = refl
front (suc n) (suc m) [] = refl
front (suc n) (suc m) (y ∷ x) = ap (λ (l : List ℕ). y ∷ l) (front n m x)

later : (n a m : ℕ) (x : List ℕ) → take (length (take n (drop a (take m x)))) (drop a x) ≡ take n (drop a (take m x))
later n zero m x = front n m x
later n (suc a) zero x = rw (take-nil n)
later n (suc a) (suc m) [] = rw (take-nil n)
later n (suc a) (suc m) (y ∷ x) = later n a m x

module _ (l : List ℕ) (p after : ℕ) (r : Record) where
  abbrev text : List ℕ
  text = text_at r (body_at p after l)

  there : take (length text) (drop (p + 2 + r.text) l) ≡ text
  there =
      ap (take (length text)) (sym (drop-drop r.text (p + 2) l))
      ∙ later r.text_len r.text (after - (p + 2)) (drop (p + 2) l)

  none : length l < p + 2 + r.text → text ≡ []
  none h =
      sym there
      ∙ rw (drop_of_length-le l {i = p + 2 + r.text} (omega arith)) (take-nil (length text))

  at_place : (past : Bool) → ltb (length l) (p + 2 + r.text) ≡ past → take (length text) (drop (cond past 0 (p + 2 + r.text)) l) ≡ text
  at_place true e = rw (none (ltb-true (length l) (p + 2 + r.text) e))
  at_place false e = there

  -- b is the record's bytes, m its text, n how many bytes that has, and `at` its place
  pub text_placed : (b m : List ℕ) (n at : ℕ) → b ≡ body_at p after l → m ≡ text_at r b → n ≡ length m → at ≡ place_in (length l) p r.text
      → bytes_in l at n ≡ text
  text_placed b m n at eb em en ea =
      let same : m ≡ text = em ∙ ap (text_at r) eb in
      rw (en, same, ea) (at_place (ltb (length l) (p + 2 + r.text)) refl)
