-- Writing one field: what the arm's function wrote is what the field has. Assumes nothing.
use mathlib.Core.Path.{◌≡◌, ◌∙◌, ap}
use mathlib.Core.Bool.{true}
use mathlib.Core.List.{List, ◌++◌}
use Prim.Native.Nat.{ℕ, ◌+◌, ◌≤◌}
use native.Mathlib.Omega.{arith}
use lib.ListN.{length, length-append}
use borrow.Author.Rules.{rules}
use borrow.Author.Tests.{leb-true}
use Rattle.journal.specs.declared.Field.{Field}
use Rattle.journal.specs.declared.Field.TheVariants as its
use Rattle.journal.specs.declared.Fields.{Fields}
use Rattle.journal.specs.Numbers.{bytes_of}
use Rattle.journal.proofs.NumberLaws.{length_bytes_of}
use Rattle.journal.specs.Fields.{cap_bytes}
use Rattle.journal.specs.declared.Version.{Version}
use Rattle.journal.specs.Records.{text_width}
use Rattle.journal.specs.Writes.{over, givable, field_bytes}
use Rattle.journal_writer.proofs.SizeLaws.{account_bytes, no_bytes, slot_bytes, k_bytes, m_bytes, text_bytes_lem, amount_bytes, hash_bytes, mode_bytes, cap_bytes_lem, from_bytes, until_bytes}

-- the bytes of the field that the arm names, and how many they are
module _ (v : Version) (f : Field) (d : Fields) (t : List ℕ) where
  pub no_is : f ≡ its.No → field_bytes v f d t ≡ bytes_of 4 d.no
  no_is e = rw e (no_bytes v d t)

  pub no_length : f ≡ its.No → length (field_bytes v f d t) ≡ 4
  no_length e = ap length (no_is e) ∙ length_bytes_of 4 d.no

  pub slot_is : f ≡ its.Slot → field_bytes v f d t ≡ bytes_of 1 d.slot
  slot_is e = rw e (slot_bytes v d t)

  pub slot_length : f ≡ its.Slot → length (field_bytes v f d t) ≡ 1
  slot_length e = ap length (slot_is e) ∙ length_bytes_of 1 d.slot

  pub k_is : f ≡ its.K → field_bytes v f d t ≡ bytes_of 1 d.k
  k_is e = rw e (k_bytes v d t)

  pub k_length : f ≡ its.K → length (field_bytes v f d t) ≡ 1
  k_length e = ap length (k_is e) ∙ length_bytes_of 1 d.k

  pub m_is : f ≡ its.M → field_bytes v f d t ≡ bytes_of 1 d.m
  m_is e = rw e (m_bytes v d t)

  pub m_length : f ≡ its.M → length (field_bytes v f d t) ≡ 1
  m_length e = ap length (m_is e) ∙ length_bytes_of 1 d.m

  pub amount_is : f ≡ its.Amount → field_bytes v f d t ≡ bytes_of 8 d.amount
  amount_is e = rw e (amount_bytes v d t)

  pub amount_length : f ≡ its.Amount → length (field_bytes v f d t) ≡ 8
  amount_length e = ap length (amount_is e) ∙ length_bytes_of 8 d.amount

  pub from_is : f ≡ its.From → field_bytes v f d t ≡ bytes_of 8 d.«from»
  from_is e = rw e (from_bytes v d t)

  pub from_length : f ≡ its.From → length (field_bytes v f d t) ≡ 8
  from_length e = ap length (from_is e) ∙ length_bytes_of 8 d.«from»

  pub until_is : f ≡ its.Until → field_bytes v f d t ≡ bytes_of 8 d.until
  until_is e = rw e (until_bytes v d t)

  pub until_length : f ≡ its.Until → length (field_bytes v f d t) ≡ 8
  until_length e = ap length (until_is e) ∙ length_bytes_of 8 d.until

  pub account_is : f ≡ its.Account → field_bytes v f d t ≡ d.account
  account_is e = rw e (account_bytes v d t)

  pub account_length : f ≡ its.Account → length d.account ≡ 32 → length (field_bytes v f d t) ≡ 32
  account_length e h = ap length (account_is e) ∙ h

  pub hash_is : f ≡ its.Hash → field_bytes v f d t ≡ d.hash
  hash_is e = rw e (hash_bytes v d t)

  pub hash_length_lem : f ≡ its.Hash → length d.hash ≡ 32 → length (field_bytes v f d t) ≡ 32
  hash_length_lem e h = ap length (hash_is e) ∙ h

  pub text_is : f ≡ its.Text → field_bytes v f d t ≡ bytes_of (text_width v) (length t) ++ t
  text_is e = rw e (text_bytes_lem v d t)

  pub text_length_lem : f ≡ its.Text → length (field_bytes v f d t) ≡ text_width v + length t
  text_length_lem e = ap length (text_is e) ∙ length-append (bytes_of (text_width v) (length t)) t ∙ rw (length_bytes_of (text_width v) (length t))

  pub cap_is : f ≡ its.Cap → field_bytes v f d t ≡ cap_bytes d.cap
  cap_is e = rw e (cap_bytes_lem v d t)

  pub cap_length_lem : f ≡ its.Cap → length (field_bytes v f d t) ≡ length (cap_bytes d.cap)
  cap_length_lem e = ap length (cap_is e)

  pub mode_is : f ≡ its.Mode → givable v f d t ≡ true → field_bytes v f d t ≡ bytes_of 1 d.mode
  mode_is e g = rw e (mode_bytes v d t (leb-true d.mode 2 (rw e at g)))

  pub mode_length : f ≡ its.Mode → givable v f d t ≡ true → length (field_bytes v f d t) ≡ 1
  mode_length e g = ap length (mode_is e g) ∙ length_bytes_of 1 d.mode

  -- room for it, where it ends, and the buffer after it
  module _ (at : ℕ) where
    pub room : (k n : ℕ) → at + length (field_bytes v f d t) ≤ n → length (field_bytes v f d t) ≡ k → at + k ≤ n
    room k n h e = omega arith

    pub ends : (k r : ℕ) → r ≡ at + k → length (field_bytes v f d t) ≡ k → r ≡ at + length (field_bytes v f d t)
    ends k r h e = omega arith

    pub wrote : (b out out' : List ℕ) → out' ≡ over at b out → field_bytes v f d t ≡ b → out' ≡ over at (field_bytes v f d t) out
    wrote b out out' h e = rw e h

pub ruleset lengths =
    (no_length, slot_length, k_length, m_length, amount_length, from_length, until_length, account_length, hash_length_lem, text_length_lem, cap_length_lem, mode_length)

pub ruleset rooms = (room, lengths, rules)

pub ruleset writes =
    (ends, wrote, lengths, no_is, slot_is, k_is, m_is, amount_is, from_is, until_is, account_is, hash_is, text_is, cap_is, mode_is, rules)
