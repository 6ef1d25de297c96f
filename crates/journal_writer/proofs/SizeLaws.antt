-- Measuring the fields of a record one after another. Assumes nothing.
use Rattle.std.specs.Prelude.{Option, None, Some}
use mathlib.Core.Path.{◌≡◌, refl, sym, ◌∙◌, ap}
use mathlib.Core.Bool.{Bool, true, false, ◌&&◌, cond}
use mathlib.Core.List.{List, [], ◌∷◌, ◌++◌}
use Prim.Native.Nat.{ℕ, zero, suc, ◌+◌, ◌*◌, ◌<◌, ◌≤◌}
use native.Mathlib.Numerals.{add-one}
use native.Mathlib.Omega.{arith}
use mir.Val.{Fits}
use mir.Syntax.{w64}
use lib.ListN.{length, take, drop, get_or, length-append, drop_of_length-le}
use lib.Seq.{drop-cons}
use borrow.Author.Rules.{rules}
use borrow.Author.Tests.{le-leb}
use Rattle.rules.specs.Scope.{mode_number}
use Rattle.journal.specs.declared.Field.{Field}
use Rattle.journal.specs.declared.Field.TheVariants as its
use Rattle.journal.specs.declared.Fields.{Fields}
use Rattle.journal.specs.Numbers.{bytes_of}
use Rattle.journal.proofs.NumberLaws.{length_bytes_of}
use Rattle.journal.specs.Fields.{encode, cap_bytes}
use Rattle.journal.specs.declared.Version.{Version}
use Rattle.journal.specs.declared.Kind.{Kind}
use Rattle.journal.specs.Records.{text_width, text_most, fields_of}
use Rattle.journal.proofs.WriteLaws.{few_fields}
use Rattle.journal.specs.Writes.{mode_in, givable, givable_all, field_bytes, fields_bytes, field_size, fields_size, IsSmall}

-- ---- the size of one field

pub size_ok : (v : Version) (f : Field) (d : Fields) (t : List ℕ) (k : ℕ) → givable v f d t ≡ true → length (field_bytes v f d t) ≡ k → Some k ≡ field_size v f d t
unfolding field_size
size_ok v f d t k g e = rw (g, e)

-- the bytes of each field
pub no_bytes : (v : Version) (d : Fields) (t : List ℕ) → field_bytes v its.No d t ≡ bytes_of 4 d.no
unfolding field_bytes encode
no_bytes v d t = refl

pub slot_bytes : (v : Version) (d : Fields) (t : List ℕ) → field_bytes v its.Slot d t ≡ bytes_of 1 d.slot
unfolding field_bytes encode
slot_bytes v d t = refl

pub k_bytes : (v : Version) (d : Fields) (t : List ℕ) → field_bytes v its.K d t ≡ bytes_of 1 d.k
unfolding field_bytes encode
k_bytes v d t = refl

pub m_bytes : (v : Version) (d : Fields) (t : List ℕ) → field_bytes v its.M d t ≡ bytes_of 1 d.m
unfolding field_bytes encode
m_bytes v d t = refl

pub amount_bytes : (v : Version) (d : Fields) (t : List ℕ) → field_bytes v its.Amount d t ≡ bytes_of 8 d.amount
unfolding field_bytes encode
amount_bytes v d t = refl

pub from_bytes : (v : Version) (d : Fields) (t : List ℕ) → field_bytes v its.From d t ≡ bytes_of 8 d.«from»
unfolding field_bytes encode
from_bytes v d t = refl

pub until_bytes : (v : Version) (d : Fields) (t : List ℕ) → field_bytes v its.Until d t ≡ bytes_of 8 d.until
unfolding field_bytes encode
until_bytes v d t = refl

pub account_bytes : (v : Version) (d : Fields) (t : List ℕ) → field_bytes v its.Account d t ≡ d.account
unfolding field_bytes encode
account_bytes v d t = refl

pub hash_bytes : (v : Version) (d : Fields) (t : List ℕ) → field_bytes v its.Hash d t ≡ d.hash
unfolding field_bytes encode
hash_bytes v d t = refl

pub text_bytes_lem : (v : Version) (d : Fields) (t : List ℕ) → field_bytes v its.Text d t ≡ bytes_of (text_width v) (length t) ++ t
unfolding field_bytes encode
text_bytes_lem v d t = refl

pub cap_bytes_lem : (v : Version) (d : Fields) (t : List ℕ) → field_bytes v its.Cap d t ≡ cap_bytes d.cap
unfolding field_bytes encode
cap_bytes_lem v d t = refl

-- a mode's number is its byte
mode_number_lem : (n : ℕ) → n ≤ 2 → mode_number (mode_in n) ≡ n
mode_number_lem zero h = refl
mode_number_lem (suc zero) h = refl
mode_number_lem (suc (suc zero)) h = refl
mode_number_lem (suc (suc (suc n))) h = absurd (omega arith)

pub mode_bytes : (v : Version) (d : Fields) (t : List ℕ) → d.mode ≤ 2 → field_bytes v its.Mode d t ≡ bytes_of 1 d.mode
unfolding field_bytes encode
mode_bytes v d t h = ap (bytes_of 1) (mode_number_lem d.mode h)

-- ---- the arms of the match on the field: f is the field that the arm names

module _ (v : Version) (f : Field) (d : Fields) (t : List ℕ) where
  arm : (g : Field) (k : ℕ) → f ≡ g → givable v g d t ≡ true → length (field_bytes v g d t) ≡ k → Some k ≡ field_size v f d t
  arm g k e a b = rw e (size_ok v g d t k a b)

  pub account_size : f ≡ its.Account → length d.account ≡ 32 → Some 32 ≡ field_size v f d t
  account_size e h = arm its.Account 32 e refl (ap length (account_bytes v d t) ∙ h)

  pub hash_size : f ≡ its.Hash → length d.hash ≡ 32 → Some 32 ≡ field_size v f d t
  hash_size e h = arm its.Hash 32 e refl (ap length (hash_bytes v d t) ∙ h)

  -- w is the width of its length, and `most` the longest
  module _ (e : f ≡ its.Text) (most : ℕ) (q : most ≡ text_most v) where
    pub text_size : (w : ℕ) → w ≡ text_width v → length t ≤ most → Some (w + length t) ≡ field_size v f d t
    text_size w p h =
        rw p
        (arm its.Text (text_width v + length t) e (le-leb (length t) (text_most v) (rw q at h))
        (ap length (text_bytes_lem v d t) ∙ length-append (bytes_of (text_width v) (length t)) t ∙ rw (length_bytes_of (text_width v) (length t))))

  pub cap_size : (k : ℕ) → f ≡ its.Cap → k ≡ length (cap_bytes d.cap) → Some k ≡ field_size v f d t
  cap_size k e h = arm its.Cap k e refl (ap length (cap_bytes_lem v d t) ∙ sym h)

pub ruleset arms = (account_size, hash_size, text_size, cap_size, rules)

-- ---- the size of a list of fields

size_inv : (v : Version) (f : Field) (d : Fields) (t : List ℕ) (g : Bool) (k : ℕ) → cond g (Some (length (field_bytes v f d t))) None ≡ Some k
    → (g ≡ true) × (length (field_bytes v f d t) ≡ k)
size_inv v f d t true k e = (refl, cc)
size_inv v f d t false k e = let z : ◌≡◌ {A = ℕ} 0 1 = cc in absurd (omega arith)

pub size_more : (v : Version) (f : Field) (fs : List Field) (d : Fields) (t : List ℕ) (n k : ℕ) → field_size v f d t ≡ Some k
    → fields_size v n (f ∷ fs) d t ≡ fields_size v (n + k) fs d t
unfolding field_size fields_size givable_all fields_bytes
size_more v f fs d t n k e =
    let p = size_inv v f d t (givable v f d t) k e in
    let z : n + length (field_bytes v f d t ++ fields_bytes v fs d t) ≡ n + k + length (fields_bytes v fs d t) =
    omega (arith, length-append (field_bytes v f d t) (fields_bytes v fs d t), p.1) in
    rw (p.0, z)

pub size_stop : (v : Version) (f : Field) (fs : List Field) (d : Fields) (t : List ℕ) (n : ℕ) → field_size v f d t ≡ None → fields_size v n (f ∷ fs) d t ≡ None
unfolding field_size fields_size givable_all
size_stop v f fs d t n e = go (givable v f d t) refl e
  where
    go : (g : Bool) → givable v f d t ≡ g → cond g (Some (length (field_bytes v f d t))) None ≡ None
        → cond (givable v f d t && givable_all v fs d t) (Some (n + length (fields_bytes v (f ∷ fs) d t))) None ≡ None
    go true q e = cc
    go false q e = rw q

pub size_end : (v : Version) (d : Fields) (t : List ℕ) (n : ℕ) → fields_size v n [] d t ≡ Some n
unfolding fields_size givable_all fields_bytes
size_end v d t n = let z : n + 0 ≡ n = omega arith in ap Some z

-- the loop that measures the fields: with the n bytes of those before i, the fields from i on have the size of all
pub record SizeLoop (v : Version) (k : Kind) (d : Fields) (t : List ℕ) (n i : ℕ) : Type 0 where
  pub most : n ≤ 1026 * i
  pub rest : fields_size v 0 (fields_of v k) d t ≡ fields_size v n (drop i (fields_of v k)) d t

module _ (v : Version) (k : Kind) (d : Fields) (t : List ℕ) where
  pub size_start : SizeLoop v k d t 0 0
  size_start = record { most = omega arith; rest = refl }

  module _ (fields : List Field) (q : fields ≡ fields_of v k) (n i : ℕ) (h : SizeLoop v k d t n i) where
    pub all_sized : length fields ≤ i → Some n ≡ fields_size v 0 (fields_of v k) d t
    all_sized c = rw (h.rest, drop_of_length-le (fields_of v k) {i = i} (rw q at c)) (sym (size_end v d t n))

    pub all_small : i ≤ length fields → n ≤ 7182
    all_small c = let m = rw (← q) at (few_fields v k) in omega (arith, h.most)

    -- s is the size of field i
    module _ (c : i < length fields) (s : Option ℕ) (w : s ≡ field_size v (get_or fields i its.Account) d t) where
      few : i < 7
      few = let m = rw (← q) at (few_fields v k) in omega arith

      -- the size of all, where i is the next field
      next_size : fields_size v 0 (fields_of v k) d t ≡ fields_size v n (get_or fields i its.Account ∷ drop (suc i) (fields_of v k)) d t
      next_size = h.rest ∙ ap (λ (gs : List Field). fields_size v n gs d t) (rw (← q) (drop-cons fields i its.Account c))

      pub one_bad : s ≡ None → None ≡ fields_size v 0 (fields_of v k) d t
      one_bad b = rw next_size (sym (size_stop v (get_or fields i its.Account) (drop (suc i) (fields_of v k)) d t n (sym w ∙ b)))

      module _ (m : ℕ) (b : s ≡ Some m) (z : IsSmall s) where
        short : m ≤ 1026
        short = rw b at z

        pub size_step : SizeLoop v k d t (n + m) (i + 1)
        size_step =
            record {
              most = omega (arith, short);
              rest = rw (add-one i) (next_size ∙ size_more v (get_or fields i its.Account) (drop (suc i) (fields_of v k)) d t n m (sym w ∙ b));
            }

        pub size_room : Fits w64 (n + m)
        size_room = record { fits = omega (arith, short, few) }

pub ruleset measures = (size_step, one_bad, all_sized, all_small, size_start, size_room, rules)

pub ruleset lengths = (length_bytes_of, length-append)
