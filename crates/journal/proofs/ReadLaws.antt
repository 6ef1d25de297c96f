-- Reading the fields of a record one after another, as the loop does. Assumes nothing.
use Rattle.std.specs.Prelude.{Option, None, Some, Err, Ok, Result}
use mathlib.Core.Path.{◌≡◌, refl, sym, ◌∙◌, ap}
use mathlib.Core.Bool.{true}
use mathlib.Core.List.{List, [], ◌∷◌}
use Prim.Native.Nat.{ℕ, suc, ◌+◌, ◌<◌, ◌≤◌}
use native.Mathlib.Numerals.{add-one}
use native.Mathlib.Omega.{arith}
use lib.Pow.{are_bytes}
use lib.ListN.{length, drop, get_or, length-append, length-drop, drop_of_length-le}
use lib.Seq.{drop-cons}
use mir.Syntax.{w8}
use mir.Val.{Fits}
use borrow.Author.Rules.{rules}
use Rattle.journal.specs.declared.errors.JournalError.{JournalError}
use Rattle.journal.specs.declared.errors.JournalError.TheVariants as error
use Rattle.journal.specs.declared.Kind.{Kind}
use Rattle.journal.specs.declared.Field.{Field}
use Rattle.journal.specs.declared.Field.TheVariants as its
use Rattle.journal.specs.declared.Record.{Record}
use Rattle.journal.specs.Fields.{Decoded, nothing, found, on_found, in_front, decode, decode_all, encode, ValueOf, ValuesOf}
use Rattle.journal.proofs.FieldLaws.{decode_taken, bytes_drop}
use Rattle.journal.specs.Records.{Version, format_of, forms_of, fields_of, kinds, kind_among, kind_numbered, whole, parse, parse_kind}
use Rattle.journal.specs.Places.{blank, place, reading_of, read_at}
use Rattle.journal.proofs.PlaceLaws.{past}
use Rattle.journal.specs.Table.{step_to, ending, read_on}
use Rattle.journal.proofs.FieldLaws.{bytes_known}

-- what the first field of a list leaves to the others
front : (v : Version) (f : Field) (fs : List Field) (at : ℕ) (r : Record) (x : ValueOf (format_of v f)) (d : Decoded (ValuesOf (forms_of v fs)))
    → ending v (f ∷ fs) at r (on_found (in_front x) d) ≡ ending v fs (at + length (encode (format_of v f) x)) (place v f at x r) d
front v f fs at r x nothing = refl
front v f fs at r x (found y []) = refl
front v f fs at r x (found y (b ∷ l)) = refl

-- after a field that was read, the others are left, and the place is within the bytes
pub record Passed (v : Version) (f : Field) (fs : List Field) (at : ℕ) (r : Record) (l : List ℕ) (q : Record) (next : ℕ) : Type 0 where
  pub same : read_on v (f ∷ fs) at r l ≡ read_on v fs next q l
  pub within : next ≤ length l

found_passed : (v : Version) (f : Field) (fs : List Field) (at : ℕ) (r : Record) (l : List ℕ) (x : ValueOf (format_of v f)) (rest : List ℕ) → are_bytes l ≡ true
    → at ≤ length l → decode (format_of v f) (drop at l) ≡ found x rest
    → Passed v f fs at r l (place v f at x r) (at + length (encode (format_of v f) x))
unfolding read_on decode_all
found_passed v f fs at r l x rest h k e =
    let t = decode_taken (format_of v f) (drop at l) x rest (bytes_drop at l h) e in
    let n = at + length (encode (format_of v f) x) in
    let d : drop n l ≡ rest = past at l (encode (format_of v f) x) rest (sym t.whole) in
    let go : (d : Decoded (ValueOf (format_of v f))) → Decoded (ValuesOf (forms_of v (f ∷ fs))) =
    λ d. on_found (λ a more. on_found (in_front a) (decode_all (forms_of v fs) more)) d in
    record {
      same =
          ap (λ (d : Decoded (ValueOf (format_of v f))). ending v (f ∷ fs) at r (go d)) e ∙ front v f fs at r x (decode_all (forms_of v fs) rest)
          ∙ ap (λ (m : List ℕ). ending v fs n (place v f at x r) (decode_all (forms_of v fs) m)) (sym d);
      within = omega (arith, ap length t.whole, length-append (encode (format_of v f) x) rest, length-drop at l);
    }

pub passed : (v : Version) (f : Field) (fs : List Field) (at : ℕ) (r : Record) (l : List ℕ) (q : Record) (next : ℕ) → are_bytes l ≡ true → at ≤ length l
    → Some (q, next) ≡ step_to v f at r (decode (format_of v f) (drop at l)) → Passed v f fs at r l q next
passed v f fs at r l q next h k e = go (decode (format_of v f) (drop at l)) refl e
  where
    go : (d : Decoded (ValueOf (format_of v f))) → decode (format_of v f) (drop at l) ≡ d → Some (q, next) ≡ step_to v f at r d → Passed v f fs at r l q next
    go nothing p e = let z : ◌≡◌ {A = ℕ} 0 1 = cc in absurd (omega arith)
    go (found x rest) p e =
        let e₂ : (q, next) ≡ (place v f at x r, at + length (encode (format_of v f) x)) = cc in
        let eq : q ≡ place v f at x r = ap (λ (p : Record × ℕ). p.0) e₂ in
        let en : next ≡ at + length (encode (format_of v f) x) = ap (λ (p : Record × ℕ). p.1) e₂ in
        rw (eq, en) (found_passed v f fs at r l x rest h k p)

-- a field that was not there ends the reading
pub stopped : (v : Version) (f : Field) (fs : List Field) (at : ℕ) (r : Record) (l : List ℕ) → None ≡ step_to v f at r (decode (format_of v f) (drop at l))
    → read_on v (f ∷ fs) at r l ≡ Err error.Record
unfolding read_on decode_all
stopped v f fs at r l e = go (decode (format_of v f) (drop at l)) e
  where
    go : (d : Decoded (ValueOf (format_of v f))) → None ≡ step_to v f at r d
        → ending v (f ∷ fs) at r (on_found (λ a more. on_found (in_front a) (decode_all (forms_of v fs) more)) d) ≡ Err error.Record
    go nothing e = refl
    go (found x rest) e = cc

-- where no field is left, no byte may be
pub ended : (v : Version) (at : ℕ) (r : Record) (l : List ℕ) → length l ≤ at → read_on v [] at r l ≡ Ok r
unfolding read_on decode_all
ended v at r l h = rw (drop_of_length-le l h)

pub left_over : (v : Version) (at : ℕ) (r : Record) (l : List ℕ) → at < length l → read_on v [] at r l ≡ Err error.Record
unfolding read_on decode_all
left_over v at r l h = rw (drop-cons l at 0 h)

-- the kind of a record, then its fields
read_kind : (v : Version) (b : ℕ) (l : List ℕ) (k : Kind) → kind_among b (kinds v) ≡ Some k → read_at v (b ∷ l) ≡ read_on v (fields_of v k) 1 (blank k) (b ∷ l)
unfolding read_at parse read_on
read_kind v b l k e = ap (λ (o : Option Kind). reading_of v (parse_kind v o l)) e ∙ go (decode_all (forms_of v (fields_of v k)) l)
  where
    go : (d : Decoded (ValuesOf (forms_of v (fields_of v k)))) → reading_of v (whole v k d) ≡ ending v (fields_of v k) 1 (blank k) d
    go nothing = refl
    go (found x []) = refl
    go (found x (c ∷ m)) = refl

read_unknown : (v : Version) (b : ℕ) (l : List ℕ) → kind_among b (kinds v) ≡ None → read_at v (b ∷ l) ≡ Err error.Record
unfolding read_at parse
read_unknown v b l e = ap (λ (o : Option Kind). reading_of v (parse_kind v o l)) e

-- what the first byte decides, if there is one
pub read_empty : (v : Version) (l : List ℕ) → length l < 1 → read_at v l ≡ Err error.Record
unfolding read_at parse
read_empty v [] h = refl
read_empty v (b ∷ l) h = absurd (omega arith)

pub read_known : (v : Version) (l : List ℕ) (k : Kind) → 1 ≤ length l → Some k ≡ kind_numbered v (get_or l 0 0) → read_at v l ≡ read_on v (fields_of v k) 1 (blank k) l
read_known v [] k h e = absurd (omega arith)
read_known v (b ∷ l) k h e = read_kind v b l k (sym e)

pub read_strange : (v : Version) (l : List ℕ) → 1 ≤ length l → None ≡ kind_numbered v (get_or l 0 0) → read_at v l ≡ Err error.Record
read_strange v [] h e = absurd (omega arith)
read_strange v (b ∷ l) h e = read_unknown v b l (sym e)

-- the returns of `read_record`: m is what `kind_named` said of the first byte, and x what the kind's fields gave
pub empty_record : (v : Version) (l : List ℕ) → length l < 1 → Err error.Record ≡ read_at v l
empty_record v l h = sym (read_empty v l h)

module _ (v : Version) (l : List ℕ) (h : 1 ≤ length l) (m : Option Kind) (e : m ≡ kind_numbered v (get_or l 0 0)) where
  pub strange_record : m ≡ None → Err error.Record ≡ read_at v l
  strange_record u = sym (read_strange v l h (sym u ∙ e))

  pub known_record : (k : Kind) (x : Result Record JournalError) → m ≡ Some k → x ≡ read_on v (fields_of v k) 1 (blank k) l → x ≡ read_at v l
  known_record k x u p = p ∙ sym (read_known v l k h (sym u ∙ e))

-- the loop over the fields of a kind: what those from i on make of r, from the place on, is what all of them make of the blank record
module _ (v : Version) (k : Kind) (l : List ℕ) (fields : List Field) (t : fields ≡ fields_of v k) (r : Record) (at i : ℕ)
    (rest : read_on v (fields_of v k) 1 (blank k) l ≡ read_on v (drop i (fields_of v k)) at r l) where
  none_left : length fields ≤ i → read_on v (fields_of v k) 1 (blank k) l ≡ read_on v [] at r l
  none_left c = rest ∙ rw (drop_of_length-le (fields_of v k) {i = i} (rw t at c))

  pub fields_over : length fields ≤ i → at < length l → Err error.Record ≡ read_on v (fields_of v k) 1 (blank k) l
  fields_over c w = sym (none_left c ∙ left_over v at r l w)

  pub fields_end : length fields ≤ i → length l ≤ at → Ok r ≡ read_on v (fields_of v k) 1 (blank k) l
  fields_end c w = sym (none_left c ∙ ended v at r l w)

  -- s is what the reader of field i said
  module _ (c : i < length fields) (s : Option (Record × ℕ))
      (e : s ≡ step_to v (get_or fields i its.Account) at r (decode (format_of v (get_or fields i its.Account)) (drop at l))) where
    here : drop i (fields_of v k) ≡ get_or fields i its.Account ∷ drop (suc i) (fields_of v k)
    here = rw (← t) (drop-cons fields i its.Account c)

    pub fields_stop : s ≡ None → Err error.Record ≡ read_on v (fields_of v k) 1 (blank k) l
    fields_stop u = sym (rest ∙ rw here (stopped v (get_or fields i its.Account) (drop (suc i) (fields_of v k)) at r l (sym u ∙ e)))

    module _ (known : (j : ℕ) → Fits w8 (get_or l j 0)) (within : at ≤ length l) (q : Record) (next : ℕ) (u : s ≡ Some (q, next)) where
      step : Passed v (get_or fields i its.Account) (drop (suc i) (fields_of v k)) at r l q next
      step = passed v (get_or fields i its.Account) (drop (suc i) (fields_of v k)) at r l q next (bytes_known l (λ j. (known j).fits)) within (sym u ∙ e)

      pub next_within : next ≤ length l
      next_within = step.within

      pub next_left : read_on v (fields_of v k) 1 (blank k) l ≡ read_on v (drop (i + 1) (fields_of v k)) next q l
      next_left = rest ∙ rw here (rw (add-one i) step.same)

pub ruleset records = (empty_record, strange_record, known_record)

pub ruleset fields_read = (fields_over, fields_end, fields_stop, next_within, next_left, rules)
