-- Writing the fields of a record one after another, and the whole record. Assumes nothing.
use Rattle.std.specs.Prelude.{Option, None, Some, Ok, Err}
use mathlib.Core.Path.{◌≡◌, refl, sym, ◌∙◌, ap}
use mathlib.Core.Bool.{Bool, true, false, cond}
use mathlib.Core.List.{List, [], ◌∷◌, ◌++◌}
use Prim.Native.Nat.{ℕ, suc, ◌+◌, ◌%◌, ◌<◌, ◌≤◌}
use native.Mathlib.Nat.{mod-eq_of_lt}
use native.Mathlib.Numerals.{add-one}
use native.Mathlib.Omega.{arith}
use mir.Val.{Fits}
use mir.Syntax.{w64}
use lib.Dec.{leb, lit<}
use lib.ListN.{length, drop, get_or, length-append, drop_of_length-le}
use lib.Seq.{drop-cons}
use borrow.Author.Rules.{rules}
use borrow.Author.Tests.{le-leb, lt-leb}
use Rattle.journal.specs.declared.errors.WriteError.TheVariants as error
use Rattle.journal.specs.declared.Kind.{Kind}
use Rattle.journal.specs.declared.Kind.TheVariants.{Advance, Create, Deposit, Delete, Undelete, Grant, Attenuate, Revoke, Open, Stage, Commit, Abandon, Remove, Look, Register, Heartbeat}
use Rattle.journal.specs.declared.Field.{Field}
use Rattle.journal.specs.declared.Field.TheVariants as its
use Rattle.journal.specs.declared.Fields.{Fields}
use Rattle.journal.specs.Numbers.{bytes_of}
use Rattle.lists.specs.BoolLaws.{and_left, and_right}
use Rattle.journal.proofs.NumberLaws.{length_bytes_of}
use Rattle.journal.specs.Fields.{encode, encode_all}
use Rattle.journal.specs.declared.Version.{Version}
use Rattle.journal.specs.Records.{fields_of, forms_of, kinds, kind_number, kind_numbered, record_bytes}
use Rattle.journal.proofs.RecordLaws.{kind_of_number}
use Rattle.journal.specs.Writes.{values_in, givable, givable_all, in_frame, kind_in, record_in, over, answer_of, buffer_of, field_bytes, fields_bytes, fields_size, IsSized}
use Rattle.lists.specs.OverLaws.{over_none, over_over, length_over}
use Rattle.journal_writer.proofs.OverLaws.{over_pair}

-- in any version
module _ (v : Version) where
  -- ---- one field after another

  -- what is left before a field, and after it
  pub record Put (f : Field) (fs : List Field) (d : Fields) (t : List ℕ) (at : ℕ) (out : List ℕ) : Type 0 where
    pub one : at + length (field_bytes v f d t) ≤ length out
    pub given : givable v f d t ≡ true
    pub rest : at + length (field_bytes v f d t) + length (fields_bytes v fs d t) ≤ length out
    pub more : givable_all v fs d t ≡ true
    pub same : over (at + length (field_bytes v f d t)) (fields_bytes v fs d t) (over at (field_bytes v f d t) out) ≡ over at (fields_bytes v (f ∷ fs) d t) out

  pub put : (f : Field) (fs : List Field) (d : Fields) (t : List ℕ) (at : ℕ) (out : List ℕ) → at + length (fields_bytes v (f ∷ fs) d t) ≤ length out
      → givable_all v (f ∷ fs) d t ≡ true → Put f fs d t at out
  unfolding fields_bytes givable_all
  put f fs d t at out h g =
      let b = field_bytes v f d t in
      let bs = fields_bytes v fs d t in
      let one : at + length b ≤ length out = omega (arith, length-append b bs) in
      record {
        one = one;
        given = and_left (givable v f d t) _ g;
        rest = omega (arith, length-append b bs);
        more = and_right (givable v f d t) _ g;
        same = over_over at b bs out one;
      }

  pub put_end : (d : Fields) (t : List ℕ) (at : ℕ) (out : List ℕ) → over at (fields_bytes v [] d t) out ≡ out
  unfolding fields_bytes
  put_end d t at out = over_none at out

  -- the loop that does so: the fields from i on, from the place on, over the buffer give what all of them give from the start on
  pub record PutLoop (out₀ : List ℕ) (start : ℕ) (k : Kind) (d : Fields) (t out : List ℕ) (at i : ℕ) : Type 0 where
    pub size : length out ≡ length out₀
    pub room : at + length (fields_bytes v (drop i (fields_of v k)) d t) ≤ length out
    pub given : givable_all v (drop i (fields_of v k)) d t ≡ true
    pub same : over at (fields_bytes v (drop i (fields_of v k)) d t) out ≡ over start (fields_bytes v (fields_of v k) d t) out₀

  module _ (out₀ : List ℕ) (start : ℕ) (k : Kind) (d : Fields) (t : List ℕ) where
    pub put_start : start + length (fields_bytes v (fields_of v k) d t) ≤ length out₀ → givable_all v (fields_of v k) d t ≡ true → PutLoop out₀ start k d t out₀ start 0
    put_start h g = record { size = refl; room = h; given = g; same = refl }

    module _ (fields : List Field) (e : fields ≡ fields_of v k) (out : List ℕ) (at i : ℕ) (h : PutLoop out₀ start k d t out at i) where
      pub all_put : length fields ≤ i → out ≡ over start (fields_bytes v (fields_of v k) d t) out₀
      all_put c =
          let z : drop i (fields_of v k) ≡ [] = drop_of_length-le (fields_of v k) {i = i} (rw e at c) in
          sym (put_end d t at out) ∙ (rw z at h.same)

      module _ (c : i < length fields) where
        here : drop i (fields_of v k) ≡ get_or fields i its.Account ∷ drop (suc i) (fields_of v k)
        here = rw (← e) (drop-cons fields i its.Account c)

        next : Put (get_or fields i its.Account) (drop (suc i) (fields_of v k)) d t at out
        next = put (get_or fields i its.Account) (drop (suc i) (fields_of v k)) d t at out (rw here at h.room) (rw here at h.given)

        pub next_room : at + length (field_bytes v (get_or fields i its.Account) d t) ≤ length out
        next_room = next.one

        pub next_given : givable v (get_or fields i its.Account) d t ≡ true
        next_given = next.given

        -- out' is the buffer after field i, and r the place
        pub put_step : (out' : List ℕ) (r : ℕ) → r ≡ at + length (field_bytes v (get_or fields i its.Account) d t)
            → out' ≡ over at (field_bytes v (get_or fields i its.Account) d t) out → length out' ≡ length out → PutLoop out₀ start k d t out' r (i + 1)
        put_step out' r er eo el =
            let b = fields_bytes v (drop (suc i) (fields_of v k)) d t in
            let room : r + length b ≤ length out' = omega (arith, next.rest) in
            let same : over r b out' ≡ over start (fields_bytes v (fields_of v k) d t) out₀ =
            ap (λ (m : List ℕ). over r b m) eo ∙ ap (λ (k : ℕ). over k b (over at (field_bytes v (get_or fields i its.Account) d t) out)) er
            ∙ next.same ∙ (rw here at h.same) in
            record {
              size = el ∙ h.size;
              room = rw (add-one i) room;
              given = rw (add-one i) next.more;
              same = rw (add-one i) same;
            }

  -- ---- the whole record

  bytes_encode : (fs : List Field) (d : Fields) (t : List ℕ) → fields_bytes v fs d t ≡ encode_all (forms_of v fs) (values_in v fs d t)
  unfolding fields_bytes field_bytes encode_all
  bytes_encode [] d t = refl
  bytes_encode (f ∷ fs) d t = ap (λ (m : List ℕ). field_bytes v f d t ++ m) (bytes_encode fs d t)

  -- the record's bytes as the code writes them: length, kind, fields
  abbrev pub laid : Kind → Fields → List ℕ → List ℕ
  laid k d t = bytes_of 2 (1 + length (fields_bytes v (fields_of v k) d t)) ++ (bytes_of 1 d.kind ++ fields_bytes v (fields_of v k) d t)

  pub unknown : (d : Fields) (t : List ℕ) → None ≡ kind_numbered v d.kind → record_in v d t ≡ None
  unfolding record_in
  unknown d t e = ap (λ (o : Option Kind). kind_in v o d t) (sym e)

  known : (d : Fields) (t : List ℕ) (k : Kind) → Some k ≡ kind_numbered v d.kind → record_in v d t ≡ kind_in v (Some k) d t
  unfolding record_in
  known d t k e = ap (λ (o : Option Kind). kind_in v o d t) (sym e)

  sizes : (g : Bool) (n k : ℕ) → Some k ≡ cond g (Some n) None → (g ≡ true) × (n ≡ k)
  sizes true n k e = (refl, cc)
  sizes false n k e = let z : ◌≡◌ {A = ℕ} 0 1 = cc in absurd (omega arith)

  no_size : (g : Bool) (n : ℕ) → None ≡ cond g (Some n) None → g ≡ false
  no_size true n e = cc
  no_size false n e = refl

  pub refused : (d : Fields) (t : List ℕ) (k : Kind) → Some k ≡ kind_numbered v d.kind → None ≡ fields_size v 0 (fields_of v k) d t → record_in v d t ≡ None
  unfolding fields_size
  refused d t k e s = known d t k e ∙ rw (no_size (givable_all v (fields_of v k) d t) _ s)

  -- a record that can be given, of n bytes after its kind
  pub record Laid (d : Fields) (t : List ℕ) (k : Kind) (n : ℕ) : Type 0 where
    pub bytes : record_in v d t ≡ Some (laid k d t)
    pub all : givable_all v (fields_of v k) d t ≡ true
    pub len : length (fields_bytes v (fields_of v k) d t) ≡ n
    pub whole : length (laid k d t) ≡ n + 3

  -- a kind's number is one byte
  kind_lt : (k : Kind) → kind_number k < 256
  kind_lt Advance = lit< tt
  kind_lt Create = lit< tt
  kind_lt Deposit = lit< tt
  kind_lt Delete = lit< tt
  kind_lt Undelete = lit< tt
  kind_lt Grant = lit< tt
  kind_lt Attenuate = lit< tt
  kind_lt Revoke = lit< tt
  kind_lt Open = lit< tt
  kind_lt Stage = lit< tt
  kind_lt Commit = lit< tt
  kind_lt Abandon = lit< tt
  kind_lt Remove = lit< tt
  kind_lt Look = lit< tt
  kind_lt Register = lit< tt
  kind_lt Heartbeat = lit< tt

  frame : (d : Fields) (t : List ℕ) (k : Kind) → d.kind < 256 → d.kind ≡ kind_number k
      → in_frame (record_bytes v k (values_in v (fields_of v k) d t)) ≡ laid k d t
  unfolding record_bytes encode bytes_of
  frame d t k h e =
      let fs = fields_of v k in
      let m : kind_number k ≡ d.kind % 256 = sym e ∙ sym (mod-eq_of_lt h) in
      let q : kind_number k ∷ encode_all (forms_of v fs) (values_in v fs d t) ≡ (d.kind % 256 ∷ []) ++ fields_bytes v fs d t =
      ap (λ (x : ℕ). x ∷ encode_all (forms_of v fs) (values_in v fs d t)) m ∙ ap (λ (l : List ℕ). d.kind % 256 ∷ l) (sym (bytes_encode fs d t)) in
      let z : suc (length (fields_bytes v fs d t)) ≡ 1 + length (fields_bytes v fs d t) = omega arith in
      ap in_frame q ∙ ap (λ (j : ℕ). bytes_of 2 j ++ ((d.kind % 256 ∷ []) ++ fields_bytes v fs d t)) z

  pub laid_out : (d : Fields) (t : List ℕ) (k : Kind) (n : ℕ) → Some k ≡ kind_numbered v d.kind → Some n ≡ fields_size v 0 (fields_of v k) d t → Laid d t k n
  unfolding fields_size
  laid_out d t k n e s =
      let fs = fields_of v k in
      let p = sizes (givable_all v fs d t) (0 + length (fields_bytes v fs d t)) n s in
      let c : d.kind ≡ kind_number k = kind_of_number d.kind (kinds v) k (sym e) in
      let b : record_in v d t ≡ Some (laid k d t) = known d t k e ∙ rw p.0 (ap Some (frame d t k (rw c (kind_lt k)) c)) in
      let l : length (fields_bytes v fs d t) ≡ n = omega (arith, p.1) in
      record {
        bytes = b;
        all = p.0;
        len = l;
        whole =
            length-append (bytes_of 2 (1 + length (fields_bytes v fs d t))) (bytes_of 1 d.kind ++ fields_bytes v fs d t)
            ∙ omega (arith, length_bytes_of 2 (1 + length (fields_bytes v fs d t)), length-append (bytes_of 1 d.kind) (fields_bytes v fs d t), length_bytes_of 1 d.kind);
      }

  -- the three pieces, one after another, are the record
  pub pieces : (d : Fields) (t : List ℕ) (k : Kind) (n : ℕ) (out : List ℕ) → length (fields_bytes v (fields_of v k) d t) ≡ n → n + 3 ≤ length out
      → over 3 (fields_bytes v (fields_of v k) d t) (over 2 (bytes_of 1 d.kind) (over 0 (bytes_of 2 (n + 1)) out)) ≡ over 0 (laid k d t) out
  pieces d t k n out e h =
      let f = fields_bytes v (fields_of v k) d t in
      let two = over 0 (bytes_of 2 (n + 1)) out in
      let l : length two ≡ length out = length_over 0 (bytes_of 2 (n + 1)) out (omega (arith, length_bytes_of 2 (n + 1))) in
      let z : n + 1 ≡ 1 + length f = omega arith in
      over_pair 2 1 (bytes_of 1 d.kind) f two (length_bytes_of 1 d.kind) (omega arith)
      ∙ over_pair 0 2 (bytes_of 2 (n + 1)) (bytes_of 1 d.kind ++ f) out (length_bytes_of 2 (n + 1)) (omega arith)
      ∙ ap (λ (j : ℕ). over 0 (bytes_of 2 j ++ (bytes_of 1 d.kind ++ f)) out) z

  -- the answer and the buffer of a record that fits, and of one that does not
  pub record Done (d : Fields) (t out : List ℕ) (n : ℕ) (b : List ℕ) : Type 0 where
    pub answer : answer_of (record_in v d t) (length out) ≡ Ok (n + 3)
    pub buffer : buffer_of (record_in v d t) out ≡ over 0 b out

  pub done : (d : Fields) (t out : List ℕ) (k : Kind) (n : ℕ) → Laid d t k n → n + 3 ≤ length out → Done d t out n (laid k d t)
  done d t out k n l h =
      let g : leb (length (laid k d t)) (length out) ≡ true = rw l.whole (le-leb (n + 3) (length out) h) in
      record {
        answer = rw (l.bytes, g, l.whole);
        buffer = rw (l.bytes, g);
      }

  pub record Short (d : Fields) (t out : List ℕ) : Type 0 where
    pub answer : answer_of (record_in v d t) (length out) ≡ Err error.Room
    pub buffer : buffer_of (record_in v d t) out ≡ out

  pub short : (d : Fields) (t out : List ℕ) (k : Kind) (n : ℕ) → Laid d t k n → length out < n + 3 → Short d t out
  short d t out k n l h =
      let g : leb (length (laid k d t)) (length out) ≡ false = rw l.whole (lt-leb (n + 3) (length out) h) in
      record {
        answer = rw (l.bytes, g);
        buffer = rw (l.bytes, g);
      }

  -- s is the size of a kind's fields, and they have n bytes
  module _ (d : Fields) (t : List ℕ) (k : Kind) (s : Option ℕ) (f : s ≡ fields_size v 0 (fields_of v k) d t) (n : ℕ) (b : s ≡ Some n) where
    measured : (givable_all v (fields_of v k) d t ≡ true) × (0 + length (fields_bytes v (fields_of v k) d t) ≡ n)
    unfolding fields_size
    measured = sizes (givable_all v (fields_of v k) d t) (0 + length (fields_bytes v (fields_of v k) d t)) n (sym b ∙ f)

    pub all_given : givable_all v (fields_of v k) d t ≡ true
    all_given = measured.0

    -- out is the buffer at first, m₁ after the length, and m₂ after the kind
    pub fields_room : (out m₁ m₂ : List ℕ) → length m₁ ≡ length out → length m₂ ≡ length m₁ → n + 3 ≤ length out
        → 3 + length (fields_bytes v (fields_of v k) d t) ≤ length m₂
    fields_room out m₁ m₂ p q h = omega (arith, measured.1)

  -- as the code answers: x is what the kind's byte names, and s the size of its fields
  module _ (d : Fields) (t : List ℕ) (x : Option Kind) (e : x ≡ kind_numbered v d.kind) where
    pub no_kind_answer : (room : ℕ) → x ≡ None → Err error.Unfit ≡ answer_of (record_in v d t) room
    no_kind_answer room u = rw (unknown d t (sym u ∙ e))

    pub no_kind_buffer : (out : List ℕ) → x ≡ None → out ≡ buffer_of (record_in v d t) out
    no_kind_buffer out u = rw (unknown d t (sym u ∙ e))

    module _ (k : Kind) (u : x ≡ Some k) (s : Option ℕ) (f : s ≡ fields_size v 0 (fields_of v k) d t) where
      pub no_size_answer : (room : ℕ) → s ≡ None → Err error.Unfit ≡ answer_of (record_in v d t) room
      no_size_answer room b = rw (refused d t k (sym u ∙ e) (sym b ∙ f))

      pub no_size_buffer : (out : List ℕ) → s ≡ None → out ≡ buffer_of (record_in v d t) out
      no_size_buffer out b = rw (refused d t k (sym u ∙ e) (sym b ∙ f))

      module _ (n : ℕ) (b : s ≡ Some n) where
        laid_in : Laid d t k n
        laid_in = laid_out d t k n (sym u ∙ e) (sym b ∙ f)

        -- m₁ is the buffer after the length, m₂ after the kind, and out' after the fields
        module _ (out : List ℕ) where
          pub no_room_answer : length out < n + 3 → Err error.Room ≡ answer_of (record_in v d t) (length out)
          no_room_answer h = sym (short d t out k n laid_in h).answer

          pub no_room_buffer : length out < n + 3 → out ≡ buffer_of (record_in v d t) out
          no_room_buffer h = sym (short d t out k n laid_in h).buffer

          module _ (h : n + 3 ≤ length out) where
            pub whole_answer : Ok (n + 3) ≡ answer_of (record_in v d t) (length out)
            whole_answer = sym (done d t out k n laid_in h).answer

            pub whole_buffer : (m₁ m₂ out' : List ℕ) → m₁ ≡ over 0 (bytes_of 2 (n + 1)) out → m₂ ≡ over 2 (bytes_of 1 d.kind) m₁
                → out' ≡ over 3 (fields_bytes v (fields_of v k) d t) m₂ → out' ≡ buffer_of (record_in v d t) out
            whole_buffer m₁ m₂ out' p q r =
                r ∙ ap (over 3 (fields_bytes v (fields_of v k) d t)) (q ∙ ap (over 2 (bytes_of 1 d.kind)) p) ∙ pieces d t k n out laid_in.len h
                ∙ sym (done d t out k n laid_in h).buffer

pub len_fits : (s : Option ℕ) (n : ℕ) → s ≡ Some n → IsSized s → Fits w64 (n + 3)
len_fits s n b m = let h : n ≤ 7182 = rw b at m in record { fits = omega arith }

pub ruleset puts = (put_step, all_put, next_room, next_given, put_start, rules)

pub ruleset answers = (no_kind_answer, no_kind_buffer, no_size_answer, no_size_buffer, no_room_answer, no_room_buffer, whole_answer, whole_buffer)

pub ruleset lays = (len_fits, fields_room, all_given)
