-- The laws of fields: what is written reads back, and what was read is written as the same bytes. One pair of laws for all forms, and the same
-- pair for lists of fields. Assumes nothing.
use Rattle.std.specs.Prelude.{◌≡◌, refl, Bool, true, false, cond, List, [], ◌∷◌, ◌++◌, ℕ, zero, suc, ◌^◌, ◌<◌, ◌≤◌, eqb, leb, ltb, length, take, drop, get_or}
use Rattle.std.proofs.Common.{sym, ◌∙◌, ap, append_assoc, arith, lit<, length-append, take-append-drop, take_at, drop_at, length-take-le, ltb-true, leb-true, eqb-true, lt-ltb, le-leb, eq-eqb}
use Rattle.std.proofs.Math.Pow.{are_bytes}
use Rattle.amount.specs.declared.Cap.{Cap}
use Rattle.amount.specs.declared.Cap.TheVariants.{Unlimited, Bytes}
use Rattle.rules.specs.declared.Mode.{Mode}
use Rattle.rules.specs.declared.Mode.TheVariants.{Read, Write, Both}
use Rattle.rules.specs.Scope.{mode_number}
use Rattle.journal.specs.Numbers.{bytes_of, number_of}
use Rattle.lists.specs.BoolLaws.{and_left, and_right}
use Rattle.journal.proofs.NumberLaws.{length_bytes_of, number_bytes, number_of_lt, bytes_number}
use Rattle.journal.specs.Fields.{Format, number, text, bytes, cap, mode, ValueOf, ValuesOf, Decoded, nothing, found, on_found, in_front, part, as_number, as_text, as_bytes, as_cap, as_mode, decode_number, decode_text, decode, decode_all, cap_bytes, encode, encode_all, cap_fits, fits, fits_all}

-- ---- what is written reads back

pub part_at : (b rest : List ℕ) (n : ℕ) → length b ≡ n → part n (b ++ rest) ≡ found b rest
unfolding part
part_at b rest n e =
    let k : n ≤ length (b ++ rest) = omega (arith, length-append b rest) in
    let t : leb n (length (b ++ rest)) ≡ true = le-leb _ _ k in
    rw (t, take_at b rest n e, drop_at b rest n e)

pub number_read : (w n : ℕ) (rest : List ℕ) → n < 256 ^ w → decode_number w (bytes_of w n ++ rest) ≡ found n rest
unfolding decode_number
number_read w n rest h = rw (part_at (bytes_of w n) rest w (length_bytes_of w n), number_bytes w n h)

cap_read : (c : Cap) (rest : List ℕ) → cap_fits c ≡ true → decode cap (cap_bytes c ++ rest) ≡ found c rest
unfolding decode
cap_read Unlimited rest h = rw (number_read 1 0 rest (lit< tt))
cap_read (Bytes n) rest h =
    rw (append_assoc (bytes_of 1 1) (bytes_of 8 n) rest, number_read 1 1 (bytes_of 8 n ++ rest) (lit< tt), number_read 8 n rest (ltb-true _ _ h))

mode_read : (m : Mode) (rest : List ℕ) → decode mode (bytes_of 1 (mode_number m) ++ rest) ≡ found m rest
unfolding decode
mode_read Read rest = rw (number_read 1 0 rest (lit< tt))
mode_read Write rest = rw (number_read 1 1 rest (lit< tt))
mode_read Both rest = rw (number_read 1 2 rest (lit< tt))

-- what is written reads back, for every value that fits its field
pub decode_encode : (f : Format) (x : ValueOf f) (rest : List ℕ) → fits f x ≡ true → decode f (encode f x ++ rest) ≡ found x rest
unfolding decode decode_text encode fits
decode_encode (number w) n rest h = number_read w n rest (ltb-true _ _ h)
decode_encode (text w most) t rest h =
    rw (
      append_assoc (bytes_of w (length t)) t rest,
      number_read w (length t) (t ++ rest) (ltb-true _ _ (and_right (leb (length t) most) _ h)),
      and_left (leb (length t) most) _ h,
      part_at t rest (length t) refl,
    )
decode_encode (bytes n) b rest h = part_at b rest n (eqb-true _ _ h)
decode_encode cap c rest h = cap_read c rest h
decode_encode mode m rest h = mode_read m rest

-- the same for a list of fields
pub decode_encode_all : (fs : List Format) (x : ValuesOf fs) (rest : List ℕ) → fits_all fs x ≡ true → decode_all fs (encode_all fs x ++ rest) ≡ found x rest
unfolding decode_all encode_all fits_all
decode_encode_all [] x rest h = refl
decode_encode_all (f ∷ fs) x rest h =
    rw (
      append_assoc (encode f x.0) (encode_all fs x.1) rest,
      decode_encode f x.0 (encode_all fs x.1 ++ rest) (and_left (fits f x.0) _ h),
      decode_encode_all fs x.1 rest (and_right (fits f x.0) _ h),
    )

-- ---- what was read is written as the same bytes

never : {A B : Type 0} (a : A) (r : List ℕ) → nothing ≡ found a r → B
never a r e = let z : ◌≡◌ {A = ℕ} 0 1 = cc in absurd (omega arith)

by_cases : {C : Type 0} (b : Bool) → (b ≡ true → C) → (b ≡ false → C) → C
by_cases true p q = p refl
by_cases false p q = q refl

-- a value that followed on another: the other was found
pub on_found_found : {A B : Type 0} (f : A → List ℕ → Decoded B) (d : Decoded A) (b : B) (r : List ℕ) → on_found f d ≡ found b r
    → (a : A) × (s : List ℕ) × (d ≡ found a s) × (f a s ≡ found b r)
on_found_found f nothing b r e = never b r e
on_found_found f (found a s) b r e = (a, s, refl, e)

pub cond_found : {A : Type 0} (t : Bool) (d : Decoded A) (a : A) (r : List ℕ) → cond t d nothing ≡ found a r → (t ≡ true) × (d ≡ found a r)
cond_found true d a r e = (refl, e)
cond_found false d a r e = never a r e

pub bytes_take : (n : ℕ) (l : List ℕ) → are_bytes l ≡ true → are_bytes (take n l) ≡ true
bytes_take zero l h = refl
bytes_take (suc n) [] h = refl
bytes_take (suc n) (b ∷ l) h = rw (and_left (ltb b 256) (are_bytes l) h) (bytes_take n l (and_right (ltb b 256) (are_bytes l) h))

-- a list whose elements are bytes
pub bytes_known : (l : List ℕ) → ((k : ℕ) → get_or l k 0 < 256) → are_bytes l ≡ true
bytes_known [] h = refl
bytes_known (b ∷ l) h = rw (lt-ltb b 256 (h zero)) (bytes_known l (λ k. h (suc k)))

pub bytes_drop : (n : ℕ) (l : List ℕ) → are_bytes l ≡ true → are_bytes (drop n l) ≡ true
bytes_drop zero l h = h
bytes_drop (suc n) [] h = refl
bytes_drop (suc n) (b ∷ l) h = bytes_drop n l (and_right (ltb b 256) (are_bytes l) h)

-- a list of bytes that was split after n of them
pub record Split (l : List ℕ) (n : ℕ) (a r : List ℕ) : Type 0 where
  pub whole : a ++ r ≡ l
  pub len : length a ≡ n
  pub front : are_bytes a ≡ true
  pub rest : are_bytes r ≡ true

split_at : (n : ℕ) (l a r : List ℕ) → are_bytes l ≡ true → n ≤ length l → found (take n l) (drop n l) ≡ found a r → Split l n a r
split_at n l a r h k e =
    let ta : take n l ≡ a = cc in
    let tr : drop n l ≡ r = cc in
    record {
      whole = rw (← ta, ← tr) (take-append-drop n l);
      len = rw (← ta) (length-take-le n l k);
      front = rw (← ta) (bytes_take n l h);
      rest = rw (← tr) (bytes_drop n l h);
    }

pub part_found : (n : ℕ) (l a r : List ℕ) → are_bytes l ≡ true → part n l ≡ found a r → Split l n a r
unfolding part
part_found n l a r h e =
    let p = cond_found (leb n (length l)) (found (take n l) (drop n l)) a r e in
    split_at n l a r h (leb-true _ _ p.0) p.1

-- a field that was read: its bytes and the rest are what was there
pub record Taken (f : Format) (l : List ℕ) (x : ValueOf f) (r : List ℕ) : Type 0 where
  pub whole : encode f x ++ r ≡ l
  pub fit : fits f x ≡ true
  pub rest : are_bytes r ≡ true

number_taken : (w : ℕ) (l b s : List ℕ) (n : ℕ) (r : List ℕ) → Split l w b s → found (number_of b) s ≡ found n r → Taken (number w) l n r
unfolding encode fits
number_taken w l b s n r p e =
    let en : number_of b ≡ n = cc in
    let er : s ≡ r = cc in
    record {
      whole = rw (← en, ← er, ← p.len) (ap (λ (x : List ℕ). x ++ s) (bytes_number b p.front) ∙ p.whole);
      fit = rw (← en, ← p.len) (lt-ltb _ _ (number_of_lt b p.front));
      rest = rw (← er) p.rest;
    }

pub number_found : (w : ℕ) (l : List ℕ) (n : ℕ) (r : List ℕ) → are_bytes l ≡ true → decode_number w l ≡ found n r → Taken (number w) l n r
unfolding decode_number
number_found w l n r h e =
    let q = on_found_found as_number (part w l) n r e in
    number_taken w l q.0 q.1 n r (part_found w l q.0 q.1 h q.2) q.3

text_taken : (w most : ℕ) (l : List ℕ) (n : ℕ) (s t r : List ℕ) → Taken (number w) l n s → leb n most ≡ true → Split s n t r → Taken (text w most) l t r
unfolding encode fits
text_taken w most l n s t r p m q =
    record {
      whole = rw (q.len, append_assoc (bytes_of w n) t r, q.whole) p.whole;
      fit = rw (q.len, m) p.fit;
      rest = q.rest;
    }

pub text_found : (w most : ℕ) (l t r : List ℕ) → are_bytes l ≡ true → decode_text w most l ≡ found t r → Taken (text w most) l t r
unfolding decode_text
text_found w most l t r h e =
    let q = on_found_found (as_text most) (decode_number w l) t r e in
    let p = number_found w l q.0 q.1 h q.2 in
    let m = cond_found (leb q.0 most) (part q.0 q.1) t r q.3 in
    text_taken w most l q.0 q.1 t r p m.0 (part_found q.0 q.1 t r p.rest m.1)

bytes_taken : (n : ℕ) (l b r : List ℕ) → Split l n b r → Taken (bytes n) l b r
unfolding encode fits
bytes_taken n l b r p = record { whole = p.whole; fit = eq-eqb _ _ p.len; rest = p.rest }

-- a byte that stood for a value without more bytes
byte_taken : (f : Format) (l : List ℕ) (b : ℕ) (s : List ℕ) (x y : ValueOf f) (r : List ℕ) (k : ℕ) → Taken (number 1) l b s → eqb b k ≡ true
    → encode f x ≡ bytes_of 1 k → fits f x ≡ true → found x s ≡ found y r → Taken f l y r
unfolding encode
byte_taken f l b s x y r k p t ex fx e =
    let ey : x ≡ y = cc in
    let er : s ≡ r = cc in
    let eb : b ≡ k = eqb-true _ _ t in
    record {
      whole = rw (← ey, ← er, ex, ← eb) p.whole;
      fit = rw (← ey) fx;
      rest = rw (← er) p.rest;
    }

count_taken : (l : List ℕ) (b : ℕ) (s : List ℕ) (n : ℕ) (r : List ℕ) (c : Cap) (u : List ℕ) → Taken (number 1) l b s → eqb b 1 ≡ true
    → Taken (number 8) s n r → found (Bytes n) r ≡ found c u → Taken cap l c u
unfolding encode fits
count_taken l b s n r c u p t q e =
    let ec : Bytes n ≡ c = cc in
    let er : r ≡ u = cc in
    let eb : b ≡ 1 = eqb-true _ _ t in
    record {
      whole = rw (← ec, ← er, append_assoc (bytes_of 1 1) (bytes_of 8 n) r, q.whole) (ap (λ (k : ℕ). bytes_of 1 k ++ s) (sym eb) ∙ p.whole);
      fit = rw (← ec) q.fit;
      rest = rw (← er) q.rest;
    }

cap_taken : (l : List ℕ) (b : ℕ) (s : List ℕ) (c : Cap) (r : List ℕ) → Taken (number 1) l b s → as_cap b s ≡ found c r → Taken cap l c r
unfolding encode fits
cap_taken l b s c r p e =
    by_cases (eqb b 0)
    (λ (t : eqb b 0 ≡ true). byte_taken cap l b s Unlimited c r 0 p t refl refl (rw t at e))
    (λ (t : eqb b 0 ≡ false).
    let m = cond_found (eqb b 1) (on_found as_bytes (decode_number 8 s)) c r (rw t at e) in
    let q = on_found_found as_bytes (decode_number 8 s) c r m.1 in
    count_taken l b s q.0 q.1 c r p m.0 (number_found 8 s q.0 q.1 p.rest q.2) q.3)

mode_taken : (l : List ℕ) (b : ℕ) (s : List ℕ) (m : Mode) (r : List ℕ) → Taken (number 1) l b s → as_mode b s ≡ found m r → Taken mode l m r
unfolding encode fits
mode_taken l b s m r p e =
    by_cases (eqb b 0)
    (λ (t : eqb b 0 ≡ true). byte_taken mode l b s Read m r 0 p t refl refl (rw t at e))
    (λ (t : eqb b 0 ≡ false). by_cases (eqb b 1)
    (λ (u : eqb b 1 ≡ true). byte_taken mode l b s Write m r 1 p u refl refl (rw (t, u) at e))
    (λ (u : eqb b 1 ≡ false).
    let q = cond_found (eqb b 2) (found Both s) m r (rw (t, u) at e) in
    byte_taken mode l b s Both m r 2 p q.0 refl refl q.1))

-- what was read, for every list of bytes: the value fits its field, and written again, before the rest, it is what was there
pub decode_taken : (f : Format) (l : List ℕ) (x : ValueOf f) (r : List ℕ) → are_bytes l ≡ true → decode f l ≡ found x r → Taken f l x r
unfolding decode
decode_taken (number w) l n r h e = number_found w l n r h e
decode_taken (text w most) l t r h e = text_found w most l t r h e
decode_taken (bytes n) l b r h e = bytes_taken n l b r (part_found n l b r h e)
decode_taken cap l c r h e =
    let q = on_found_found as_cap (decode_number 1 l) c r e in
    cap_taken l q.0 q.1 c r (number_found 1 l q.0 q.1 h q.2) q.3
decode_taken mode l m r h e =
    let q = on_found_found as_mode (decode_number 1 l) m r e in
    mode_taken l q.0 q.1 m r (number_found 1 l q.0 q.1 h q.2) q.3

-- the same for a list of fields
pub record TakenAll (fs : List Format) (l : List ℕ) (x : ValuesOf fs) (r : List ℕ) : Type 0 where
  pub whole : encode_all fs x ++ r ≡ l
  pub fit : fits_all fs x ≡ true

none_taken : (l : List ℕ) (x : ValuesOf []) (r : List ℕ) → found tt l ≡ found x r → TakenAll [] l x r
unfolding encode_all fits_all
none_taken l x r e = let er : l ≡ r = cc in record { whole = sym er; fit = refl }

more_taken : (f : Format) (fs : List Format) (l s : List ℕ) (a : ValueOf f) (y : ValuesOf fs) (r : List ℕ) (x : ValuesOf (f ∷ fs)) (u : List ℕ)
    → Taken f l a s → TakenAll fs s y r → found (a, y) r ≡ found x u → TakenAll (f ∷ fs) l x u
unfolding encode_all fits_all
more_taken f fs l s a y r x u p q e =
    let ex : (a, y) ≡ x = cc in
    let er : r ≡ u = cc in
    record {
      whole = rw (← ex, ← er, append_assoc (encode f a) (encode_all fs y) r, q.whole) p.whole;
      fit = rw (← ex, p.fit) q.fit;
    }

pub decode_taken_all : (fs : List Format) (l : List ℕ) (x : ValuesOf fs) (r : List ℕ) → are_bytes l ≡ true → decode_all fs l ≡ found x r → TakenAll fs l x r
unfolding decode_all
decode_taken_all [] l x r h e = none_taken l x r e
decode_taken_all (f ∷ fs) l x r h e =
    let q = on_found_found (λ (a : ValueOf f) (rest : List ℕ). on_found (in_front a) (decode_all fs rest)) (decode f l) x r e in
    let p = decode_taken f l q.0 q.1 h q.2 in
    let o = on_found_found (in_front q.0) (decode_all fs q.1) x r q.3 in
    more_taken f fs l q.1 q.0 o.0 o.1 x r p (decode_taken_all fs q.1 o.0 o.1 p.rest o.2) o.3
