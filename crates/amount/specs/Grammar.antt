-- The grammar of an amount, read from the text's side: `parse` takes exactly the texts that are put together as the paper says.
use Rattle.std.specs.Prelude.{◌≡◌, refl, Bool, true, false, ◌||◌, cond, List, [], ◌∷◌, ◌++◌, ◌↔◌, ◌⊎◌, ℕ, eqb, length, get_or, Option, Some, None}
use Rattle.std.proofs.Common.{ap, sym, ◌∙◌, append-nil, inl, inr, ⊎_elim, arith, eqb-true}
use Rattle.amount.specs.declared.unit.ByteUnit.{ByteUnit}
use Rattle.amount.specs.declared.unit.ByteUnit.TheVariants.{B, KiB, MiB, GiB}
use Rattle.lists.specs.Bytes.{same_bytes}
use Rattle.amount.specs.Digits.{is_digit, leading, following, AllDigits}
use Rattle.amount.specs.DigitLaws.{leading_following}
use Rattle.lists.specs.ByteLaws.{same_eq}
use Rattle.amount.specs.DecimalLaws.{leading_append, following_append}
use Rattle.amount.specs.Amount.{space, comma, point, name_of, unit_named, unit_after, amount, no_amount, whole_digits, fraction_digits, is_mark, with_unit, after_whole, parse}

-- One space and the unit's name.
abbrev pub unit_text : ByteUnit → List ℕ
unit_text u = space ∷ name_of u

-- A text of the whole digits w, of no fraction or a mark and the fraction digits f, and of the unit u.
pub data Spells (w : List ℕ) (u : ByteUnit) : List ℕ → List ℕ → Type 0 where
  plain : AllDigits w → whole_digits w ≡ true → Spells w u [] (w ++ unit_text u)
  fraction : {f : List ℕ} (m : ℕ) → AllDigits w → whole_digits w ≡ true → is_mark m ≡ true → AllDigits f → fraction_digits f ≡ true
      → Spells w u f (w ++ (m ∷ (f ++ unit_text u)))

-- A unit is read back by its name, and only by it.
pub unit_back : (u : ByteUnit) → unit_after (unit_text u) ≡ Some u
unfolding unit_after unit_named
unit_back B = refl
unit_back KiB = refl
unit_back MiB = refl
unit_back GiB = refl

pick : (b : Bool) (t n : List ℕ) (v u : ByteUnit) (r : Option ByteUnit) → same_bytes t n ≡ b → n ≡ name_of v → (r ≡ Some u → t ≡ name_of u) → cond b (Some v) r ≡ Some u → t ≡ name_of u
pick true t n v u r q k next e = let i : v ≡ u = cc in same_eq t n q ∙ k ∙ ap name_of i
pick false t n v u r q k next e = next e

none_is : (u : ByteUnit) (t : List ℕ) → None ≡ Some u → t ≡ name_of u
none_is u t e = absurd (let z : ◌≡◌ {A = ℕ} 0 1 = cc in omega arith)

unit_name : (t : List ℕ) (u : ByteUnit) → unit_named t ≡ Some u → t ≡ name_of u
unfolding unit_named
unit_name t u =
    pick _ t (name_of B) B u _ refl refl
    (pick _ t (name_of KiB) KiB u _ refl refl
    (pick _ t (name_of MiB) MiB u _ refl refl
    (pick _ t (name_of GiB) GiB u _ refl refl (none_is u t))))

-- A unit's name has 1 byte or 3.
pub no_name : (t : List ℕ) → (length t ≡ 1 → ⊥) → (length t ≡ 3 → ⊥) → None ≡ unit_named t
no_name t h k = go (unit_named t) refl
  where
    long : (u : ByteUnit) → t ≡ name_of u → ⊥
    long B e = h (ap length e)
    long KiB e = k (ap length e)
    long MiB e = k (ap length e)
    long GiB e = k (ap length e)

    go : (r : Option ByteUnit) → unit_named t ≡ r → None ≡ unit_named t
    go None e = sym e
    go (Some u) e = absurd (long u (unit_name t u e))

-- And one of 3 begins with K, M or G.
pub no_letter : (t : List ℕ) → (length t ≡ 1 → ⊥) → (get_or t 0 0 ≡ 75 → ⊥) → (get_or t 0 0 ≡ 77 → ⊥) → (get_or t 0 0 ≡ 71 → ⊥) → None ≡ unit_named t
no_letter t h k m g = go (unit_named t) refl
  where
    first : (u : ByteUnit) → t ≡ name_of u → ⊥
    first B e = h (ap length e)
    first KiB e = k (ap (λ (l : List ℕ). get_or l 0 0) e)
    first MiB e = m (ap (λ (l : List ℕ). get_or l 0 0) e)
    first GiB e = g (ap (λ (l : List ℕ). get_or l 0 0) e)

    go : (r : Option ByteUnit) → unit_named t ≡ r → None ≡ unit_named t
    go None e = sym e
    go (Some u) e = absurd (first u (unit_name t u e))

unit_text_lem : (t : List ℕ) (u : ByteUnit) → unit_after t ≡ Some u → t ≡ unit_text u
unfolding unit_after
unit_text_lem [] u e = absurd (let z : ◌≡◌ {A = ℕ} 0 1 = cc in omega arith)
unit_text_lem (b ∷ t) u e = go (eqb b space) refl e
  where
    go : (q : Bool) → eqb b space ≡ q → cond q (unit_named t) None ≡ Some u → b ∷ t ≡ space ∷ name_of u
    go true q h =
        let i : b ≡ space = eqb-true b space q in
        let j : t ≡ name_of u = unit_name t u h in
        cc
    go false q h = absurd (let z : ◌≡◌ {A = ℕ} 0 1 = cc in omega arith)

-- The leading digits are digits.
pub leading_digits : (t : List ℕ) → AllDigits (leading t)
unfolding leading
leading_digits [] = refl
leading_digits (b ∷ t) = go (is_digit b) refl (leading_digits t)
  where
    go : (q : Bool) → is_digit b ≡ q → leading (leading t) ≡ leading t → leading (cond q (b ∷ leading t) []) ≡ cond q (b ∷ leading t) []
    go true q h = rw (q, h)
    go false q h = refl

-- A mark is no digit.
mark_cases : (m : ℕ) → is_mark m ≡ true → (m ≡ comma) ⊎ (m ≡ point)
mark_cases m h = go (eqb m comma) refl h
  where
    go : (q : Bool) → eqb m comma ≡ q → (q || eqb m point) ≡ true → (m ≡ comma) ⊎ (m ≡ point)
    go true q e = inl (eqb-true m comma q)
    go false q e = inr (eqb-true m point e)

mark_no_digit : (m : ℕ) → is_mark m ≡ true → is_digit m ≡ false
mark_no_digit m h = ⊎_elim (λ e. rw e) (λ e. rw e) (mark_cases m h)

-- Digits end at a byte that is none.
module _ (d : List ℕ) (b : ℕ) (t : List ℕ) (h : AllDigits d) (n : is_digit b ≡ false) where
  leading_ends : leading (d ++ (b ∷ t)) ≡ d
  unfolding leading
  leading_ends = leading_append d (b ∷ t) h ∙ rw (n, append-nil)

  following_ends : following (d ++ (b ∷ t)) ≡ b ∷ t
  unfolding following
  following_ends = following_append d (b ∷ t) h ∙ rw n

-- From the text to what `parse` gives.
pub parse_spelled : {w f t : List ℕ} {u : ByteUnit} → Spells w u f t → parse t ≡ amount w f u
unfolding parse after_whole
parse_spelled {w} {f} {t} {u} (plain h k) =
    rw (leading_ends w space (name_of u) h refl, following_ends w space (name_of u) h refl, k, unit_back u)
parse_spelled {w} {f} {t} {u} (fraction m h k mark g l) =
    let n = mark_no_digit m mark in
    rw (leading_ends w m (f ++ unit_text u) h n, following_ends w m (f ++ unit_text u) h n, k, mark, leading_ends f space (name_of u) g refl, following_ends f space (name_of u) g refl, l, unit_back u)

-- And back.
with_unit_lem : (v g w f : List ℕ) (u : ByteUnit) (x : Option ByteUnit) → with_unit v g x ≡ amount w f u → (v ≡ w) × (g ≡ f) × (x ≡ Some u)
with_unit_lem v g w f u (Some y) e = (cc, cc, cc)
with_unit_lem v g w f u None e = absurd (let z : ◌≡◌ {A = ℕ} 0 1 = cc in omega arith)

after_spells : (v r w f : List ℕ) (u : ByteUnit) → AllDigits v → whole_digits v ≡ true → after_whole v r ≡ amount w f u → Spells w u f (v ++ r)
unfolding after_whole
after_spells v [] w f u h k e = absurd (let z : ◌≡◌ {A = ℕ} 0 1 = cc in omega arith)
after_spells v (b ∷ t) w f u h k e = go (is_mark b) (fraction_digits (leading t)) refl refl e
  where
    go : (m q : Bool) → is_mark b ≡ m → fraction_digits (leading t) ≡ q
        → cond m (cond q (with_unit v (leading t) (unit_after (following t))) no_amount) (with_unit v [] (unit_after (b ∷ t))) ≡ amount w f u
        → Spells w u f (v ++ (b ∷ t))
    go true true m q x =
        let p = with_unit_lem v (leading t) w f u (unit_after (following t)) x in
        let s : b ∷ t ≡ b ∷ (leading t ++ unit_text u) = ap (λ (l : List ℕ). b ∷ l) (sym (leading_following t) ∙ rw (unit_text_lem (following t) u p.2)) in
        rw (← p.0, ← p.1, s) (fraction b h k m (leading_digits t) q)
    go true false m q x = absurd (let z : ◌≡◌ {A = ℕ} 0 1 = cc in omega arith)
    go false q m r x =
        let p = with_unit_lem v [] w f u (unit_after (b ∷ t)) x in
        rw (← p.0, ← p.1, unit_text_lem (b ∷ t) u p.2) (plain h k)

parse_spells : (t w f : List ℕ) (u : ByteUnit) → parse t ≡ amount w f u → Spells w u f t
unfolding parse
parse_spells t w f u e = go (whole_digits (leading t)) refl e
  where
    go : (q : Bool) → whole_digits (leading t) ≡ q → cond q (after_whole (leading t) (following t)) no_amount ≡ amount w f u → Spells w u f t
    go true q x = rw leading_following at (after_spells (leading t) (following t) w f u (leading_digits t) q x)
    go false q x = absurd (let z : ◌≡◌ {A = ℕ} 0 1 = cc in omega arith)

-- The grammar takes exactly the texts that are put together so, and gives their parts.
pub parse_exactly : (t w f : List ℕ) (u : ByteUnit) → (parse t ≡ amount w f u) ↔ Spells w u f t
parse_exactly t w f u = (parse_spells t w f u, parse_spelled)
