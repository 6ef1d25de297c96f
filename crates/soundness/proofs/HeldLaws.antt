-- The set of the relays that hold an entry's shards: one row's set, sets joined, and the loops that make them. Assumes nothing.
use Rattle.std.specs.Prelude.{Option, Some, None}
use mathlib.Core.Path.{◌≡◌, refl, sym, ◌∙◌, ap, ap₂}
use mathlib.Core.Bool.{Bool, true, false, ◌&&◌, ◌||◌}
use mathlib.Core.Logic.{⊎_elim}
use mathlib.Core.List.{List, [], ◌∷◌, map}
use Prim.Native.Nat.{ℕ, zero, suc, ◌+◌, ◌*◌, ◌/◌, ◌%◌, ◌^◌, ◌<◌, ◌≤◌, max}
use native.Mathlib.Nat.{eq-or-lt_of_le, pow-suc, mod-eq_of_lt, not-suc-le-zero, le_of_suc-le-suc}
use native.Mathlib.Numerals.{add-one}
use native.Mathlib.Omega.{arith}
use mir.Val.{Fits}
use mir.Syntax.{w32, w64}
use borrow.Author.Rules.{rules}
use borrow.Author.Tests.{eqb-true, eqb-false, eq-eqb, ne_eqb, lt-ltb, ltb-true}
use lib.Bits.{bit_or, or_step}
use lib.Dec.{eqb}
use lib.ListN.{length, take, get_or, set, replicate, length-set, length-replicate, length-map}
use lib.Pow.{pow-lt}
use lib.Seq.{take-suc, take_all, get_or-set_same, get_or-set_other}
use Rattle.lists.specs.Lists.{bit, bit_set, first_at, any_of, no_clash}
use Rattle.lists.specs.BoolLaws.{and_left, and_right, and_both, not_pass, pass_or_fail, same_test}
use Rattle.lists.specs.SearchLaws.{first_row_lem, first_miss, first_below, miss_none, row_passes}
use Rattle.lists.specs.SumLaws.{bit_lt}
use Rattle.lists.specs.RowLaws.{map_row, rows_length}
use Rattle.lists.specs.BitLaws.{has_test}
use Rattle.lists.specs.TestLaws.{none_at, any_append, any_replicate, clash_one}
use Rattle.rules.specs.Tables.{given, numbered, used_entry}
use Rattle.rules.specs.declared.Entry.{Entry}
use Rattle.rules.specs.declared.RelayNo.{RelayNo}
use Rattle.rules.specs.declared.Relay.{Relay}
use Rattle.rules.specs.Relays.{holds_shard}
use Rattle.rows.specs.Blank.{blank_entry, blank_relay}
use Rattle.lists.specs.ByteLoopLaws.{FillLoop}
use Rattle.sound_rows.specs.Numbers.{relay_number}
use Rattle.sound_rows.specs.Places.{same_number, place_numbers, places_of}
use Rattle.sound_rows.specs.PlaceNumbers.{place_among}
use Rattle.sound_rows.specs.FillLaws.{fill_zero, fill_stored}
use Rattle.soundness.specs.Held.{on_place, held_set, ByRemainder, RowTable}

-- sets that agree on each row
module _ {A : Type 0} (d : A) where
  set_same : (p q : A → Bool) (l : List A) → ((i : ℕ) → i < length l → p (get_or l i d) ≡ q (get_or l i d)) → bit_set p l ≡ bit_set q l
  unfolding bit_set
  set_same p q [] f = refl
  set_same p q (x ∷ xs) f = rw (f 0 (omega arith), set_same p q xs (λ i h. f (suc i) (omega arith)))

  set_none : (p : A → Bool) (l : List A) → ((i : ℕ) → i < length l → p (get_or l i d) ≡ false) → bit_set p l ≡ 0
  unfolding bit_set
  set_none p [] f = refl
  set_none p (x ∷ xs) f = rw (f 0 (omega arith), set_none p xs (λ i h. f (suc i) (omega arith)))

  -- one row
  set_one : (p : A → Bool) (l : List A) (k : ℕ) → k < length l → p (get_or l k d) ≡ true
      → ((i : ℕ) → i < length l → (i ≡ k → ⊥) → p (get_or l i d) ≡ false) → bit_set p l ≡ 2 ^ k
  unfolding bit_set
  set_one p [] k h t f = absurd (not-suc-le-zero h)
  set_one p (x ∷ xs) zero h t f = rw (t, set_none p xs (λ i w. f (suc i) (omega arith) (λ e. omega arith)))
  set_one p (x ∷ xs) (suc k) h t f =
      rw (f 0 (omega arith) (λ e. omega arith), set_one p xs k (le_of_suc-le-suc h) t (λ i w n. f (suc i) (omega arith) (λ e. n (omega arith))))
      (omega (arith, pow-suc 2 k))

-- sets joined
or_digits : (a b : Bool) (s t : ℕ) → bit_or (bit a + 2 * s) (bit b + 2 * t) ≡ bit (a || b) + 2 * bit_or s t
or_digits a b s t =
    let m = bit a + 2 * s in
    let n = bit b + 2 * t in
    let x : m / 2 ≡ s = omega (arith, bit_lt a) in
    let y : n / 2 ≡ t = omega (arith, bit_lt b) in
    let u : m % 2 ≡ bit a = omega (arith, bit_lt a) in
    let v : n % 2 ≡ bit b = omega (arith, bit_lt b) in
    or_step m n ∙ ap₂ (λ (c e : ℕ). c * 2 + e) (ap₂ bit_or x y) (ap₂ max u v ∙ high a b) ∙ omega arith
  where
    high : (a b : Bool) → max (bit a) (bit b) ≡ bit (a || b)
    high true true = refl
    high true false = refl
    high false true = refl
    high false false = refl

or_sets : {A : Type 0} (p q : A → Bool) (l : List A) → bit_or (bit_set p l) (bit_set q l) ≡ bit_set (λ x. p x || q x) l
unfolding bit_set
or_sets p q [] = refl
or_sets p q (x ∷ xs) = or_digits (p x) (q x) (bit_set p xs) (bit_set q xs) ∙ rw (or_sets p q xs)

-- a number is another's where the other is its own
number_turned : (x y : ℕ) → numbered x y ≡ true → numbered y x ≡ true
number_turned x y h =
    let g = ltb-true 0 x (and_left (given x) (eqb y x) h) in
    let e = eqb-true y x (and_right (given x) (eqb y x) h) in
    and_both (lt-ltb 0 y (omega arith)) (eq-eqb x y (omega arith))

numbers_turned : (x y : ℕ) → numbered x y ≡ numbered y x
numbers_turned x y = same_test (numbered x y) (numbered y x) (number_turned x y) (number_turned y x)

-- the set of the one row that has the number n
module _ (ns tb : List ℕ) (h : RowTable ns tb) (n : ℕ) where
  pub zero_set : n ≡ 0 → 0 ≡ bit_set (numbered n) ns
  zero_set e = sym (set_none 0 (numbered n) ns (λ i w. rw e))

  one_row : (k : ℕ) → k < 32 → numbered n (get_or ns k 0) ≡ true → 1 * 2 ^ k % 2 ^ 32 ≡ bit_set (numbered n) ns
  one_row k w t =
      let g = number_turned n (get_or ns k 0) t in
      let same : get_or ns k 0 ≡ n = eqb-true (get_or ns k 0) n (and_right (given n) (eqb (get_or ns k 0) n) t) in
      let small : 1 * 2 ^ k % 2 ^ 32 ≡ 1 * 2 ^ k = mod-eq_of_lt (let p = pow-lt w in omega arith) in
      small
      ∙ omega (
        arith,
        set_one 0 (numbered n) ns k (omega (arith, h.size)) t
            (λ i q m. not_pass (numbered n (get_or ns i 0))
            (λ s. m (clash_one numbered ns h.differ numbers_turned i k q (omega (arith, h.size)) 0
            (rw same (number_turned n (get_or ns i 0) s))))),
      )

  -- by the row that the table gives
  pub quick_set : (r m : ℕ) → get_or ns (get_or tb r 0) 0 ≡ m → m ≡ n → (n ≡ 0 → ⊥) → 1 * 2 ^ get_or tb r 0 % 2 ^ 32 ≡ bit_set (numbered n) ns
  quick_set r m q e u =
      one_row (get_or tb r 0) (h.rows.below r) (and_both (lt-ltb 0 n (omega arith)) (eq-eqb (get_or ns (get_or tb r 0) 0) n (q ∙ e)))

  -- no relay has its remainder
  pub absent_set : (m : ℕ) → (get_or ns (get_or tb (n % 256) 0) 0 % 256 ≡ m % 256 → ⊥) → m ≡ n → 0 ≡ bit_set (numbered n) ns
  absent_set m u e =
      sym (set_none 0 (numbered n) ns
      (λ i q. not_pass (numbered n (get_or ns i 0))
      (λ s.
      let same : get_or ns i 0 ≡ n = eqb-true (get_or ns i 0) n (and_right (given n) (eqb (get_or ns i 0) n) s) in
      let slot = rw same at (h.rows.same i (omega (arith, h.size))) in
      u (slot ∙ ap (λ (x : ℕ). x % 256) (sym e)))))

  -- by a search
  module _ (f : Option ℕ) (m : ℕ) (same : m ≡ n) (g : f ≡ first_at (numbered m) 0 ns) where
    said : f ≡ first_at (numbered n) 0 ns
    said = rw same at g

    pub none_set : f ≡ None → 0 ≡ bit_set (numbered n) ns
    none_set w =
        sym (set_none 0 (numbered n) ns
        (λ i q. none_at (numbered n) ns (miss_none (numbered n) ns 0 (first_miss (numbered n) ns (sym said ∙ w))) i q 0))

    module _ (i : ℕ) (w : f ≡ Some i) where
      pub found_row : i < 32
      found_row = omega (arith, h.size, first_below (numbered n) ns 0 i (sym said ∙ w))

      pub found_cast : Fits w32 i
      found_cast = record { fits = omega (arith, found_row) }

      pub found_set : 1 * 2 ^ i % 2 ^ 32 ≡ bit_set (numbered n) ns
      found_set = one_row i found_row (row_passes (numbered n) ns 0 i (get_or ns i 0) (first_row_lem (numbered n) ns i (sym said ∙ w) 0))

-- a row that the table gives
module _ (ns tb : List ℕ) (h : RowTable ns tb) (r : ℕ) where
  pub slot_row : get_or tb r 0 < 32
  slot_row = h.rows.below r

  pub slot_within : get_or tb r 0 < length ns
  slot_within = omega (arith, h.size, h.rows.below r)

  pub slot_cast : Fits w32 (get_or tb r 0)
  slot_cast = record { fits = omega (arith, h.rows.below r) }

  pub slot_scaled : Fits w64 (get_or tb r 0 * 8)
  slot_scaled = record { fits = omega (arith, h.rows.below r) }

-- relays whose numbers differ
module _ (ns : List ℕ) (rs : List Relay) (e : ns ≡ map relay_number rs) where
  pub row_table : (tb : List ℕ) → length rs ≡ 32 → length tb ≡ 256 → ByRemainder (map relay_number rs) tb → no_clash numbered (map relay_number rs) ≡ true → RowTable ns tb
  row_table tb l k f h =
      record { size = ap (λ (m : List ℕ). length m) e ∙ length-map rs relay_number ∙ l; entries = k; rows = rw (← e) at f; differ = rw (← e) at h }

  pub relays_apart : (b : Bool) → b ≡ no_clash numbered ns → b ≡ no_clash numbered (map relay_number rs)
  relays_apart b h = rw e at h

  pub relays_any : (b : Bool) → b ≡ any_of given ns → b ≡ any_of given (map relay_number rs)
  relays_any b h = rw e at h

  pub relays_held : (hs : List ℕ) (es : List Entry) → hs ≡ map (held_set ns) es → hs ≡ map (held_set (map relay_number rs)) es
  relays_held hs es h = rw e at h

-- the loop that fills the table with the rows of the relays rs, at the row i
pub record SlotsLoop (rs : List Relay) (tb : List ℕ) (i : ℕ) : Type 0 where
  pub size : length tb ≡ 256
  pub rows : length rs ≡ 32
  pub below : (j : ℕ) → get_or tb j 0 < 32
  pub same : (j : ℕ) → j < i → get_or (map relay_number rs) (get_or tb (get_or (map relay_number rs) j 0 % 256) 0) 0 % 256 ≡ get_or (map relay_number rs) j 0 % 256

zeros_below : (n j : ℕ) → get_or (replicate n 0) j 0 < 32
zeros_below zero j = omega arith
zeros_below (suc n) zero = omega arith
zeros_below (suc n) (suc j) = zeros_below n j

module _ (rs : List Relay) where
  pub slots_start : length rs ≡ 32 → SlotsLoop rs (replicate 256 0) 0
  slots_start l = record { size = length-replicate {A = ℕ} 256 0; rows = l; below = zeros_below 256; same = λ j w. absurd (omega arith) }

  module _ (tb : List ℕ) (i : ℕ) (h : SlotsLoop rs tb i) where
    pub slots_end : 32 ≤ i → ByRemainder (map relay_number rs) tb
    slots_end w = record { below = h.below; same = λ j q. h.same j (omega arith) }

    pub slots_size : length tb ≡ 256
    slots_size = h.size

    abbrev r : ℕ
    r = (get_or rs i blank_relay).no.0 % 256

    abbrev ns : List ℕ
    ns = map relay_number rs

    pub slots_step : i < 32 → SlotsLoop rs (set tb ((get_or rs i blank_relay).no.0 % 256) i) (i + 1)
    slots_step w =
        record {
          size = length-set tb r i ∙ h.size;
          rows = h.rows;
          below = λ j. ⊎_elim
              (λ e. let z : j ≡ r = eqb-true j r e in rw (z, get_or-set_same tb r i 0 inside) w)
              (λ e. rw (get_or-set_other tb r j i 0 (eqb-false j r e)) (h.below j))
              (pass_or_fail (eqb j r));
          same = λ j q. ⊎_elim
              (λ e. let z : get_or ns j 0 % 256 ≡ r = eqb-true (get_or ns j 0 % 256) r e in rw (z, get_or-set_same tb r i 0 inside) here)
              (λ e. rw (get_or-set_other tb r (get_or ns j 0 % 256) i 0 (eqb-false (get_or ns j 0 % 256) r e)) (h.same j (earlier j q (eqb-false (get_or ns j 0 % 256) r e))))
              (pass_or_fail (eqb (get_or ns j 0 % 256) r));
        }
      where
        inside : r < length tb
        inside = omega (arith, h.size)

        here : get_or ns i 0 % 256 ≡ r
        here = ap (λ (x : ℕ). x % 256) (map_row relay_number rs i blank_relay 0 (omega (arith, h.rows)))

        earlier : (j : ℕ) → j < i + 1 → (get_or ns j 0 % 256 ≡ r → ⊥) → j < i
        earlier j q u = ⊎_elim (λ e. absurd (u (let z : j ≡ i = omega arith in rw z here))) (λ e. omega arith) (eq-or-lt_of_le q)

pub ruleset slots-made = (slots_step, slots_end, slots_size, slots_start, rows_length, rules)

-- the loop over the places: the set of the relays that have one of the first p
pub record HeldLoop (ns tb ps : List ℕ) (p s : ℕ) : Type 0 where
  pub table : RowTable ns tb
  pub place : p ≤ length ps
  pub made : s ≡ bit_set (on_place (take p ps)) ns

module _ (ns tb ps : List ℕ) where
  pub held_start : RowTable ns tb → HeldLoop ns tb ps 0 0
  unfolding on_place
  held_start h = record { table = h; place = omega arith; made = sym (set_none 0 (on_place (take 0 ps)) ns (λ i w. refl)) }

  module _ (p s : ℕ) (h : HeldLoop ns tb ps p s) where
    pub held_table : RowTable ns tb
    held_table = h.table

    pub held_end : length ps ≤ p → s ≡ bit_set (on_place ps) ns
    held_end w = h.made ∙ ap (λ (l : List ℕ). bit_set (on_place l) ns) (take_all p ps w)

    pub held_step : (x s' : ℕ) → p < length ps → x ≡ bit_set (numbered (get_or ps p 0)) ns → s' ≡ bit_or s x → HeldLoop ns tb ps (p + 1) s'
    unfolding on_place
    held_step x s' w e f =
        record {
          table = h.table;
          place = omega arith;
          made = f
              ∙ rw (h.made, e) (or_sets (on_place (take p ps)) (numbered (get_or ps p 0)) ns)
              ∙ set_same 0 (λ y. on_place (take p ps) y || numbered (get_or ps p 0) y) (on_place (take (p + 1) ps)) ns (λ i q. more (get_or ns i 0));
        }
      where
        more : (y : ℕ) → (any_of (numbered y) (take p ps) || numbered (get_or ps p 0) y) ≡ any_of (numbered y) (take (p + 1) ps)
        more y =
            sym (rw (add-one, take-suc ps p 0 w)
            (any_append (numbered y) (take p ps) (get_or ps p 0 ∷ [])
            ∙ ap (λ (b : Bool). any_of (numbered y) (take p ps) || b) (last (numbered y (get_or ps p 0)) ∙ numbers_turned y (get_or ps p 0))))
          where
            last : (b : Bool) → (b || false) ≡ b
            last true = refl
            last false = refl

pub ruleset held = (held_step, held_end, held_table, held_start, rules)

pub ruleset slots = (slot_row, slot_within, slot_cast, slot_scaled, found_row, found_cast, rules)

-- the loop that stores the set of each entry: a free row's is there already
free_set : (ns : List ℕ) (e : Entry) → e.volume.0 ≡ 0 → held_set ns e ≡ 0
unfolding held_set on_place places_of
free_set ns e h =
    rw h
    (set_none 0 (λ x. any_of (numbered x) (replicate 24 0)) ns
    (λ i w. any_replicate (numbered (get_or ns i 0)) 24 0 (no_number (get_or ns i 0))))
  where
    no_number : (x : ℕ) → numbered x 0 ≡ false
    no_number x = not_pass (numbered x 0) (λ t. omega (arith, ltb-true 0 0 (and_left (given 0) (eqb x 0) (number_turned x 0 t))))

used_set : (ns : List ℕ) (e : Entry) → (e.volume.0 ≡ 0 → ⊥) → bit_set (on_place (place_numbers e.placement)) ns ≡ held_set ns e
unfolding held_set places_of
used_set ns e h = rw (ne_eqb e.volume.0 0 h)

module _ (ns : List ℕ) (es : List Entry) (i : ℕ) (out next : List ℕ) (h : FillLoop (replicate 64 0) 0 (map (held_set ns) es) 64 i out) (k : i < 64) where
  pub set_skipped : (get_or es i blank_entry).volume.0 ≡ 0 → next ≡ out → FillLoop (replicate 64 0) 0 (map (held_set ns) es) 64 (i + 1) next
  set_skipped e q = fill_zero (held_set ns) blank_entry es 64 i out next h k (free_set ns (get_or es i blank_entry) e) q

  pub set_stored : (x : ℕ) (ps : List ℕ) → ((get_or es i blank_entry).volume.0 ≡ 0 → ⊥) → ps ≡ place_numbers (get_or es i blank_entry).placement
      → x ≡ bit_set (on_place ps) ns → next ≡ set out i x → FillLoop (replicate 64 0) 0 (map (held_set ns) es) 64 (i + 1) next
  set_stored x ps n f e q =
      fill_stored (held_set ns) blank_entry es 64 i out next h k x
      (e ∙ ap (λ (l : List ℕ). bit_set (on_place l) ns) f ∙ used_set ns (get_or es i blank_entry) n) q

-- what the bit of the row x of an entry's set says: r is the test of the bit
pub held_told : (ns : List ℕ) (e : Entry) (x s : ℕ) (r : Bool) → x < length ns → s ≡ held_set ns e → r ≡ eqb (s / 2 ^ x % 2) 1
    → r ≡ on_place (places_of e) (get_or ns x 0)
unfolding held_set
held_told ns e x s r w f t = has_test (on_place (places_of e)) ns 0 x w f t

any_agree : (p q : ℕ → Bool) (l : List ℕ) → ((y : ℕ) → p y ≡ q y) → any_of p l ≡ any_of q l
any_agree p q [] f = refl
any_agree p q (y ∷ ys) f = rw (f y, any_agree p q ys f)

pub held_among : (a : Entry) (n : RelayNo) → (n.0 ≡ 0 → ⊥) → on_place (places_of a) n.0 ≡ (used_entry a && holds_shard n a.placement)
unfolding on_place
held_among a n u =
    let g : given n.0 ≡ true = lt-ltb 0 n.0 (omega arith) in
    any_agree (numbered n.0) (same_number n.0) (places_of a) (λ y. rw g) ∙ place_among a n u
