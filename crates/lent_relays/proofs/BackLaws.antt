-- Give-back on a lent table, call after call: one call changes the relay of that number and no other, and a call for each of several relays changes
-- those relays. Assumes nothing.
use Rattle.std.specs.Prelude.{◌≡◌, Bool, cond, not, ℕ, zero, suc, ◌-◌, ◌<◌, get_or}
use Rattle.std.proofs.Math.Path.{refl, ap}
use Rattle.std.proofs.Common.{sym, ap₂, ◌∙◌, le_of_suc-le-suc, arith}
use Rattle.std.proofs.Math.Bool.{true, false}
use Rattle.std.proofs.Math.Logic.{⊎_elim}
use mathlib.Core.List.{List, [], ◌∷◌, map}
use borrow.Author.Tests.{eq-eqb, ne_eqb, eqb-true, eqb-false, le-leb, leb-true, not-true}
use Rattle.std.proofs.Math.Dec.{eqb}
use Rattle.std.proofs.Math.ListN.{length}
use Rattle.lists.specs.Lists.{Hit, miss, hit, find, all_of, any_of, no_clash, modify}
use Rattle.lists.specs.BoolLaws.{and_left, and_right, and_both, pass_or_fail, not_pass}
use Rattle.lists.specs.RowLaws.{map_after}
use Rattle.lists.specs.SearchLaws.{row_passes, found_below, found_at}
use Rattle.lists.specs.TestLaws.{miss_at}
use Rattle.rules.specs.declared.RelayNo.{RelayNo}
use Rattle.rules.specs.declared.Relay.{Relay}
use Rattle.rules.specs.Limits.{clock_limit}
use Rattle.rules.specs.Relays.{same_relay}
use Rattle.rules.specs.Tables.{given, numbered, is_relay, used_relay, with_room}
use Rattle.rules.proofs.Laws.ApartLaws.{one_row}
use Rattle.rules.proofs.Laws.NumberLaws.{numbered_eq, numbered_used}
use Rattle.rows.specs.Blank.{blank_relay}
use Rattle.lent_relays.specs.Lent.{row_fits, table_fits, back_in, back_answer, lighter, rows_after, back_rows}
use Rattle.lent_relays.specs.FitLaws.{fits_of, kept_of, of_kept, free_fits, mapped_fits}

-- the rows after a call for each relay of a list, one after the other
unfoldable pub back_all : ℕ → List RelayNo → List Relay → List Relay
back_all bytes [] rows = rows
back_all bytes (n ∷ ns) rows = back_all bytes ns (back_rows bytes n rows)

-- a relay after the call for that number, and after a call for each of several
abbrev pub back_one : ℕ → RelayNo → Relay → Relay
back_one bytes n r = cond (is_relay n r) (lighter r bytes) r

abbrev pub back_each : ℕ → List RelayNo → Relay → Relay
back_each bytes ns r = cond (any_of (same_relay r.no) ns) (lighter r bytes) r

-- a number that was given
abbrev pub given_relay : RelayNo → Bool
given_relay n = given n.0

-- every row changed is no row changed, or one, where the change leaves the others
map_none : {A : Type 0} (g : A → A) (l : List A) (d : A) → ((j : ℕ) → j < length l → get_or l j d ≡ g (get_or l j d)) → l ≡ map g l
map_none g [] d o = refl
map_none g (x ∷ xs) d o = ap₂ ◌∷◌ (o 0 (omega arith)) (map_none g xs d (λ j k. o (suc j) (omega arith)))

map_one : {A : Type 0} (f g : A → A) (i : ℕ) (l : List A) (d : A) → i < length l → f (get_or l i d) ≡ g (get_or l i d)
    → ((j : ℕ) → j < length l → (j ≡ i → ⊥) → get_or l j d ≡ g (get_or l j d)) → modify f i l ≡ map g l
unfolding modify
map_one f g i [] d h e o = refl
map_one f g zero (x ∷ xs) d h e o = ap₂ ◌∷◌ e (map_none g xs d (λ j k. o (suc j) (omega arith) (λ q. omega arith)))
map_one f g (suc i) (x ∷ xs) d h e o =
    ap₂ ◌∷◌ (o 0 (omega arith) (λ q. omega arith)) (map_one f g i xs d (le_of_suc-le-suc h) e (λ j k n. o (suc j) (omega arith) (λ q. n (omega arith))))

-- a relay that gives room back still keeps the limits
pub less_fits : (clock : ℕ) (r : Relay) (a held : ℕ) → row_fits clock r ≡ true → row_fits clock (with_room r (r.used - a) held) ≡ true
less_fits clock r a held e =
    ⊎_elim
    (λ u.
    let k = kept_of clock r u e in
    of_kept clock (with_room r (r.used - a) held)
    (record {
      numbered = k.numbered;
      capacity = k.capacity;
      used = le-leb (r.used - a) r.capacity (omega (arith, leb-true r.used r.capacity k.used));
      beat = k.beat;
    }))
    (free_fits clock (with_room r (r.used - a) held)) (pass_or_fail (used_relay r))

module _ (bytes : ℕ) where
  -- one call
  one_at : (n : RelayNo) (rows : List Relay) (h : Hit Relay) → find (is_relay n) rows ≡ h → no_clash (λ a b. numbered a.no.0 b.no.0) rows ≡ true
      → rows_after (λ r. lighter r bytes) (back_in h) rows ≡ map (back_one bytes n) rows
  unfolding back_in rows_after
  one_at n rows miss e c = map_none (back_one bytes n) rows blank_relay (λ j k. rw (miss_at (is_relay n) rows 0 e j k blank_relay))
  one_at n rows (hit i r) e c =
      map_one (λ x. lighter x bytes) (back_one bytes n) i rows blank_relay below (rw here) (λ j k o. rw (other j k o))
    where
      below : i < length rows
      below = found_below (is_relay n) rows i r e

      here : is_relay n (get_or rows i blank_relay) ≡ true
      here = rw (found_at (is_relay n) rows i r e blank_relay) (row_passes (is_relay n) rows 0 i r e)

      other : (j : ℕ) → j < length rows → (j ≡ i → ⊥) → is_relay n (get_or rows j blank_relay) ≡ false
      other j k o =
          not_pass (is_relay n (get_or rows j blank_relay))
          (λ p.
          let x = numbered_eq n.0 (get_or rows i blank_relay).no.0 here in
          let y = numbered_eq n.0 (get_or rows j blank_relay).no.0 p in
          let u = numbered_used n.0 (get_or rows j blank_relay).no.0 p in
          o (one_row (λ a. a.no.0) rows blank_relay c j i k below (and_both u (eq-eqb (get_or rows i blank_relay).no.0 (get_or rows j blank_relay).no.0 (x ∙ sym y)))))

  pub back_one_lem : (n : RelayNo) (rows : List Relay) → table_fits clock_limit rows ≡ true → back_rows bytes n rows ≡ map (back_one bytes n) rows
  unfolding back_answer
  back_one_lem n rows e = rw e (one_at n rows (find (is_relay n) rows) refl (fits_of clock_limit rows e).numbers)

  one_fits : (clock : ℕ) (n : RelayNo) (r : Relay) → row_fits clock r ≡ true → row_fits clock (back_one bytes n r) ≡ true
  one_fits clock n r e = go (is_relay n r)
    where
      go : (b : Bool) → row_fits clock (cond b (lighter r bytes) r) ≡ true
      go true = less_fits clock r bytes (r.held - 1) e
      go false = e

  keeps_number : (n : RelayNo) (r : Relay) → (back_one bytes n r).no ≡ r.no
  keeps_number n r = go (is_relay n r)
    where
      go : (b : Bool) → (cond b (lighter r bytes) r).no ≡ r.no
      go true = refl
      go false = refl

  -- so each call leaves a table for the next
  pub back_fits : (n : RelayNo) (rows : List Relay) → table_fits clock_limit rows ≡ true → table_fits clock_limit (map (back_one bytes n) rows) ≡ true
  back_fits n rows e = mapped_fits clock_limit (back_one bytes n) rows (keeps_number n) (one_fits clock_limit n) e

  -- a call for one relay, then for the others: of different relays, each of a number that was given
  each_step : (n : RelayNo) (ns : List RelayNo) (r : Relay) → given_relay n ≡ true → any_of (same_relay n) ns ≡ false → back_each bytes ns (back_one bytes n r) ≡ back_each bytes (n ∷ ns) r
  each_step n ns r g o = ⊎_elim this that (pass_or_fail (eqb n.0 r.no.0))
    where
      this : eqb n.0 r.no.0 ≡ true → back_each bytes ns (back_one bytes n r) ≡ back_each bytes (n ∷ ns) r
      this e =
          let q = eqb-true n.0 r.no.0 e in
          let none : any_of (same_relay r.no) ns ≡ false = ap (λ (k : ℕ). any_of (λ (m : RelayNo). eqb m.0 k) ns) (sym q) ∙ o in
          rw (g, eq-eqb r.no.0 n.0 (sym q), none, e)

      that : eqb n.0 r.no.0 ≡ false → back_each bytes ns (back_one bytes n r) ≡ back_each bytes (n ∷ ns) r
      that e =
          let f : eqb r.no.0 n.0 ≡ false = ne_eqb r.no.0 n.0 (λ q. eqb-false n.0 r.no.0 e (sym q)) in
          rw (g, f, e)

  pub back_all_lem : (ns : List RelayNo) (rows : List Relay) → table_fits clock_limit rows ≡ true → all_of given_relay ns ≡ true → no_clash same_relay ns ≡ true
      → back_all bytes ns rows ≡ map (back_each bytes ns) rows
  unfolding back_all no_clash
  back_all_lem [] rows e g c = map_none (back_each bytes []) rows blank_relay (λ j k. refl)
  back_all_lem (n ∷ ns) rows e g c =
      let o = not-true (any_of (same_relay n) ns) (and_left (not (any_of (same_relay n) ns)) (no_clash same_relay ns) c) in
      ap (back_all bytes ns) (back_one_lem n rows e)
      ∙ back_all_lem ns (map (back_one bytes n) rows) (back_fits n rows e) (and_right (given_relay n) (all_of given_relay ns) g) (and_right (not (any_of (same_relay n) ns)) (no_clash same_relay ns) c)
      ∙ map_after (back_each bytes ns) (back_one bytes n) (back_each bytes (n ∷ ns)) rows (λ r. each_step n ns r (and_left (given_relay n) (all_of given_relay ns) g) o)
