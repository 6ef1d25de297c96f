-- The test of a lent table taken apart and put together: the relays of a sound desk pass it, and rows that keep what it reads pass it still.
-- Assumes nothing.
use Rattle.std.specs.Prelude.{◌≡◌, true, false, List, map, ℕ, ◌≤◌, eqb, leb, length}
use Rattle.std.proofs.Common.{⊎_elim, arith, eq-eqb, le-leb, leb-true}
use Rattle.std.proofs.lemmas.List.{length-map}
use Rattle.lists.specs.Lists.{all_of, no_clash}
use Rattle.lists.specs.BoolLaws.{and_left, and_right, and_both, pass_or_fail}
use Rattle.lists.specs.TestLaws.{all_weaker}
use Rattle.rules.specs.declared.Relay.{Relay}
use Rattle.rules.specs.declared.Tables.{Tables}
use Rattle.rules.specs.Fresh.{fresh_relay}
use Rattle.rules.specs.Limits.{relay_rows, capacity_limit, clock_limit, last_number}
use Rattle.rules.specs.Sound.{is_given, sound_relay, same_relay_row, sound_tables}
use Rattle.rules.specs.Tables.{used_relay, free_relay}
use Rattle.rules.proofs.Laws.ApartLaws.{free_used, used_not_free, other_part}
use Rattle.rules.proofs.Laws.MappedLaws.{all_mapped, clash_mapped}
use Rattle.rules.proofs.Laws.RowFacts.{or_last, relay_facts, count_facts}
use Rattle.rules.proofs.Laws.SoundParts.{parts_of}
use Rattle.lent_relays.specs.Lent.{row_fits, table_fits}

-- a row's parts
pub record Kept (clock : ℕ) (r : Relay) : Type 0 where
  pub numbered : is_given last_number r.no.0 ≡ true
  pub capacity : leb r.capacity capacity_limit ≡ true
  pub used : leb r.used r.capacity ≡ true
  pub beat : leb r.beat clock ≡ true

module _ (clock : ℕ) (r : Relay) where
  pub kept_of : used_relay r ≡ true → row_fits clock r ≡ true → Kept clock r
  unfolding row_fits
  kept_of u h = let g = other_part (free_relay r) _ (used_not_free r.no.0 u) h in search (and_left, and_right)

  pub of_kept : Kept clock r → row_fits clock r ≡ true
  unfolding row_fits
  of_kept k = or_last (free_relay r) _ (and_both (and_both (and_both k.numbered k.capacity) k.used) k.beat)

  pub free_fits : used_relay r ≡ false → row_fits clock r ≡ true
  unfolding row_fits
  free_fits u = rw (free_used r.no.0, u)

-- the table's parts
pub record Fits (clock : ℕ) (rows : List Relay) : Type 0 where
  pub size : eqb (length rows) relay_rows ≡ true
  pub time : leb clock clock_limit ≡ true
  pub each : all_of (row_fits clock) rows ≡ true
  pub numbers : no_clash same_relay_row rows ≡ true

module _ (clock : ℕ) (rows : List Relay) where
  pub fits_of : table_fits clock rows ≡ true → Fits clock rows
  unfolding table_fits
  fits_of h = search (and_left, and_right)

  pub of_fits : Fits clock rows → table_fits clock rows ≡ true
  unfolding table_fits
  of_fits f = and_both (and_both (and_both f.size f.time) f.each) f.numbers

-- at a later clock
later_row : (clock later : ℕ) (r : Relay) → clock ≤ later → row_fits clock r ≡ true → row_fits later r ≡ true
later_row clock later r h e =
    ⊎_elim
    (λ u.
    let k = kept_of clock r u e in
    of_kept later r
    (record {
      numbered = k.numbered;
      capacity = k.capacity;
      used = k.used;
      beat = le-leb r.beat later (omega (arith, leb-true r.beat clock k.beat));
    }))
    (free_fits later r) (pass_or_fail (used_relay r))

pub later_fits : (clock later : ℕ) (rows : List Relay) → clock ≤ later → later ≤ clock_limit → table_fits clock rows ≡ true → table_fits later rows ≡ true
later_fits clock later rows h k e =
    let f = fits_of clock rows e in
    of_fits later rows
    (record {
      size = f.size;
      time = le-leb later clock_limit k;
      each = all_weaker (row_fits clock) (row_fits later) rows (λ r. later_row clock later r h) f.each;
      numbers = f.numbers;
    })

-- rows that keep their numbers, and of which each still fits
pub mapped_fits : (clock : ℕ) (g : Relay → Relay) (rows : List Relay) → ((r : Relay) → (g r).no ≡ r.no) → ((r : Relay) → row_fits clock r ≡ true → row_fits clock (g r) ≡ true)
    → table_fits clock rows ≡ true → table_fits clock (map g rows) ≡ true
mapped_fits clock g rows same still e =
    let f = fits_of clock rows e in
    of_fits clock (map g rows)
    (record {
      size = rw (length-map rows g) f.size;
      time = f.time;
      each = all_mapped g (row_fits clock) (row_fits clock) rows fresh_relay (λ j h. still _) f.each;
      numbers = clash_mapped g same_relay_row same_relay_row rows (λ x y c. rw (same x, same y) c) f.numbers;
    })

-- the relays of a sound desk, at its clock
sound_row : (t : Tables) (r : Relay) → leb t.last_relay last_number ≡ true → sound_relay t r ≡ true → row_fits t.clock r ≡ true
sound_row t r l e =
    ⊎_elim
    (λ u.
    let f = relay_facts t r u e in
    of_kept t.clock r
    (record {
      numbered = up_to r.no.0 t.last_relay last_number (leb-true t.last_relay last_number l) f.numbered;
      capacity = f.capacity;
      used = f.fits;
      beat = f.beat;
    }))
    (free_fits t.clock r) (pass_or_fail (used_relay r))
  where
    up_to : (n last most : ℕ) → last ≤ most → is_given last n ≡ true → is_given most n ≡ true
    up_to n last most h g =
        let one = and_left (leb 1 n) (leb n last) g in
        let most' : n ≤ most = omega (arith, leb-true n last (and_right (leb 1 n) (leb n last) g)) in
        and_both one (le-leb n most most')

pub sound_fits : (t : Tables) → sound_tables t ≡ true → length t.relays ≡ relay_rows → table_fits t.clock t.relays ≡ true
sound_fits t h n =
    let p = parts_of t h in
    let c = count_facts t p.counts in
    of_fits t.clock t.relays
    (record {
      size = eq-eqb (length t.relays) relay_rows n;
      time = c.clock;
      each = all_weaker (sound_relay t) (row_fits t.clock) t.relays (λ r. sound_row t r c.relays) p.relays;
      numbers = p.relay_numbers_lem;
    })
