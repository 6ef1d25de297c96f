-- A relay, and the relays, after an object is placed, or as they were where a number would not fit. Assumes nothing.
use mathlib.Core.Path.{◌≡◌, refl, sym, ◌∙◌}
use mathlib.Core.Bool.{Bool, true, false, cond}
use Rattle.std.specs.Prelude.{Option, Some, None}
use mathlib.Core.List.{List, map}
use Prim.Native.Nat.{ℕ, ◌+◌, ◌<◌, ◌≤◌}
use native.Mathlib.Omega.{arith}
use borrow.Author.Rules.{rules}
use borrow.Author.Tests.{le-leb, lt-leb}
use lib.ListN.{length, get_or, set, take}
use Rattle.lists.specs.Lists.{any_of}
use Rattle.lists.specs.LoopLaws.{AllLoop, all_start, all_step, all_failed, all_passed}
use Rattle.lists.specs.ByteLoopLaws.{FillLoop, fill_start, fill_step_of, fill_whole, least_mapped, length_mapped}
use Rattle.lists.specs.RowLaws.{rows_length}
use Rattle.rules.specs.declared.Placement.{Placement}
use Rattle.rules.specs.declared.Relay.{Relay}
use Rattle.rules.specs.Tables.{with_room}
use Rattle.rules.specs.Relays.{holds_shard, loaded}
use Rattle.placing.specs.Room.{relay_number, is_number, can_load, can_load_all, loaded_if, loaded_rows, most_bytes, most_shards}
use Rattle.placing.proofs.RoomLaws.{holds_number}

-- b is what the code said of the relay's number
module _ (bytes : ℕ) (has : Bool) (r : Relay) (b : Bool) (e : b ≡ has) where
  pub none_taken : b ≡ false → Some r ≡ loaded_if has bytes r
  unfolding loaded_if
  none_taken t = sym (rw (sym e ∙ t))

  module _ (t : b ≡ true) where
    pub too_many_bytes : most_bytes < r.used + bytes → None ≡ loaded_if has bytes r
    unfolding loaded_if
    too_many_bytes h = sym (rw (sym e ∙ t, lt-leb (r.used + bytes) most_bytes h))

    pub too_many_shards : r.used + bytes ≤ most_bytes → most_shards < r.held + 1 → None ≡ loaded_if has bytes r
    unfolding loaded_if
    too_many_shards h k = sym (rw (sym e ∙ t, le-leb (r.used + bytes) most_bytes h, lt-leb (r.held + 1) most_shards k))

    pub one_taken : r.used + bytes ≤ most_bytes → r.held + 1 ≤ most_shards → Some (with_room r (r.used + bytes) (r.held + 1)) ≡ loaded_if has bytes r
    unfolding loaded_if
    one_taken h k = sym (rw (sym e ∙ t, le-leb (r.used + bytes) most_bytes h, le-leb (r.held + 1) most_shards k))

pub ruleset loads-row = (none_taken, too_many_bytes, too_many_shards, one_taken, rules)

-- the first i rows fit and are stored as they are after
pub record LoadLoop (bytes : ℕ) (p : Placement) (numbers : List ℕ) (rows : List Relay) (n i : ℕ) (out : List Relay) : Type 0 where
  pub listed : numbers ≡ map relay_number p.relays
  pub fitting : AllLoop (can_load bytes p) rows n i
  pub stored : FillLoop rows 0 (map (loaded bytes p) rows) n i out

module _ (bytes : ℕ) (p : Placement) (numbers : List ℕ) (rows : List Relay) (n : ℕ) where
  pub load_start : numbers ≡ map relay_number p.relays → length rows ≡ n → LoadLoop bytes p numbers rows n 0 rows
  load_start g e =
      record {
        listed = g;
        fitting = all_start (can_load bytes p) rows n e;
        stored = fill_start rows 0 (map (loaded bytes p) rows) n (omega arith) (least_mapped (loaded bytes p) rows n e);
      }

  module _ (i : ℕ) (out : List Relay) (h : LoadLoop bytes p numbers rows n i out) where
    pub load_size : length out ≡ length rows
    load_size = h.stored.size

    pub load_end : n ≤ i → Some out ≡ loaded_rows bytes p rows
    unfolding loaded_rows can_load_all
    load_end k =
        let a = all_passed (can_load bytes p) rows n i h.fitting k in
        let w =
        fill_whole rows (map (loaded bytes p) rows) n i out h.stored k h.fitting.size (length_mapped (loaded bytes p) rows n h.fitting.size) in
        rw (← a, w)

    -- x is what the code made of row i
    module _ (d : Relay) (x : Option Relay) (k : i < n)
        (e : x ≡ loaded_if (any_of (is_number (get_or rows i d).no.0) (take p.len numbers)) bytes (get_or rows i d)) where
      by_place : x ≡ loaded_if (holds_shard (get_or rows i d).no p) bytes (get_or rows i d)
      by_place = e ∙ rw (holds_number (get_or rows i d).no p numbers _ refl h.listed)

      -- by whether the row fits
      made : (b : Bool) → can_load bytes p (get_or rows i d) ≡ b → x ≡ cond b (Some (loaded bytes p (get_or rows i d))) None
      unfolding loaded_if can_load loaded
      made b f = by_place ∙ rw f

      fails : x ≡ None → (b : Bool) → can_load bytes p (get_or rows i d) ≡ b → b ≡ false
      fails t true f = absurd (let z : ◌≡◌ {A = ℕ} 0 1 = cc (made true f) in omega arith)
      fails t false f = refl

      pub load_fails : x ≡ None → None ≡ loaded_rows bytes p rows
      unfolding loaded_rows can_load_all
      load_fails t =
          let f : can_load bytes p (get_or rows i d) ≡ false = fails t _ refl in
          let a = all_failed d (can_load bytes p) rows n i false h.fitting k (sym f) refl in rw (← a)

      fits : (y : Relay) → x ≡ Some y → (b : Bool) → can_load bytes p (get_or rows i d) ≡ b → (b ≡ true) × (y ≡ loaded bytes p (get_or rows i d))
      fits y t true f = (refl, cc (made true f))
      fits y t false f = absurd (let z : ◌≡◌ {A = ℕ} 0 1 = cc (made false f) in omega arith)

      pub load_step : (y : Relay) → x ≡ Some y → LoadLoop bytes p numbers rows n (i + 1) (set out i y)
      load_step y t =
          let f = fits y t _ refl in
          record {
            listed = h.listed;
            fitting = all_step d (can_load bytes p) rows n i true h.fitting k (sym f.0) refl;
            stored = fill_step_of (loaded bytes p) d rows rows n i out y h.stored k f.1;
          }

pub ruleset loads = (load_step, load_fails, load_end, load_size, load_start, rows_length, rules)
