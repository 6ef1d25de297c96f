-- A volume, and the volumes, at an epoch end, or as they were where the machine's numbers cannot settle one. Assumes nothing.
use mathlib.Core.Path.{◌≡◌, refl, sym, ◌∙◌, ap}
use Rattle.std.specs.Prelude.{Option, Some, None}
use mathlib.Core.Bool.{Bool, true, false, cond}
use mathlib.Core.List.{List, map}
use Prim.Native.Nat.{ℕ, ◌+◌, ◌<◌, ◌≤◌, min}
use native.Mathlib.Omega.{arith}
use borrow.Author.Rules.{rules}
use borrow.Author.Tests.{lt-ltb, le-ltb}
use lib.ListN.{length, get_or, set, length-set}
use Rattle.lists.specs.Lists.{all_of}
use Rattle.lists.specs.AnswerLaws.{none_given, some_given}
use Rattle.lists.specs.LoopLaws.{AllLoop, all_start, all_step, all_failed, all_passed}
use Rattle.lists.specs.ByteLoopLaws.{FillLoop, fill_start, fill_step_of, fill_whole, least_mapped, length_mapped}
use Rattle.lists.specs.RowLaws.{rows_length}
use Rattle.rules.specs.declared.Volume.{Volume}
use Rattle.rules.specs.declared.Tables.{Tables}
use Rattle.rules.specs.Advance.{after_rent, settled}
use Rattle.rows.specs.Blank.{blank_volume}
use Rattle.rents.specs.Within.{rent_within, raw_in, sizes_at, volume_rent, most_raw}
use Rattle.rents.specs.WithinLaws.{rent_exact, raw_listed}
use Rattle.epochs.specs.Within.{RentParts, RowSettled, RowsSettled, most_grace, can_settle, can_settle_all, settled_row, settled_rows}

module _ (t : Tables) (v : Volume) where
  pub free_stays : v.no.0 ≡ 0 → Some v ≡ settled_row t v
  unfolding settled_row can_settle settled
  free_stays e = sym (rw (none_given v.no.0 e))

  -- x is the rent that the code asked for, of the rate and the raw bytes that it was given
  module _ (x : Option ℕ) (rate raw : ℕ) (some : v.no.0 ≡ 0 → ⊥) (g : rate ≡ t.rate) (b : raw ≡ raw_in v.no t.entries)
      (a : x ≡ rent_within rate v.k v.m raw) where
    rent_is : x ≡ volume_rent t v
    unfolding volume_rent
    rent_is = a ∙ rw (g, b)

    pub past_limits : x ≡ None → None ≡ settled_row t v
    unfolding settled_row can_settle
    past_limits w = sym (rw (some_given v.no.0 some, sym rent_is ∙ w))

    module _ (rent : ℕ) (w : x ≡ Some rent) where
      pub grace_full : most_grace ≤ v.grace → None ≡ settled_row t v
      unfolding settled_row can_settle
      grace_full h = sym (rw (some_given v.no.0 some, sym rent_is ∙ w, le-ltb v.grace most_grace h))

      -- y is what the code made of the volume
      pub rent_paid_lem : (y : Volume) → v.grace < most_grace → y ≡ after_rent rent v → Some y ≡ settled_row t v
      unfolding settled_row can_settle settled
      rent_paid_lem y h q =
          rw q (sym (rw (some_given v.no.0 some, sym rent_is ∙ w, lt-ltb v.grace most_grace h, ← rent_exact t v rent (sym rent_is ∙ w))))

pub ruleset settles-row = (free_stays, past_limits, grace_full, rent_paid_lem, rules)

-- the first i rows can be settled and are stored as they are after, whatever tables have these parts
pub record SettleLoop (rate : ℕ) (rows : List Volume) (ms sizes : List ℕ) (n i : ℕ) (out : List Volume) : Type 0 where
  pub size : length out ≡ length rows
  pub fitting : (t : Tables) → RentParts t rate rows ms sizes → AllLoop (can_settle t) rows n i
  pub stored : (t : Tables) → RentParts t rate rows ms sizes → FillLoop rows 0 (map (settled t) rows) n i out

module _ (rate : ℕ) (rows : List Volume) (ms sizes : List ℕ) (n : ℕ) where
  pub settle_start : length rows ≡ n → SettleLoop rate rows ms sizes n 0 rows
  settle_start e =
      record {
        size = refl;
        fitting = λ t p. all_start (can_settle t) rows n e;
        stored = λ t p. fill_start rows 0 (map (settled t) rows) n (omega arith) (least_mapped (settled t) rows n e);
      }

  module _ (i : ℕ) (out : List Volume) (h : SettleLoop rate rows ms sizes n i out) where
    pub settle_size : length out ≡ length rows
    settle_size = h.size

    pub settle_end : n ≤ i → RowsSettled rate rows ms sizes (Some out)
    unfolding settled_rows can_settle_all
    settle_end k = record {
      told = λ t p.
          let f = h.fitting t p in
          let a = ap (all_of (can_settle t)) p.rows_of ∙ sym (all_passed (can_settle t) rows n i f k) in
          let w = fill_whole rows (map (settled t) rows) n i out (h.stored t p) k f.size (length_mapped (settled t) rows n f.size) in
          rw (a, w ∙ ap (map (settled t)) (sym p.rows_of));
    }

    -- x is what the code made of row i, with the raw bytes that it added up
    module _ (x : Option Volume) (raw : ℕ) (k : i < n)
        (q : RowSettled rate raw (get_or rows i blank_volume) x)
        (r : raw ≡ min (sizes_at (get_or rows i blank_volume).no.0 ms sizes) most_raw) where
      module _ (t : Tables) (p : RentParts t rate rows ms sizes) where
        row_is : x ≡ settled_row t (get_or rows i blank_volume)
        row_is = q.told t (sym p.rate_of) (r ∙ rw (p.volumes_of, p.sizes_of) (raw_listed (get_or rows i blank_volume).no t.entries))

        made : (b : Bool) → can_settle t (get_or rows i blank_volume) ≡ b → x ≡ cond b (Some (settled t (get_or rows i blank_volume))) None
        unfolding settled_row
        made b f = row_is ∙ rw f

        fails : x ≡ None → (b : Bool) → can_settle t (get_or rows i blank_volume) ≡ b → b ≡ false
        fails e true f = absurd (let z : ◌≡◌ {A = ℕ} 0 1 = cc (made true f) in omega arith)
        fails e false f = refl

        settles_to : (y : Volume) → x ≡ Some y → (b : Bool) → can_settle t (get_or rows i blank_volume) ≡ b
            → (b ≡ true) × (y ≡ settled t (get_or rows i blank_volume))
        settles_to y e true f = (refl, cc (made true f))
        settles_to y e false f = absurd (let z : ◌≡◌ {A = ℕ} 0 1 = cc (made false f) in omega arith)

      pub settle_fails : x ≡ None → RowsSettled rate rows ms sizes None
      unfolding settled_rows can_settle_all
      settle_fails f = record {
        told = λ t p.
            let stays : can_settle t (get_or rows i blank_volume) ≡ false = fails t p f _ refl in
            let a = ap (all_of (can_settle t)) p.rows_of ∙ sym (all_failed blank_volume (can_settle t) rows n i false (h.fitting t p) k (sym stays) refl) in
            rw a;
      }

      pub settle_step : (y : Volume) → x ≡ Some y → SettleLoop rate rows ms sizes n (i + 1) (set out i y)
      settle_step y f =
          record {
            size = length-set out i y ∙ h.size;
            fitting = λ t p. all_step blank_volume (can_settle t) rows n i true (h.fitting t p) k (sym (settles_to t p y f _ refl).0) refl;
            stored = λ t p. fill_step_of (settled t) blank_volume rows rows n i out y (h.stored t p) k (settles_to t p y f _ refl).1;
          }

pub ruleset settles = (settle_step, settle_fails, settle_end, settle_size, settle_start, rows_length, rules)
