-- The relays' test, by the test of their numbers and the loop over their rows. Assumes nothing.
use mathlib.Core.Path.{◌≡◌, refl, sym, ◌∙◌}
use mathlib.Core.Bool.{Bool, true, false, not}
use mathlib.Core.List.{List, map}
use Prim.Native.Nat.{ℕ, ◌+◌, ◌<◌, ◌≤◌}
use borrow.Author.Tests.{not-true, not-false, ltb-false}
use native.Mathlib.Omega.{arith}
use lib.ListN.{length, get_or, length-map}
use Rattle.lists.specs.Lists.{all_of, any_of, no_clash}
use Rattle.lists.specs.BoolLaws.{and_both}
use Rattle.lists.specs.RowLaws.{map_row}
use Rattle.lists.specs.TestLaws.{none_at, at_all, at_clash}
use Rattle.lists.specs.LoopLaws.{AllLoop, all_failed, all_step, all_passed}
use Rattle.rules.specs.declared.Relay.{Relay}
use Rattle.rules.specs.declared.Tables.{Tables}
use Rattle.rules.specs.Tables.{given, numbered}
use Rattle.rules.specs.Sound.{same_relay_row, sound_relay, sound_relays, sound_volumes, sound_entries}
use Rattle.rows.specs.Blank.{blank_relay}
use Rattle.sound_rows.specs.Numbers.{relay_number}
use Rattle.sound_rows.specs.MappedLaws.{clash_mapped, first_fails, next_fails}

-- the relays' test
module _ (t : Tables) (b : Bool) where
  pub relay_fails : (i : ℕ) → AllLoop (sound_relay t) t.relays 32 i → i < 32 → b ≡ sound_relay t (get_or t.relays i blank_relay) → not b ≡ true
      → false ≡ sound_relays t
  unfolding sound_relays
  relay_fails i h k e w = first_fails (all_of (sound_relay t) t.relays) (no_clash same_relay_row t.relays) (sym (all_failed blank_relay (sound_relay t) t.relays 32 i b h k e w))

  -- two relays have the same number
  pub relays_clash : b ≡ no_clash numbered (map relay_number t.relays) → not b ≡ true → false ≡ sound_relays t
  unfolding sound_relays
  relays_clash h w =
      next_fails (all_of (sound_relay t) t.relays) (no_clash same_relay_row t.relays)
      (sym (h ∙ clash_mapped relay_number numbered t.relays) ∙ not-true b w)

pub relays_hold : (t : Tables) (i : ℕ) → AllLoop (sound_relay t) t.relays 32 i → 32 ≤ i → no_clash numbered (map relay_number t.relays) ≡ true → true ≡ sound_relays t
unfolding sound_relays
relays_hold t i l k h =
    sym (and_both (sym (all_passed (sound_relay t) t.relays 32 i l k)) (sym (clash_mapped relay_number numbered t.relays) ∙ h))

-- where no number is given, every row is free, and the relays are sound
free_relay_lem : (t : Tables) (x : Relay) → given x.no.0 ≡ false → sound_relay t x ≡ true
unfolding sound_relay
free_relay_lem t x h = let z : x.no.0 ≡ 0 = omega (arith, ltb-false 0 x.no.0 h) in rw z

free_row : (x y : Relay) → given x.no.0 ≡ false → same_relay_row x y ≡ false
free_row x y h = rw h

pub no_relays : (t : Tables) (b : Bool) → b ≡ any_of given (map relay_number t.relays) → not b ≡ true → true ≡ sound_relays t
unfolding sound_relays
no_relays t b h w =
    sym (and_both (at_all (sound_relay t) t.relays blank_relay (λ j k. free_relay_lem t _ (free j k)))
    (at_clash same_relay_row t.relays blank_relay (λ i j k l. free_row (get_or t.relays i blank_relay) (get_or t.relays j blank_relay) (free i (omega arith)))))
  where
    free : (j : ℕ) → j < length t.relays → given (get_or t.relays j blank_relay).no.0 ≡ false
    free j k =
        let none = none_at given (map relay_number t.relays) (sym h ∙ not-true b w) j (omega (arith, length-map t.relays relay_number)) 0 in
        rw (map_row relay_number t.relays j blank_relay 0 k) at none

-- a free relay's row passes
pub relay_skipped : (t : Tables) (rows : List Relay) (i : ℕ) → AllLoop (sound_relay t) rows 32 i → i < 32 → (get_or rows i blank_relay).no.0 ≡ 0
    → AllLoop (sound_relay t) rows 32 (i + 1)
unfolding sound_relay
relay_skipped t rows i h k e = all_step blank_relay (sound_relay t) rows 32 i true h k (sym (rw e)) refl

-- what the tests of the volumes and of the entries said: first the branch that was not taken, since it shows which test it was
module _ (r : Bool) (f : not r ≡ false) (t : Tables) where
  pub volumes_held : r ≡ sound_volumes t → sound_volumes t ≡ true
  volumes_held e = sym e ∙ not-false r f

  pub entries_held : r ≡ sound_entries t → sound_entries t ≡ true
  entries_held e = sym e ∙ not-false r f
