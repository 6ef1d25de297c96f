-- What the list of the numbers of a placement's relays says of an entry's shards. Assumes nothing.
use Rattle.std.specs.Prelude.{◌≡◌, refl, false, ◌&&◌, map, ℕ, ◌-◌, ◌<◌, replicate}
use Rattle.std.proofs.Common.{◌∙◌, arith}
use Rattle.std.proofs.Math.Bool.{or-false}
use Rattle.std.proofs.Math.Logic.{⊎_elim}
use borrow.Author.Tests.{ne_eqb, ltb-true, ltb-false}
use Rattle.std.proofs.Math.ListN.{length}
use Rattle.lists.specs.Lists.{any_of}
use Rattle.lists.specs.BoolLaws.{pass_or_fail}
use Rattle.lists.specs.TestLaws.{any_append, any_replicate}
use Rattle.lists.specs.RowLaws.{any_map}
use Rattle.rules.specs.declared.RelayNo.{RelayNo}
use Rattle.rules.specs.declared.Entry.{Entry}
use Rattle.rules.specs.Tables.{used_entry}
use Rattle.rules.specs.Relays.{placed_on, same_relay, holds_shard}
use Rattle.sound_rows.specs.Places.{place_number, same_number, place_numbers, places_of}

-- a number that was given is among an entry's where the entry has a shard on that relay
module _ (e : Entry) (x : RelayNo) (n : x.0 ≡ 0 → ⊥) where
  zeros : (k : ℕ) → any_of (same_number x.0) (replicate k 0) ≡ false
  zeros k = any_replicate (same_number x.0) k 0 (ne_eqb 0 x.0 (omega arith))

  pub place_among : any_of (same_number x.0) (places_of e) ≡ (used_entry e && holds_shard x e.placement)
  unfolding places_of place_numbers holds_shard
  place_among =
      ⊎_elim
      (λ w.
      let v : 0 < e.volume.0 = ltb-true 0 e.volume.0 w in
      rw (ne_eqb e.volume.0 0 (omega arith), w)
      (any_append (same_number x.0) (map place_number (placed_on e.placement)) (replicate (24 - length (placed_on e.placement)) 0)
      ∙ rw (zeros (24 - length (placed_on e.placement)), any_map place_number (placed_on e.placement) (same_number x.0) (same_relay x) (λ y. refl))
      (or-false (any_of (same_relay x) (placed_on e.placement)))))
      (λ w.
      let v : e.volume.0 ≡ 0 = omega (arith, ltb-false 0 e.volume.0 w) in
      rw v (zeros 24))
      (pass_or_fail (used_entry e))
