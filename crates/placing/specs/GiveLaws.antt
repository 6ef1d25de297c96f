-- Room given back entry by entry: what each entry gives back in turn is what `lightened` says of all of them, since a difference less a number is
-- the difference of the sum. Assumes nothing.
use Rattle.std.specs.Prelude.{◌≡◌, refl, Bool, List, [], ◌∷◌, map, ℕ, ◌+◌, ◌-◌, ◌<◌}
use Rattle.std.proofs.Common.{sym, ◌∙◌, lt-ltb, le-ltb}
use Rattle.std.proofs.Math.Bool.{true, false, cond}
use native.Mathlib.Omega.{arith}
use Rattle.lists.specs.Lists.{bit, sum_of}
use Rattle.rules.specs.declared.Volume.{Volume}
use Rattle.rules.specs.declared.Entry.{Entry}
use Rattle.rules.specs.declared.Relay.{Relay}
use Rattle.rules.specs.Tables.{used_entry, with_room}
use Rattle.rules.specs.Relays.{holds_shard, shard_bytes, bytes_on, shards_on, lightened}
use Rattle.placing.specs.Room.{lightened_by}

-- a relay with the same room twice less
less_twice : (r : Relay) (a b c d : ℕ) → with_room r (r.used - (a + b)) (r.held - (c + d)) ≡ with_room r (r.used - a - b) (r.held - c - d)
less_twice r a b c d =
    let u : r.used - (a + b) ≡ r.used - a - b = omega arith in
    let h : r.held - (c + d) ≡ r.held - c - d = omega arith in
    rw (u, h)

module _ (vs : List Volume) where
  -- no entry gives nothing back
  pub after_none : (r : Relay) → lightened vs [] r ≡ r
  unfolding lightened sum_of
  after_none r =
      let u : r.used - 0 ≡ r.used = omega arith in
      let h : r.held - 0 ≡ r.held = omega arith in
      rw (u, h)

  -- one entry gives back, then the others
  pub after_first : (e : Entry) (es : List Entry) (r : Relay) → lightened vs (e ∷ es) r ≡ lightened vs es (lightened vs (e ∷ []) r)
  unfolding lightened sum_of
  after_first e es r =
      let n = r.no in
      let a = bytes_on vs n e in
      let c = shards_on n e in
      let p : a + 0 ≡ a = omega arith in
      let q : c + 0 ≡ c = omega arith in
      rw (p, q) (less_twice r a (sum_of (bytes_on vs n) es) c (sum_of (shards_on n) es))

  -- what a used entry gives back, by its placement and the bytes of its shards
  pub after_used : (e : Entry) (r : Relay) → used_entry e ≡ true → lightened vs (e ∷ []) r ≡ lightened_by (shard_bytes vs e) e.placement r
  unfolding lightened sum_of bytes_on shards_on lightened_by
  after_used e r u = rw u (go (holds_shard r.no e.placement))
    where
      go : (b : Bool) → with_room r (r.used - (cond b (shard_bytes vs e) 0 + 0)) (r.held - (bit b + 0))
          ≡ cond b (with_room r (r.used - shard_bytes vs e) (r.held - 1)) r
      go true = let p : shard_bytes vs e + 0 ≡ shard_bytes vs e = omega arith in rw p
      go false =
          let x : r.used - 0 ≡ r.used = omega arith in
          let y : r.held - 0 ≡ r.held = omega arith in
          rw (x, y)

  -- a free one gives nothing back
  pub after_free : (e : Entry) (r : Relay) → used_entry e ≡ false → lightened vs (e ∷ []) r ≡ r
  unfolding lightened sum_of bytes_on shards_on
  after_free e r u =
      let x : r.used - 0 ≡ r.used = omega arith in
      let y : r.held - 0 ≡ r.held = omega arith in
      rw (u, x, y)

pub map_same : {A : Type 0} (f : A → A) (l : List A) → ((x : A) → f x ≡ x) → map f l ≡ l
map_same f [] e = refl
map_same f (x ∷ xs) e = rw (e x, map_same f xs e)

pub map_agrees : {A : Type 0} (f g : A → A) (l : List A) → ((x : A) → f x ≡ g x) → map f l ≡ map g l
map_agrees f g [] e = refl
map_agrees f g (x ∷ xs) e = rw (e x, map_agrees f g xs e)

-- all of one entry's room, as a list of relays
module _ (vs : List Volume) (e : Entry) (rs out : List Relay) where
  pub entry_free : e.volume.0 ≡ 0 → rs ≡ map (lightened vs (e ∷ [])) rs
  entry_free u =
      let free : used_entry e ≡ false = le-ltb 0 e.volume.0 (omega arith) in
      sym (map_same (lightened vs (e ∷ [])) rs (λ r. after_free vs e r free))

  pub entry_used : (bytes : ℕ) → (e.volume.0 ≡ 0 → ⊥) → bytes ≡ shard_bytes vs e → out ≡ map (lightened_by bytes e.placement) rs
      → out ≡ map (lightened vs (e ∷ [])) rs
  entry_used bytes u f q =
      let some : 0 < e.volume.0 = omega arith in
      let used : used_entry e ≡ true = lt-ltb 0 e.volume.0 some in
      q ∙ rw f (map_agrees (lightened_by (shard_bytes vs e) e.placement) (lightened vs (e ∷ [])) rs (λ r. sym (after_used vs e r used)))
