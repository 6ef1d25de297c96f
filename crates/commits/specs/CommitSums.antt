-- The sums of sizes that a commit tests, and its rent, as its rule has them. Assumes nothing.
use Rattle.std.specs.Prelude.{◌≡◌, refl, Bool, true, List, [], ◌∷◌, map, ℕ, ◌+◌, ◌*◌, ◌<◌, ◌≤◌, ◌^◌, ltb, take, get_or}
use Rattle.std.proofs.Common.{sym, ◌∙◌, ap, arith, get_or-take}
use borrow.Author.Tests.{leb-true}
use Rattle.std.proofs.Math.ListN.{length-take}
use Rattle.lists.specs.Lists.{all_of, sum_of, keep, total}
use Rattle.lists.specs.TestLaws.{all_at}
use Rattle.lists.specs.RowLaws.{sum_total}
use Rattle.lists.specs.LoopLaws.{SumLoop, sum_adds, sum_within}
use Rattle.lists.specs.SumLaws.{sum_le, total_append}
use Rattle.rules.specs.declared.VolumeNo.{VolumeNo}
use Rattle.rules.specs.declared.Volume.{Volume}
use Rattle.rules.specs.declared.Entry.{Entry}
use Rattle.rules.specs.declared.Put.{Put}
use Rattle.rules.specs.declared.Tables.{Tables}
use Rattle.rules.specs.Limits.{size_limit}
use Rattle.rules.specs.Fresh.{fresh_put}
use Rattle.rules.specs.Sound.{shards_fit}
use Rattle.rules.specs.Rent.{size_of, rent_for}
use Rattle.rules.specs.Scope.{passes_cap}
use Rattle.rules.specs.Commit.{put_size, staged_bytes, is_kept, sizes_after, passes_size, below_rent}
use Rattle.rents.specs.WithinLaws.{rent_within_lem}
use Rattle.surveys.specs.RowLimits.{put_within}
use Rattle.surveys.specs.Survey.{kept_bytes}

-- a sum over the first rows of a table: the row's number is added, and the sum is no more than the whole
module _ {A : Type 0} (d : A) (f : A → ℕ) (l : List A) (k n i sum : ℕ) (h : SumLoop f (take k l) n i sum) (w : i < n) where
  low : i < k
  low = omega (arith, h.size, length-take k l)

  pub sum_adds_part : SumLoop f (take k l) n (i + 1) (sum + f (get_or l i d))
  sum_adds_part = sum_adds d f (take k l) n i sum (f (get_or l i d)) (sum + f (get_or l i d)) h w (rw (get_or-take k l i d low)) refl

  pub sum_within_part : sum + f (get_or l i d) ≤ sum_of f (take k l)
  sum_within_part = rw (get_or-take k l i d low) at (sum_within d f (take k l) n i sum h w)

-- the staged sizes
module _ (puts : List Put) (count : ℕ) (few : count ≤ 8) (fit : all_of put_within (take count puts) ≡ true) where
  pub staged_small : staged_bytes (take count puts) ≤ 8 * 2 ^ 36
  unfolding put_within
  staged_small =
      let m =
      sum_le put_size size_limit (take count puts) fresh_put
      (λ j h. leb-true (get_or (take count puts) j fresh_put).size size_limit (all_at put_within (take count puts) fit j h fresh_put)) in
      omega (arith, m, length-take count puts)

-- the sizes after the commit come to the bytes that stay and the staged ones
pub after_total : (n : VolumeNo) (ps : List Put) (es : List Entry) → total (sizes_after n ps es) ≡ kept_bytes n ps es + staged_bytes ps
unfolding sizes_after kept_bytes
after_total n ps es =
    total_append (map size_of (keep (is_kept n ps) es)) (map put_size ps) ∙ ap (λ (m : ℕ). total (map size_of (keep (is_kept n ps) es)) + m) (sym (sum_total put_size ps))

module _ (t : Tables) (v : Volume) (ps : List Put) (kept bytes : ℕ) (e : kept ≡ kept_bytes v.no ps t.entries) (f : bytes ≡ staged_bytes ps) where
  sum : total (sizes_after v.no ps t.entries) ≡ kept + bytes
  sum = after_total v.no ps t.entries ∙ rw (e, f)

  pub size_passes : (b : Bool) → b ≡ passes_cap v.cap (kept + bytes) → b ≡ passes_size t v ps
  unfolding passes_size
  size_passes b q = rw sum q

  pub rent_passes : (b : Bool) → shards_fit v.k v.m ≡ true → kept ≤ 64 * 2 ^ 36 → bytes ≤ 8 * 2 ^ 36 → b ≡ ltb v.balance (rent_for t.rate v ((kept + bytes) ∷ []))
      → b ≡ below_rent t v ps
  unfolding below_rent total
  rent_passes b shards h k q =
      let one = rent_within_lem t.rate v ((kept + bytes) ∷ []) (kept + bytes) (omega arith) shards (omega arith) in
      let all = rent_within_lem t.rate v (sizes_after v.no ps t.entries) (kept + bytes) sum shards (omega arith) in
      let z : rent_for t.rate v ((kept + bytes) ∷ []) ≡ rent_for t.rate v (sizes_after v.no ps t.entries) = cc in
      rw (← z) q
