-- Volumes change: the tables stay whole where each volume is sound and so is the rest beside them. Assumes nothing.
use Rattle.std.specs.Prelude.{◌≡◌, true, List, ◌≤◌, length}
use Rattle.std.proofs.Common.{◌∙◌, ⊎_elim, arith, ltb-false}
use Rattle.lists.specs.Lists.{all_of}
use Rattle.lists.specs.BoolLaws.{pass_or_fail}
use Rattle.lists.specs.TestLaws.{all_weaker}
use Rattle.rules.specs.declared.Volume.{Volume}
use Rattle.rules.specs.declared.Tables.{Tables}
use Rattle.rules.specs.Tables.{used_volume, with_volumes}
use Rattle.rules.specs.Sound.{sound_volume}
use Rattle.rules.proofs.Laws.RestParts.{Rest, with_volumes_lem}
use Rattle.rules.proofs.Laws.RowFacts.{volume_facts}
use Rattle.rules.proofs.Laws.RowsKept.{Grown, given_le, volume_grown}
use Rattle.rules.proofs.Laws.Invariant.{Whole, Keeps}

-- volumes change: each is sound, and so is the rest of the tables beside them
pub volumes_keep : (t : Tables) (ws : List Volume) → Whole t → length ws ≡ length t.volumes → all_of (sound_volume t) ws ≡ true
    → Rest (with_volumes t ws) → Keeps t (with_volumes t ws)
volumes_keep t ws i l a r =
    let u = with_volumes t ws in
    let g : Grown t u = omega arith in
    record {
      grown = g;
      family = λ f. f;
      whole = record {
        shape = record {
          volume_rows_lem = l ∙ i.shape.volume_rows_lem;
          entry_rows_lem = i.shape.entry_rows_lem;
          token_rows_lem = i.shape.token_rows_lem;
          relay_rows_lem = i.shape.relay_rows_lem;
        };
        parts = with_volumes_lem (all_weaker (sound_volume t) (sound_volume u) ws (volume_grown t u g) a) r;
      };
    }

-- a volume's number is at most the last one
pub volume_le : (t : Tables) (v : Volume) → sound_volume t v ≡ true → v.no.0 ≤ t.last_volume
volume_le t v h =
    ⊎_elim (λ u. given_le t.last_volume v.no.0 (volume_facts t v u h).numbered) (λ u. omega (arith, ltb-false 0 v.no.0 u))
    (pass_or_fail (used_volume v))
