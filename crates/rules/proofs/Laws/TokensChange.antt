-- Tokens change: the tables stay whole where each new row is sound and no two have one number, and where tokens go with their descendants.
-- Assumes nothing.
use Rattle.std.specs.Prelude.{◌≡◌, refl, Bool, true, List, length}
use Rattle.std.proofs.Common.{◌∙◌, arith}
use Rattle.lists.specs.Lists.{all_of, no_clash}
use Rattle.lists.specs.TestLaws.{all_weaker}
use Rattle.rules.specs.declared.Token.{Token}
use Rattle.rules.specs.declared.Tables.{Tables}
use Rattle.rules.specs.Fresh.{fresh_token}
use Rattle.rules.specs.Tables.{with_tokens, cleared}
use Rattle.rules.specs.Sound.{sound_volume, sound_entry, sound_token, sound_relay, same_token}
use Rattle.rules.proofs.Laws.RestParts.{rest_of}
use Rattle.rules.proofs.Laws.ClearedLaws.{length_cleared}
use Rattle.rules.proofs.Laws.TokensGo.{ParentsStay, tokens_go, family_stays}
use Rattle.rules.proofs.Laws.Family.{FamilyInOneVolume}
use Rattle.rules.proofs.Laws.RowsKept.{Grown, volume_grown, entry_grown, relay_grown}
use Rattle.rules.proofs.Laws.Invariant.{Whole, Keeps}

pub tokens_change : (t : Tables) (ks : List Token) → Whole t → length ks ≡ length t.tokens
    → all_of (sound_token (with_tokens t ks)) ks ≡ true → no_clash same_token ks ≡ true → (FamilyInOneVolume t → FamilyInOneVolume (with_tokens t ks)) → Keeps t (with_tokens t ks)
tokens_change t ks i l a c f =
    let u = with_tokens t ks in
    let g : Grown t u = omega arith in
    let p = i.parts in
    record {
      grown = g;
      family = f;
      whole = record {
        shape = record {
          volume_rows_lem = i.shape.volume_rows_lem;
          entry_rows_lem = i.shape.entry_rows_lem;
          token_rows_lem = l ∙ i.shape.token_rows_lem;
          relay_rows_lem = i.shape.relay_rows_lem;
        };
        parts = record {
          counts = p.counts;
          volumes = all_weaker (sound_volume t) (sound_volume u) t.volumes (volume_grown t u g) p.volumes;
          volume_numbers = p.volume_numbers;
          volume_names = p.volume_names;
          entries = all_weaker (sound_entry t) (sound_entry u) t.entries (entry_grown t u g refl) p.entries;
          entry_paths = p.entry_paths;
          tokens = a;
          token_numbers = c;
          relays = all_weaker (sound_relay t) (sound_relay u) t.relays (relay_grown t u g refl refl) p.relays;
          relay_numbers_lem = p.relay_numbers_lem;
        };
      };
    }

-- tokens go, and the parent of each that stays, stays
pub tokens_leave : (t : Tables) (gone : Token → Bool) → ParentsStay gone t.tokens → Whole t
    → Keeps t (with_tokens t (cleared gone fresh_token t.tokens))
tokens_leave t gone stay i =
    let r = tokens_go gone t stay (rest_of i.parts) in
    tokens_change t (cleared gone fresh_token t.tokens) i (length_cleared gone fresh_token t.tokens) r.tokens r.token_numbers
    (family_stays gone t stay)
