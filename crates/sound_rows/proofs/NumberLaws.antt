-- Tests of a table's rows by their numbers alone, where the numbers stand in a list of their own. Assumes nothing.
use mathlib.Core.Path.{◌≡◌, refl, sym, ◌∙◌}
use mathlib.Core.Bool.{Bool, true, false, not}
use mathlib.Core.List.{List, map}
use Prim.Native.Nat.{ℕ, ◌+◌, ◌<◌, ◌≤◌}
use borrow.Author.Tests.{not-true, not-false}
use lib.ListN.{length, get_or}
use Rattle.lists.specs.Lists.{all_of, no_clash}
use Rattle.lists.specs.BoolLaws.{and_both}
use Rattle.lists.specs.LoopLaws.{AllLoop, all_start, all_failed, all_step, all_passed, sizes}
use Rattle.rules.specs.declared.Volume.{Volume}
use Rattle.rules.specs.declared.Tables.{Tables}
use Rattle.rules.specs.Tables.{numbered}
use Rattle.rules.specs.Sound.{same_volume, same_token, sound_token, sound_tokens}
use Rattle.rows.specs.Blank.{blank_token}
use Rattle.rows.specs.Links.{token_number, token_parent}
use Rattle.sound_rows.specs.Numbers.{volume_number}
use Rattle.sound_rows.specs.MappedLaws.{clash_mapped, first_fails, next_fails}

-- b is what the test of the numbers said
pub volumes_differ : (b : Bool) (ns : List ℕ) (l : List Volume) → b ≡ no_clash numbered ns → ns ≡ map volume_number l → b ≡ no_clash same_volume l
volumes_differ b ns l h e = rw e at h ∙ clash_mapped volume_number numbered l

-- the loop over the tokens' rows: its lists are those of the tables
pub record TokensLoop (t : Tables) (vs ns ps : List ℕ) (i : ℕ) : Type 0 where
  pub volumes : vs ≡ map volume_number t.volumes
  pub numbers : ns ≡ map token_number t.tokens
  pub parents : ps ≡ map token_parent t.tokens
  pub rows : AllLoop (sound_token t) t.tokens 32 i

-- the tokens' test, by the test of their numbers and the loop over their rows
module _ (t : Tables) (vs ns ps : List ℕ) where
  pub tokens_start : length t.tokens ≡ 32 → vs ≡ map volume_number t.volumes → ns ≡ map token_number t.tokens → ps ≡ map token_parent t.tokens
      → TokensLoop t vs ns ps 0
  tokens_start l d e f = record { volumes = d; numbers = e; parents = f; rows = all_start (sound_token t) t.tokens 32 l }

  module _ (i : ℕ) (h : TokensLoop t vs ns ps i) where
    module _ (k : i < 32) (b : Bool)
        (told : (u : Tables) → vs ≡ map volume_number u.volumes → ns ≡ map token_number u.tokens → ps ≡ map token_parent u.tokens → u.last_token ≡ t.last_token
        → b ≡ sound_token u (get_or t.tokens i blank_token)) where
      pub token_fails : not b ≡ true → false ≡ sound_tokens t
      unfolding sound_tokens
      token_fails w =
          first_fails (all_of (sound_token t) t.tokens) (no_clash same_token t.tokens)
          (sym (all_failed blank_token (sound_token t) t.tokens 32 i b h.rows k (told t h.volumes h.numbers h.parents refl) w))

      pub token_passes : not b ≡ false → TokensLoop t vs ns ps (i + 1)
      token_passes w =
          record { volumes = h.volumes; numbers = h.numbers; parents = h.parents; rows = all_step blank_token (sound_token t) t.tokens 32 i b h.rows k (told t h.volumes h.numbers h.parents refl) w }

module _ (t : Tables) (ns : List ℕ) (b : Bool) (h : b ≡ no_clash numbered ns) (e : ns ≡ map token_number t.tokens) where
  differ : b ≡ no_clash same_token t.tokens
  differ = rw e at h ∙ clash_mapped token_number numbered t.tokens

  pub tokens_clash : not b ≡ true → false ≡ sound_tokens t
  unfolding sound_tokens
  tokens_clash w = next_fails (all_of (sound_token t) t.tokens) (no_clash same_token t.tokens) (sym differ ∙ not-true b w)

  pub tokens_hold : (vs ps : List ℕ) (i : ℕ) → TokensLoop t vs ns ps i → 32 ≤ i → not b ≡ false → true ≡ sound_tokens t
  unfolding sound_tokens
  tokens_hold vs ps i l k w = sym (and_both (sym (all_passed (sound_token t) t.tokens 32 i l.rows k)) (sym differ ∙ not-false b w))

pub ruleset token_rows_lem = (token_fails, token_passes, tokens_start, sizes)
