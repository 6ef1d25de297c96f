-- Rows whose numbers the code compares with the limits in place. Assumes nothing.
use mathlib.Core.Path.{◌≡◌, refl, sym}
use mathlib.Core.Bool.{true, false}
use mathlib.Core.List.{List}
use Prim.Native.Nat.{ℕ, ◌+◌, ◌<◌, ◌≤◌}
use borrow.Author.Tests.{ne_eqb, lt-leb, le-leb}
use lib.ListN.{get_or}
use Rattle.lists.specs.Lists.{all_of}
use Rattle.lists.specs.LoopLaws.{AllLoop, all_failed, all_step}
use Rattle.lists.specs.AnswerLaws.{part_holds}
use Rattle.rules.specs.declared.Token.{Token}
use Rattle.rules.specs.Limits.{used_limit}
use Rattle.rules.specs.Tables.{free_token}
use Rattle.rows.specs.Blank.{blank_token}
use Rattle.surveys.specs.RowLimits.{token_within}

module _ (rows : List Token) (i : ℕ) where
  pub token_over : used_limit < (get_or rows i blank_token).used → ((get_or rows i blank_token).no.0 ≡ 0 → ⊥) → i < 32 → AllLoop token_within rows 32 i
      → false ≡ all_of token_within rows
  unfolding token_within
  token_over w u k h =
      let e = get_or rows i blank_token in
      all_failed blank_token token_within rows 32 i false h k (sym (rw (ne_eqb e.no.0 0 u, lt-leb e.used used_limit w))) refl

  pub token_under : (get_or rows i blank_token).used ≤ used_limit → i < 32 → AllLoop token_within rows 32 i → AllLoop token_within rows 32 (i + 1)
  unfolding token_within
  token_under w k h =
      let e = get_or rows i blank_token in
      all_step blank_token token_within rows 32 i true h k (part_holds (free_token e) _ (le-leb e.used used_limit w)) refl

  pub token_free : (get_or rows i blank_token).no.0 ≡ 0 → i < 32 → AllLoop token_within rows 32 i → AllLoop token_within rows 32 (i + 1)
  unfolding token_within
  token_free w k h = all_step blank_token token_within rows 32 i true h k (sym (rw w)) refl
