-- What storing rests on, and what it leaves, as the code has them. Assumes nothing.
use mathlib.Core.Path.{◌≡◌, sym, ◌∙◌}
use mathlib.Core.Bool.{Bool, true, false, not, ◌&&◌}
use mathlib.Core.List.{List}
use Prim.Native.Nat.{ℕ, ◌<◌, ◌≤◌}
use borrow.Author.Tests.{not-true, not-false, ltb-true}
use lib.Dec.{ltb}
use lib.ListN.{take, get_or}
use Rattle.lists.specs.Lists.{all_of}
use Rattle.lists.specs.BoolLaws.{and_left, and_right, not_both}
use Rattle.rules.specs.declared.Volume.{Volume}
use Rattle.rules.specs.declared.Token.{Token}
use Rattle.rules.specs.declared.Session.{Session}
use Rattle.rules.specs.declared.Tables.{Tables}
use Rattle.rules.specs.Limits.{volume_rows, token_rows, last_version}
use Rattle.rules.specs.Numbers.{BAD}
use Rattle.rules.specs.Outcome.{slot_refused}
use Rattle.rows.specs.Blank.{blank_volume, blank_token}
use Rattle.commits.specs.declared.CommitOutcome.{CommitOutcome}
use Rattle.commits.specs.declared.Plan.{Plan}
use Rattle.commits.specs.Parts.{on_commit}
use Rattle.surveys.specs.RowLimits.{token_within, put_within, session_within, can_store}
use Rattle.commits.specs.Stored.{StoredAs, StoredBy}
use Rattle.commits.specs.CommitSteps.{puts_ok, count_ok}

-- r said whether the puts can be stored
module _ (volumes : List Volume) (tokens : List Token) (s : Session) (i j : ℕ) (r : Bool) (e : r ≡ can_store volumes tokens s i j) (g : not r ≡ false) where
  abbrev two : Bool
  two = ltb i volume_rows && ltb (get_or volumes i blank_volume).version last_version

  abbrev four : Bool
  four = two && session_within s && all_of token_within tokens

  told : (four && ltb j token_rows) ≡ true
  unfolding can_store
  told = sym e ∙ not-false r g

  pub store_token : j < 32
  store_token = ltb-true j token_rows (and_right four (ltb j token_rows) told)

  four_ok : four ≡ true
  four_ok = and_left four (ltb j token_rows) told

  pub store_tokens : all_of token_within tokens ≡ true
  store_tokens = and_right (two && session_within s) (all_of token_within tokens) four_ok

  three_ok : (two && session_within s) ≡ true
  three_ok = and_left (two && session_within s) (all_of token_within tokens) four_ok

  session_in_lem : session_within s ≡ true
  session_in_lem = and_right two (session_within s) three_ok

  pub store_puts : all_of put_within (take s.count s.puts) ≡ true
  store_puts = puts_ok s session_in_lem

  pub store_count : s.count ≤ 8
  store_count = count_ok s session_in_lem

  pub store_version : (get_or volumes i blank_volume).version < last_version
  store_version =
      ltb-true (get_or volumes i blank_volume).version last_version
      (and_right (ltb i volume_rows) (ltb (get_or volumes i blank_volume).version last_version) (and_left two (session_within s) three_ok))

  pub store_volume : i < 8
  store_volume =
      ltb-true i volume_rows
      (and_left (ltb i volume_rows) (ltb (get_or volumes i blank_volume).version last_version) (and_left two (session_within s) three_ok))

-- what storing by the plan x leaves
module _ (t : Tables) (s : Session) (x : Plan) (r : Bool) (e : r ≡ can_store t.volumes t.tokens s x.volume x.token) (o : CommitOutcome) where
  pub store_done : not r ≡ false
      → StoredAs t.volumes t.entries t.tokens x.marks x.volume (get_or t.volumes x.volume blank_volume)
      (get_or t.tokens x.token blank_token) (take s.count s.puts) (take s.count x.places) x.relays o → StoredBy t s x o
  store_done g h = record { stored = λ q. h; kept = λ q. absurd (not_both (sym e ∙ not-false r g) q) }

  pub store_none : not r ≡ true → on_commit t o ≡ slot_refused t s BAD → StoredBy t s x o
  store_none g h = record { stored = λ q. absurd (not_both q (sym e ∙ not-true r g)); kept = λ q. h }
