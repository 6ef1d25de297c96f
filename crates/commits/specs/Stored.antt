-- Parts of the rule of commit under names of their own, as the code has them. Assumes nothing.
use Rattle.std.specs.Prelude.{◌≡◌, Bool, true, false, List, map, ℕ, ◌+◌, take, get_or, set, Option, Some, None}
use Rattle.rules.specs.declared.Placement.{Placement}
use Rattle.rules.specs.declared.Volume.{Volume}
use Rattle.rules.specs.declared.Entry.{Entry}
use Rattle.rules.specs.declared.Token.{Token}
use Rattle.rules.specs.declared.Relay.{Relay}
use Rattle.rules.specs.declared.Put.{Put}
use Rattle.rules.specs.declared.Session.{Session}
use Rattle.rules.specs.declared.Tables.{Tables}
use Rattle.rules.specs.Numbers.{BAD}
use Rattle.rules.specs.Fresh.{fresh_session}
use Rattle.rules.specs.Tables.{with_version}
use Rattle.rules.specs.Scope.{family}
use Rattle.rules.specs.Relays.{lightened}
use Rattle.rules.specs.Outcome.{success, slot_refused}
use Rattle.rules.specs.Commit.{Placed, no_place, placed, store_all, charged, staged_bytes}
use Rattle.rows.specs.Blank.{blank_volume, blank_token}
use Rattle.entries.specs.Marks.{marked}
use Rattle.commits.specs.declared.CommitOutcome.{CommitOutcome}
use Rattle.commits.specs.declared.Plan.{Plan}
use Rattle.commits.specs.declared.placings.Places.{Places}
use Rattle.commits.specs.Parts.{on_commit}
use Rattle.surveys.specs.RowLimits.{can_store}

-- what placing n puts came to: the placements, one for each put, and the relay table after them
abbrev pub placed_by : ℕ → Option Places → Placed
placed_by n None = no_place
placed_by n (Some x) = placed (take n x.places) x.rows

-- what an accepted commit leaves, part by part, where the marked entries are replaced, v is the volume at row i, k the token, and `rs` are the relays
-- after the placing
pub record StoredAs (volumes : List Volume) (entries : List Entry) (tokens : List Token) (marks : List Bool) (i : ℕ) (v : Volume) (k : Token) (ps : List Put)
    (places : List Placement) (rs : List Relay) (o : CommitOutcome) : Type 0 where
  pub answer : o.answer ≡ success (v.version + 1)
  pub newer : o.volumes ≡ set volumes i (with_version v (v.version + 1))
  pub stored : o.entries ≡ store_all v.no ps places entries
  pub charges : o.tokens ≡ map (charged (family tokens k) (staged_bytes ps)) tokens
  pub lighter : o.relays ≡ map (lightened volumes (marked marks entries)) rs
  pub freed : o.session ≡ fresh_session

-- what storing by a plan leaves: the session's puts stored, each with the plan's place of its index; or 1 and nothing changed
pub record StoredBy (t : Tables) (s : Session) (x : Plan) (o : CommitOutcome) : Type 0 where
  pub stored : can_store t.volumes t.tokens s x.volume x.token ≡ true
      → StoredAs t.volumes t.entries t.tokens x.marks x.volume (get_or t.volumes x.volume blank_volume)
      (get_or t.tokens x.token blank_token) (take s.count s.puts) (take s.count x.places) x.relays o
  pub kept : can_store t.volumes t.tokens s x.volume x.token ≡ false → on_commit t o ≡ slot_refused t s BAD
