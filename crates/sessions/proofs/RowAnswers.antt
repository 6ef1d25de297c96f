-- What each rule on a session answers: `X-none` where there is no row, `X-at` at the row that there is. What a function said of all tables holds of
-- these; and the answers that hold what another function of the code made. Assumes nothing.
use Rattle.std.specs.Prelude.{Option, Some, None}
use mathlib.Core.List.{List}
use mathlib.Core.Bool.{Bool, true, false, not}
use mathlib.Core.Path.{◌≡◌, refl, sym, ◌∙◌}
use Prim.Native.Nat.{ℕ}
use borrow.Author.Tests.{not-true, not-false}
use lib.ListN.{get_or, take}
use lib.Seq.{take_all}
use Rattle.lists.specs.Lists.{Hit, hit, miss, first_at}
use Rattle.lists.specs.AnswerLaws.{NoRow, AtRow, no_row, at_row}
use Rattle.lists.specs.SearchLaws.{first_row_lem, first_miss}
use Rattle.text.specs.Text.{path_limit, is_path}
use Rattle.text.specs.TextLaws.{path_fits}
use Rattle.rules.specs.declared.VolumeNo.{VolumeNo}
use Rattle.rules.specs.declared.TokenNo.{TokenNo}
use Rattle.rules.specs.declared.Hash.{Hash}
use Rattle.rules.specs.declared.Scope.{Scope}
use Rattle.rules.specs.declared.Volume.{Volume}
use Rattle.rules.specs.declared.Token.{Token}
use Rattle.rules.specs.declared.Put.{Put}
use Rattle.rules.specs.declared.Session.{Session}
use Rattle.rules.specs.declared.Tables.{Tables}
use Rattle.rules.specs.Numbers.{NO_TOKEN, STATE}
use Rattle.rules.specs.Tables.{is_volume, is_token, is_put, staged, volume_of, token_of}
use Rattle.rules.specs.Scope.{in_window}
use Rattle.rules.specs.Outcome.{slot_refused, slot_accepted}
use Rattle.rules.specs.SessionCalls.{open_rule, open_token, open_volume, new_put, stage_rule, stage_token, stage_put, abandon_rule}
use Rattle.rows.specs.Blank.{blank_volume, blank_token, blank_put}
use Rattle.sessions.specs.declared.SessionOutcome.{SessionOutcome}
use Rattle.sessions.specs.Parts.{on_session}
use Rattle.rows.specs.Links.{row_if}
use Rattle.sessions.specs.Rows.{open_found, stage_found}
use Rattle.sessions.specs.RowLaws.{open_by_row, stage_by_row}

module _ (t : Tables) (r : SessionOutcome) where
  -- a refusal, success with a session that another function made, and abandon: said of all tables
  pub refuses : (s : Session) (n : ℕ) → ((u : Tables) → on_session u r ≡ slot_refused u s n) → on_session t r ≡ slot_refused t s n
  refuses s n f = f t

  pub accepts : (a b : Session) → ((u : Tables) → on_session u r ≡ slot_accepted 0 u a) → a ≡ b → on_session t r ≡ slot_accepted 0 t b
  accepts a b f e = f t ∙ rw e

  pub abandons : (s : Session) → ((u : Tables) → on_session u r ≡ abandon_rule u s) → on_session t r ≡ abandon_rule t s
  abandons s f = f t

  -- the token's row, which the code was handed, if it is there
  module _ (s : Session) (there : Bool) (k : Token) where
    pub open_none : not there ≡ true → ((u : Tables) → on_session u r ≡ slot_refused u s NO_TOKEN) → on_session t r ≡ open_token t s (row_if there k)
    unfolding open_token
    open_none w f = f t ∙ sym (rw (not-true there w))

    pub open_at : (clock : ℕ) (volumes : List Volume) → not there ≡ false → t.clock ≡ clock → t.volumes ≡ volumes
        → ((u : Tables) → u.clock ≡ clock → u.volumes ≡ volumes → on_session u r ≡ open_token u s (hit 0 k)) → on_session t r ≡ open_token t s (row_if there k)
    open_at clock volumes w g h f = f t g h ∙ sym (rw (not-false there w))

    module _ (path : List ℕ) (size : ℕ) (h : Hash) where
      pub stage_none : not there ≡ true → ((u : Tables) → on_session u r ≡ slot_refused u s NO_TOKEN) → on_session t r ≡ stage_token t s path size h (row_if there k)
      unfolding stage_token
      stage_none w f = f t ∙ sym (rw (not-true there w))

      pub stage_at_lem : not there ≡ false → ((u : Tables) → on_session u r ≡ stage_token u s path size h (hit 0 k))
          → on_session t r ≡ stage_token t s path size h (row_if there k)
      stage_at_lem w f = f t ∙ sym (rw (not-false there w))

  -- the token's row, which the code searched for: f is what the search said
  module _ (n : TokenNo) (f : Option ℕ) (e : f ≡ first_at (is_token n) 0 t.tokens) where
    unfound : f ≡ None → token_of n t ≡ miss
    unfolding token_of
    unfound w = first_miss (is_token n) t.tokens (sym e ∙ w)

    found : (i : ℕ) → f ≡ Some i → token_of n t ≡ hit i (get_or t.tokens i blank_token)
    unfolding token_of
    found i w = first_row_lem (is_token n) t.tokens i (sym e ∙ w) blank_token

    pub opens_none : (s : Session) → f ≡ None
        → ((u : Tables) → u.clock ≡ t.clock → u.volumes ≡ t.volumes → on_session u r ≡ open_found u s miss) → on_session t r ≡ open_rule n t s
    opens_none s w g = g t refl refl ∙ open_by_row t s n false 0 blank_token (unfound w)

    pub opens_at : (s : Session) (i : ℕ) → f ≡ Some i
        → ((u : Tables) → u.clock ≡ t.clock → u.volumes ≡ t.volumes → on_session u r ≡ open_found u s (hit 0 (get_or t.tokens i blank_token)))
        → on_session t r ≡ open_rule n t s
    opens_at s i w g = g t refl refl ∙ open_by_row t s n true i (get_or t.tokens i blank_token) (found i w)

  module _ (s : Session) (f : Option ℕ) (e : f ≡ first_at (is_token s.token) 0 t.tokens) (path : List ℕ) (size : ℕ) (h : Hash) where
    pub stages_none : f ≡ None → ((u : Tables) → on_session u r ≡ stage_found path size h u s miss) → on_session t r ≡ stage_rule path size h t s
    stages_none w g = g t ∙ stage_by_row t s path size h false 0 blank_token (unfound s.token f e w)

    pub stages_at : (i : ℕ) → f ≡ Some i → ((u : Tables) → on_session u r ≡ stage_found path size h u s (hit 0 (get_or t.tokens i blank_token)))
        → on_session t r ≡ stage_rule path size h t s
    stages_at i w g = g t ∙ stage_by_row t s path size h true i (get_or t.tokens i blank_token) (found s.token f e i w)

  -- the volume's row, in the volumes that the code was handed
  module _ (s : Session) (k : TokenNo) (n : VolumeNo) (volumes : List Volume) (e : t.volumes ≡ volumes) (f : Option ℕ) (g : f ≡ first_at (is_volume n) 0 volumes) where
    pub volume_none : f ≡ None → ((u : Tables) → on_session u r ≡ slot_refused u s STATE) → on_session t r ≡ open_volume t s k (volume_of n t)
    unfolding open_volume volume_of
    volume_none w q = no_row (open_volume t s k) (is_volume n) t.volumes f (on_session t r) (rw e g) w (q t)

    pub volume_at : (i : ℕ) → f ≡ Some i → ((u : Tables) → on_session u r ≡ open_volume u s k (hit 0 (get_or volumes i blank_volume)))
        → on_session t r ≡ open_volume t s k (volume_of n t)
    unfolding open_volume volume_of
    volume_at i w q = at_row (open_volume t s k) (is_volume n) t.volumes blank_volume f (on_session t r) i (rw e g) w (rw (← e) at (q t))

  -- a path that is one is stored whole
  pub whole_path : (s : Session) (path : List ℕ) (size : ℕ) (h : Hash) (p : Put) (q : Hit Put) → is_path path ≡ true → p ≡ new_put (take path_limit path) size h
      → ((u : Tables) → on_session u r ≡ stage_put u s p q) → on_session t r ≡ stage_put t s (new_put path size h) q
  whole_path s path size h p q e f g = g t ∙ rw (f, take_all path_limit path (path_fits path e))

module _ (t : Tables) (s : Session) (p : Put) (path : List ℕ) where
  pub put_none : NoRow (stage_put t s p) (is_put path) (staged s)
  put_none = no_row (stage_put t s p) _ _

  pub put_at : AtRow (stage_put t s p) (is_put path) (staged s) blank_put
  put_at = at_row (stage_put t s p) _ _ _

-- a token's window, at the clock that the code was handed: b is what a function said of it
module _ (b : Bool) (f : Scope) (clock : ℕ) (t : Tables) (e : t.clock ≡ clock) (g : b ≡ in_window clock f) where
  pub in_window_lem : not b ≡ false → in_window t.clock f ≡ true
  in_window_lem w = rw e (sym g ∙ not-false b w)

  pub no_window : not b ≡ true → in_window t.clock f ≡ false
  no_window w = rw e (sym g ∙ not-true b w)
