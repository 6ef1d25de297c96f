-- What each rule on a session answers, where the session is kept: `X-none` where there is no row, `X-at` at the row that there is. What a function
-- said of all tables, and of every journal, holds of these. j is the bytes of the journal. Assumes nothing.
use Rattle.std.specs.Prelude.{Option, Some, None}
use mathlib.Core.List.{List}
use mathlib.Core.Bool.{Bool, true, false, ◌&&◌, not}
use mathlib.Core.Path.{◌≡◌, sym, ◌∙◌, ap}
use Prim.Native.Nat.{ℕ, ◌<◌, ◌≤◌}
use borrow.Author.Tests.{not-true, not-false, le-leb, lt-leb}
use lib.ListN.{get_or, take}
use lib.Seq.{take_all}
use Rattle.lists.specs.Lists.{hit, miss, find, first_at}
use Rattle.lists.specs.Bytes.{same_bytes}
use Rattle.lists.specs.AnswerLaws.{no_row, at_row}
use Rattle.lists.specs.SearchLaws.{first_row_lem, first_miss}
use Rattle.text.specs.Text.{path_limit, is_path, text_bytes, covers}
use Rattle.text.specs.TextLaws.{path_fits}
use Rattle.rules.specs.declared.VolumeNo.{VolumeNo}
use Rattle.rules.specs.declared.TokenNo.{TokenNo}
use Rattle.rules.specs.declared.Scope.{Scope}
use Rattle.rules.specs.declared.Hash.{Hash}
use Rattle.rules.specs.declared.Volume.{Volume}
use Rattle.rules.specs.declared.Token.{Token}
use Rattle.rules.specs.declared.Tables.{Tables}
use Rattle.rules.specs.Fresh.{fresh_session, fresh_put}
use Rattle.rules.specs.Numbers.{NO_TOKEN, STATE, ROOM, PREFIX}
use Rattle.rules.specs.Tables.{is_volume, is_put, staged, volume_of}
use Rattle.rules.specs.Scope.{in_window}
use Rattle.rules.specs.Outcome.{slot_refused, slot_accepted}
use Rattle.rules.specs.SessionCalls.{opened, open_token, open_volume, stage_token, stage_put}
use Rattle.rows.specs.Blank.{blank_volume}
use Rattle.rows.specs.Links.{row_if}
use Rattle.kept.specs.declared.KeptPut.{KeptPut}
use Rattle.kept.specs.declared.KeptSession.{KeptSession}
use Rattle.kept.specs.Kept.{bytes_in, text_in, put_in, session_in, fresh_kept_session}
use Rattle.kept_sessions.specs.declared.KeptOutcome.{KeptOutcome}
use Rattle.kept_sessions.specs.Parts.{on_kept_session, kept_opened, kept_again, kept_next, is_kept_put}
use Rattle.kept_sessions.specs.PartLaws.{again_in, next_in_lem, searched}

-- the bytes of a put's text are those of the path
pub same_path_lem : (j path b : List ℕ) (p : KeptPut) (r : Bool) → b ≡ text_bytes (text_in j p.at p.len) → r ≡ same_bytes b path → r ≡ is_kept_put j path p
unfolding is_kept_put is_put
same_path_lem j path b p r e f = rw e at f

-- a path that stands in the journal
pub fits_at : (j b : List ℕ) (at n : ℕ) (r within : Bool) → b ≡ bytes_in j at n → r ≡ (is_path b && within) → r ≡ (is_path (bytes_in j at n) && within)
fits_at j b at n r within e f = rw e at f

module _ (j : List ℕ) (t : Tables) (r : KeptOutcome) where
  -- a refusal, and success with a session that another function made
  pub refuses : (s : KeptSession) (n : ℕ) → ((i : List ℕ) (u : Tables) → on_kept_session i u r ≡ slot_refused u (session_in i s) n) → on_kept_session j t r ≡ slot_refused t (session_in j s) n
  refuses s n f = f j t

  module _ (a : KeptSession) (f : (i : List ℕ) (u : Tables) → on_kept_session i u r ≡ slot_accepted 0 u (session_in i a)) where
    pub accepts_idle : a ≡ fresh_kept_session → on_kept_session j t r ≡ slot_accepted 0 t fresh_session
    accepts_idle e = f j t ∙ rw e

    pub accepts_opened : (n : TokenNo) (v : VolumeNo) (version : ℕ) → a ≡ kept_opened n v version → on_kept_session j t r ≡ slot_accepted 0 t (opened n v version)
    accepts_opened n v version e = f j t ∙ rw e

  -- the token's row, which the code was handed, if it is there
  module _ (s : KeptSession) (there : Bool) (k : Token) where
    pub open_none : not there ≡ true → ((i : List ℕ) (u : Tables) → on_kept_session i u r ≡ slot_refused u (session_in i s) NO_TOKEN)
        → on_kept_session j t r ≡ open_token t (session_in j s) (row_if there k)
    unfolding open_token
    open_none w f = f j t ∙ sym (rw (not-true there w))

    pub open_at : (clock : ℕ) (volumes : List Volume) → not there ≡ false → t.clock ≡ clock → t.volumes ≡ volumes
        → ((i : List ℕ) (u : Tables) → u.clock ≡ clock → u.volumes ≡ volumes → on_kept_session i u r ≡ open_token u (session_in i s) (hit 0 k))
        → on_kept_session j t r ≡ open_token t (session_in j s) (row_if there k)
    open_at clock volumes w g h f = f j t g h ∙ sym (rw (not-false there w))

    module _ (path : List ℕ) (size : ℕ) (h : Hash) where
      pub stage_none : not there ≡ true → ((i : List ℕ) (u : Tables) → on_kept_session i u r ≡ slot_refused u (session_in i s) NO_TOKEN)
          → on_kept_session j t r ≡ stage_token t (session_in j s) path size h (row_if there k)
      unfolding stage_token
      stage_none w f = f j t ∙ sym (rw (not-true there w))

      pub stage_at_lem : not there ≡ false → ((u : Tables) → on_kept_session j u r ≡ stage_token u (session_in j s) path size h (hit 0 k))
          → on_kept_session j t r ≡ stage_token t (session_in j s) path size h (row_if there k)
      stage_at_lem w f = f t ∙ sym (rw (not-false there w))

  -- the volume's row, in the volumes that the code was handed
  module _ (s : KeptSession) (k : TokenNo) (n : VolumeNo) (volumes : List Volume) (e : t.volumes ≡ volumes) (f : Option ℕ) (g : f ≡ first_at (is_volume n) 0 volumes) where
    pub volume_none : f ≡ None → ((i : List ℕ) (u : Tables) → on_kept_session i u r ≡ slot_refused u (session_in i s) STATE)
        → on_kept_session j t r ≡ open_volume t (session_in j s) k (volume_of n t)
    unfolding open_volume volume_of
    volume_none w q = no_row (open_volume t (session_in j s) k) (is_volume n) t.volumes f (on_kept_session j t r) (rw e g) w (q j t)

    pub volume_at : (i : ℕ) → f ≡ Some i → ((i' : List ℕ) (u : Tables) → on_kept_session i' u r ≡ open_volume u (session_in i' s) k (hit 0 (get_or volumes i blank_volume)))
        → on_kept_session j t r ≡ open_volume t (session_in j s) k (volume_of n t)
    unfolding open_volume volume_of
    volume_at i w q = at_row (open_volume t (session_in j s) k) (is_volume n) t.volumes blank_volume f (on_kept_session j t r) i (rw e g) w (rw (← e) at (q j t))

  -- from the token's row on: the path b stands in the journal, and y says whether the token's prefix covers it
  module _ (s : KeptSession) (k : Token) (p : KeptPut) (b : List ℕ) (y : Bool) (e : b ≡ bytes_in j p.at p.len) (f : y ≡ covers (text_bytes k.scope.prefix) b) where
    abbrev path : List ℕ
    path = bytes_in j p.at p.len

    covered : (z : Bool) → y ≡ z → covers (text_bytes k.scope.prefix) path ≡ z
    covered z w = rw e at (sym f ∙ w)

    pub stage_apart : not y ≡ true → ((i : List ℕ) (u : Tables) → on_kept_session i u r ≡ slot_refused u (session_in i s) PREFIX)
        → on_kept_session j t r ≡ stage_token t (session_in j s) path p.size p.hash (hit 0 k)
    unfolding stage_token
    stage_apart w g = g j t ∙ sym (rw (covered false (not-true y w)))

    -- a path that is one is kept whole
    pub stage_under : not y ≡ false → is_path path ≡ true
        → ((u : Tables) → on_kept_session j u r ≡ stage_put u (session_in j s) (put_in j p) (find (is_put b) (staged (session_in j s))))
        → on_kept_session j t r ≡ stage_token t (session_in j s) path p.size p.hash (hit 0 k)
    unfolding stage_token
    stage_under w h g =
        let stored = rw (e, take_all path_limit path (path_fits path h)) at (g t) in
        stored ∙ sym (rw (covered true (not-false y w)))

  -- f is what the search for the path among the puts said
  module _ (s : KeptSession) (p : KeptPut) (path : List ℕ) (f : Option ℕ) (e : f ≡ first_at (is_kept_put j path) 0 (take s.count s.puts)) where
    module _ (w : f ≡ None) where
      no_put : find (is_put path) (staged (session_in j s)) ≡ miss
      no_put = first_miss (is_put path) (staged (session_in j s)) (searched j s path ∙ sym e ∙ w)

      pub stages_full : 8 ≤ s.count → ((i : List ℕ) (u : Tables) → on_kept_session i u r ≡ slot_refused u (session_in i s) ROOM)
          → on_kept_session j t r ≡ stage_put t (session_in j s) (put_in j p) (find (is_put path) (staged (session_in j s)))
      unfolding stage_put
      stages_full h g = g j t ∙ sym (rw (no_put, le-leb 8 s.count h))

      pub stages_next : (a : KeptSession) → s.count < 8 → ((i : List ℕ) (u : Tables) → on_kept_session i u r ≡ slot_accepted 0 u (session_in i a)) → a ≡ kept_next s p
          → on_kept_session j t r ≡ stage_put t (session_in j s) (put_in j p) (find (is_put path) (staged (session_in j s)))
      unfolding stage_put
      stages_next a h g ea = g j t ∙ ap (slot_accepted 0 t) (ap (session_in j) ea ∙ next_in_lem j s p) ∙ sym (rw (no_put, lt-leb 8 s.count h))

    pub stages_again : (i : ℕ) (a : KeptSession) → f ≡ Some i → ((i' : List ℕ) (u : Tables) → on_kept_session i' u r ≡ slot_accepted 0 u (session_in i' a)) → a ≡ kept_again s i p
        → on_kept_session j t r ≡ stage_put t (session_in j s) (put_in j p) (find (is_put path) (staged (session_in j s)))
    unfolding stage_put
    stages_again i a w g ea =
        g j t ∙ ap (slot_accepted 0 t) (ap (session_in j) ea ∙ again_in j s p i)
        ∙ sym (rw (first_row_lem (is_put path) (staged (session_in j s)) i (searched j s path ∙ sym e ∙ w) fresh_put))

-- a token's window, at the clock that the code was handed: b is what a function said of it
module _ (b : Bool) (f : Scope) (clock : ℕ) (t : Tables) (e : t.clock ≡ clock) (g : b ≡ in_window clock f) where
  pub in_window_lem : not b ≡ false → in_window t.clock f ≡ true
  in_window_lem w = rw e (sym g ∙ not-false b w)

  pub no_window : not b ≡ true → in_window t.clock f ≡ false
  no_window w = rw e (sym g ∙ not-true b w)
