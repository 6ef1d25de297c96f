-- A value made of fresh parts is the fresh one, and an answer made with a fresh hash is the answer meant: the premises are what the functions that
-- made the parts said of them. Assumes nothing.
use mathlib.Core.Path.{◌≡◌, ◌∙◌}
use Prim.Native.Nat.{ℕ}
use lib.ListN.{replicate}
use Rattle.text.specs.Text.{Text}
use Rattle.rules.specs.declared.Hash.{Hash}
use Rattle.rules.specs.declared.Placement.{Placement}
use Rattle.rules.specs.declared.Volume.{Volume}
use Rattle.rules.specs.declared.Entry.{Entry}
use Rattle.rules.specs.declared.Token.{Token}
use Rattle.rules.specs.declared.Relay.{Relay}
use Rattle.rules.specs.declared.Put.{Put}
use Rattle.rules.specs.declared.Session.{Session}
use Rattle.rules.specs.declared.Tables.{Tables}
use Rattle.rules.specs.declared.Desk.{Desk}
use Rattle.rules.specs.declared.Answer.{Answer}
use Rattle.rules.specs.Limits.{volume_rows, entry_rows, token_rows, relay_rows, slot_rows, put_rows}
use Rattle.rules.specs.Fresh.{no_volume, no_token, fresh_text, fresh_hash, fresh_placement, fresh_entry, fresh_volume, fresh_token, fresh_relay, fresh_put, fresh_session, fresh_tables, fresh_desk}
use Rattle.rules.specs.Outcome.{refusal, success, success_with}

pub entry_made : (p : Text) (h : Hash) (w : Placement) → p ≡ fresh_text → h ≡ fresh_hash → w ≡ fresh_placement
    → ◌≡◌ {A = Entry} (record { volume = no_volume; path = p; size = 0; hash = h; placement = w }) fresh_entry
entry_made p h w e f g = rw (e, f, g)

pub put_made : (p : Text) (h : Hash) → p ≡ fresh_text → h ≡ fresh_hash → ◌≡◌ {A = Put} (record { path = p; size = 0; hash = h }) fresh_put
put_made p h e f = rw (e, f)

pub session_made : (p : Put) → p ≡ fresh_put
    → ◌≡◌ {A = Session} (record { token = no_token; volume = no_volume; version = 0; count = 0; puts = replicate put_rows p }) fresh_session
session_made p e = rw e

pub tables_made : (rate : ℕ) (v : Volume) (e : Entry) (k : Token) (r : Relay) → v ≡ fresh_volume → e ≡ fresh_entry → k ≡ fresh_token → r ≡ fresh_relay
    → ◌≡◌ {A = Tables}
    (record {
      clock = 0;
      rate = rate;
      volumes = replicate volume_rows v;
      entries = replicate entry_rows e;
      tokens = replicate token_rows k;
      relays = replicate relay_rows r;
      last_volume = 0;
      last_token = 0;
      last_relay = 0;
      deposits = 0;
    })
    (fresh_tables rate)
tables_made rate v e k r ev ee ek er = rw (ev, ee, ek, er)

pub desk_made : (rate : ℕ) (t : Tables) (s : Session) → t ≡ fresh_tables rate → s ≡ fresh_session
    → ◌≡◌ {A = Desk} (record { tables = t; sessions = replicate slot_rows s }) (fresh_desk rate)
desk_made rate t s e f = rw (e, f)

pub refusal_made : (n : ℕ) (h : Hash) → h ≡ fresh_hash → ◌≡◌ {A = Answer} (record { number = n; value = 0; hash = h }) (refusal n)
refusal_made n h e = rw e

pub success_made : (v : ℕ) (h : Hash) (r : Answer) → h ≡ fresh_hash → r ≡ success_with v h → r ≡ success v
success_made v h r e f = f ∙ rw e

pub ruleset made = (entry_made, put_made, session_made, tables_made, desk_made, refusal_made, success_made)
