-- What every call keeps of the tables of a sound desk, and what it may change beside: the clock, the deposits and the last numbers, which
-- grow. Assumes nothing.
use Rattle.std.specs.Prelude.{◌≡◌, refl, true, ℕ, length}
use Rattle.std.proofs.Common.{arith}
use Rattle.lists.specs.TestLaws.{all_weaker}
use Rattle.rules.specs.declared.Session.{Session}
use Rattle.rules.specs.declared.Tables.{Tables}
use Rattle.rules.specs.declared.SlotOutcome.{SlotOutcome}
use Rattle.rules.specs.Limits.{put_rows}
use Rattle.rules.specs.Fresh.{fresh_session}
use Rattle.rules.specs.Sound.{sound_counts, sound_volume, sound_entry, sound_token, sound_relay, sound_session}
use Rattle.rules.proofs.Laws.SoundParts.{Parts}
use Rattle.rules.proofs.Laws.Shape.{Shape}
use Rattle.rules.proofs.Laws.Family.{FamilyInOneVolume}
use Rattle.rules.proofs.Laws.RowFacts.{idle_session}
use Rattle.rules.proofs.Laws.RowsKept.{Grown, grown_self, volume_grown, entry_grown, token_stays, relay_grown}

-- the tables pass their test and have their rows
pub record Whole (t : Tables) : Type 0 where
  pub parts : Parts t
  pub shape : Shape t

-- the tables u are whole, the counts have grown, and families are in one volume where they were
pub record Keeps (t u : Tables) : Type 0 where
  pub whole : Whole u
  pub grown : Grown t u
  pub family : FamilyInOneVolume t → FamilyInOneVolume u

-- a refusal leaves the tables as they were
pub keeps_self : {t : Tables} → Whole t → Keeps t t
keeps_self {t} w = record { whole = w; grown = grown_self t; family = λ f. f }

-- one change after another
pub keeps_on : {t u w : Tables} → Keeps t u → Keeps u w → Keeps t w
keeps_on f g =
    let a = f.grown in
    let b = g.grown in
    record { whole = g.whole; grown = omega arith; family = λ h. g.family (f.family h) }

-- all that holds of the tables of a reached desk
pub record Invariant (t : Tables) : Type 0 where
  pub parts : Parts t
  pub shape : Shape t
  pub family : FamilyInOneVolume t

-- the tables u may follow t
pub record Follows (t u : Tables) : Type 0 where
  pub invariant : Invariant u
  pub grown : Grown t u

pub follows_self : {t : Tables} → Invariant t → Follows t t
follows_self {t} i = record { invariant = i; grown = grown_self t }

-- what keeps the tables whole keeps the invariant
pub whole_of : {t : Tables} → Invariant t → Whole t
whole_of i = record { parts = i.parts; shape = i.shape }

pub follows : {t u : Tables} → Invariant t → Keeps t u → Follows t u
follows i k = record {
  invariant = record { parts = k.whole.parts; shape = k.whole.shape; family = k.family i.family };
  grown = k.grown;
}

-- the tables with other counts: the clock, the last numbers of volumes, tokens and relays, and the deposits
abbrev pub with_counts : Tables → ℕ → ℕ → ℕ → ℕ → ℕ → Tables
with_counts t c v k r d = record {
  clock = c;
  rate = t.rate;
  volumes = t.volumes;
  entries = t.entries;
  tokens = t.tokens;
  relays = t.relays;
  last_volume = v;
  last_token = k;
  last_relay = r;
  deposits = d;
}

-- counts within their limits that grow
pub counts_grow : (t : Tables) (c v k r d : ℕ) → Whole t → Grown t (with_counts t c v k r d) → sound_counts (with_counts t c v k r d) ≡ true
    → Keeps t (with_counts t c v k r d)
counts_grow t c v k r d i g s =
    let u = with_counts t c v k r d in
    let p = i.parts in
    record {
      grown = g;
      family = λ f. f;
      whole = record {
        shape = record {
          volume_rows_lem = i.shape.volume_rows_lem;
          entry_rows_lem = i.shape.entry_rows_lem;
          token_rows_lem = i.shape.token_rows_lem;
          relay_rows_lem = i.shape.relay_rows_lem;
        };
        parts = record {
          counts = s;
          volumes = all_weaker (sound_volume t) (sound_volume u) t.volumes (volume_grown t u g) p.volumes;
          volume_numbers = p.volume_numbers;
          volume_names = p.volume_names;
          entries = all_weaker (sound_entry t) (sound_entry u) t.entries (entry_grown t u g refl) p.entries;
          entry_paths = p.entry_paths;
          tokens = all_weaker (sound_token t) (sound_token u) t.tokens (token_stays t u g refl refl) p.tokens;
          token_numbers = p.token_numbers;
          relays = all_weaker (sound_relay t) (sound_relay u) t.relays (relay_grown t u g refl refl) p.relays;
          relay_numbers_lem = p.relay_numbers_lem;
        };
      };
    }

-- a slot: its session is sound, and it has its 8 places for puts
pub record SlotSound (t : Tables) (s : Session) : Type 0 where
  pub session : sound_session t s ≡ true
  pub places : length s.puts ≡ put_rows

-- a call on a slot leaves tables that may follow, and a sound slot
pub record SlotFollows (t : Tables) (o : SlotOutcome) : Type 0 where
  pub tables : Follows t o.tables
  pub slot : SlotSound o.tables o.session

-- a freed slot
pub fresh_slot : (t : Tables) → SlotSound t fresh_session
fresh_slot t = record { session = idle_session t fresh_session refl; places = refl }
