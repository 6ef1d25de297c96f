-- What a commit answers and leaves: a refusal that leaves all as it was, or what follows every check. Assumes nothing.
use Rattle.std.specs.Prelude.{◌≡◌, Bool, cond, List, ℕ, ◌+◌, eqb}
use Rattle.std.proofs.Math.Path.{refl}
use Rattle.std.proofs.Math.Bool.{true, false, not}
use Rattle.std.proofs.Math.Dec.{leb}
use Rattle.std.proofs.lemmas.Bool.{not-false}
use Rattle.lists.specs.Lists.{Hit, miss, hit}
use Rattle.rules.specs.declared.Placement.{Placement}
use Rattle.rules.specs.declared.Volume.{Volume}
use Rattle.rules.specs.declared.Token.{Token}
use Rattle.rules.specs.declared.Relay.{Relay}
use Rattle.rules.specs.declared.Session.{Session}
use Rattle.rules.specs.declared.Tables.{Tables}
use Rattle.rules.specs.declared.SlotOutcome.{SlotOutcome}
use Rattle.rules.specs.Limits.{last_version}
use Rattle.rules.specs.Numbers.{NO_VOLUME, NO_TOKEN, NO_PLACE, WINDOW, STATE, CONFLICT, QUOTA, SIZE, ROOM, RENT, SESSION, SPENT}
use Rattle.rules.specs.Fresh.{fresh_session}
use Rattle.rules.specs.Tables.{busy, staged, volume_of, token_of}
use Rattle.rules.specs.Scope.{in_window}
use Rattle.rules.specs.Outcome.{slot_refused, slot_accepted}
use Rattle.rules.specs.VolumeCalls.{is_active}
use Rattle.rules.specs.Commit.{Placed, no_place, placed, place_all, passes_quotas, passes_size, passes_room, below_rent, committed, commit_placed, commit_limits, commit_token, commit_volume, commit_rule}
use Rattle.rules.proofs.Laws.BranchLaws.{cond_case}

-- a commit that passed every check, and what they found
pub record Accepted (t : Tables) (s : Session) : Type 0 where
  pub volume_row_lem : ℕ
  pub volume : Volume
  pub token_row_lem : ℕ
  pub token : Token
  pub places : List Placement
  pub relays : List Relay
  pub in_use : busy s ≡ true
  pub volume_found_lem : volume_of s.volume t ≡ hit volume_row_lem volume
  pub token_found_lem : token_of s.token t ≡ hit token_row_lem token
  pub window : not (in_window t.clock token.scope) ≡ false
  pub active : not (is_active volume.status) ≡ false
  pub version : not (eqb volume.version s.version) ≡ false
  pub not_spent : leb last_version volume.version ≡ false
  pub quotas : passes_quotas t token (staged s) ≡ false
  pub size : passes_size t volume (staged s) ≡ false
  pub room : passes_room t volume (staged s) ≡ false
  pub rent : below_rent t volume (staged s) ≡ false
  pub placing : place_all t.clock volume.k volume.m (staged s) t.relays ≡ placed places relays

-- the tables that it leaves
abbrev pub tables_of : (t : Tables) (s : Session) → Accepted t s → Tables
tables_of t s a = committed t a.volume_row_lem a.volume a.token (staged s) a.places a.relays

module _ (P : SlotOutcome → Type 0) (t : Tables) (s : Session) (refusal : (n : ℕ) → eqb n 0 ≡ false → P (slot_refused t s n))
    (done : (a : Accepted t s) → P (slot_accepted (a.volume.version + 1) (tables_of t s a) fresh_session)) where
  checked : (b : Bool) (n : ℕ) (o : SlotOutcome) → eqb n 0 ≡ false → (b ≡ false → P o) → P (cond b (slot_refused t s n) o)
  checked b n o z f = cond_case P b (slot_refused t s n) o (λ e. refusal n z) f

  pub commit_case : P (commit_rule t s)
  unfolding commit_rule commit_volume commit_token commit_limits commit_placed
  commit_case = checked (not (busy s)) SESSION _ refl (λ b. on_volume (not-false (busy s) b) (volume_of s.volume t) refl)
    where
      on_token : busy s ≡ true → (i : ℕ) (v : Volume) → volume_of s.volume t ≡ hit i v → (h : Hit Token) → token_of s.token t ≡ h
          → P (commit_token t s i v h)
      on_token u i v e miss f = refusal NO_TOKEN refl
      on_token u i v e (hit j k) f =
          checked (not (in_window t.clock k.scope)) WINDOW _ refl
          (λ a.
          checked (not (is_active v.status)) STATE _ refl
          (λ b.
          checked (not (eqb v.version s.version)) CONFLICT _ refl
          (λ c.
          checked (leb last_version v.version) SPENT _ refl
          (λ d.
          checked (passes_quotas t k (staged s)) QUOTA _ refl
          (λ q.
          checked (passes_size t v (staged s)) SIZE _ refl
          (λ z.
          checked (passes_room t v (staged s)) ROOM _ refl
          (λ r.
          checked (below_rent t v (staged s)) RENT _ refl
          (λ x. on_placed a b c d q z r x (place_all t.clock v.k v.m (staged s) t.relays) refl))))))))
        where
          on_placed : not (in_window t.clock k.scope) ≡ false → not (is_active v.status) ≡ false
              → not (eqb v.version s.version) ≡ false → leb last_version v.version ≡ false → passes_quotas t k (staged s) ≡ false
              → passes_size t v (staged s) ≡ false → passes_room t v (staged s) ≡ false → below_rent t v (staged s) ≡ false → (p : Placed)
              → place_all t.clock v.k v.m (staged s) t.relays ≡ p → P (commit_placed t s i v k p)
          on_placed a b c d q z r x no_place w = refusal NO_PLACE refl
          on_placed a b c d q z r x (placed places rs) w =
              done
              (record {
                volume_row_lem = i;
                volume = v;
                token_row_lem = j;
                token = k;
                places = places;
                relays = rs;
                in_use = u;
                volume_found_lem = e;
                token_found_lem = f;
                window = a;
                active = b;
                version = c;
                not_spent = d;
                quotas = q;
                size = z;
                room = r;
                rent = x;
                placing = w;
              })

      on_volume : busy s ≡ true → (h : Hit Volume) → volume_of s.volume t ≡ h → P (commit_volume t s h)
      on_volume u miss e = refusal NO_VOLUME refl
      on_volume u (hit i v) e = on_token u i v e (token_of s.token t) refl
