-- The first checks of a commit, which read the volumes and the tokens and neither the entries nor the relays: "19 2 4 5 8 9 21". Assumes nothing.
use Rattle.std.specs.Prelude.{◌≡◌, Bool, cond, not, List, ℕ, eqb, leb}
use Rattle.std.proofs.Math.Path.{sym}
use Rattle.std.proofs.Math.Bool.{true, false}
use Rattle.lists.specs.Lists.{Hit, hit, miss, find}
use Rattle.rules.specs.declared.Volume.{Volume}
use Rattle.rules.specs.declared.Token.{Token}
use Rattle.rules.specs.declared.Session.{Session}
use Rattle.rules.specs.declared.Tables.{Tables}
use Rattle.rules.specs.declared.SlotOutcome.{SlotOutcome}
use Rattle.rules.specs.Limits.{last_version}
use Rattle.rules.specs.Numbers.{NO_VOLUME, NO_TOKEN, WINDOW, STATE, CONFLICT, SPENT, SESSION}
use Rattle.rules.specs.Tables.{busy, is_volume, is_token, volume_of, token_of}
use Rattle.rules.specs.Scope.{in_window}
use Rattle.rules.specs.Outcome.{slot_refused}
use Rattle.rules.specs.VolumeCalls.{is_active}
use Rattle.rules.specs.Commit.{commit_limits, commit_token, commit_volume, commit_rule}

-- 5: "clock outside the token's window"; 8: "status doesn't allow the call"; 9: "volume's version isn't the one at opening"; 21: the version has
-- reached its end
unfoldable pub token_fault : ℕ → Volume → ℕ → Token → ℕ
token_fault clock v version k =
    cond (not (in_window clock k.scope)) WINDOW
    (cond (not (is_active v.status)) STATE (cond (not (eqb v.version version)) CONFLICT (cond (leb last_version v.version) SPENT 0)))

-- 4, then 5, 8, 9 and 21
unfoldable pub early_token : ℕ → Session → Volume → Hit Token → ℕ
early_token clock s v miss = NO_TOKEN
early_token clock s v (hit j k) = token_fault clock v s.version k

-- 2
unfoldable pub early_volume : ℕ → List Token → Session → Hit Volume → ℕ
early_volume clock tokens s miss = NO_VOLUME
early_volume clock tokens s (hit i v) = early_token clock s v (find (is_token s.token) tokens)

-- the number of the first of them that fails, or 0
unfoldable pub early_number : ℕ → List Volume → List Token → Session → ℕ
early_number clock volumes tokens s = cond (not (busy s)) SESSION (early_volume clock tokens s (find (is_volume s.volume) volumes))

-- ---- any number but 0 is that of the refusal

module _ (t : Tables) (s : Session) where
  -- of four checks in a row
  four : (a b c d : Bool) (rest : SlotOutcome) (m : ℕ) → m ≡ cond a WINDOW (cond b STATE (cond c CONFLICT (cond d SPENT 0))) → (m ≡ 0 → ⊥)
      → cond a (slot_refused t s WINDOW) (cond b (slot_refused t s STATE) (cond c (slot_refused t s CONFLICT) (cond d (slot_refused t s SPENT) rest))) ≡ slot_refused t s m
  four true b c d rest m e n = sym (rw e)
  four false true c d rest m e n = sym (rw e)
  four false false true d rest m e n = sym (rw e)
  four false false false true rest m e n = sym (rw e)
  four false false false false rest m e n = absurd (n e)

  by_token : (i : ℕ) (v : Volume) (h : Hit Token) (m : ℕ) → m ≡ early_token t.clock s v h → (m ≡ 0 → ⊥) → commit_token t s i v h ≡ slot_refused t s m
  unfolding early_token token_fault commit_token
  by_token i v miss m e n = sym (rw e)
  by_token i v (hit j k) m e n =
      four (not (in_window t.clock k.scope)) (not (is_active v.status)) (not (eqb v.version s.version)) (leb last_version v.version)
      (commit_limits t s i v k) m e n

  by_volume : (h : Hit Volume) (m : ℕ) → m ≡ early_volume t.clock t.tokens s h → (m ≡ 0 → ⊥) → commit_volume t s h ≡ slot_refused t s m
  unfolding early_volume commit_volume token_of
  by_volume miss m e n = sym (rw e)
  by_volume (hit i v) m e n = by_token i v (find (is_token s.token) t.tokens) m e n

  by_slot : (b : Bool) (m : ℕ) → m ≡ cond b SESSION (early_volume t.clock t.tokens s (find (is_volume s.volume) t.volumes)) → (m ≡ 0 → ⊥)
      → cond b (slot_refused t s SESSION) (commit_volume t s (volume_of s.volume t)) ≡ slot_refused t s m
  unfolding volume_of
  by_slot true m e n = sym (rw e)
  by_slot false m e n = by_volume (find (is_volume s.volume) t.volumes) m e n

  pub early_refused : (m : ℕ) → m ≡ early_number t.clock t.volumes t.tokens s → (m ≡ 0 → ⊥) → commit_rule t s ≡ slot_refused t s m
  unfolding early_number commit_rule
  early_refused m e n = by_slot (not (busy s)) m e n
