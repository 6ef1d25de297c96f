-- Laws of open and stage: one that was accepted is accepted again on later tables that are ready for what it left, with the same answer and the
-- same slot. Assumes nothing.
use Rattle.std.specs.Prelude.{◌≡◌, true, List, ℕ, ◌≤◌, ◌<◌, length}
use Rattle.std.proofs.Common.{sym, ◌∙◌, ap, arith, eq-eqb}
use Rattle.std.proofs.lemmas.Bool.{false≢true}
use Rattle.std.proofs.Math.Decide.{ℕ_discrete, dec_lt}
use Rattle.std.proofs.Math.ListN.{get_or-eq_default}
use Rattle.lists.specs.Lists.{hit, find}
use Rattle.lists.specs.BoolLaws.{and_both, not_both}
use Rattle.lists.specs.TestLaws.{all_at, clash_at}
use Rattle.rules.specs.declared.TokenNo.{TokenNo}
use Rattle.rules.specs.declared.Hash.{Hash}
use Rattle.rules.specs.declared.Token.{Token}
use Rattle.rules.specs.declared.Session.{Session}
use Rattle.rules.specs.declared.Tables.{Tables}
use Rattle.rules.specs.Fresh.{fresh_token}
use Rattle.rules.specs.Tables.{used_token, staged, is_put, volume_of, token_of}
use Rattle.rules.specs.Outcome.{is_accepted}
use Rattle.rules.specs.Sound.{sound_token, same_token}
use Rattle.rules.specs.SessionCalls.{open_rule, new_put, stage_rule}
use Rattle.rules.proofs.Laws.SoundParts.{Parts}
use Rattle.rules.proofs.Laws.RowFacts.{token_facts}
use Rattle.rules.proofs.Laws.RowsKept.{given_le}
use Rattle.rules.proofs.Laws.Later.{token_row, SameToken, Later, ReadyFor, Ready}
use Rattle.rules.proofs.Laws.FindLaws.{volume_number_lem, token_number_lem, token_used, token_at_lem}
use Rattle.rules.proofs.Laws.FoundLaws.{Opens, opened_by, open_found_lem, open_so, Stages, stage_found_lem, stage_so, stage_put_same, stage_before}

-- A token number that was given stands for the same token, as long as it is in the table.

-- a row that holds a token is in the table
pub row_below : (t : Tables) (j : ℕ) → used_token (token_row t j) ≡ true → j < length t.tokens
row_below t j u = go (dec_lt j (length t.tokens))
  where
    go : Dec (j < length t.tokens) → j < length t.tokens
    go (yes h) = h
    go (no h) = absurd (false≢true (rw (get_or-eq_default t.tokens fresh_token {n = j} (omega arith)) at u))

-- its number was given
pub row_given : (t : Tables) (i : ℕ) → Parts t → used_token (token_row t i) ≡ true → (token_row t i).no.0 ≤ t.last_token
row_given t i p u =
    given_le t.last_token (token_row t i).no.0
    (token_facts t (token_row t i) u (all_at (sound_token t) t.tokens p.tokens i (row_below t i u) fresh_token)).numbered

-- no other row has its number
row_order : (t : Tables) (i j : ℕ) → Parts t → i < j → used_token (token_row t i) ≡ true → (token_row t j).no ≡ (token_row t i).no → ⊥
row_order t i j p h u e =
    not_both (and_both u (eq-eqb (token_row t j).no.0 (token_row t i).no.0 (ap (λ n. n.0) e)))
    (clash_at same_token t.tokens p.token_numbers i j h (row_below t j (rw e u)) fresh_token)

pub row_once : (t : Tables) (i j : ℕ) → Parts t → used_token (token_row t i) ≡ true → (token_row t j).no ≡ (token_row t i).no → j ≡ i
row_once t i j p u e = go (ℕ_discrete j i) (dec_lt i j)
  where
    go : Dec (j ≡ i) → Dec (i < j) → j ≡ i
    go (yes q) c = q
    go (no n) (yes h) = absurd (row_order t i j p h u e)
    go (no n) (no h) = absurd (row_order t j i p (omega arith) (rw e u) (sym e))

pub token_given : (n : TokenNo) (t : Tables) (i : ℕ) (k : Token) → Parts t → token_of n t ≡ hit i k → n.0 ≤ t.last_token
token_given n t i k p f =
    let here = token_at_lem n t i k f in
    rw (here, token_number_lem n t i k f) at (row_given t i p (rw here (token_used n t i k f)))

-- so the token that a search finds later is the one that it found before
pub token_same : (n : TokenNo) (t t' : Tables) (i i' : ℕ) (k k' : Token) → Parts t → Later t t' → token_of n t ≡ hit i k → token_of n t' ≡ hit i' k'
    → SameToken k k'
token_same n t t' i i' k k' p l f f' =
    let here = token_at_lem n t i k f in
    let used : used_token (token_row t i) ≡ true = rw here (token_used n t i k f) in
    let no : k'.no ≡ (token_row t i).no = token_number_lem n t' i' k' f' ∙ sym (token_number_lem n t i k f) ∙ ap (λ x. x.no) (sym here) in
    let same : SameToken (token_row t i') k' = (rw (token_at_lem n t' i' k' f') at (l.kept i')) (token_used n t' i' k' f') (rw no (row_given t i p used)) in
    rw (ap (token_row t) (row_once t i i' p used (same.no ∙ no)) ∙ here) at same

-- An open or a stage, again: accepted on the tables t, and now on later tables t' that are ready for what it left.
module _ (t t' : Tables) (s : Session) (p : Parts t) (l : Later t t') where
  opens_later : (n : TokenNo) (o : Opens n t s) → ReadyFor t' (opened_by o) → (o' : Opens n t' s) × (opened_by o' ≡ opened_by o)
  opens_later n o r =
      let found : token_of n t' ≡ hit r.token_row r.token = ap (λ m. token_of m t') (sym (token_number_lem n t o.token_row o.token o.token_found)) ∙ r.token_found in
      let same = token_same n t t' o.token_row r.token_row o.token r.token p l o.token_found found in
      let at-volume = volume_number_lem o.token.volume t o.volume_row o.volume o.volume_found in
      let no = volume_number_lem o.volume.no t' r.volume_row r.volume r.volume_found in (
        record {
          idle = o.idle;
          token_row = r.token_row;
          token = r.token;
          token_found = found;
          window = r.window;
          write = rw same.scope at o.write;
          volume_row = r.volume_row;
          volume = r.volume;
          volume_found = ap (λ m. volume_of m t') (sym (at-volume ∙ same.volume)) ∙ r.volume_found;
          active = r.active;
        },
        rw (← same.no, no, r.version),
      )

  opened_again : (n : TokenNo) (o : Opens n t s) (o' : Opens n t' s) → opened_by o' ≡ opened_by o
      → ((open_rule n t' s).answer ≡ (open_rule n t s).answer) × ((open_rule n t' s).session ≡ (open_rule n t s).session)
  opened_again n o o' same = (rw (open_so n t s o, open_so n t' s o'), rw (open_so n t s o, open_so n t' s o') same)

  pub open_again : (n : TokenNo) → is_accepted (open_rule n t s).answer ≡ true → Ready t' (open_rule n t s).session
      → ((open_rule n t' s).answer ≡ (open_rule n t s).answer) × ((open_rule n t' s).session ≡ (open_rule n t s).session)
  open_again n a ready =
      let o = open_found_lem n t s a in
      let r = opens_later n o ((rw (open_so n t s o) at ready) (token_used n t o.token_row o.token o.token_found)) in
      opened_again n o r.0 r.1

  stages_later : (path : List ℕ) (size : ℕ) → Stages path size t s → Ready t' s → Stages path size t' s
  stages_later path size o ready =
      let r = ready o.running in
      let same = token_same s.token t t' o.token_row r.token_row o.token r.token p l o.token_found r.token_found in
      record {
        good = o.good;
        running = o.running;
        token_row = r.token_row;
        token = r.token;
        token_found = r.token_found;
        covered = rw same.scope at o.covered;
      }

  staged_again : (path : List ℕ) (size : ℕ) (x : Hash) → Stages path size t s → Stages path size t' s
      → ((stage_rule path size x t' s).answer ≡ (stage_rule path size x t s).answer) × ((stage_rule path size x t' s).session ≡ (stage_rule path size x t s).session)
  staged_again path size x o o' = rw (stage_so path size x t s o, stage_so path size x t' s o') (stage_put_same t t' s (new_put path size x) (find (is_put path) (staged s)))

  pub stage_again : (path : List ℕ) (size : ℕ) (x : Hash) → is_accepted (stage_rule path size x t s).answer ≡ true → Ready t' (stage_rule path size x t s).session
      → ((stage_rule path size x t' s).answer ≡ (stage_rule path size x t s).answer) × ((stage_rule path size x t' s).session ≡ (stage_rule path size x t s).session)
  stage_again path size x a ready =
      let o = stage_found_lem path size x t s a in
      staged_again path size x o (stages_later path size o (stage_before path size x t s a t' ready))
