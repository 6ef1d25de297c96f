-- A token's used bytes are what the accepted commits under it and its descendants added, after any list of calls. Assumes nothing.
use Rattle.std.specs.Prelude.{◌≡◌, refl, Bool, true, false, cond, List, [], ◌∷◌, ◌⊎◌, ℕ, zero, suc, ◌+◌, ◌<◌, ◌≤◌, leb, length, get_or, set}
use Rattle.std.proofs.Common.{sym, ◌∙◌, ap, ap₂, inl, inr, ⊎_elim, arith, eq-eqb, leb-true, leb-false, ltb-false}
use Rattle.std.proofs.lemmas.Bool.{false≢true}
use Rattle.std.proofs.lemmas.List.{length-map}
use Rattle.lists.specs.Lists.{Hit, miss, hit, find, any_of}
use Rattle.lists.specs.BoolLaws.{and_both, not_pass, pass_or_fail}
use Rattle.lists.specs.SearchLaws.{FoundRow, found_row, none_miss, miss_hit}
use Rattle.lists.specs.TestLaws.{at_found, at_none, any_replicate}
use Rattle.rules.specs.declared.TokenNo.{TokenNo}
use Rattle.rules.specs.declared.Token.{Token}
use Rattle.rules.specs.declared.Answer.{Answer}
use Rattle.rules.specs.declared.Session.{Session}
use Rattle.rules.specs.declared.Tables.{Tables}
use Rattle.rules.specs.declared.Desk.{Desk}
use Rattle.rules.specs.declared.SlotOutcome.{SlotOutcome}
use Rattle.rules.specs.Limits.{token_rows, slot_rows, deepest}
use Rattle.rules.specs.Numbers.{BAD}
use Rattle.rules.specs.Fresh.{fresh_token, fresh_session, fresh_desk}
use Rattle.rules.specs.Tables.{used_token, staged, is_token, token_of, cleared, with_clock}
use Rattle.rules.specs.Scope.{family, descends}
use Rattle.rules.specs.Rent.{epoch_ends}
use Rattle.rules.specs.VolumeCalls.{is_token_of, drop_entries}
use Rattle.rules.specs.Advance.{relays_leave, settle, at_epoch, is_due, collect, advanced}
use Rattle.rules.specs.Commit.{staged_bytes, charged, committed}
use Rattle.rules.specs.Sound.{sound}
use Rattle.rules.specs.Outcome.{is_accepted, desk_refused}
use Rattle.rules.specs.Calls.{Ask, ask_rule, Work, opens, stages, commits, abandons, work_rule, Call, ask, on_slot, with_slot, rule, step, run}
use Rattle.rules.specs.Used.{commit_adds, work_adds, call_adds, list_adds}
use Rattle.rules.proofs.Laws.AddedBytes.{charged_used}
use Rattle.rules.proofs.Laws.AskCases.{Effect, advances, creates, deposits, deletes, undeletes, grants, attenuates, revokes, removes, looks, registers, beats, ask_tables}
use Rattle.rules.proofs.Laws.CommitCases.{Accepted, tables_of}
use Rattle.rules.proofs.Laws.WorkCases.{WorkEffect, opening, restaging, staging, committing, abandoning, WorkDoes, refuses, takes, work_cases}
use Rattle.rules.proofs.Laws.SlotLaws.{charged_same}
use Rattle.rules.proofs.Laws.ChargeLaws.{chain_rows}
use Rattle.rules.proofs.Laws.LiveLaws.{cond_zero}
use Rattle.rules.proofs.Laws.StaysSound.{DeskInvariant}
use Rattle.rules.proofs.Laws.Reached.{call_keeps}
use Rattle.rules.proofs.Laws.FreshSound.{fresh_holds}
use Rattle.rules.proofs.Laws.GoneLaws.{call_onward, token_gone_lem}
use Rattle.rules.proofs.Laws.SoundParts.{Parts, tables_sound}
use Rattle.rules.proofs.Laws.Later.{token_row}
use Rattle.rules.proofs.Laws.FindLaws.{token_number_lem, token_used, token_at_lem}
use Rattle.rules.proofs.Laws.NumberLaws.{numbered_used, numbered_eq}
use Rattle.rules.proofs.Laws.BranchLaws.{cond_case}
use Rattle.rules.proofs.Laws.MappedLaws.{mapped_at}
use Rattle.rules.proofs.Laws.AgainLaws.{row_below, row_given, row_once, token_given}

-- the used bytes of the token of a number, 0 where there is none
abbrev used_of : Hit Token → ℕ
used_of miss = 0
used_of (hit i k) = k.used

abbrev used_in : TokenNo → Tables → ℕ
used_in n t = used_of (token_of n t)

-- a row that holds a token is found by its number
own_row : (t : Tables) (i : ℕ) (n : TokenNo) → Parts t → used_token (token_row t i) ≡ true → (token_row t i).no ≡ n → token_of n t ≡ hit i (token_row t i)
unfolding token_of
own_row t i n p u e = go (at_found (is_token n) t.tokens 0 i fresh_token (row_below t i u) (self n (token_row t i) u e))
  where
    self : (m : TokenNo) (k : Token) → used_token k ≡ true → k.no ≡ m → is_token m k ≡ true
    self m k w q = and_both (rw q at w) (eq-eqb k.no.0 m.0 (ap (λ (x : TokenNo). x.0) q))

    go : FoundRow (find (is_token n) t.tokens) → find (is_token n) t.tokens ≡ hit i (token_row t i)
    go (found_row j x q) =
        let same = row_once t i j p u (ap (λ (y : Token). y.no) (token_at_lem n t j x q) ∙ token_number_lem n t j x q ∙ sym e) in
        q ∙ ap₂ hit same (sym (token_at_lem n t j x q) ∙ ap (token_row t) same)

-- a token that is found has the used bytes of its number
found_used : (t : Tables) (n : TokenNo) (i : ℕ) (k : Token) → token_of n t ≡ hit i k → k.used ≡ used_in n t
found_used t n i k e = ap used_of (sym e)

-- A call on the tables: a row that holds a token held it before, or the token is new and has used nothing.
abbrev KeptOrNew : ℕ → Token → Token → Type 0
KeptOrNew last old new = used_token new ≡ true → (new ≡ old) ⊎ ((new.used ≡ 0) × (last < new.no.0))

abbrev RowsKeptOrNew : ℕ → List Token → List Token → Type 0
RowsKeptOrNew last l m = (j : ℕ) → KeptOrNew last (get_or l j fresh_token) (get_or m j fresh_token)

rows_same : (last : ℕ) (l : List Token) → RowsKeptOrNew last l l
rows_same last l j u = inl refl

rows_cleared : (last : ℕ) (p : Token → Bool) (l : List Token) → RowsKeptOrNew last l (cleared p fresh_token l)
unfolding cleared
rows_cleared last p [] j = λ u. inl refl
rows_cleared last p (x ∷ xs) zero = cond_case (KeptOrNew last x) (p x) fresh_token x (λ b u. absurd (false≢true u)) (λ b u. inl refl)
rows_cleared last p (x ∷ xs) (suc j) = rows_cleared last p xs j

rows_new : (last : ℕ) (k : Token) (l : List Token) (i : ℕ) → k.no.0 ≡ last + 1 → k.used ≡ 0 → RowsKeptOrNew last l (set l i k)
rows_new last k [] i e f j u = inl refl
rows_new last k (x ∷ xs) zero e f zero u = inr (f, omega arith)
rows_new last k (x ∷ xs) zero e f (suc j) u = inl refl
rows_new last k (x ∷ xs) (suc i) e f zero u = inl refl
rows_new last k (x ∷ xs) (suc i) e f (suc j) u = rows_new last k xs i e f j u

-- so a token that is found after it has the used bytes that its number had
kept_used : (t u : Tables) → Parts t → RowsKeptOrNew t.last_token t.tokens u.tokens → (n : TokenNo) (i : ℕ) (k : Token)
    → token_of n u ≡ hit i k → k.used ≡ used_in n t
kept_used t u p rows n i k e =
    let used : used_token (token_row u i) ≡ true = rw (token_at_lem n u i k e) (token_used n u i k e) in
    ⊎_elim same new (rows i used)
  where
    same : token_row u i ≡ token_row t i → k.used ≡ used_in n t
    same q =
        let here : token_row t i ≡ k = sym q ∙ token_at_lem n u i k e in
        found_used t n i k (rw here at (own_row t i n p (rw here (token_used n u i k e)) (rw here (token_number_lem n u i k e))))

    new : ((token_row u i).used ≡ 0) × (t.last_token < (token_row u i).no.0) → k.used ≡ used_in n t
    new q = unknown (token_of n t) refl
      where
        unknown : (h : Hit Token) → token_of n t ≡ h → k.used ≡ used_of h
        unknown miss f = rw (token_at_lem n u i k e) at q.0
        unknown (hit j x) f =
            absurd (omega (
              arith,
              token_given n t j x p f,
              ap (λ (m : TokenNo). m.0) (token_number_lem n u i k e),
              ap (λ (y : Token). y.no.0) (token_at_lem n u i k e),
              q.1,
            ))

advanced_rows : (block : ℕ) (t : Tables) → RowsKeptOrNew t.last_token t.tokens (advanced t block).tokens
unfolding advanced collect drop_entries relays_leave at_epoch settle
advanced_rows block t = at_end (leb 1 (epoch_ends t.clock block))
  where
    at_end : (b : Bool) → RowsKeptOrNew t.last_token t.tokens (collect (is_due block) (at_epoch b (relays_leave (with_clock t block)))).tokens
    at_end true = rows_cleared t.last_token _ t.tokens
    at_end false = rows_cleared t.last_token _ t.tokens

effect_rows : (t : Tables) {a : Ask} {x : Answer} {u : Tables} → Effect t a x u → RowsKeptOrNew t.last_token t.tokens u.tokens
unfolding drop_entries
effect_rows t (advances block b) = advanced_rows block t
effect_rows t (creates a name k m cap i old p q r e) = rows_same _ t.tokens
effect_rows t (deposits n coins i v e p q) = rows_same _ t.tokens
effect_rows t (deletes a n i v e p q) = rows_cleared _ (is_token_of v.no) t.tokens
effect_rows t (undeletes a n i v e p q) = rows_same _ t.tokens
effect_rows t (grants a n s i v j old p e q r z f) = rows_new _ _ t.tokens j refl refl
effect_rows t (attenuates n s i k j old p e q r z f) = rows_new _ _ t.tokens j refl refl
effect_rows t (revokes a n i k j v e f p) = rows_cleared _ (descends t.tokens k.no) t.tokens
effect_rows t (removes a n path i v j e p f q r g z) = rows_same _ t.tokens
effect_rows t (looks n path i k j e p f q r z g) = rows_same _ t.tokens
effect_rows t (registers capacity i old p q e) = rows_same _ t.tokens
effect_rows t (beats n i r e p) = rows_same _ t.tokens

ask_used : (a : Ask) (t : Tables) → Parts t → (n : TokenNo) (i : ℕ) (k : Token) → token_of n (ask_rule a t).tables ≡ hit i k → k.used ≡ used_in n t
ask_used a t p =
    ask_tables (λ (u : Tables). (n : TokenNo) (i : ℕ) (k : Token) → token_of n u ≡ hit i k → k.used ≡ used_in n t) a t (found_used t)
    (λ x u e. kept_used t u p (effect_rows t e))

-- A commit: each row has what it had and what the commit adds to its number.
commit_used : (t : Tables) (s : Session) (a : Accepted t s) → Parts t → (n : TokenNo) (i : ℕ) (k : Token) → token_of n (tables_of t s a) ≡ hit i k
    → k.used ≡ used_in n t + commit_adds n t s (token_of s.token t)
unfolding committed
commit_used t s a p n i k e =
    let ks = family t.tokens a.token in
    let bytes = staged_bytes (staged s) in
    let old = token_row t i in
    let below : i < length t.tokens =
    rw (length-map t.tokens (charged ks bytes)) at (row_below (tables_of t s a) i (rw (token_at_lem n (tables_of t s a) i k e) (token_used n (tables_of t s a) i k e))) in
    let row : charged ks bytes old ≡ k =
    sym (mapped_at (charged ks bytes) t.tokens i fresh_token fresh_token below) ∙ token_at_lem n (tables_of t s a) i k e in
    let no : old.no ≡ n = (charged_same ks bytes old).no ∙ ap (λ (y : Token). y.no) row ∙ token_number_lem n (tables_of t s a) i k e in
    let used : used_token old ≡ true = rw (no ∙ sym (token_number_lem n (tables_of t s a) i k e)) (token_used n (tables_of t s a) i k e) in
    let here : token_of n t ≡ hit i old = own_row t i n p used no in
    rw (← row, here, a.token_found_lem, ← no) (charged_used ks bytes old)

-- Any call on a slot.
effect_used : (t : Tables) (s : Session) → Parts t → {w : Work} {x : Answer} {u : Tables} {r : Session} → WorkEffect t s w x u r
    → (n : TokenNo) (i : ℕ) (k : Token) → token_of n u ≡ hit i k → k.used ≡ used_in n t + work_adds n w t s
effect_used t s p (opening m a l j v b e q r f z) n i k g = omega (arith, found_used t n i k g)
effect_used t s p (restaging path size x a l j old b q e r f) n i k g = omega (arith, found_used t n i k g)
effect_used t s p (staging path size x a l b q e r f z) n i k g = omega (arith, found_used t n i k g)
effect_used t s p (committing a) n i k g = commit_used t s a p n i k g
effect_used t s p (abandoning b) n i k g = omega (arith, found_used t n i k g)

does_used : (t : Tables) (s : Session) → Parts t → {w : Work} {o : SlotOutcome} → WorkDoes t s w o → (n : TokenNo) (i : ℕ) (k : Token)
    → token_of n o.tables ≡ hit i k → k.used ≡ used_in n t + cond (is_accepted o.answer) (work_adds n w t s) 0
does_used t s p (refuses m e) n i k g = rw e (omega (arith, found_used t n i k g))
does_used t s p (takes x u r y e) n i k g = rw y (effect_used t s p e n i k g)

-- Any call on a desk.
rule_used : (c : Call) (d : Desk) → Parts d.tables → (n : TokenNo) (i : ℕ) (k : Token) → token_of n (rule c d).desk.tables ≡ hit i k
    → k.used ≡ used_in n d.tables + cond (is_accepted (rule c d).answer) (call_adds n c d) 0
unfolding rule
rule_used (ask a) d p n i k = λ g. rw (cond_zero (is_accepted (ask_rule a d.tables).answer)) (omega (arith, ask_used a d.tables p n i k g))
rule_used (on_slot slot w) d p n i k = by (leb slot_rows slot)
  where
    s : Session
    s = get_or d.sessions slot fresh_session

    by : (b : Bool) → let o = cond b (desk_refused d BAD) (with_slot d slot (work_rule w d.tables s)) in
        token_of n o.desk.tables ≡ hit i k → k.used ≡ used_in n d.tables + cond (is_accepted o.answer) (work_adds n w d.tables s) 0
    by true g = omega (arith, found_used d.tables n i k g)
    by false g = does_used d.tables s p (work_cases d.tables s w) n i k g

step_used : (c : Call) (d : Desk) → Parts d.tables → (n : TokenNo) (i : ℕ) (k : Token) → token_of n (step c d).desk.tables ≡ hit i k
    → k.used ≡ used_in n d.tables + cond (is_accepted (step c d).answer) (call_adds n c d) 0
unfolding step
step_used c d p n i k = by (sound d)
  where
    by : (b : Bool) → let o = cond b (rule c d) (desk_refused d BAD) in
        token_of n o.desk.tables ≡ hit i k → k.used ≡ used_in n d.tables + cond (is_accepted o.answer) (call_adds n c d) 0
    by true g = rule_used c d p n i k g
    by false g = omega (arith, found_used d.tables n i k g)

-- A number that was not yet given has used nothing, and no call adds to it.
module _ (n : TokenNo) (t : Tables) (p : Parts t) (above : t.last_token < n.0) where
  none_used : used_in n t ≡ 0
  none_used = by (token_of n t) refl
    where
      by : (h : Hit Token) → token_of n t ≡ h → used_of h ≡ 0
      by miss e = refl
      by (hit i k) e = absurd (omega (arith, token_given n t i k p e))

  none_added : (s : Session) (h : Hit Token) → token_of s.token t ≡ h → commit_adds n t s h ≡ 0
  none_added s miss e = refl
  none_added s (hit i k) e = rw none
    where
      -- no row has a number above the last
      below : (j : ℕ) → j < length t.tokens → (token_row t j).no.0 ≤ t.last_token
      below j h =
          ⊎_elim (row_given t j p) (λ (f : used_token (token_row t j) ≡ false). omega (arith, ltb-false 0 (token_row t j).no.0 f))
          (pass_or_fail (used_token (token_row t j)))

      own : k.no.0 ≤ t.last_token
      own = rw (token_number_lem s.token t i k e) (token_given s.token t i k p e)

      none : any_of (is_token n) (family t.tokens k) ≡ false
      none =
          at_none (is_token n) (family t.tokens k) fresh_token
          (λ j h.
          not_pass (is_token n (get_or (family t.tokens k) j fresh_token))
          (λ q.
          omega (
            arith,
            chain_rows (λ (x : Token). x.no.0 ≤ t.last_token) t.tokens below deepest k own j h,
            numbered_eq n.0 (get_or (family t.tokens k) j fresh_token).no.0 q,
          )))

none_called : (n : TokenNo) (c : Call) (d : Desk) → Parts d.tables → d.tables.last_token < n.0 → call_adds n c d ≡ 0
none_called n (ask a) d p h = refl
none_called n (on_slot slot (opens k)) d p h = refl
none_called n (on_slot slot (stages path size x)) d p h = refl
none_called n (on_slot slot commits) d p h =
    let s = get_or d.sessions slot fresh_session in
    none_added n d.tables p h s (token_of s.token d.tables) refl
none_called n (on_slot slot abandons) d p h = refl

-- From any desk that holds, on.
used_from : (cs : List Call) (d : Desk) → DeskInvariant d → (n : TokenNo) (i : ℕ) (k : Token) → token_of n (run cs d).tables ≡ hit i k
    → k.used ≡ used_in n d.tables + list_adds n cs d
unfolding run list_adds
used_from [] d v n i k e = omega (arith, found_used d.tables n i k e)
used_from (c ∷ cs) d v n i k e = omega (arith, used_from cs next (call_keeps c d v) n i k e, once (token_of n next.tables) refl)
  where
    next : Desk
    next = (step c d).desk

    parts : Parts d.tables
    parts = tables_sound d v.passes

    once : (h : Hit Token) → token_of n next.tables ≡ h → used_of h ≡ used_in n d.tables + cond (is_accepted (step c d).answer) (call_adds n c d) 0
    once (hit j x) f = step_used c d parts n j x f
    once miss f =
        ⊎_elim
        (λ (h : leb n.0 next.tables.last_token ≡ true).
        absurd (miss_hit (token_gone_lem cs next n (leb-true n.0 next.tables.last_token h) f) e))
        (λ (h : leb n.0 next.tables.last_token ≡ false).
        let above : d.tables.last_token < n.0 =
        omega (arith, leb-false n.0 next.tables.last_token h, (call_onward c d).tokens.last) in
        rw (none_called n c d parts above, cond_zero (is_accepted (step c d).answer)) (omega (arith, none_used n d.tables parts above)))
        (pass_or_fail (leb n.0 next.tables.last_token))

-- From a fresh desk.
pub used_summed : (rate : ℕ) (cs : List Call) (n : TokenNo) (i : ℕ) (k : Token) → token_of n (run cs (fresh_desk rate)).tables ≡ hit i k
    → k.used ≡ list_adds n cs (fresh_desk rate)
unfolding token_of
used_summed rate cs n i k e = omega (arith, used_from cs (fresh_desk rate) (fresh_holds rate) n i k e, ap used_of none)
  where
    none : find (is_token n) (fresh_desk rate).tables.tokens ≡ miss
    none = none_miss (is_token n) (fresh_desk rate).tables.tokens 0 (any_replicate (is_token n) token_rows fresh_token (not_pass (is_token n fresh_token) (λ q. false≢true (numbered_used n.0 0 q))))
