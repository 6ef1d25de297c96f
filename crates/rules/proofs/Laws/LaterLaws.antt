-- Laws of Later: every call on the tables leaves later tables. Assumes nothing.
use Rattle.std.specs.Prelude.{◌≡◌, refl, Bool, true, false, List, [], ◌∷◌, map, ℕ, ◌+◌, ◌≤◌, zero, suc, leb, get_or, set}
use Rattle.std.proofs.Common.{◌∙◌, arith, le_refl}
use Rattle.std.proofs.lemmas.Bool.{false≢true}
use Rattle.lists.specs.Lists.{keep}
use Rattle.rules.specs.declared.Volume.{Volume}
use Rattle.rules.specs.declared.Token.{Token}
use Rattle.rules.specs.declared.Answer.{Answer}
use Rattle.rules.specs.declared.Tables.{Tables}
use Rattle.rules.specs.Fresh.{fresh_token}
use Rattle.rules.specs.Tables.{with_clock, cleared}
use Rattle.rules.specs.Scope.{descends}
use Rattle.rules.specs.Rent.{epoch_ends}
use Rattle.rules.specs.VolumeCalls.{is_token_of, drop_entries}
use Rattle.rules.specs.Advance.{is_due, token_of_one, relays_leave, settle, collect, at_epoch, advanced}
use Rattle.rules.specs.Calls.{Ask, ask_rule}
use Rattle.rules.specs.TokenCalls.{granted}
use Rattle.rules.proofs.Laws.BranchLaws.{cond_case}
use Rattle.rules.proofs.Laws.AskCases.{Effect, advances, creates, deposits, deletes, undeletes, grants, attenuates, revokes, removes, looks, registers, beats, ask_tables}
use Rattle.rules.proofs.Laws.Later.{token_row, SameToken, Kept, Later}

-- Rows of the token table.

pub same_token_lem : (k : Token) → SameToken k k
same_token_lem k = record { no = refl; volume = refl; scope = refl }

kept_same : (last : ℕ) (k : Token) → Kept last k k
kept_same last k used given = same_token_lem k

-- a row that is cleared holds no token
kept_cleared : (last : ℕ) (p : Token → Bool) (l : List Token) (j : ℕ) → Kept last (get_or l j fresh_token) (get_or (cleared p fresh_token l) j fresh_token)
unfolding cleared
kept_cleared last p [] j = kept_same last fresh_token
kept_cleared last p (x ∷ xs) zero = cond_case (Kept last x) (p x) fresh_token x (λ b u h. absurd (false≢true u)) (λ b. kept_same last x)
kept_cleared last p (x ∷ xs) (suc j) = kept_cleared last p xs j

-- every row is changed in what no session reads
pub kept_map : (last : ℕ) (f : Token → Token) (l : List Token) → ((k : Token) → SameToken k (f k))
    → (j : ℕ) → Kept last (get_or l j fresh_token) (get_or (map f l) j fresh_token)
kept_map last f [] same j = kept_same last fresh_token
kept_map last f (x ∷ xs) same zero = λ u h. same x
kept_map last f (x ∷ xs) same (suc j) = kept_map last f xs same j

-- a row takes a token of the next number, which had not been given
kept_set : (last : ℕ) (k : Token) (l : List Token) (i j : ℕ) → k.no.0 ≡ last + 1 → Kept last (get_or l j fresh_token) (get_or (set l i k) j fresh_token)
kept_set last k [] i j e = kept_same last fresh_token
kept_set last k (x ∷ xs) zero zero e = λ u h. absurd (omega arith)
kept_set last k (x ∷ xs) zero (suc j) e = kept_same last (get_or xs j fresh_token)
kept_set last k (x ∷ xs) (suc i) zero e = kept_same last x
kept_set last k (x ∷ xs) (suc i) (suc j) e = kept_set last k xs i j e

-- One after another.

pub later_refl : (t : Tables) → Later t t
later_refl t = record { last = le_refl t.last_token; kept = λ j. kept_same t.last_token (token_row t j) }

kept_trans : (m n : ℕ) (a b c : Token) → m ≤ n → Kept m a b → Kept n b c → Kept m a c
kept_trans m n a b c le p q used given =
    let r = q used (omega arith) in
    let s = p (rw (← r.no) at used) (rw r.no given) in
    record { no = s.no ∙ r.no; volume = s.volume ∙ r.volume; scope = s.scope ∙ r.scope }

pub later_trans : (t t₁ t₂ : Tables) → Later t t₁ → Later t₁ t₂ → Later t t₂
later_trans t t₁ t₂ p q = record {
  last = omega arith;
  kept = λ j. kept_trans t.last_token t₁.last_token (token_row t j) (token_row t₁ j) (token_row t₂ j) p.last (p.kept j) (q.kept j);
}

-- The calls on the tables.

-- the tokens and their last number are as they were
later_same : (t t' : Tables) → t'.tokens ≡ t.tokens → t'.last_token ≡ t.last_token → Later t t'
later_same t t' k l = record { last = omega arith; kept = λ j. rw k (kept_same t.last_token (token_row t j)) }

-- tokens are cleared
later_cleared : (p : Token → Bool) (t t' : Tables) → t'.tokens ≡ cleared p fresh_token t.tokens → t'.last_token ≡ t.last_token → Later t t'
later_cleared p t t' k l = record { last = omega arith; kept = λ j. rw k (kept_cleared t.last_token p t.tokens j) }

-- a token takes the next number
later_new : (t : Tables) (i : ℕ) (k : Token) → k.no.0 ≡ t.last_token + 1 → Later t (granted t i k)
later_new t i k e = record { last = omega arith; kept = λ j. kept_set t.last_token k t.tokens i j e }

leave_later : (block : ℕ) (t : Tables) → Later t (relays_leave (with_clock t block))
unfolding relays_leave
leave_later block t = search later_same

epoch_later : (b : Bool) (t : Tables) → Later t (at_epoch b t)
unfolding at_epoch settle
epoch_later true t = search later_same
epoch_later false t = later_refl t

collect_later : (p : Volume → Bool) (t : Tables) → Later t (collect p t)
unfolding collect drop_entries
collect_later p t = search (later_cleared (token_of_one (keep p t.volumes)))

advance_later : (block : ℕ) (t : Tables) → Later t (advanced t block)
unfolding advanced
advance_later block t =
    let left = relays_leave (with_clock t block) in
    let paid = at_epoch (leb 1 (epoch_ends t.clock block)) left in
    later_trans t left (collect (is_due block) paid) (leave_later block t)
    (later_trans left paid (collect (is_due block) paid) (epoch_later (leb 1 (epoch_ends t.clock block)) left) (collect_later (is_due block) paid))

effect_later : (t : Tables) {a : Ask} {x : Answer} {u : Tables} → Effect t a x u → Later t u
unfolding drop_entries
effect_later t (advances block b) = advance_later block t
effect_later t (creates a name k m cap i old p q r e) = later_same t _ refl refl
effect_later t (deposits n coins i v e p q) = later_same t _ refl refl
effect_later t (deletes a n i v e p q) = later_cleared (is_token_of v.no) t _ refl refl
effect_later t (undeletes a n i v e p q) = later_same t _ refl refl
effect_later t (grants a n s i v j old p e q r z f) = later_new t j _ refl
effect_later t (attenuates n s i k j old p e q r z f) = later_new t j _ refl
effect_later t (revokes a n i k j v e f p) = later_cleared (descends t.tokens k.no) t _ refl refl
effect_later t (removes a n path i v j e p f q r g z) = later_same t _ refl refl
effect_later t (looks n path i k j e p f q r z g) = later_refl t
effect_later t (registers capacity i old p q e) = later_same t _ refl refl
effect_later t (beats n i r e p) = later_same t _ refl refl

-- every call on the tables
pub ask_later : (a : Ask) (t : Tables) → Later t (ask_rule a t).tables
ask_later a t = ask_tables (Later t) a t (later_refl t) (λ x u. effect_later t)
