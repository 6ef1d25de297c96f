-- What the functions that decode kept rows rest on. Assumes nothing.
use mathlib.Core.Path.{◌≡◌, refl, sym, ◌∙◌, ap}
use mathlib.Core.List.{List, [], ◌∷◌, map}
use Prim.Native.Nat.{ℕ, zero, suc, ◌-◌, ◌<◌, ◌≤◌}
use native.Mathlib.Nat.{add-sub_cancel_left, le_trans, min-le_left, le_of_suc-le-suc, not-suc-le-zero}
use native.Mathlib.Omega.{arith}
use borrow.Author.Rules.{rules}
use lib.ListN.{get_or, get_or-eq_default, length-take, length-map, length, take, drop, replicate, drop_of_length-le, length-drop}
use lib.Seq.{take-nil, take_all}
use Rattle.lists.specs.ByteLoopLaws.{FillLoop, fill_start}
use Rattle.text.specs.Text.{Text}
use Rattle.text.specs.Text.{path_limit, to_text, text_bytes}
use Rattle.rules.specs.declared.Token.{Token}
use Rattle.rules.specs.declared.Entry.{Entry}
use Rattle.rules.specs.declared.Put.{Put}
use Rattle.rules.specs.declared.Session.{Session}
use Rattle.rules.specs.declared.Hash.{Hash}
use Rattle.rules.specs.declared.Placement.{Placement}
use Rattle.rules.specs.Limits.{put_rows}
use Rattle.rules.specs.Fresh.{no_volume, no_token, fresh_hash, fresh_placement, fresh_token, fresh_entry, fresh_put, fresh_session}
use Rattle.kept.specs.declared.KeptToken.{KeptToken}
use Rattle.kept.specs.declared.KeptEntry.{KeptEntry}
use Rattle.kept.specs.declared.KeptPut.{KeptPut}
use Rattle.kept.specs.declared.KeptSession.{KeptSession}
use Rattle.kept.specs.KeptLaws.{text_bytes_in}
use Rattle.kept.specs.Kept.{bytes_in, text_in, token_in, entry_in, put_in, session_in, fresh_kept_entry, fresh_kept_put, fresh_kept_session}

-- ---- the bytes from a place on, as far as there are some

pub past_end : (at n k : ℕ) (l : List ℕ) → length l < at → take k (drop (length l) l) ≡ take n (drop at l)
past_end at n k l h =
    rw (drop_of_length-le l {i = at} (omega arith), drop_of_length-le l {i = length l} (omega arith), take-nil k, take-nil n)

pub all_left : (at n : ℕ) (l : List ℕ) → length l - at < n → take (length l - at) (drop at l) ≡ take n (drop at l)
all_left at n l h = take_all (length l - at) (drop at l) (omega (arith, length-drop at l)) ∙ sym (take_all n (drop at l) (omega (arith, length-drop at l)))

pub ruleset bytes = (past_end, all_left, add-sub_cancel_left, rules)

-- ---- a text has at most 512 bytes

take_front : (m n : ℕ) (l : List ℕ) → m ≤ n → take m (take n l) ≡ take m l
take_front zero n l h = refl
take_front (suc m) zero l h = absurd (not-suc-le-zero h)
take_front (suc m) (suc n) [] h = refl
take_front (suc m) (suc n) (x ∷ l) h = ap (λ (r : List ℕ). x ∷ r) (take_front m n l (le_of_suc-le-suc h))

module _ (j r : List ℕ) (at n : ℕ) where
  pub text_most_lem : 512 < n → r ≡ bytes_in j at 512 → r ≡ text_bytes (text_in j at n)
  text_most_lem h e = e ∙ sym (text_bytes_in j at n ∙ take_front 512 n (drop at j) (omega arith))

  pub text_whole : n ≤ 512 → r ≡ bytes_in j at n → r ≡ text_bytes (text_in j at n)
  text_whole h e = e ∙ sym (text_bytes_in j at n ∙ take_all 512 (bytes_in j at n) (rw (length-take n (drop at j)) (le_trans (min-le_left n (length (drop at j))) h)))

-- ---- a row made of the text there is the row that is meant

pub text_there : (j b : List ℕ) (at n : ℕ) (r : Text) → b ≡ bytes_in j at n → r ≡ to_text (take path_limit b) → r ≡ text_in j at n
text_there j b at n r e f = rw e at f

module _ (j : List ℕ) (x : Text) where
  pub token_there : (k : KeptToken) → x ≡ text_in j k.at k.len
      → record {
        no = k.no;
        volume = k.volume;
        parent = k.parent;
        scope = record { prefix = x; mode = k.mode; cap = k.cap; «from» = k.«from»; until = k.until };
        used = k.used;
      }
      ≡ token_in j k
  token_there k e = rw e

  pub entry_there : (k : KeptEntry) → x ≡ text_in j k.at k.len
      → record { volume = k.volume; path = x; size = k.size; hash = k.hash; placement = k.placement } ≡ entry_in j k
  entry_there k e = rw e

  pub put_there : (k : KeptPut) → x ≡ text_in j k.at k.len → record { path = x; size = k.size; hash = k.hash } ≡ put_in j k
  put_there k e = rw e

pub session_there : (j : List ℕ) (s : KeptSession) (x : List Put) → x ≡ map (put_in j) s.puts
    → record { token = s.token; volume = s.volume; version = s.version; count = s.count; puts = x } ≡ session_in j s
session_there j s x e = rw e

pub puts_start : (j : List ℕ) (kept : List KeptPut) (none : Put) → length kept ≡ 8 → none ≡ fresh_put
    → FillLoop (replicate 8 fresh_put) 0 (map (put_in j) kept) 8 0 (replicate 8 none)
puts_start j kept none h e = rw e (fill_start (replicate 8 fresh_put) 0 (map (put_in j) kept) 8 (omega arith) (omega (arith, h, length-map kept (put_in j))))

pub slots_start : (j : List ℕ) (kept : List KeptSession) (none : Session) → length kept ≡ 4 → none ≡ fresh_session
    → FillLoop (replicate 4 fresh_session) 0 (map (session_in j) kept) 4 0 (replicate 4 none)
slots_start j kept none h e =
    rw e (fill_start (replicate 4 fresh_session) 0 (map (session_in j) kept) 4 (omega arith) (omega (arith, h, length-map kept (session_in j))))

pub tokens_start : (j : List ℕ) (kept : List KeptToken) (none : Token) → length kept ≡ 32 → none ≡ fresh_token
    → FillLoop (replicate 32 fresh_token) 0 (map (token_in j) kept) 32 0 (replicate 32 none)
tokens_start j kept none h e =
    rw e (fill_start (replicate 32 fresh_token) 0 (map (token_in j) kept) 32 (omega arith) (omega (arith, h, length-map kept (token_in j))))

pub entries_start : (j : List ℕ) (kept : List KeptEntry) (none : Entry) → length kept ≡ 64 → none ≡ fresh_entry
    → FillLoop (replicate 64 fresh_entry) 0 (map (entry_in j) kept) 64 0 (replicate 64 none)
entries_start j kept none h e =
    rw e (fill_start (replicate 64 fresh_entry) 0 (map (entry_in j) kept) 64 (omega arith) (omega (arith, h, length-map kept (entry_in j))))

-- a slot that is not there
pub slot_past : (slots : List KeptSession) (i : ℕ) (r : KeptSession) → length slots ≡ 4 → 4 ≤ i → r ≡ fresh_kept_session → r ≡ get_or slots i fresh_kept_session
slot_past slots i r h k e = e ∙ sym (get_or-eq_default slots fresh_kept_session {n = i} (omega (arith, h)))

pub ruleset row_there = (token_there, entry_there, put_there)

-- ---- a row made of fresh parts is the fresh one

pub entry_made : (h : Hash) (w : Placement) → h ≡ fresh_hash → w ≡ fresh_placement
    → ◌≡◌ {A = KeptEntry} (record { volume = no_volume; at = 0; len = 0; size = 0; hash = h; placement = w }) fresh_kept_entry
entry_made h w f g = rw (f, g)

pub put_made : (h : Hash) → h ≡ fresh_hash → ◌≡◌ {A = KeptPut} (record { at = 0; len = 0; size = 0; hash = h }) fresh_kept_put
put_made h f = rw f

pub session_made : (p : KeptPut) → p ≡ fresh_kept_put
    → ◌≡◌ {A = KeptSession} (record { token = no_token; volume = no_volume; version = 0; count = 0; puts = replicate put_rows p }) fresh_kept_session
session_made p e = rw e

pub ruleset made = (entry_made, put_made, session_made)
