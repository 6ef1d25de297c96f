-- Kept sessions: what they stand for after a call, and a search in their puts. Assumes nothing.
use Rattle.std.specs.Prelude.{◌≡◌, refl, List, [], ◌∷◌, map, ℕ, zero, suc, take, set}
use Rattle.std.proofs.Common.{◌∙◌}
use Rattle.std.proofs.Math.Path.{ap}
use Rattle.lists.specs.Lists.{first_at}
use Rattle.lists.specs.RowLaws.{first_map}
use Rattle.rules.specs.declared.VolumeNo.{VolumeNo}
use Rattle.rules.specs.declared.TokenNo.{TokenNo}
use Rattle.rules.specs.Tables.{is_put, staged}
use Rattle.rules.specs.SessionCalls.{opened, with_puts, restaged, staged_next}
use Rattle.kept.specs.declared.KeptPut.{KeptPut}
use Rattle.kept.specs.declared.KeptSession.{KeptSession}
use Rattle.kept.specs.Kept.{put_in, session_in}
use Rattle.kept_sessions.specs.Parts.{kept_opened, kept_again, kept_next, is_kept_put}

-- ---- a row of a list of rows, and its first rows

pub map_set : {A B : Type 0} (f : A → B) (l : List A) (i : ℕ) (x : A) → map f (set l i x) ≡ set (map f l) i (f x)
map_set f [] i x = refl
map_set f (y ∷ l) zero x = refl
map_set f (y ∷ l) (suc i) x = ap (λ (m : List _). f y ∷ m) (map_set f l i x)

pub map_take : {A B : Type 0} (f : A → B) (n : ℕ) (l : List A) → take n (map f l) ≡ map f (take n l)
map_take f zero l = refl
map_take f (suc n) [] = refl
map_take f (suc n) (x ∷ l) = ap (λ (m : List _). f x ∷ m) (map_take f n l)

-- ---- the sessions

module _ (j : List ℕ) where
  pub opened_in : (n : TokenNo) (v : VolumeNo) (version : ℕ) → session_in j (kept_opened n v version) ≡ opened n v version
  opened_in n v version = refl

  module _ (s : KeptSession) (p : KeptPut) where
    pub again_in : (i : ℕ) → session_in j (kept_again s i p) ≡ restaged (session_in j s) i (put_in j p)
    again_in i = ap (with_puts (session_in j s) s.count) (map_set (put_in j) s.puts i p)

    pub next_in_lem : session_in j (kept_next s p) ≡ staged_next (session_in j s) (put_in j p)
    next_in_lem = rw (map_set (put_in j) s.puts s.count p)

  -- a search among the kept puts is one among the puts
  pub searched : (s : KeptSession) (path : List ℕ) → first_at (is_put path) 0 (staged (session_in j s)) ≡ first_at (is_kept_put j path) 0 (take s.count s.puts)
  unfolding is_kept_put
  searched s path =
      ap (first_at (is_put path) 0) (map_take (put_in j) s.count s.puts)
      ∙ first_map (put_in j) (take s.count s.puts) (is_put path) (is_kept_put j path) (λ q. refl) 0
