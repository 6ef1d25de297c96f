-- Kept rows: the bytes of a kept text, and a fresh kept row stands for a fresh row. Assumes nothing.
use Rattle.std.specs.Prelude.{◌≡◌, refl, List, ℕ, take}
use Rattle.text.specs.Text.{path_limit, text_bytes}
use Rattle.text.specs.TextLaws.{text_bytes_lem}
use Rattle.rules.specs.Fresh.{fresh_token, fresh_entry, fresh_put, fresh_session}
use Rattle.kept.specs.Kept.{bytes_in, text_in, token_in, entry_in, put_in, session_in, fresh_kept_token, fresh_kept_entry, fresh_kept_put, fresh_kept_session}

pub text_bytes_in : (j : List ℕ) (at n : ℕ) → text_bytes (text_in j at n) ≡ take path_limit (bytes_in j at n)
text_bytes_in j at n = text_bytes_lem (take path_limit (bytes_in j at n))

pub fresh_token_lem : (j : List ℕ) → token_in j fresh_kept_token ≡ fresh_token
fresh_token_lem j = refl

pub fresh_entry_lem : (j : List ℕ) → entry_in j fresh_kept_entry ≡ fresh_entry
fresh_entry_lem j = refl

pub fresh_put_lem : (j : List ℕ) → put_in j fresh_kept_put ≡ fresh_put
fresh_put_lem j = refl

pub fresh_session_lem : (j : List ℕ) → session_in j fresh_kept_session ≡ fresh_session
fresh_session_lem j = refl
