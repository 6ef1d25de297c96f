-- What stands next in the records of a journal, as the code is told it: the end, a fault, or a whole record with so many bytes. Assumes nothing.
use Rattle.std.specs.Prelude.{◌≡◌, refl, true, List, [], ◌∷◌, ℕ, ◌+◌, ◌-◌, ◌≤◌, length, take, drop, Option, Some, None, Result, Ok, Err}
use Rattle.std.proofs.Common.{◌∙◌, ap, arith, drop-drop}
use Rattle.std.proofs.Math.Pow.{are_bytes}
use Rattle.journal.specs.declared.Record.{Record}
use Rattle.journal.specs.declared.errors.JournalError.{JournalError}
use Rattle.journal.specs.Fields.{Decoded, nothing, found}
use Rattle.journal.proofs.FieldLaws.{bytes_drop}
use Rattle.journal.specs.declared.Version.{Version}
use Rattle.journal.specs.Records.{parse}
use Rattle.journal.specs.Places.{read_at, call_at}
use Rattle.journal.specs.Journal.{error_number, stopped, ended, after, framed, records, on_reading, on_body, next_in, after_next}
use Rattle.journal.proofs.JournalLaws.{apart}
use Rattle.journal.proofs.Theorems.{next_gives_the_contents}

-- a whole record has 3 bytes or more with its length, and they are there
pub record Sized (l : List ℕ) (n : ℕ) : Type 0 where
  pub least : 3 ≤ n
  pub there : n ≤ length l

some_read : (v : Version) (body : List ℕ) (r : Record) → read_at v body ≡ Ok r → 1 ≤ length body
unfolding read_at parse
some_read v [] r e = absurd (let z : ◌≡◌ {A = ℕ} 0 1 = cc in omega arith)
some_read v (b ∷ l) r e = omega arith

whole_read : (v : Version) (l body rest : List ℕ) → are_bytes l ≡ true → framed l ≡ found body rest → (o : Result Record JournalError) → read_at v body ≡ o → (r : Record) (n : ℕ)
    → on_reading body o ≡ Ok (Some (r, n)) → Sized l n
whole_read v l body rest h f (Err k) g r n e = absurd (let z : ◌≡◌ {A = ℕ} 0 1 = cc in omega arith)
whole_read v l body rest h f (Ok q) g r n e =
    let both : (q, 2 + length body) ≡ (r, n) = cc in
    let s : 2 + length body ≡ n = ap (λ (x : Record × ℕ). x.1) both in
    let a = apart l body rest h f in
    let b = some_read v body q g in
    record { least = omega arith; there = omega (arith, a.size) }

pub whole_sized : (v : Version) (l : List ℕ) → are_bytes l ≡ true → (r : Record) (n : ℕ) → next_in v l ≡ Ok (Some (r, n)) → Sized l n
unfolding next_in
whole_sized v [] h r n e = absurd (let z : ◌≡◌ {A = ℕ} 0 1 = cc in omega arith)
whole_sized v (b ∷ l) h r n e = by (framed (b ∷ l)) refl e
  where
    by : (d : Decoded (List ℕ)) → framed (b ∷ l) ≡ d → on_body v d ≡ Ok (Some (r, n)) → Sized (b ∷ l) n
    by nothing f e = absurd (let z : ◌≡◌ {A = ℕ} 0 1 = cc in omega arith)
    by (found body rest) f e = whole_read v (b ∷ l) body rest h f (read_at v body) refl r n e

-- the bytes of the record at a place, which ends before `after`
abbrev pub body_at : ℕ → ℕ → List ℕ → List ℕ
body_at p after l = take (after - (p + 2)) (drop (p + 2) l)

pub record_sized : (v : Version) (l : List ℕ) → are_bytes l ≡ true → (p : ℕ) (r : Record) (k : ℕ) → next_in v (drop p l) ≡ Ok (Some (r, k)) → Sized (drop p l) k
record_sized v l h p r k e = whole_sized v (drop p l) (bytes_drop p l h) r k e

-- what the journal holds from there on, by what stands next
module _ (v : Version) (l : List ℕ) (h : are_bytes l ≡ true) (p : ℕ) where
  holds_next : (next : Result (Option (Record × ℕ)) JournalError) → next_in v (drop p l) ≡ next → records v (drop p l) ≡ after_next v (drop p l) next
  holds_next next e = next_gives_the_contents v (drop p l) (bytes_drop p l h) ∙ ap (after_next v (drop p l)) e

  pub left_at_end : next_in v (drop p l) ≡ Ok None → records v (drop p l) ≡ ended
  left_at_end e = holds_next (Ok None) e

  pub left_at_stop : (fault : JournalError) → next_in v (drop p l) ≡ Err fault → records v (drop p l) ≡ stopped (error_number fault)
  left_at_stop fault e = holds_next (Err fault) e

  module _ (r : Record) (k : ℕ) (e : next_in v (drop p l) ≡ Ok (Some (r, k))) where
    record_body : take (k - 2) (drop 2 (drop p l)) ≡ body_at p (p + k) l
    record_body =
        let s : k - 2 ≡ p + k - (p + 2) = omega (arith, (record_sized v l h p r k e).least) in
        rw (s, drop-drop 2 p l)

    pub left_at_record : records v (drop p l) ≡ after (call_at v r (body_at p (p + k) l)) (records v (drop (p + k) l))
    left_at_record = holds_next (Ok (Some (r, k))) e ∙ rw (record_body, drop-drop k p l)
