-- What the replay that gives the desk leaves, return by return. Assumes nothing.
use Rattle.std.specs.Prelude.{Result, Ok, Err, is_ok}
use Rattle.std.proofs.lemmas.Bool.{false≢true}
use mathlib.Core.Path.{◌≡◌, refl, sym, ◌∙◌}
use mathlib.Core.Bool.{Bool, true, false, cond}
use mathlib.Core.List.{List, ◌++◌}
use Prim.Native.Nat.{ℕ, ◌<◌, ◌≤◌}
use lib.Dec.{ltb}
use lib.ListN.{length, drop}
use borrow.Author.Tests.{lt-ltb, le-ltb}
use Rattle.rules.specs.Numbers.{ROOM}
use Rattle.transcripts.specs.declared.Replayed.{Replayed}
use Rattle.printed.specs.Transcript as printed
use Rattle.transcripts.specs.Replay as replays
use Rattle.transcripts.specs.declared.ReplayError.{ReplayError}
use Rattle.transcripts.specs.declared.ReplayError.TheVariants as error
use Rattle.transcripts.specs.Replay.{answer_of, buffer_of, desk_after, replayed_of, refusal_number}
use Rattle.desk_bytes.specs.Layout.{desk_bytes, desk_length}
use Rattle.desk_bytes.specs.Writing as desks
use Rattle.pailorchard.specs.DeskAfter.{too_short, desk_number, transcript_left, desk_left, length_left, desk_where}

-- ---- a replay without its desk, and its desk

written_by : (b : Bool) (x y : Replayed) → (cond b x y).written ≡ cond b x.written y.written
written_by true x y = refl
written_by false x y = refl

done_desk : (b : Bool) (x y : Replayed) → is_ok x.written ≡ false → is_ok (cond b x y).written ≡ true → (cond b x y).desk ≡ y.desk
done_desk true x y e z = absurd (false≢true (sym e ∙ z))
done_desk false x y e z = refl

module _ (journal transcript : List ℕ) {r : Replayed} (e : r ≡ replayed_of journal transcript) where
  pub without_desk : r.written ≡ answer_of journal transcript
  unfolding answer_of replayed_of
  without_desk = rw e (written_by (replays.too_short journal transcript) _ _)

  -- the desk that it gives is the one after the journal
  given_desk : is_ok r.written ≡ true → r.desk ≡ desk_after journal
  unfolding replayed_of
  given_desk z = rw e (done_desk (replays.too_short journal transcript) _ _ refl (rw e at z))

  pub no_desk : (desk : List ℕ) → is_ok r.written ≡ false → desk ≡ desk_where (answer_of journal transcript) journal desk
  unfolding desk_where
  no_desk desk z = rw (← without_desk) (go r.written z)
    where
      go : (w : Result ℕ ReplayError) → is_ok w ≡ false → desk ≡ desk_where w journal desk
      go (Ok len) q = absurd (false≢true (sym q))
      go (Err c) q = refl

  pub a_desk : (desk : List ℕ) {left : List ℕ} → is_ok r.written ≡ true → left ≡ desks.buffer_of r.desk desk → left ≡ desk_where (answer_of journal transcript) journal desk
  unfolding desk_where
  a_desk desk z w = rw (← without_desk) (w ∙ rw (given_desk z) (go r.written z))
    where
      go : (w : Result ℕ ReplayError) → is_ok w ≡ true → desks.buffer_of (desk_after journal) desk ≡ desk_where w journal desk
      go (Ok len) q = refl
      go (Err c) q = absurd (false≢true q)

-- ---- the whole

module _ (journal transcript desk : List ℕ) where
  -- the buffer for the desk is too short: all is as it was
  module _ {room : ℕ} (e : room ≡ desk_length) (l : length desk < room) where
    short : too_short journal transcript desk ≡ true
    unfolding too_short
    short = rw (← e, lt-ltb (length desk) room l) refl

    pub short_number : ROOM ≡ desk_number journal transcript desk
    unfolding desk_number
    short_number = rw short refl

    pub short_transcript : transcript ≡ transcript_left journal transcript desk
    unfolding transcript_left
    short_transcript = rw short refl

    pub short_desk : desk ≡ desk_left journal transcript desk
    unfolding desk_left
    short_desk = rw short refl

    pub short_length : (n : ℕ) → n ≡ length_left journal transcript desk n
    unfolding length_left
    short_length n = rw short refl

  -- it has room: the replay decides
  module _ {room : ℕ} (e : room ≡ desk_length) (l : room ≤ length desk) where
    fits : ltb (length desk) desk_length ≡ false
    fits = rw (← e) (le-ltb (length desk) room l)

    decided : too_short journal transcript desk ≡ replays.too_short journal transcript
    unfolding too_short
    decided = rw fits refl

    pub one_number : {r : Result ℕ ReplayError} {len : ℕ} → r ≡ answer_of journal transcript → r ≡ Ok len → 0 ≡ desk_number journal transcript desk
    unfolding desk_number answer_of
    one_number {len = len} q w = rw decided (go (replays.too_short journal transcript) (sym w ∙ q))
      where
        go : (b : Bool) → Ok len ≡ cond b (Err error.Room) (Ok (length (printed.transcript journal))) → 0 ≡ cond b ROOM 0
        go true z = cc
        go false z = refl

    pub other_number : {r : Result ℕ ReplayError} {cause : ReplayError} {number : ℕ} → r ≡ answer_of journal transcript → r ≡ Err cause → number ≡ refusal_number cause
        → number ≡ desk_number journal transcript desk
    unfolding desk_number answer_of
    other_number {cause = cause} q w f = f ∙ rw decided (go (replays.too_short journal transcript) (sym w ∙ q))
      where
        go : (b : Bool) → Err cause ≡ cond b (Err error.Room) (Ok (length (printed.transcript journal))) → refusal_number cause ≡ cond b ROOM 0
        go true z = let c : cause ≡ error.Room = cc in rw c
        go false z = cc

    pub one_transcript : {out : List ℕ} → out ≡ buffer_of journal transcript → out ≡ transcript_left journal transcript desk
    unfolding transcript_left buffer_of
    one_transcript q = rw decided q

    pub one_desk : {left : List ℕ} → left ≡ desk_where (answer_of journal transcript) journal desk → left ≡ desk_left journal transcript desk
    unfolding desk_left desk_where desks.buffer_of answer_of
    one_desk q = q ∙ rw decided (go (replays.too_short journal transcript) _)
      where
        go : (b : Bool) (len : ℕ) → desk_where (cond b (Err error.Room) (Ok len)) journal desk ≡ cond b desk (desk_bytes (desk_after journal) ++ drop desk_length desk)
        go true len = refl
        go false len = rw fits

    module _ {r : Result ℕ ReplayError} (q : r ≡ answer_of journal transcript) (n : ℕ) where
      pub length_stored : {len : ℕ} → r ≡ Ok len → len ≡ length_left journal transcript desk n
      unfolding length_left answer_of
      length_stored {len = len} w = rw decided (go (replays.too_short journal transcript) (sym w ∙ q))
        where
          go : (b : Bool) → Ok len ≡ cond b (Err error.Room) (Ok (length (printed.transcript journal))) → len ≡ cond b n (length (printed.transcript journal))
          go true z = cc
          go false z = cc

      pub length_kept : {cause : ReplayError} → r ≡ Err cause → n ≡ length_left journal transcript desk n
      unfolding length_left answer_of
      length_kept {cause = cause} w = rw decided (go (replays.too_short journal transcript) (sym w ∙ q))
        where
          go : (b : Bool) → Err cause ≡ cond b (Err error.Room) (Ok (length (printed.transcript journal))) → n ≡ cond b n (length (printed.transcript journal))
          go true z = refl
          go false z = cc
