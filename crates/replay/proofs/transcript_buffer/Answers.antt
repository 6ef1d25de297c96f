-- The buffer has as many bytes as it says: by a lemma on any number, since its bytes are too many to be counted one by one.
-- Assumes nothing.
use Rattle.std.proofs.Common.{◌≡◌, ℕ, length, sym}
use Rattle.std.proofs.Math.ListN.{replicate}
use Rattle.std.proofs.lemmas.List.{length-replicate}
use Rattle.replay.proofs.transcript_buffer.Goals as goal

count_of : (n b : ℕ) → n ≡ length (replicate n b)
count_of n b = sym (length-replicate n b)

pub returns : goal.returns
returns c = count_of 655381 0
