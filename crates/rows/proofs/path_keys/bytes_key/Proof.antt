-- `path_keys::bytes_key` meets its contract: the number so far, with the bytes from i on, is the whole. Assumes nothing.
use Prim.Native.Nat.{◌-◌}
use Rattle.rows.specs.PathKeyLaws.{KeyLoop, keys}
use Rattle.rows.proofs.path_keys.bytes_key.Statement.{statement}
use Rattle.rows.proofs.path_keys.bytes_key.Tie as tie

pub bytes_key_spec : {M : Type 1} → statement M
bytes_key_spec =
    tie.close
    (tie.spec
    (λ n len bytes count key₀ i₀ key i. KeyLoop bytes len count key i)
    (λ n len bytes count key₀ i₀ key i. count - i)
    (λ c κs. search keys)
    (λ c κs. search keys)
    (λ c. search keys)
    (λ c. search keys)
    (λ c. search keys)
    (λ c. search keys)
    (λ c. search keys)
    (λ c. search keys)
    (λ c. search keys))
