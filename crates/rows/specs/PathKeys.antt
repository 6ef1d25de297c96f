-- A number for a path, from the volume's number and the path's last 13 bytes. It only saves work: equal paths of one volume have the same number, so
-- where the numbers differ, the paths need not be compared. Assumes nothing.
use Rattle.std.specs.Prelude.{List, [], ◌∷◌, ℕ, ◌-◌, ◌*◌, ◌%◌, ◌^◌, length, drop}
use Rattle.std.specs.Int.Bits.{bit_or, bit_xor}

-- byte after byte: the number so far goes up by 5 bits in 64, and the byte is joined by an exclusive or. What is 13 bytes back is moved out
unfoldable pub key_bytes : ℕ → List ℕ → ℕ
key_bytes k [] = k
key_bytes k (b ∷ bs) = key_bytes (bit_xor (k * 2 ^ 5 % 2 ^ 64) b) bs

-- the volume's number is joined 40 bits up, and a bit is set below the others, so that the number is not 0
unfoldable pub key_of : ℕ → List ℕ → ℕ
key_of n l = bit_or (bit_xor (key_bytes 0 (drop (length l - 13) l)) (n * 2 ^ 40 % 2 ^ 64) * 2 ^ 1 % 2 ^ 64) 1
