-- A path's number is not 0, and the loop that makes it. Assumes nothing.
use Rattle.std.specs.Prelude.{◌≡◌, List, ℕ, ◌+◌, ◌-◌, ◌*◌, ◌%◌, ◌^◌, ◌<◌, ◌≤◌, min, length, take, drop}
use Rattle.std.proofs.Common.{◌∙◌, arith, add-one, rules, drop_of_length-le, drop-cons}
use Rattle.std.proofs.Math.Path.{ap}
use Rattle.std.specs.Int.Bits.{bit_or, bit_xor, or_add_and}
use Rattle.std.proofs.lemmas.Nat.{and_le_l}
use Rattle.std.proofs.Math.ListN.{get_or, length-take}
use Rattle.std.proofs.Math.Seq.{get_or-take}
use Rattle.lists.specs.LoopLaws.{part_length}
use Rattle.text.specs.Text.{path_limit}
use Rattle.rows.specs.PathKeys.{key_bytes, key_of}

pub key_given : (n : ℕ) (l : List ℕ) → 0 < key_of n l
unfolding key_of
key_given n l =
    let k = bit_xor (key_bytes 0 (drop (length l - 13) l)) (n * 2 ^ 40 % 2 ^ 64) * 2 ^ 1 % 2 ^ 64 in
    omega (arith, or_add_and k 1, and_le_l k 1)

-- the first len bytes of l are in the number up to the byte i of c: with those from i on it is the whole
pub record KeyLoop (l : List ℕ) (len c key i : ℕ) : Type 0 where
  pub size : length (take len l) ≡ c
  pub most : c ≤ path_limit
  pub rest : key_bytes key (drop i (take len l)) ≡ key_bytes 0 (drop (c - 13) (take len l))

module _ (l : List ℕ) (len c : ℕ) where
  pub key_start : (i : ℕ) → c ≡ min len path_limit → i ≡ c - 13 → length l ≡ path_limit → KeyLoop l len c 0 i
  key_start i e f q = record { size = part_length l len path_limit c e q; most = omega arith; rest = rw f }

  module _ (key i : ℕ) (h : KeyLoop l len c key i) where
    pub key_end : (n r : ℕ) → c ≤ i → r ≡ bit_or (bit_xor key (n * 2 ^ 40 % 2 ^ 64) * 2 ^ 1 % 2 ^ 64) 1 → r ≡ key_of n (take len l)
    unfolding key_of key_bytes
    key_end n r w e =
        let s = rw (drop_of_length-le (take len l) {i = i} (omega (arith, h.size))) at h.rest in
        rw h.size (e ∙ ap (λ (k : ℕ). bit_or (bit_xor k (n * 2 ^ 40 % 2 ^ 64) * 2 ^ 1 % 2 ^ 64) 1) s)

    pub key_step : (k : ℕ) → i < c → k ≡ bit_xor (key * 2 ^ 5 % 2 ^ 64) (get_or l i 0) → KeyLoop l len c k (i + 1)
    unfolding key_bytes
    key_step k w e =
        let there : get_or (take len l) i 0 ≡ get_or l i 0 = get_or-take len l i 0 (omega (arith, length-take len l, h.size)) in
        let s = rw (drop-cons (take len l) i 0 (omega (arith, h.size)), there) at h.rest in
        record { size = h.size; most = h.most; rest = rw (add-one, e) s }

pub ruleset keys = (key_step, key_end, key_start, rules)
