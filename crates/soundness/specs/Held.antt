-- The relays of a table that hold the shards of an entry, one bit for each row. Assumes nothing.
use Rattle.std.specs.Prelude.{◌≡◌, Bool, true, List, ℕ, ◌%◌, ◌<◌, length, get_or}
use Rattle.lists.specs.Lists.{any_of, no_clash, bit_set}
use Rattle.rules.specs.declared.Entry.{Entry}
use Rattle.rules.specs.Tables.{numbered}
use Rattle.sound_rows.specs.Places.{places_of}

-- whether the relay of this number has one of the places
unfoldable pub on_place : List ℕ → ℕ → Bool
on_place ps x = any_of (numbered x) ps

-- the relays of these numbers that hold a shard of the entry
unfoldable pub held_set : List ℕ → Entry → ℕ
held_set ns e = bit_set (on_place (places_of e)) ns

-- for each remainder by 256 a row: one whose number has it, if there is one; the number of a free row is 0
pub record ByRemainder (ns table : List ℕ) : Type 0 where
  pub below : (j : ℕ) → get_or table j 0 < 32
  pub same : (i : ℕ) → i < 32 → get_or ns (get_or table (get_or ns i 0 % 256) 0) 0 % 256 ≡ get_or ns i 0 % 256

-- that table, and the numbers of the relays, none of them held twice
pub record RowTable (ns table : List ℕ) : Type 0 where
  pub size : length ns ≡ 32
  pub entries : length table ≡ 256
  pub rows : ByRemainder ns table
  pub differ : no_clash numbered ns ≡ true
