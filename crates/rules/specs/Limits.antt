-- Document 01: the limits of the tables and of the calls, each named once. Those of a path, a prefix and a name stand with the texts. Assumes
-- nothing.
use Rattle.std.specs.Prelude.{ℕ, ◌^◌}

-- "What the desk holds": the rows of each table, the session slots, and the puts of a session
abbrev pub volume_rows : ℕ
volume_rows = 8

abbrev pub entry_rows : ℕ
entry_rows = 64

abbrev pub token_rows : ℕ
token_rows = 32

abbrev pub relay_rows : ℕ
relay_rows = 32

abbrev pub slot_rows : ℕ
slot_rows = 4

abbrev pub put_rows : ℕ
put_rows = 8

-- "up to 24 relay numbers, by shard index"
abbrev pub shard_places : ℕ
shard_places = 24

-- "K 2..16, M 1..8 (000)"
abbrev pub least_k : ℕ
least_k = 2

abbrev pub most_k : ℕ
most_k = 16

abbrev pub least_m : ℕ
least_m = 1

abbrev pub most_m : ℕ
most_m = 8

-- "size at most 2^36"; "a byte count up to 2^36"
abbrev pub size_limit : ℕ
size_limit = 2 ^ 36

-- "capacity at most 2^42"
abbrev pub capacity_limit : ℕ
capacity_limit = 2 ^ 42

-- "would pass the cap, or 2^60"
abbrev pub used_limit : ℕ
used_limit = 2 ^ 60

-- "above 2^40"
abbrev pub clock_limit : ℕ
clock_limit = 2 ^ 40

-- "balance above 10^15, or all deposits ever above 10^18"
abbrev pub balance_limit : ℕ
balance_limit = 10 ^ 15

abbrev pub deposits_limit : ℕ
deposits_limit = 10 ^ 18

-- "Each kind counts from 1, is never given twice, and ends at 65,535"
abbrev pub last_number : ℕ
last_number = 65535

-- "up to 4,294,967,295"
abbrev pub last_version : ℕ
last_version = 4294967295

-- "A root is depth 1, the deepest 8."
abbrev pub deepest : ℕ
deepest = 8

-- "Health is 100 less the blocks since the last heartbeat"; "health at least 50"
abbrev pub full_health : ℕ
full_health = 100

abbrev pub eligible_health : ℕ
eligible_health = 50

-- "Epochs end at multiples of 3,600 blocks (H)."
abbrev pub epoch_blocks : ℕ
epoch_blocks = 3600

-- "whose delete lies 7,200 blocks or more back"
abbrev pub deleted_blocks : ℕ
deleted_blocks = 7200

-- "collected at 3 (H)"
abbrev pub grace_end : ℕ
grace_end = 3

-- "ceil(effective × rate / 2^20) coins"
abbrev pub rent_bytes : ℕ
rent_bytes = 2 ^ 20
