-- Document 01, "Rent": "Over any history, deposits equal live balances plus rents paid plus balances sent back, each summed from the calls."
-- What each of the four is. Assumes nothing.
use Rattle.std.specs.Prelude.{cond, List, [], ◌∷◌, ℕ, ◌+◌, leb}
use Rattle.lists.specs.Lists.{keep, sum_of}
use Rattle.rules.specs.declared.Volume.{Volume}
use Rattle.rules.specs.declared.Tables.{Tables}
use Rattle.rules.specs.declared.Desk.{Desk}
use Rattle.rules.specs.Tables.{used_volume}
use Rattle.rules.specs.Rent.{rent_now, epoch_ends}
use Rattle.rules.specs.Outcome.{is_accepted}
use Rattle.rules.specs.Advance.{paid_of, at_epoch, is_due}
use Rattle.rules.specs.Calls.{Ask, advance, create, deposit, delete, undelete, grant, attenuate, revoke, remove, look, register, heartbeat, Call, ask, on_slot, step}

abbrev pub balance_of : Volume → ℕ
balance_of v = v.balance

-- "live balances": those of the volumes in the table
unfoldable pub live_balances : Tables → ℕ
live_balances t = sum_of balance_of (keep used_volume t.volumes)

-- what a volume pays at an epoch end
unfoldable pub rent_paid : Tables → Volume → ℕ
rent_paid t v = paid_of v.status (rent_now t v) v.balance

-- "rents paid" when an advance takes the clock to this block: "When advance reaches or crosses one, then for each volume"
unfoldable pub rents_paid : Tables → ℕ → ℕ
rents_paid t block = cond (leb 1 (epoch_ends t.clock block)) (sum_of (rent_paid t) (keep used_volume t.volumes)) 0

-- the volumes once rents are paid and before any is collected
unfoldable pub after_rents : Tables → ℕ → List Volume
after_rents t block = (at_epoch (leb 1 (epoch_ends t.clock block)) t).volumes

-- "balances sent back" by that advance: "the balance leaves the desk to the owner"
unfoldable pub sent_back : Tables → ℕ → ℕ
sent_back t block = sum_of balance_of (keep (is_due block) (after_rents t block))

-- the calls that move coins: a deposit of so many, and an advance to a block
pub data Move : Type 0 where
  deposits : ℕ → Move
  advances : ℕ → Move
  neither : Move

abbrev pub ask_move : Ask → Move
ask_move (advance block) = advances block
ask_move (create a name k m cap) = neither
ask_move (deposit v coins) = deposits coins
ask_move (delete a v) = neither
ask_move (undelete a v) = neither
ask_move (grant a v s) = neither
ask_move (attenuate k s) = neither
ask_move (revoke a k) = neither
ask_move (remove a v path) = neither
ask_move (look k path) = neither
ask_move (register capacity) = neither
ask_move (heartbeat r) = neither

abbrev pub move_of : Call → Move
move_of (ask a) = ask_move a
move_of (on_slot slot w) = neither

-- the coins that such a call brings in, pays in rents and sends back, where it is accepted on these tables
abbrev pub coins_in : Move → Tables → ℕ
coins_in (deposits coins) t = coins
coins_in (advances block) t = 0
coins_in neither t = 0

abbrev pub coins_paid : Move → Tables → ℕ
coins_paid (deposits coins) t = 0
coins_paid (advances block) t = rents_paid t block
coins_paid neither t = 0

abbrev pub coins_back : Move → Tables → ℕ
coins_back (deposits coins) t = 0
coins_back (advances block) t = sent_back t block
coins_back neither t = 0

-- "each summed from the calls": over the accepted calls of a list, each on the desk that the calls before it left
unfoldable pub summed : (Move → Tables → ℕ) → List Call → Desk → ℕ
summed f [] d = 0
summed f (c ∷ cs) d = cond (is_accepted (step c d).answer) (f (move_of c) d.tables) 0 + summed f cs (step c d).desk
