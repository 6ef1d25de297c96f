-- What a commit leaves, part by part. Assumes nothing.
use mathlib.Core.Path.{◌≡◌, ◌∙◌}
use mathlib.Core.Bool.{Bool, false}
use mathlib.Core.List.{List, map}
use Prim.Native.Nat.{ℕ}
use lib.ListN.{take}
use Rattle.lists.specs.Lists.{any_of}
use Rattle.rules.specs.declared.VolumeNo.{VolumeNo}
use Rattle.rules.specs.declared.Placement.{Placement}
use Rattle.rules.specs.declared.Volume.{Volume}
use Rattle.rules.specs.declared.Entry.{Entry}
use Rattle.rules.specs.declared.Token.{Token}
use Rattle.rules.specs.declared.Relay.{Relay}
use Rattle.rules.specs.declared.Put.{Put}
use Rattle.rules.specs.Scope.{family}
use Rattle.rules.specs.Relays.{lightened}
use Rattle.rules.specs.Commit.{staged_bytes, store_all, charged}
use Rattle.entries.specs.Marks.{is_set, marked}
use Rattle.entries.specs.MarkLaws.{give_none}

-- without puts the entries stay
pub stores_none : (n : VolumeNo) (count : ℕ) (puts : List Put) (places : List Placement) (es : List Entry) → count ≡ 0
    → es ≡ store_all n (take count puts) (take count places) es
unfolding store_all
stores_none n count puts places es z = rw z

-- the bytes that are charged
pub charges_staged : (tokens cs : List Token) (k : Token) (bytes : ℕ) (ps : List Put) → cs ≡ map (charged (family tokens k) bytes) tokens
    → bytes ≡ staged_bytes ps → cs ≡ map (charged (family tokens k) (staged_bytes ps)) tokens
charges_staged tokens cs k bytes ps e f = e ∙ rw f

-- where no mark is set the relays stay
pub gives_none : (vs : List Volume) (es : List Entry) (ms : List Bool) (rs : List Relay) (r : Bool) → r ≡ any_of is_set ms → r ≡ false
    → rs ≡ map (lightened vs (marked ms es)) rs
gives_none vs es ms rs r e f = give_none vs es ms rs r (rw f) e
