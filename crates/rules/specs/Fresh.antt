-- Document 01: "A fresh desk is empty, clock 0"; "a freed row or slot is as on a fresh desk". Number 0 marks a free row. Assumes nothing.
use Rattle.std.specs.Prelude.{ℕ, replicate}
use Rattle.amount.specs.declared.Cap.TheVariants.{Bytes}
use Rattle.text.specs.Text.{Text}
use Rattle.text.specs.Text.{Name}
use Rattle.text.specs.Text.{path_limit, name_limit}
use Rattle.rules.specs.declared.VolumeNo.{VolumeNo}
use Rattle.rules.specs.declared.TokenNo.{TokenNo}
use Rattle.rules.specs.declared.RelayNo.{RelayNo}
use Rattle.rules.specs.declared.Account.{Account}
use Rattle.rules.specs.declared.Hash.{Hash}
use Rattle.rules.specs.declared.Placement.{Placement}
use Rattle.rules.specs.declared.Volume.{Volume}
use Rattle.rules.specs.declared.Entry.{Entry}
use Rattle.rules.specs.declared.Scope.{Scope}
use Rattle.rules.specs.declared.Token.{Token}
use Rattle.rules.specs.declared.Relay.{Relay}
use Rattle.rules.specs.declared.Put.{Put}
use Rattle.rules.specs.declared.Session.{Session}
use Rattle.rules.specs.declared.Tables.{Tables}
use Rattle.rules.specs.declared.Desk.{Desk}
use Rattle.rules.specs.declared.Mode.TheVariants.{Read}
use Rattle.rules.specs.declared.Status.TheVariants.{Active}
use Rattle.rules.specs.Limits.{volume_rows, entry_rows, token_rows, relay_rows, slot_rows, put_rows, shard_places}

abbrev pub no_volume : VolumeNo
no_volume = record { 0 = 0 }

abbrev pub no_token : TokenNo
no_token = record { 0 = 0 }

abbrev pub no_relay : RelayNo
no_relay = record { 0 = 0 }

abbrev pub fresh_text : Text
fresh_text = record { bytes = replicate path_limit 0; len = 0 }

abbrev pub fresh_name : Name
fresh_name = record { bytes = replicate name_limit 0; len = 0 }

abbrev pub fresh_hash : Hash
fresh_hash = record { 0 = replicate 32 0 }

abbrev pub fresh_account : Account
fresh_account = record { 0 = replicate 32 0 }

abbrev pub fresh_placement : Placement
fresh_placement = record { relays = replicate shard_places no_relay; len = 0 }

abbrev pub fresh_volume : Volume
fresh_volume = record {
  no = no_volume;
  owner = fresh_account;
  name = fresh_name;
  k = 0;
  m = 0;
  cap = Bytes 0;
  status = Active;
  balance = 0;
  version = 0;
  grace = 0;
  deleted = 0;
}

abbrev pub fresh_entry : Entry
fresh_entry = record { volume = no_volume; path = fresh_text; size = 0; hash = fresh_hash; placement = fresh_placement }

abbrev pub fresh_scope : Scope
fresh_scope = record { prefix = fresh_text; mode = Read; cap = Bytes 0; «from» = 0; until = 0 }

abbrev pub fresh_token : Token
fresh_token = record { no = no_token; volume = no_volume; parent = no_token; scope = fresh_scope; used = 0 }

abbrev pub fresh_relay : Relay
fresh_relay = record { no = no_relay; capacity = 0; used = 0; held = 0; beat = 0 }

abbrev pub fresh_put : Put
fresh_put = record { path = fresh_text; size = 0; hash = fresh_hash }

abbrev pub fresh_session : Session
fresh_session = record { token = no_token; volume = no_volume; version = 0; count = 0; puts = replicate put_rows fresh_put }

-- "rate is a u16 set when the desk is made"
abbrev pub fresh_tables : ℕ → Tables
fresh_tables rate = record {
  clock = 0;
  rate = rate;
  volumes = replicate volume_rows fresh_volume;
  entries = replicate entry_rows fresh_entry;
  tokens = replicate token_rows fresh_token;
  relays = replicate relay_rows fresh_relay;
  last_volume = 0;
  last_token = 0;
  last_relay = 0;
  deposits = 0;
}

-- "A fresh desk is empty, clock 0"
abbrev pub fresh_desk : ℕ → Desk
fresh_desk rate = record { tables = fresh_tables rate; sessions = replicate slot_rows fresh_session }
