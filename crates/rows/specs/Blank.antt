-- What a read past a table's end gives: zeros, the first variant and no elements. No code reads there.
use Rattle.std.specs.Prelude.{[]}
use Rattle.amount.specs.declared.Cap.TheVariants.{Unlimited}
use Rattle.text.specs.Text.{Text}
use Rattle.text.specs.Text.{Name}
use Rattle.rules.specs.declared.Volume.{Volume}
use Rattle.rules.specs.declared.Entry.{Entry}
use Rattle.rules.specs.declared.Token.{Token}
use Rattle.rules.specs.declared.Relay.{Relay}
use Rattle.rules.specs.declared.Put.{Put}
use Rattle.rules.specs.declared.Session.{Session}
use Rattle.rules.specs.declared.Mode.TheVariants.{Read}
use Rattle.rules.specs.declared.Status.TheVariants.{Active}
use Rattle.rules.specs.Fresh.{no_volume, no_token, no_relay}

abbrev pub blank_text : Text
blank_text = record { bytes = []; len = 0 }

abbrev pub blank_name : Name
blank_name = record { bytes = []; len = 0 }

abbrev pub blank_volume : Volume
blank_volume = record {
  no = no_volume;
  owner = record { 0 = [] };
  name = blank_name;
  k = 0;
  m = 0;
  cap = Unlimited;
  status = Active;
  balance = 0;
  version = 0;
  grace = 0;
  deleted = 0;
}

abbrev pub blank_token : Token
blank_token = record {
  no = no_token;
  volume = no_volume;
  parent = no_token;
  scope = record { prefix = blank_text; mode = Read; cap = Unlimited; «from» = 0; until = 0 };
  used = 0;
}

abbrev pub blank_relay : Relay
blank_relay = record { no = no_relay; capacity = 0; used = 0; held = 0; beat = 0 }

abbrev pub blank_entry : Entry
blank_entry = record {
  volume = no_volume;
  path = blank_text;
  size = 0;
  hash = record { 0 = [] };
  placement = record { relays = []; len = 0 };
}

abbrev pub blank_put : Put
blank_put = record { path = blank_text; size = 0; hash = record { 0 = [] } }

abbrev pub blank_session : Session
blank_session = record { token = no_token; volume = no_volume; version = 0; count = 0; puts = [] }
