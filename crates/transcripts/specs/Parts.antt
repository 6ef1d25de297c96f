-- The desk of the tables and the slots. Assumes nothing.
use Rattle.std.specs.Prelude.{List}
use Rattle.rules.specs.declared.Session.{Session}
use Rattle.rules.specs.declared.Tables.{Tables}
use Rattle.rules.specs.declared.Desk.{Desk}

abbrev pub desk_of : Tables → List Session → Desk
desk_of t slots = record { tables = t; sessions = slots }
