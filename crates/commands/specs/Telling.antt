-- What is told of a gateway.
use Rattle.std.specs.Prelude.{ℕ, List}
use Rattle.std.specs.List.{flat_map}
use Rattle.sessions.specs.declared.session.Session.{Session}
use Rattle.session_lines.specs.Lines.{line}
use Rattle.session_lines.specs.Objects.{object}
use Rattle.durable.specs.Entering.{Durable}
use Rattle.options.specs.declared.Listing.{Listing}
use Rattle.options.specs.declared.Listing.TheVariants.{Columns, Json}
use Rattle.options.specs.declared.View.{View}
use Rattle.options.specs.declared.View.TheVariants.{Sessions, Rules}

-- sessions, each in a line of its own
abbrev pub listed : Listing → List Session → List ℕ
listed Columns sessions = flat_map line sessions
listed Json sessions = flat_map object sessions

-- the sessions, or the text byte for byte
abbrev pub told_of : View → Durable → List ℕ
told_of (Sessions listing) d = listed listing d.sessions
told_of Rules d = d.text
