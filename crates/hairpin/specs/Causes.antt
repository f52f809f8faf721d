-- The numbers of the causes of a drop.
use Rattle.std.specs.Prelude.{ℕ}
use Rattle.packet.specs.Numbers.{fault_number, route_fault_number}
use Rattle.hairpin.specs.declared.cause.Cause.{Cause}
use Rattle.hairpin.specs.declared.cause.Cause.TheVariants.{Packet, Route, NoMapping, Filtered, NoSession, Rule, Clash, SelfMapped, NoPort, TableFull}

abbrev pub cause_number : Cause → ℕ
cause_number (Packet fault) = fault_number fault
cause_number (Route fault) = route_fault_number fault
cause_number NoMapping = 13
cause_number Filtered = 14
cause_number NoSession = 15
cause_number Rule = 16
cause_number Clash = 17
cause_number SelfMapped = 18
cause_number NoPort = 19
cause_number TableFull = 20
