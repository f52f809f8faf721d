-- The lines that tell people of sessions.
use Rattle.std.specs.Prelude.{ℕ, ◌-◌, ◌/◌, ◌%◌, List, ◌++◌, length, replicate, codes, decimal}
use Rattle.std.specs.Net.Text.{dotted_text}
use Rattle.packet.specs.declared.endpoint.Proto.{Proto}
use Rattle.packet.specs.declared.endpoint.Proto.TheVariants.{Tcp, Udp}
use Rattle.packet.specs.declared.endpoint.Endpoint.{Endpoint}
use Rattle.sessions.specs.declared.session.Session.{Session}
use Rattle.sessions.specs.declared.life.Phase.{Phase}
use Rattle.sessions.specs.declared.life.Phase.TheVariants.{Partial, Established, Closing}
use Rattle.sessions.specs.Life.{phase_of}

-- the places of an endpoint; no endpoint is longer
abbrev pub endpoint_width : ℕ
endpoint_width = 21

-- an address by its four octets, the most significant first
abbrev pub dotted : ℕ → List ℕ
dotted addr = dotted_text (addr / 16777216) (addr / 65536 % 256) (addr / 256 % 256) (addr % 256)

-- as 192.0.2.1:80
unfoldable pub endpoint_text : Endpoint → List ℕ
endpoint_text e = dotted e.addr ++ codes ":" ++ decimal e.port

-- the text, and spaces up to a width
abbrev pub filled : ℕ → List ℕ → List ℕ
filled width text = text ++ replicate (width - length text) 32

-- the endpoint at the left of its places, and the space between columns
unfoldable pub column : Endpoint → List ℕ
column e = filled endpoint_width (endpoint_text e) ++ codes " "

abbrev pub proto_word : Proto → List ℕ
proto_word Tcp = codes "tcp"
proto_word Udp = codes "udp"

abbrev pub phase_word : Phase → List ℕ
phase_word Partial = codes "partial"
phase_word Established = codes "established"
phase_word Closing = codes "closing"

-- UDP has no phases
abbrev pub progress_by : Proto → ℕ → List ℕ
progress_by Tcp seen = phase_word (phase_of seen)
progress_by Udp seen = codes "-"

-- how far the session has come
abbrev pub progress_word : Session → List ℕ
progress_word s = progress_by s.proto s.seen

-- its three endpoints
unfoldable pub columns : Session → List ℕ
columns s = column s.inside ++ column s.outside ++ column s.remote

-- the line of a session, with its end
unfoldable pub line : Session → List ℕ
line s = proto_word s.proto ++ codes " " ++ columns s ++ progress_word s ++ codes "\n"
