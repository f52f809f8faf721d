-- Sessions as objects of JSON (RFC 8259). No text in them has a byte that would have to be escaped.
use Rattle.std.specs.Prelude.{ℕ, List, ◌++◌, codes}
use Rattle.packet.specs.declared.endpoint.Proto.{Proto}
use Rattle.packet.specs.declared.endpoint.Proto.TheVariants.{Tcp, Udp}
use Rattle.sessions.specs.declared.session.Session.{Session}
use Rattle.sessions.specs.declared.session.Opener.{Opener}
use Rattle.sessions.specs.declared.session.Opener.TheVariants.{Inside, Remote}
use Rattle.sessions.specs.declared.life.Phase.{Phase}
use Rattle.sessions.specs.declared.life.Phase.TheVariants.{Partial, Established, Closing}
use Rattle.sessions.specs.Life.{phase_of}
use Rattle.session_lines.specs.Lines.{endpoint_text, proto_word}

abbrev pub opener_word : Opener → List ℕ
opener_word Inside = codes "inside"
opener_word Remote = codes "remote"

abbrev pub quoted_phase : Phase → List ℕ
quoted_phase Partial = codes "\"partial\""
quoted_phase Established = codes "\"established\""
quoted_phase Closing = codes "\"closing\""

-- UDP has no phases
abbrev pub phase_by : Proto → ℕ → List ℕ
phase_by Tcp seen = quoted_phase (phase_of seen)
phase_by Udp seen = codes "null"

abbrev pub phase_value : Session → List ℕ
phase_value s = phase_by s.proto s.seen

-- the three endpoints, as 192.0.2.1:80
unfoldable pub places : Session → List ℕ
places s =
    (codes ",\"inside\":\"" ++ endpoint_text s.inside ++ codes "\"")
    ++ (codes ",\"outside\":\"" ++ endpoint_text s.outside ++ codes "\"")
    ++ (codes ",\"remote\":\"" ++ endpoint_text s.remote ++ codes "\"")

-- the object of a session, and the end of its line
unfoldable pub object : Session → List ℕ
object s =
    (codes "{\"protocol\":\"" ++ proto_word s.proto ++ codes "\"")
    ++ places s
    ++ (codes ",\"opener\":\"" ++ opener_word s.opener ++ codes "\"")
    ++ (codes ",\"phase\":" ++ phase_value s ++ codes "}\n")
