-- The requests of a turn are few and short, so reading them comes to an end.
use Rattle.std.proofs.Common.{◌≡◌, ◌≢◌, inl, inr, ℕ, ◌+◌, ◌-◌, ◌*◌, ◌^◌, ◌≤◌, ◌<◌, Bool, true, false, cond, ltb, List, [], ◌∷◌, ◌++◌, length, map, Option, None, Some, Err, refl, ap, subst, arith, length-append}
use Rattle.std.specs.List.{flat_map, AllByRecursion}
use Rattle.std.proofs.lemmas.List.{length-map}
use Rattle.packet.specs.declared.endpoint.Iface.TheVariants.{Lan, Wan}
use Rattle.machine.specs.Machine.{later}
use Rattle.machine.specs.declared.event.Event.{Event}
use Rattle.machine.specs.declared.event.What.{What}
use Rattle.machine.specs.declared.event.What.TheVariants as what
use Rattle.frames.specs.Streams.{FitsFrame, interface_of, kind_of, longest_body, request as framed, request_body}
use Rattle.frames.proofs.Composed.{header_long}
use Rattle.socket_edge.specs.declared.fault.EdgeFault.TheVariants.{Input}
use Rattle.socket_edge.specs.Running.{TurnsEnd}
use Rattle.socket_edge.specs.Turns.{Turn as Exchange, Gave, ReadFailed, Took, WriteFailed, AllPass, given, times_asked}
use Rattle.carrying.specs.AtHand.{NoReadFails}
use Rattle.carrying.specs.Turns.{Turn, events_of, load, packet_at, tick}

body_short : (w : What) → length (request_body w) ≤ longest_body (kind_of w) → length (request_body w) ≤ 262144
body_short (what.Packet iface packet) h = omega (arith, h)
body_short (what.Load text) h = h
body_short what.Moment h = omega (arith, h)

request_short : (event : Event) → FitsFrame event → length (framed event) ≤ 262158
request_short event f =
    omega (arith, header_long (kind_of event.what) (interface_of event.what) (length (request_body event.what)) event.moment (request_body event.what), body_short event.what f.body)

requests_short : (es : List Event) → AllByRecursion FitsFrame es → length (flat_map framed es) ≤ length es * 262158
requests_short [] all = omega arith
requests_short (e ∷ es) all =
    omega (arith, length-append (framed e) (flat_map framed es), request_short e all.0, requests_short es all.1)

tick_few : (last moment : ℕ) → length (tick last moment) ≤ 1
tick_few last moment = tested (ltb last moment)
  where
    tested : (t : Bool) → length {A = Event} (cond t (record { moment = moment; what = what.Moment } ∷ []) []) ≤ 1
    tested true = omega arith
    tested false = omega arith

load_few : (m : ℕ) (text : Option (List ℕ)) → length (load m text) ≤ 1
load_few m None = omega arith
load_few m (Some text) = omega arith

events_few : (last : ℕ) (turn : Turn) → length turn.lan ≤ 64 → length turn.wan ≤ 64 → length (events_of last turn) ≤ 130
events_few last turn lan wan =
    let m = later last turn.moment in
    let c = map (packet_at m Lan) turn.lan in
    let d = map (packet_at m Wan) turn.wan in
    omega (
      arith,
      length-append (tick last turn.moment) (load m turn.text ++ (c ++ d)),
      length-append (load m turn.text) (c ++ d),
      length-append c d,
      tick_few last turn.moment,
      load_few m turn.text,
      length-map turn.lan (packet_at m Lan),
      length-map turn.wan (packet_at m Wan),
      lan,
      wan,
    )

-- so they have fewer bytes than there may be reads
pub turn_short : (last : ℕ) (turn : Turn) → length turn.lan ≤ 64 → length turn.wan ≤ 64 → AllByRecursion FitsFrame (events_of last turn) → length (flat_map framed (events_of last turn)) < 2 ^ 64 - 1
turn_short last turn lan wan fit = omega (arith, events_few last turn lan wan, requests_short (events_of last turn) fit)

not_last : (before : List Exchange) → NoReadFails (before ++ ReadFailed ∷ []) → ⊥
not_last [] none = none
not_last (Gave bytes ∷ before) none = not_last before none
not_last (ReadFailed ∷ before) none = none
not_last (Took bytes ∷ before) none = not_last before none
not_last (WriteFailed ∷ before) none = not_last before none

some_bytes : (bytes : List ℕ) → bytes ≢ [] → 1 ≤ length bytes
some_bytes [] some = absurd (some refl)
some_bytes (b ∷ bytes) some = omega arith

-- each read that gave some gave a byte at least
asked_less : (turns : List Exchange) → AllPass turns → times_asked turns ≤ length (given turns)
asked_less [] pass = omega arith
asked_less (Gave bytes ∷ turns) pass = omega (arith, length-append bytes (given turns), some_bytes bytes pass.0, asked_less turns pass.1)
asked_less (ReadFailed ∷ turns) pass = absurd pass.0
asked_less (Took bytes ∷ turns) pass = asked_less turns pass.1
asked_less (WriteFailed ∷ turns) pass = absurd pass.0

-- reading didn't end it
pub no_input : (turns : List Exchange) (requests rest : List ℕ) → requests ≡ given turns ++ rest → length requests < 2 ^ 64 - 1 → NoReadFails turns → TurnsEnd (Err Input) turns → ⊥
no_input turns requests rest split short none (inl last) = not_last last.before (subst NoReadFails last.are none)
no_input turns requests rest split short none (inr behind) = absurd (omega (arith, ap length split, length-append (given turns) rest, short, asked_less turns behind.1, behind.2))
