-- The packets of turns are bytes.
use Rattle.std.proofs.Common.{◌≤◌, ℕ, zero, suc, List, [], ◌∷◌, ◌++◌, Option, None, Some, Bool, true, false, cond, ltb, length, map, drop, subst, arith, length-drop}
use Rattle.std.specs.List.{AllByRecursion}
use Rattle.packet.specs.Laws.{AreBytes}
use Rattle.packet.specs.declared.endpoint.Iface.{Iface}
use Rattle.packet.specs.declared.endpoint.Iface.TheVariants.{Lan, Wan}
use Rattle.from_devices.specs.Requests.{IsPacket}
use Rattle.machine.specs.Machine.{later}
use Rattle.machine.specs.declared.event.Event.{Event}
use Rattle.machine.specs.declared.event.What.{What}
use Rattle.machine.specs.declared.event.What.TheVariants.{Load, Moment, Packet}
use Rattle.carrying.specs.Runs.{PacketsAreBytes, all_events, from_lan, from_wan}
use Rattle.carrying.specs.Turns.{Turn, events_of, load, packet_at, tick}

drop-fit : (n : ℕ) (xs : List ℕ) → AreBytes xs → AreBytes (drop n xs)
drop-fit zero xs h = h
drop-fit (suc n) [] h = λ i. omega arith
drop-fit (suc n) (x ∷ xs) h = drop-fit n xs (λ k. h (suc k))

-- the packet of an event is bytes, and not too many
abbrev Fits : What → Type 0
Fits (Load text) = Unit {0}
Fits Moment = Unit {0}
Fits (Packet iface packet) = AreBytes packet × (length packet ≤ 65535)

abbrev AllFit : List Event → Type 0
AllFit [] = Unit {0}
AllFit (event ∷ events) = Fits event.what × AllFit events

all-fit : (xs ys : List Event) → AllFit xs → AllFit ys → AllFit (xs ++ ys)
all-fit [] ys p q = q
all-fit (x ∷ xs) ys p q = (p.0, all-fit xs ys p.1 q)

one-fits : (before : List Event) (event : Event) (after : List Event) → AllFit (before ++ event ∷ after) → Fits event.what
one-fits [] event after p = p.0
one-fits (x ∷ before) event after p = one-fits before event after p.1

packets-fit : (m : ℕ) (iface : Iface) (xs : List (List ℕ)) → AllByRecursion IsPacket xs → AllFit (map (packet_at m iface) xs)
packets-fit m iface [] p = tt
packets-fit m iface (x ∷ xs) p = ((drop-fit 10 x p.0.bytes, omega (arith, length-drop 10 x, p.0.longest)), packets-fit m iface xs p.1)

load-fits : (m : ℕ) (text : Option (List ℕ)) → AllFit (load m text)
load-fits m None = tt
load-fits m (Some text) = (tt, tt)

tick-fits : (last moment : ℕ) → AllFit (tick last moment)
tick-fits last moment = tested (ltb last moment)
  where
    tested : (t : Bool) → AllFit (cond t (record { moment = moment; what = Moment } ∷ []) [])
    tested true = (tt, tt)
    tested false = tt

turn-fits : (last : ℕ) (turn : Turn) → AllByRecursion IsPacket turn.lan → AllByRecursion IsPacket turn.wan → AllFit (events_of last turn)
turn-fits last turn lan wan =
    let m = later last turn.moment in
    all-fit (tick last turn.moment) _ (tick-fits last turn.moment)
    (all-fit (load m turn.text) _ (load-fits m turn.text)
    (all-fit (map (packet_at m Lan) turn.lan) _ (packets-fit m Lan turn.lan lan) (packets-fit m Wan turn.wan wan)))

front-of : (xs ys : List (List ℕ)) → AllByRecursion IsPacket (xs ++ ys) → AllByRecursion IsPacket xs
front-of [] ys p = tt
front-of (x ∷ xs) ys p = (p.0, front-of xs ys p.1)

rest-of : (xs ys : List (List ℕ)) → AllByRecursion IsPacket (xs ++ ys) → AllByRecursion IsPacket ys
rest-of [] ys p = p
rest-of (x ∷ xs) ys p = rest-of xs ys p.1

turns-fit : (last : ℕ) (turns : List Turn) → AllByRecursion IsPacket (from_lan turns) → AllByRecursion IsPacket (from_wan turns) → AllFit (all_events last turns)
turns-fit last [] lan wan = tt
turns-fit last (turn ∷ turns) lan wan =
    let m = later last turn.moment in
    all-fit (events_of last turn) (all_events m turns)
    (turn-fits last turn (front-of turn.lan (from_lan turns) lan) (front-of turn.wan (from_wan turns) wan))
    (turns-fit m turns (rest-of turn.lan (from_lan turns) lan) (rest-of turn.wan (from_wan turns) wan))

pub packets-are : PacketsAreBytes
packets-are last turns before event after iface packet lan wan are is =
    subst Fits is (one-fits before event after (subst AllFit are (turns-fit last turns lan wan)))
