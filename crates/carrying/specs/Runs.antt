-- Turns one after the other.
use Rattle.std.specs.Prelude.{◌≡◌, ◌⊎◌, ℕ, ◌+◌, ◌-◌, ◌^◌, ◌≤◌, List, [], ◌∷◌, ◌++◌, length, map, take, Option, Result, Ok, Err}
use Rattle.std.specs.List.{flat_map, AllByRecursion}
use Rattle.disk_model.specs.Disk.{Files, LeavesOnly}
use Rattle.packet.specs.Laws.{AreBytes}
use Rattle.packet.specs.declared.endpoint.Iface.{Iface}
use Rattle.packet.specs.declared.endpoint.Iface.TheVariants.{Lan, Wan}
use Rattle.devices.specs.Handing.{Frames, Gives, Hands, Waits}
use Rattle.durable.specs.Recovery.{IsConfigured}
use Rattle.from_devices.specs.Requests.{IsPacket}
use Rattle.frames.specs.Answers.{frames}
use Rattle.gateway.specs.Kept.{Kept, IsAtRest, IsSafe}
use Rattle.gateway.specs.Told.{TookAll}
use Rattle.machine.specs.Judged.{Judged, AreJudged}
use Rattle.machine.specs.Machine.{later}
use Rattle.machine.specs.declared.event.Answer.{Answer}
use Rattle.machine.specs.declared.event.Event.{Event}
use Rattle.machine.specs.declared.event.What.TheVariants.{Packet}
use Rattle.socket_edge.specs.declared.fault.EdgeFault.{EdgeFault}
use Rattle.socket_edge.specs.Progress.{Reached, replies}
use Rattle.socket_edge.specs.Running.{Fares}
use Rattle.carrying.specs.Asking.{Asked, Asks, AsksFor, IsOver}
use Rattle.carrying.specs.Carried.{handed_to}
use Rattle.carrying.specs.declared.between.Between.{Between}
use Rattle.carrying.specs.Turns.{TakesAll, Turn, events_of, headers_of}

-- the latest moment behind turns
abbrev pub last_of : ℕ → List Turn → ℕ
last_of last [] = last
last_of last (turn ∷ turns) = last_of (later last turn.moment) turns

abbrev pub all_events : ℕ → List Turn → List Event
all_events last [] = []
all_events last (turn ∷ turns) = events_of last turn ++ all_events (later last turn.moment) turns

abbrev pub all_headers : ℕ → List Turn → List (List ℕ)
all_headers last [] = []
all_headers last (turn ∷ turns) = headers_of last turn ++ all_headers (later last turn.moment) turns

-- what the devices gave in them
abbrev pub from_lan : List Turn → List (List ℕ)
from_lan turns = flat_map (λ (turn : Turn). turn.lan) turns

abbrev pub from_wan : List Turn → List (List ℕ)
from_wan turns = flat_map (λ (turn : Turn). turn.wan) turns

-- If what the devices gave in turns are packets with their headers, the packet of each event of these turns is bytes,
-- at most 65,535.
abbrev pub PacketsAreBytes : Type 0
PacketsAreBytes = (last : ℕ) (turns : List Turn) (before : List Event) (event : Event)
    (after : List Event) (iface : Iface) (packet : List ℕ)
    → AllByRecursion IsPacket (from_lan turns) → AllByRecursion IsPacket (from_wan turns)
    → all_events last turns ≡ before ++ event ∷ after → event.what ≡ Packet iface packet
    → AreBytes packet × (length packet ≤ 65535)

-- what they were asked for by
abbrev pub asked_of : Turn → Asked
asked_of turn = record { moment = turn.moment; text = turn.text }

-- Each of these turns takes all. Of what a device gave up to the end of a turn, `lan_gave_all` and `wan_gave_all` say
-- that it was all that it had then: behind as many waits as there were turns, with that one.
abbrev pub EachTakesAll : ℕ → (ℕ → List (List ℕ) → Type 0) → (ℕ → List (List ℕ) → Type 0) → List Turn → Type 0
EachTakesAll last lan_gave_all wan_gave_all turns = (before after : List Turn) (turn : Turn)
    → turns ≡ before ++ turn ∷ after
    → TakesAll (last_of last before) turn (lan_gave_all (length before + 1) (from_lan before ++ turn.lan))
    (wan_gave_all (length before + 1) (from_wan before ++ turn.wan))

module _ {L W : Type 0} (lan_coming lan_handed : L → Frames) (lan_waited : L → Option ℕ)
    (wan_coming wan_handed : W → Frames) (wan_waited : W → Option ℕ) (old : Between L W) where
  -- Both devices had been waited for so often since `old`, had given these packets, had been handed those, and no more
  -- of either.
  pub record Stood (often : ℕ) (lan wan to_lan to_wan : List (List ℕ)) : Type 0 where
    pub devices : Between L W
    pub gave_lan : Gives (lan_coming old.lan) (lan_coming devices.lan) lan
    pub gave_wan : Gives (wan_coming old.wan) (wan_coming devices.wan) wan
    pub handed_lan : Hands (lan_handed old.lan) (lan_handed devices.lan) to_lan
    pub handed_wan : Hands (wan_handed old.wan) (wan_handed devices.wan) to_wan
    pub lan_waits : Waits often (lan_waited old.lan) (lan_waited devices.lan)
    pub wan_waits : Waits often (wan_waited old.wan) (wan_waited devices.wan)

-- Of such a moment `stood` says: behind just so many waits as there were turns, the devices had given what came in the
-- turns, and had been handed what the answers to the events of these say.
abbrev pub HandsOn : ℕ → (ℕ → List (List ℕ) → List (List ℕ) → List (List ℕ) → List (List ℕ) → Type 0)
    → List Turn → List (ℕ × Answer) → Type 0
HandsOn last stood turns answered = stood (length turns) (from_lan turns) (from_wan turns)
    (handed_to Lan (all_headers last turns) answered) (handed_to Wan (all_headers last turns) answered)

-- Such a moment was behind each turn: its packets were handed on before the next turn was waited for, and before any
-- packet of that was taken. The answers so far are the first, one for each event.
abbrev pub EachHandsOn : ℕ
    → (ℕ → List (List ℕ) → List (List ℕ) → List (List ℕ) → List (List ℕ) → Type 0)
    → List Turn → List (ℕ × Answer) → Type 0
EachHandsOn last stood turns answered = (before after : List Turn) → turns ≡ before ++ after
    → HandsOn last stood before (take (length (all_events last before)) answered)

-- A run that ended well did so as nothing more was asked for, or behind as many turns as there can be. In any other one
-- a turn failed, the last one.
abbrev pub EndsBy : Result (Unit {0}) EdgeFault → List Turn → List Turn → Asks → Type 0
EndsBy (Ok done) turns failed asks = (failed ≡ []) × (IsOver asks ⊎ (length turns ≡ 2 ^ 64 - 1))
EndsBy (Err fault) turns failed asks = length failed ≡ 1

-- a device was handed these first, and more behind them
abbrev pub HandsFirst : Frames → Frames → List (List ℕ) → Type 0
HandsFirst old new first = (now : Frames) × Hands old now first
    × ((more : List (List ℕ)) × Hands now new more)

module _ {D : Type 0} (honest : D → Type 0) (moment : D → ℕ) (left : D → ℕ → Files → Type 0)
    (old now later : Kept D) where
  -- A crash since the gateway was `now`, and before it was `later`, leaves what the model has after a beginning of the
  -- events that were taken by then, which holds each event of these answers. They are the first of the model's.
  pub record Keeps (events : List Event) (answered : List (ℕ × Answer)) : Type 0 where
    pub front : List Event
    pub back : List Event
    pub split : events ≡ front ++ back
    pub judged : List Judged
    pub are_judged : AreJudged old.told.config front judged
    pub reached : Reached old.told later.told judged
    pub first : (more : List (ℕ × Answer)) × (answered ++ more ≡ replies old.told judged)
    pub since : LeavesOnly moment left now.disk later.disk
        (IsSafe old.told.config old.told.state front (length answered))
    pub configured : LeavesOnly moment left now.disk later.disk (IsConfigured old.told.config)

  -- The run came by `now`, which had taken the events of these turns, the first of the run, and held nothing. Up to it
  -- the files fare as in a run that ends there. What its answers say is the first of what the devices were handed. Then
  -- it came by `later`, with one turn more. Of an honest disk, if nothing was held at the entry, no crash between the
  -- two loses an event of the turns before.
  pub record ComesBy (last : ℕ) (before : List Turn) (turn : Turn)
      (lan lan' wan wan' : Frames) : Type 0 where
    pub answered : List (ℕ × Answer)
    pub took : TookAll old.told now.told (all_events last before) answered
    pub none : now.told.held ≡ []
    pub until : Fares honest moment left old now (all_events last before) (frames answered)
    pub to_lan : HandsFirst lan lan' (handed_to Lan (all_headers last before) answered)
    pub to_wan : HandsFirst wan wan' (handed_to Wan (all_headers last before) answered)
    pub since : IsAtRest honest old → Keeps (all_events last (before ++ turn ∷ [])) answered

module _ {D : Type 0} (honest : D → Type 0) (moment : D → ℕ) (left : D → ℕ → Files → Type 0)
    (old now later : Kept D) where
  -- In a turn that didn't fail the run came by `settled`, and then by `later`. At `settled` it had taken the events of
  -- this turn too, and held nothing. Of an honest disk, if nothing was held at the entry, no crash between the two
  -- loses an event of this turn, or of one before.
  pub record Settles (last : ℕ) (before : List Turn) (turn : Turn) (answered : List (ℕ × Answer))
      (lan lan' wan wan' : Frames) : Type 0 where
    -- perhaps `later` itself
    pub settled : Kept D
    -- up to it nothing is lost of the turns before
    pub comes : ComesBy honest moment left old now settled last before turn lan lan' wan wan'
    pub first : comes.answered ≡ take (length (all_events last before)) answered
    pub took : TookAll old.told settled.told (all_events last (before ++ turn ∷ [])) answered
    pub none : settled.told.held ≡ []
    -- what a crash leaves stands for what the model has after all of them
    pub since : IsAtRest honest old → LeavesOnly moment left settled.disk later.disk
        (IsSafe old.told.config old.told.state (all_events last (before ++ turn ∷ []))
        (length (all_events last (before ++ turn ∷ []))))
    pub configured : IsAtRest honest old
        → LeavesOnly moment left settled.disk later.disk (IsConfigured old.told.config)

module _ {D : Type 0} (honest : D → Type 0) (moment : D → ℕ) (left : D → ℕ → Files → Type 0)
    (old new : Kept D) where
  -- By which gateways a run came from turn to turn. Only the last of these turns may have failed.
  pub record AtEachTurn (latest : ℕ) (turns : List Turn) (lan lan' wan wan' : Frames) : Type 0 where
    -- the gateway when these of the turns had gone, and the next one began, or the run ended
    pub by : List Turn → Kept D
    pub first : by [] ≡ old
    pub last : by turns ≡ new
    -- As a turn begins, just the events of the turns before are taken. A crash from then on, up to the next turn or the
    -- end, loses none of these, and leaves nothing of an event of a later turn.
    pub each : (before : List Turn) (turn : Turn) (after : List Turn)
        → turns ≡ before ++ turn ∷ after
        → ComesBy honest moment left old (by before) (by (before ++ turn ∷ [])) latest before turn
        lan lan' wan wan'

  -- These turns, and then the one that failed, if any, were asked for, in this order. The devices gave what came in
  -- them, one behind the other. They were handed what the answers to the events of the turns that didn't fail say, and
  -- nothing else. The answers are numbered on, and their frames are the first of what the files fare by: whatever a
  -- crash leaves at the exit holds each event whose packet was handed on. A crash in the midst leaves what holds the
  -- events of each turn before, and of no later one; once a turn has settled, what holds those of that turn too.
  pub record Ran (ended : Result (Unit {0}) EdgeFault) (last : ℕ) (asks asks' : Asks)
      (lan lan' wan wan' : Frames) (lan_handed lan_handed' wan_handed wan_handed' : Frames) : Type 0 where
    pub turns : List Turn
    pub failed : List Turn
    pub asked : AsksFor asks asks' (map asked_of (turns ++ failed))
    pub ends : EndsBy ended turns failed asks'
    pub gave_lan : Gives lan lan' (from_lan (turns ++ failed))
    pub gave_wan : Gives wan wan' (from_wan (turns ++ failed))
    -- each is a header and a packet, of bytes, also if nothing is known of what a device gives
    pub lan_packets : AllByRecursion IsPacket (from_lan (turns ++ failed))
    pub wan_packets : AllByRecursion IsPacket (from_wan (turns ++ failed))
    -- the gateway behind the turns that didn't fail
    pub settled : Kept D
    pub stays : failed ≡ [] → settled ≡ new
    pub answered : List (ℕ × Answer)
    pub took : TookAll old.told settled.told (all_events last turns) answered
    pub none : settled.told.held ≡ []
    pub to_lan : Hands lan_handed lan_handed' (handed_to Lan (all_headers last turns) answered)
    pub to_wan : Hands wan_handed wan_handed' (handed_to Wan (all_headers last turns) answered)
    pub more : List ℕ
    pub fares : Fares honest moment left old new (all_events last (turns ++ failed))
        (frames answered ++ more)
    pub stops : AtEachTurn last (turns ++ failed) lan_handed lan_handed' wan_handed wan_handed'
    pub settles : stops.by turns ≡ settled
    -- what the run had answered when a turn began is the first of what it answered
    pub firsts : (before : List Turn) (turn : Turn) (after : List Turn)
        → (e : turns ++ failed ≡ before ++ turn ∷ after)
        → (stops.each before turn after e).answered ≡ take (length (all_events last before)) answered
    -- each turn settles that didn't fail; what was answered by then is the first too
    pub each_settles : (before : List Turn) (turn : Turn) (after : List Turn)
        → turns ≡ before ++ turn ∷ after
        → Settles honest moment left old (stops.by before) (stops.by (before ++ turn ∷ [])) last before
        turn (take (length (all_events last (before ++ turn ∷ []))) answered)
        lan_handed lan_handed' wan_handed wan_handed'
