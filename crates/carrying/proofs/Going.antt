-- A run of turns, and how it ends.
use Rattle.std.proofs.Common.{◌≡◌, ◌⊎◌, ℕ, ◌+◌, ◌-◌, ◌^◌, ◌≤◌, false, List, [], ◌∷◌, ◌++◌, length, map, Ok, Err, refl, sym, ap, subst, ◌∙◌, arith, length-append}
use Rattle.std.specs.List.{AllByRecursion}
use Rattle.std.proofs.lemmas.List.{append-nil}
use Rattle.disk_model.specs.Disk.{Files}
use Rattle.packet.specs.declared.endpoint.Iface.TheVariants.{Lan, Wan}
use Rattle.devices.specs.Handing.{Frames, Gives, Hands}
use Rattle.frames.specs.Answers.{frames}
use Rattle.gateway.specs.Kept.{Kept}
use Rattle.gateway.specs.Told.{Told}
use Rattle.to_devices.specs.declared.counts.Counts.{Counts}
use Rattle.gateway.proofs.Taking.{took_none}
use Rattle.machine.specs.Laws.{EventsAreJudgedOnce}
use Rattle.machine.specs.Machine.{later}
use Rattle.machine.specs.declared.event.Answer.{Answer}
use Rattle.socket_edge.specs.declared.fault.EdgeFault.{EdgeFault}
use Rattle.socket_edge.specs.Running.{Fares}
use Rattle.to_devices.proofs.Letting.{Hands-nil}
use Rattle.from_devices.specs.Requests.{IsPacket}
use Rattle.from_devices.proofs.Gathering.{Gives-nil, Gives-then, all-append}
use Rattle.carrying.specs.Asking.{Asks, AsksFor, IsOver}
use Rattle.carrying.specs.Carried.{Carries, Fails, handed_to}
use Rattle.carrying.specs.Counted.{CountsTurn, CountsTurns}
use Rattle.carrying.specs.Runs.{AtEachTurn, EachHandsOn, EachTakesAll, Ran, all_events, all_headers, asked_of, from_lan, from_wan, last_of}
use Rattle.carrying.specs.Turns.{Gave, TakesAll, Turn, events_of, headers_of}
use Rattle.carrying.proofs.Joined.{AsksFor-nil, answered_long, asked-then, events-then, fares-behind, lan-then, last-then, wan-then}
use Rattle.carrying.proofs.Taken.{each-first, each-then, takes-as}
use Rattle.carrying.proofs.Prompt.{hands-first, hands-then}
use Rattle.carrying.proofs.Settling.{firsts-are, settles-in}
use Rattle.carrying.proofs.Stopping.{Trail, stops-then, trail-first, trail-then}

-- What is said of the packets that one more turn took of a device may be said of all since the first turn.
abbrev pub Then : (ℕ → List (List ℕ) → Type 0) → (List Turn → List (List ℕ)) → ℕ → Frames → Frames → List (List ℕ) → Type 0 → Type 0
Then P from done old now more A = (turns : List Turn) → length turns ≡ done → Gives old now (from turns) → A → P (length turns + 1) (from turns ++ more)

-- What is said of the devices behind so many turns may be said behind these turns.
abbrev pub StoodThen : (ℕ → List (List ℕ) → List (List ℕ) → List (List ℕ) → List (List ℕ) → Type 0) → ℕ → Frames → Frames → Frames → Frames → Frames → Frames → Frames → Frames → Type 0
StoodThen R done l l' w w' k k' v v' = (turns : List Turn) (to_lan to_wan : List (List ℕ)) → length turns ≡ done → Gives l l' (from_lan turns) → Gives w w' (from_wan turns)
    → Hands k k' to_lan → Hands v v' to_wan → R (length turns) (from_lan turns) (from_wan turns) to_lan to_wan

-- one more turn was counted
counts-then : (last : ℕ) (ts : List Turn) (t : Turn) (a b c : Told) (x y z : Counts) → CountsTurns last ts a b x y → CountsTurn (last_of last ts) t b c y z → CountsTurns last (ts ++ t ∷ []) a c x z
counts-then last [] t a b c x y z p one =
    let from : CountsTurn last t a c y z = subst (λ (g : Told). CountsTurn last t g c y z) p.0 one in
    (c, z, subst (λ (k : Counts). CountsTurn last t a c k z) p.1 from, (refl, refl))
counts-then last (s ∷ ts) t a b c x y z p one = (p.0, p.1, p.2, counts-then (later last s.moment) ts t p.0 b c p.1 y z p.3 one)

module _ {D : Type 0} (honest : D → Type 0) (moment : D → ℕ) (left : D → ℕ → Files → Type 0) (P Q : ℕ → List (List ℕ) → Type 0) (R : ℕ → List (List ℕ) → List (List ℕ) → List (List ℕ) → List (List ℕ) → Type 0) where
  module _ (start now : Kept D) (last at done : ℕ) (asks asks' : Asks) (lan lan' wan wan' : Frames) (lan_handed lan_handed' wan_handed wan_handed' : Frames) (counts counts' : Counts) where
    -- so many turns were carried, and more may come
    pub record Going : Type 0 where
      pub turns : List Turn
      pub count : length turns ≡ done
      pub asked : AsksFor asks asks' (map asked_of turns)
      pub gave_lan : Gives lan lan' (from_lan turns)
      pub gave_wan : Gives wan wan' (from_wan turns)
      pub lan_packets : AllByRecursion IsPacket (from_lan turns)
      pub wan_packets : AllByRecursion IsPacket (from_wan turns)
      pub takes : EachTakesAll last P Q turns
      pub moment_is : at ≡ last_of last turns
      pub counted : CountsTurns last turns start.told now.told counts counts'
      pub stands : now.fallen ≡ false
      pub trail : Trail honest moment left start now last turns lan_handed lan_handed' wan_handed wan_handed'
      pub hands_on : EachHandsOn last R turns trail.carries.answered

  -- none yet
  pub going-first : (start : Kept D) (last : ℕ) (asks : Asks) (lan wan lan_handed wan_handed : Frames) (counts : Counts) → start.fallen ≡ false → start.told.held ≡ [] → Fares honest moment left start start [] [] → R 0 [] [] [] []
      → Going start start last last 0 asks asks lan lan wan wan lan_handed lan_handed wan_handed wan_handed counts counts
  going-first start last asks lan wan lan_handed wan_handed counts stands none fares stood =
      let trail = trail-first honest moment left start last lan_handed wan_handed (record {
        answered = [];
        took = took_none start.told;
        none = none;
        to_lan = Hands-nil lan_handed;
        to_wan = Hands-nil wan_handed;
        fares = fares;
      }) in
      record {
        turns = [];
        count = refl;
        asked = AsksFor-nil asks;
        gave_lan = Gives-nil lan;
        gave_wan = Gives-nil wan;
        lan_packets = tt;
        wan_packets = tt;
        takes = each-first last P Q;
        moment_is = refl;
        counted = (refl, refl);
        stands = stands;
        trail = trail.0;
        hands_on = subst (λ (out : List (ℕ × Answer)). EachHandsOn last R [] out) (sym trail.1) (hands-first last R stood);
      }

  module _ (earlier : (disk : D) (s t : ℕ) (files : Files) → s ≤ t → left disk t files → left disk s files) (start now new : Kept D) (stood : start.fallen ≡ false) (none : start.told.held ≡ []) where
    -- the turns behind which one more takes all
    takes-next : (last at done : ℕ) (ts : List Turn) (turn : Turn) (l l' w w' : Frames) (A B : Type 0) → at ≡ last_of last ts → length ts ≡ done → EachTakesAll last P Q ts → Gives l l' (from_lan ts) → Gives w w' (from_wan ts)
        → Then P from_lan done l l' turn.lan A → Then Q from_wan done w w' turn.wan B → TakesAll at turn A B → EachTakesAll last P Q (ts ++ turn ∷ [])
    takes-next last at done ts turn l l' w w' A B is count all lan wan more-lan more-wan one =
        each-then last P Q ts turn all
        (takes-as (last_of last ts) turn A B (P (length ts + 1) (from_lan ts ++ turn.lan)) (Q (length ts + 1) (from_wan ts ++ turn.wan)) (more-lan ts count lan) (more-wan ts count wan)
        (subst (λ (m : ℕ). TakesAll m turn A B) is one))

    -- one more
    pub going-next : (last at at' done : ℕ) (turn : Turn) (a a' a'' : Asks) (l l' l'' w w' w'' k k' k'' v v' v'' : Frames) (A B : Type 0) (c c' c'' : Counts) → Then P from_lan done l l' turn.lan A → Then Q from_wan done w w' turn.wan B → Going start now last at done a a' l l' w w' k k' v v' c c' → AsksFor a' a'' (asked_of turn ∷ []) → Gave turn l' l'' w' w'' → TakesAll at turn A B → at' ≡ later at turn.moment
        → new.fallen ≡ false → Carries honest moment left now new (events_of at turn) (headers_of at turn) k' k'' v' v'' → CountsTurn at turn now.told new.told c' c'' → StoodThen R (done + 1) l l'' w w'' k k'' v v'' → Going start new last at' (done + 1) a a'' l l'' w w'' k k'' v v'' c c''
    going-next last at at' done turn a a' a'' l l' l'' w w' w'' k k' k'' v v' v'' A B c c' c'' more-lan more-wan i asked gave takes is stands carries counts so =
        let there : last_of last i.turns ≡ at = sym i.moment_is in
        let one : Carries honest moment left now new (events_of (last_of last i.turns) turn) (headers_of (last_of last i.turns) turn) k' k'' v' v'' =
        subst (λ (m : ℕ). Carries honest moment left now new (events_of m turn) (headers_of m turn) k' k'' v' v'') i.moment_is carries in
        let count : length (i.turns ++ turn ∷ []) ≡ done + 1 = length-append i.turns (turn ∷ []) ∙ ap (λ (n : ℕ). n + 1) i.count in
        let gave_lan : Gives l l'' (from_lan (i.turns ++ turn ∷ [])) = rw (lan-then i.turns turn) (Gives-then l l' l'' _ _ i.gave_lan gave.from_lan) in
        let gave_wan : Gives w w'' (from_wan (i.turns ++ turn ∷ [])) = rw (wan-then i.turns turn) (Gives-then w w' w'' _ _ i.gave_wan gave.from_wan) in
        let trail = trail-then honest moment left earlier start now new last i.turns turn k k' k'' v v' v'' stood i.stands none i.trail one in
        record {
          turns = i.turns ++ turn ∷ [];
          count = count;
          asked = asked-then a a' a'' i.turns turn i.asked asked;
          gave_lan = gave_lan;
          gave_wan = gave_wan;
          lan_packets = rw (lan-then i.turns turn) (all-append (from_lan i.turns) turn.lan i.lan_packets gave.lan_packets);
          wan_packets = rw (wan-then i.turns turn) (all-append (from_wan i.turns) turn.wan i.wan_packets gave.wan_packets);
          takes = takes-next last at done i.turns turn l l' w w' A B i.moment_is i.count i.takes i.gave_lan i.gave_wan more-lan more-wan takes;
          moment_is = is ∙ ap (λ (m : ℕ). later m turn.moment) i.moment_is ∙ sym (last-then last i.turns turn);
          counted = counts-then last i.turns turn start.told now.told new.told c c' c'' i.counted (subst (λ (m : ℕ). CountsTurn m turn now.told new.told c' c'') i.moment_is counts);
          stands = stands;
          trail = trail.0;
          hands_on = hands-then last R i.turns turn i.trail.carries.answered one.answered trail.0.carries.answered trail.1
              (answered_long start.told now.told _ i.trail.carries.answered i.trail.carries.took none i.trail.carries.none)
              (answered_long start.told new.told _ trail.0.carries.answered trail.0.carries.took none trail.0.carries.none)
              i.hands_on (so (i.turns ++ turn ∷ []) _ _ count gave_lan gave_wan trail.0.carries.to_lan trail.0.carries.to_wan);
        }

    -- and one that failed
    pub ran-fails : EventsAreJudgedOnce → (last at done : ℕ) (fault : EdgeFault) (turn : Turn) (a a' a'' : Asks) (l l' l'' w w' w'' k k' k'' v v' v'' : Frames) (A B : Type 0) (c c' c'' : Counts) → Then P from_lan done l l' turn.lan A → Then Q from_wan done w w' turn.wan B → Going start now last at done a a' l l' w w' k k' v v' c c' → AsksFor a' a'' (asked_of turn ∷ []) → Gave turn l' l'' w' w'' → TakesAll at turn A B
        → Fails honest moment left now new (events_of at turn) k' k'' v' v''
        → c'' ≡ c' → (run : Ran honest moment left start new (Err fault) last a a'' l l'' w w'' k k'' v v'') × (run.settled ≡ now) × EachTakesAll last P Q (run.turns ++ run.failed) × CountsTurns last run.turns start.told run.settled.told c c'' × EachHandsOn last R run.turns run.answered
    ran-fails once last at done fault turn a a' a'' l l' l'' w w' w'' k k' k'' v v' v'' A B c c' c'' more-lan more-wan i asked gave takes f same =
        let fares : Fares honest moment left now new (events_of (last_of last i.turns) turn) f.sent =
        subst (λ (m : ℕ). Fares honest moment left now new (events_of m turn) f.sent) i.moment_is f.fares in
        let to_lan : Hands k' k'' [] = subst (λ (x : Frames). Hands k' x []) (sym f.to_lan) (Hands-nil k') in
        let to_wan : Hands v' v'' [] = subst (λ (x : Frames). Hands v' x []) (sym f.to_wan) (Hands-nil v') in
        let stops = stops-then honest moment left start now new last i.turns turn k k' k'' v v' v'' [] [] i.trail i.stands f.sent fares to_lan to_wan in (
          record {
            turns = i.turns;
            failed = turn ∷ [];
            asked = asked-then a a' a'' i.turns turn i.asked asked;
            ends = refl;
            gave_lan = rw (lan-then i.turns turn) (Gives-then l l' l'' _ _ i.gave_lan gave.from_lan);
            gave_wan = rw (wan-then i.turns turn) (Gives-then w w' w'' _ _ i.gave_wan gave.from_wan);
            lan_packets = rw (lan-then i.turns turn) (all-append (from_lan i.turns) turn.lan i.lan_packets gave.lan_packets);
            wan_packets = rw (wan-then i.turns turn) (all-append (from_wan i.turns) turn.wan i.wan_packets gave.wan_packets);
            settled = now;
            stays = λ none. absurd (omega (arith, ap length none));
            answered = i.trail.carries.answered;
            took = i.trail.carries.took;
            none = i.trail.carries.none;
            to_lan = subst (λ (x : Frames). Hands k x (handed_to Lan (all_headers last i.turns) i.trail.carries.answered)) (sym f.to_lan) i.trail.carries.to_lan;
            to_wan = subst (λ (x : Frames). Hands v x (handed_to Wan (all_headers last i.turns) i.trail.carries.answered)) (sym f.to_wan) i.trail.carries.to_wan;
            more = f.sent;
            fares = rw (events-then last i.turns turn)
                (fares-behind honest moment left earlier start now new stood i.stands none (all_events last i.turns) (events_of (last_of last i.turns) turn) (all_headers last i.turns) k k' v v' f.sent i.trail.carries fares);
            stops = stops.0;
            settles = stops.1;
            firsts = firsts-are honest moment left earlier once start now new last i.turns (turn ∷ []) k k' k'' v v' v'' none stops.0 stops.1 i.trail.carries (omega arith);
            each_settles = settles-in honest moment left earlier once start now new last i.turns (turn ∷ []) k k' k'' v v' v'' none stops.0 stops.1 i.trail.carries;
          },
          refl,
          takes-next last at done i.turns turn l l' w w' A B i.moment_is i.count i.takes i.gave_lan i.gave_wan more-lan more-wan takes,
          subst (λ (x : Counts). CountsTurns last i.turns start.told now.told c x) (sym same) i.counted,
          i.hands_on,
        )

  -- they ended well
  pub ran-ends : (earlier : (disk : D) (s t : ℕ) (files : Files) → s ≤ t → left disk t files → left disk s files) → EventsAreJudgedOnce → (start now : Kept D) → start.told.held ≡ [] → (last at done : ℕ) (a a' : Asks) (l l' w w' k k' v v' : Frames) (c c' : Counts) → Going start now last at done a a' l l' w w' k k' v v' c c' → IsOver a' ⊎ (done ≡ 2 ^ 64 - 1)
      → (run : Ran honest moment left start now (Ok tt) last a a' l l' w w' k k' v v') × EachTakesAll last P Q (run.turns ++ run.failed) × CountsTurns last run.turns start.told run.settled.told c c' × EachHandsOn last R run.turns run.answered
  ran-ends earlier once start now none last at done a a' l l' w w' k k' v v' c c' i over =
      let stops : (stops : AtEachTurn honest moment left start now last (i.turns ++ []) k k' v v') × (stops.by i.turns ≡ now) =
      subst (λ (ts : List Turn). (stops : AtEachTurn honest moment left start now last ts k k' v v') × (stops.by i.turns ≡ now)) (sym (append-nil i.turns)) (i.trail.stops, i.trail.stops.last) in (
        record {
          turns = i.turns;
          failed = [];
          asked = rw (append-nil i.turns) i.asked;
          ends = (refl, subst (λ (n : ℕ). IsOver a' ⊎ (n ≡ 2 ^ 64 - 1)) (sym i.count) over);
          gave_lan = rw (append-nil i.turns) i.gave_lan;
          gave_wan = rw (append-nil i.turns) i.gave_wan;
          lan_packets = rw (append-nil i.turns) i.lan_packets;
          wan_packets = rw (append-nil i.turns) i.wan_packets;
          settled = now;
          stays = λ none. refl;
          answered = i.trail.carries.answered;
          took = i.trail.carries.took;
          none = i.trail.carries.none;
          to_lan = i.trail.carries.to_lan;
          to_wan = i.trail.carries.to_wan;
          more = [];
          fares = rw (append-nil i.turns, append-nil (frames i.trail.carries.answered)) i.trail.carries.fares;
          stops = stops.0;
          settles = stops.1;
          firsts = firsts-are honest moment left earlier once start now now last i.turns [] k k' k' v v' v' none stops.0 stops.1 i.trail.carries (omega arith);
          each_settles = settles-in honest moment left earlier once start now now last i.turns [] k k' k' v v' v' none stops.0 stops.1 i.trail.carries;
        },
        rw (append-nil i.turns) i.takes,
        i.counted,
        i.hands_on,
      )
