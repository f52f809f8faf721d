-- The end of the frames at the front.
use Rattle.std.proofs.Common.{◌≡◌, ◌≢◌, ◌≤◌, ℕ, List, [], ◌++◌, true, false, refl, sym, ap, ◌∙◌, arith, append_assoc, subst, Result, Ok, Err, flat_map, append-nil}
use Rattle.disk_model.specs.Disk.{Files}
use Rattle.machine.specs.declared.event.Answer.{Answer}
use Rattle.machine.specs.declared.event.Event.{Event}
use Rattle.gateway.specs.declared.fault.GatewayFault.{GatewayFault}
use Rattle.gateway.specs.declared.fault.GatewayFault.TheVariants as fault
use Rattle.machine.specs.Laws.{EventsAreJudgedOnce}
use Rattle.gateway.specs.Kept.{Kept, IsAtRest}
use Rattle.gateway.specs.Running.{Stands, Stops, Ends, IsWhy, CarriesOn, BreaksOff}
use Rattle.gateway.specs.Told.{Told, TookAll}
use Rattle.gateway.proofs.Runs.{ended, true-false}
use Rattle.frames.specs.declared.fault.HeaderFault.{HeaderFault}
use Rattle.frames.specs.declared.fault.HeaderFault.TheVariants as header
use Rattle.socket_edge.specs.declared.fault.EdgeFault.{EdgeFault}
use Rattle.socket_edge.specs.declared.fault.EdgeFault.TheVariants.{Truncated, Input, Output, Gateway}
use Rattle.socket_edge.specs.declared.serving.Halt.{Halt}
use Rattle.socket_edge.specs.declared.serving.Halt.TheVariants as halt
use Rattle.frames.specs.Requests.{Cut, Bad, next}
use Rattle.frames.specs.Framing.{EventsAndRest, Rest, Fault, with_first, whole_frames}
use Rattle.frames.specs.Answers.{frame}
use Rattle.socket_edge.specs.Progress.{Progress, AnsweredFirst}
use Rattle.socket_edge.specs.Running.{Answered, Explains, FallsByAFailure, Fares, LastTurn, Preserves, events_in}
use Rattle.socket_edge.specs.Turns.{Turn, AllPass}
use Rattle.socket_edge.specs.Serving.{Closed, ComesByOne, IsBad, IsSettled, GatewayRefuses, Offered, Reads, Served, SettledAndSent, end_of}
use Rattle.frames.proofs.Frames.{framed_cut, framed_bad}
use Rattle.socket_edge.proofs.Reading.{Reads-is}
use Rattle.socket_edge.proofs.Answers.{AnsweredFirst-told, BeginsFrames-told, Progress-told, all_sent}
use Rattle.socket_edge.proofs.Lasting.{fares, fares-if, preserves-end, preserves-on}

-- what the bytes are, where no whole frame is left
pub framed_then_cut : (bytes rest : List ℕ) (events : List Event) → Reads bytes events rest → next rest ≡ Cut → whole_frames bytes ≡ record { events = events; remainder = Rest rest }
framed_then_cut bytes rest events r e = Reads-is bytes events rest r ∙ ap (with_first events) (framed_cut rest e) ∙ ap (λ (xs : List Event). record { events = xs; remainder = Rest rest }) (append-nil events)

pub framed_then_bad : (bytes rest : List ℕ) (events : List Event) (fault : HeaderFault) → Reads bytes events rest → next rest ≡ Bad fault → whole_frames bytes ≡ record { events = events; remainder = Fault fault }
framed_then_bad bytes rest events fault r e = Reads-is bytes events rest r ∙ ap (with_first events) (framed_bad rest fault e) ∙ ap (λ (xs : List Event). record { events = xs; remainder = Fault fault }) (append-nil events)

-- the events were taken and answered
pub Answered-of : (old new : Told) (bytes sent : List ℕ) → Progress old new (whole_frames bytes).events [] sent → (old.held ≡ [] → new.held ≡ []) → Answered old new bytes sent
Answered-of old new bytes sent p none = record { progress = p; none = none; all = all_sent old new (whole_frames bytes).events sent p none }

-- the events of the bytes are those of a front, and those behind it
pub events_then : (bytes later : List ℕ) (events : List Event) → Reads bytes events later → events_in bytes ≡ events ++ events_in later
events_then bytes later events r = ap (λ (f : EventsAndRest). f.events) (Reads-is bytes events later r)

pub events_cut : (bytes rest : List ℕ) (events : List Event) → Reads bytes events rest → next rest ≡ Cut → events_in bytes ≡ events
events_cut bytes rest events r e = ap (λ (f : EventsAndRest). f.events) (framed_then_cut bytes rest events r e)

pub events_bad : (bytes rest : List ℕ) (events : List Event) (fault : HeaderFault) → Reads bytes events rest → next rest ≡ Bad fault → events_in bytes ≡ events
events_bad bytes rest events fault r e = ap (λ (f : EventsAndRest). f.events) (framed_then_bad bytes rest events fault r e)

all_of : (events : List Event) (all : List Event) → all ≡ events → all ≡ events ++ []
all_of events all e = e ∙ sym (append-nil events)

split_more : (all events front back more : List Event) → all ≡ events ++ more → events ≡ front ++ back → all ≡ front ++ (back ++ more)
split_more all events front back more e split = e ∙ ap (λ (xs : List Event). xs ++ more) split ∙ append_assoc front back more

-- a front of nothing
front_none : (events front back more : List Event) → [] ≡ front ++ back → events ++ more ≡ (events ++ front) ++ (back ++ more)
front_none events front back more e =
    ap (λ (xs : List Event). events ++ (xs ++ more)) e ∙ ap (λ (xs : List Event). events ++ xs) (append_assoc front back more) ∙ sym (append_assoc events front (back ++ more))

module _ {D : Type 0} (honest : D → Type 0) (moment : D → ℕ) (left : D → ℕ → Files → Type 0) (failed : D → ℕ) (start now : Kept D) where
  -- all answers were sent, so that bytes went at each turn
  pub closed-turns : (e : EdgeFault) (bytes rest : List ℕ) (out : List (ℕ × Answer)) (turns : List Turn) → Closed honest moment left failed (Err e) bytes rest start now out
      → AllPass turns → LastTurn e turns
  closed-turns Truncated bytes rest out turns k p = absurd k
  closed-turns Input bytes rest out turns k p = absurd k
  closed-turns Output bytes rest out turns k p = absurd k
  closed-turns e bytes rest out turns k p = p

module _ {D : Type 0} (honest : D → Type 0) (moment : D → ℕ) (left : D → ℕ → Files → Type 0) (seen : D → Files) (failed : D → ℕ)
    (reads : (disk : D) → honest disk → left disk (moment disk) (seen disk))
    (earlier : (disk : D) (s t : ℕ) (files : Files) → s ≤ t → left disk t files → left disk s files) (start : Kept D) where
  abbrev Up : Kept D → List Event → List (ℕ × Answer) → Type 0
  Up now events out = Stands honest moment left failed start now events out

  carry : (mid now : Kept D) (events : List Event) (b c : List (ℕ × Answer)) → CarriesOn honest moment left failed mid now [] b c → Up mid events b → Up now events c
  carry mid now events b c on s = subst (λ (es : List Event). Up now es c) (append-nil events) (on start events s)

  no-device : (mid : Kept D) (events : List Event) (b : List (ℕ × Answer)) (why : GatewayFault) → Stops honest moment left failed start mid events b why → mid.fallen ≡ false → why ≢ fault.Device
  no-device mid events b why s up is = true-false mid.fallen (s.is_why.fell.0 is) up

  none-failed : (mid : Kept D) (events : List Event) (b : List (ℕ × Answer)) (why : GatewayFault) → Stops honest moment left failed start mid events b why → mid.fallen ≡ false → failed mid.disk ≡ failed start.disk
  none-failed mid events b why s up = (s.stays (no-device mid events b why s up)).no_failure

  -- a fault, behind which what was held is handed out
  still-why : (mid now : Kept D) (events : List Event) (b c : List (ℕ × Answer)) (why : GatewayFault) → IsWhy honest moment left failed start mid why → why ≢ fault.Device
      → TookAll start.told mid.told events b → TookAll start.told now.told events c → now.generation ≡ mid.generation → now.fallen ≡ false → failed now.disk ≡ failed start.disk → IsWhy honest moment left failed start now why
  still-why mid now events b c why is other before after same up no_failure = record {
    stood = is.stood;
    made_room = is.made_room;
    numbers_out = λ out. let last = is.numbers_out out in omega (arith, last, before.last, after.last);
    fell = (λ d. absurd (other d), λ fell. absurd (true-false now.fallen fell up));
    device = λ d. absurd (other d);
    by_one = omega (arith, no_failure);
    generations = λ g. same ∙ is.generations g;
  }

  -- what is held is handed out
  pub closes : (s : Halt) (mid now : Kept D) (bytes rest : List ℕ) (b c : List (ℕ × Answer)) → Up start [] [] → Offered honest moment left failed s bytes rest start mid [] b
      → CarriesOn honest moment left failed mid now [] b c → mid.fallen ≡ false → now.told.held ≡ [] → now.generation ≡ mid.generation → Closed honest moment left failed (end_of s) bytes rest start now c
  closes halt.Cut mid now bytes rest b c begun o on up none same =
      (o.0, o.1, o.2, record { stands = carry mid now o.0 b c on (o.3 start [] begun); none = none })
  closes (halt.Bad header.BadKind) mid now bytes rest b c begun o on up none same =
      record { events = o.0; reads = o.1; bad = o.2; settled = record { stands = carry mid now o.0 b c on (o.3 start [] begun); none = none } }
  closes (halt.Bad h) mid now bytes rest b c begun o on up none same =
      record { events = o.0; reads = o.1; bad = o.2; settled = record { stands = carry mid now o.0 b c on (o.3 start [] begun); none = none } }
  closes (halt.Refused why) mid now bytes rest b c begun o on up none same =
      let off = o.3 start [] begun in
      let stops = off.3 in
      let other = no-device mid off.0 b why stops up in
      let before = stops.stays other in
      let after = carry mid now off.0 b c on before in
      record {
        front = off.0;
        back = off.1 ++ events_in o.1;
        split = split_more (events_in bytes) o.0 off.0 off.1 (events_in o.1) (events_then bytes o.1 o.0 o.2) off.2;
        ends = ended honest moment left seen failed reads earlier start now off.0 c after;
        is_why = still-why mid now off.0 b c why stops.is_why other before.ran.took after.ran.took same after.stands after.no_failure;
        no_failure = λ stood. after.no_failure;
        none = λ held up. none;
      }

  pub fails-behind : (mid now : Kept D) (bytes later : List ℕ) (events back front : List Event) (b c : List (ℕ × Answer)) (why : GatewayFault) → events ≡ front ++ back → events_in bytes ≡ events ++ events_in later
      → Up mid front b → BreaksOff honest moment left failed mid now [] b c why → (start.told.held ≡ [] → why ≡ fault.Device) → GatewayRefuses honest moment left failed why bytes start now c
  fails-behind mid now bytes later events back front b c why split all s breaks device =
      let off = breaks start front s in
      record {
        front = front ++ off.0;
        back = off.1 ++ (back ++ events_in later);
        split = split_more (events_in bytes) events front back (events_in later) all split ∙ front_none front off.0 off.1 (back ++ events_in later) off.2;
        ends = off.3.ends;
        is_why = off.3.is_why;
        no_failure = none-failed now (front ++ off.0) c why off.3;
        none = λ held up. absurd (true-false now.fallen (off.3.is_why.fell.0 (device held)) up);
      }

  -- handing out has failed
  pub fails : (s : Halt) (mid now : Kept D) (bytes rest : List ℕ) (b c : List (ℕ × Answer)) (why : GatewayFault) → Up start [] [] → Offered honest moment left failed s bytes rest start mid [] b
      → BreaksOff honest moment left failed mid now [] b c why → mid.fallen ≡ false → why ≡ fault.Device → GatewayRefuses honest moment left failed why bytes start now c
  fails (halt.Refused first) mid now bytes rest b c why begun o breaks up device =
      let off = o.3 start [] begun in
      fails-behind mid now bytes o.1 o.0 off.1 off.0 b c why off.2 (events_then bytes o.1 o.0 o.2) (off.3.stays (no-device mid off.0 b first off.3 up)) breaks (λ held. device)
  fails s mid now bytes rest b c why begun o breaks up device =
      fails-behind mid now bytes rest o.0 [] o.0 b c why (all_of o.0 o.0 refl) (events_then bytes rest o.0 o.1) (o.3 start [] begun) breaks (λ held. device)

  -- a call of the disk has failed before
  pub fallen : (s : Halt) (mid : Kept D) (bytes rest : List ℕ) (b : List (ℕ × Answer)) → Up start [] [] → Offered honest moment left failed s bytes rest start mid [] b
      → mid.fallen ≡ true → Closed honest moment left failed (end_of s) bytes rest start mid b
  fallen (halt.Refused why) mid bytes rest b begun o down =
      let off = o.3 start [] begun in
      record {
        front = off.0;
        back = off.1 ++ events_in o.1;
        split = split_more (events_in bytes) o.0 off.0 off.1 (events_in o.1) (events_then bytes o.1 o.0 o.2) off.2;
        ends = off.3.ends;
        is_why = off.3.is_why;
        no_failure = λ up. absurd (true-false mid.fallen down up);
        none = λ held up. absurd (true-false mid.fallen down up);
      }
  fallen s mid bytes rest b begun o down = absurd (true-false mid.fallen down (o.3 start [] begun).stands)

  -- ---- what was sent

  -- The first of the events that the bytes hold were taken, and the gateway has fallen by a failed call, or none has failed.
  abbrev Came : Kept D → List ℕ → List (ℕ × Answer) → Type 0
  Came now bytes out = (front back : List Event) × (events_in bytes ≡ front ++ back) × Ends honest moment left failed start now front out × (start.told.held ≡ [] → now.fallen ≡ false → now.told.held ≡ [])
      × FallsByAFailure failed start now

  settled-came : (now : Kept D) (bytes : List ℕ) (events : List Event) (out : List (ℕ × Answer)) → events_in bytes ≡ events → IsSettled honest moment left failed start now events out → Came now bytes out
  settled-came now bytes events out are k =
      let s = k.stands in
      let falls : FallsByAFailure failed start now = record { no_failure = λ up. s.no_failure; device = λ down. absurd (true-false now.fallen down s.stands); by_one = omega (arith, s.no_failure) } in
      (events, [], all_of events (events_in bytes) are, ended honest moment left seen failed reads earlier start now events out s, (λ held up. k.none), falls)

  came : (r : Result (Unit {0}) EdgeFault) (now : Kept D) (bytes rest : List ℕ) (out : List (ℕ × Answer)) → Closed honest moment left failed r bytes rest start now out → Came now bytes out
  came (Ok done) now bytes rest out k = settled-came now bytes k.0 out (events_cut bytes rest k.0 k.1 k.2) k.3
  came (Err Truncated) now bytes rest out k = absurd k
  came (Err Input) now bytes rest out k = absurd k
  came (Err Output) now bytes rest out k = absurd k
  came (Err (Gateway why)) now bytes rest out k =
      (k.front, k.back, k.split, k.ends, k.none, record { no_failure = k.no_failure; device = λ down. k.is_why.device (k.is_why.fell.1 down); by_one = k.is_why.by_one })
  came (Err e) now bytes rest out k = settled-came now bytes k.events out (events_bad bytes rest k.events _ k.reads k.bad) k.settled

  bad-answered : (h : HeaderFault) (now : Kept D) (bytes rest : List ℕ) (out : List (ℕ × Answer)) → IsBad honest moment left failed h bytes rest start now out
      → ((whole_frames bytes).remainder ≡ Fault h) × Answered start.told now.told bytes (flat_map frame out)
  bad-answered h now bytes rest out k =
      let f = framed_then_bad bytes rest k.events h k.reads k.bad in (
        ap (λ (x : EventsAndRest). x.remainder) f,
        Answered-of start.told now.told bytes (flat_map frame out)
            (subst (λ (x : EventsAndRest). Progress start.told now.told x.events [] (flat_map frame out)) (sym f) (Progress-told start.told now.told k.events out k.settled.stands.ran.took)) (λ _. k.settled.none),
      )

  -- a beginning of the frames was sent
  pub sent-some : (r : Result (Unit {0}) EdgeFault) (now : Kept D) (bytes rest : List ℕ) (out : List (ℕ × Answer)) (sent lost : List ℕ) → Closed honest moment left failed r bytes rest start now out
      → sent ++ lost ≡ flat_map frame out → (left_over : List ℕ) (others : List (ℕ × Answer)) → SettledAndSent honest moment left failed (Err Output) start now bytes left_over others sent
  sent-some r now bytes rest out sent lost k begins left_over others =
      let is = came r now bytes rest out k in (
        BeginsFrames-told start.told now.told (events_in bytes) is.0 is.1 out sent lost is.2 is.3.ran.took begins,
        fares-if honest moment left failed start now (events_in bytes) is.0 is.1 out sent lost is.3 is.2 begins is.4,
        is.5,
      )

  -- all of them were sent
  fares-all : (r : Result (Unit {0}) EdgeFault) (now : Kept D) (bytes rest : List ℕ) (out : List (ℕ × Answer)) → Closed honest moment left failed r bytes rest start now out
      → Fares honest moment left start now (events_in bytes) (flat_map frame out)
  fares-all r now bytes rest out k =
      let is = came r now bytes rest out k in
      fares-if honest moment left failed start now (events_in bytes) is.0 is.1 out (flat_map frame out) [] is.3 is.2 (append-nil (flat_map frame out)) is.4

  pub sent-bad : (e : EdgeFault) (now : Kept D) (bytes rest : List ℕ) (out : List (ℕ × Answer)) → Closed honest moment left failed (Err e) bytes rest start now out
      → (left_over : List ℕ) (others : List (ℕ × Answer)) → SettledAndSent honest moment left failed (Err e) start now bytes left_over others (flat_map frame out)
  sent-bad Truncated now bytes rest out k left_over others = absurd k
  sent-bad Input now bytes rest out k left_over others = absurd k
  sent-bad Output now bytes rest out k left_over others = absurd k
  sent-bad (Gateway why) now bytes rest out k left_over others =
      (AnsweredFirst-told start.told now.told (events_in bytes) k.front k.back out k.split k.ends.ran.took, fares-all (Err (Gateway why)) now bytes rest out k, (k.is_why, k.no_failure))
  sent-bad e now bytes rest out k left_over others = (bad-answered _ now bytes rest out k, fares-all (Err e) now bytes rest out k, (k.settled.stands.stands, k.settled.stands.no_failure))

  -- ---- the file is compacted

  -- all whole frames at the front were settled, and their answers sent; and behind the compaction nothing is held
  module _ (once : EventsAreJudgedOnce) (mid now : Kept D) (bytes rest : List ℕ) (count : ℕ) (out : List (ℕ × Answer)) (sent : List ℕ) (a : SettledAndSent honest moment left failed (Ok count) start mid bytes rest out sent)
      (begun : Stands honest moment left failed mid mid [] []) (none : now.told.held ≡ []) where
    all : events_in bytes ≡ a.0
    all = events_cut bytes rest a.0 a.1 a.2

    progress : (k : Kept D) → Up k a.0 out → Progress start.told k.told a.0 [] sent
    progress k s = subst (λ (l : List ℕ). Progress start.told k.told a.0 [] l) (sym a.5) (Progress-told start.told k.told a.0 out s.ran.took)

    fares-so : (k : Kept D) → Up k a.0 out → k.told.held ≡ [] → Fares honest moment left start k (events_in bytes) sent
    fares-so k s held = fares honest moment left failed start k (events_in bytes) a.0 [] out sent [] (ended honest moment left seen failed reads earlier start k a.0 out s) (all_of a.0 (events_in bytes) all) (append-nil sent ∙ a.5) (λ _. held)

    comes-by : Fares honest moment left mid now [] [] → ComesByOne honest moment left start now (events_in bytes) sent
    comes-by f =
        let s = a.4.stands in
        let until = fares-so mid s a.4.none in
        record {
          now = mid;
          comes = record {
            until = until;
            since = λ ready.
                let kept = preserves-end honest moment left earlier start mid a.0 sent (subst (λ (gs : List Event). Fares honest moment left start mid gs sent) all until) ready in
                let rests : IsAtRest honest mid = record { stands = s.stands; is_honest = s.ran.stays_honest s.stands ready.is_honest; none = a.4.none } in
                subst (λ (gs : List Event). Preserves honest moment left start mid now gs sent) (sym (all_of a.0 (events_in bytes) all))
                (preserves-on honest moment left earlier start mid now a.0 [] sent (progress mid s) (λ _. a.4.none) mid once sent [] (omega arith) ready rests kept f);
          };
        }

    -- it was compacted
    pub compacted : ((before : List (ℕ × Answer)) → CarriesOn honest moment left failed mid now [] before before)
        → Served start.told now.told bytes rest sent count × Fares honest moment left start now (events_in bytes) sent × ComesByOne honest moment left start now (events_in bytes) sent × (failed now.disk ≡ failed start.disk)
    compacted on =
        let s = carry mid now a.0 out out (on out) a.4.stands in (
          record { events = a.0; reads = a.1; cut = a.2; count_is = a.3; progress = progress now s; none = λ _. none },
          fares-so now s none,
          comes-by (fares honest moment left failed mid now [] [] [] [] [] [] (ended honest moment left seen failed reads earlier mid now [] [] (on [] mid [] begun)) refl refl (λ _. none)),
          s.no_failure,
        )

    -- it couldn't be
    pub not_compacted : (why : GatewayFault) → ((before : List (ℕ × Answer)) → BreaksOff honest moment left failed mid now [] before before why)
        → AnsweredFirst start.told now.told (events_in bytes) sent × Fares honest moment left start now (events_in bytes) sent × ComesByOne honest moment left start now (events_in bytes) sent
        × Explains honest moment left failed (Gateway why) start now
    not_compacted why breaks =
        let off = breaks out start a.0 a.4.stands in
        let front = a.0 ++ off.0 in
        let split : events_in bytes ≡ front ++ (off.1 ++ []) = all_of a.0 (events_in bytes) all ∙ front_none a.0 off.0 off.1 [] off.2 in
        let here = breaks [] mid [] begun in (
          subst (λ (l : List ℕ). AnsweredFirst start.told now.told (events_in bytes) l) (sym a.5) (AnsweredFirst-told start.told now.told (events_in bytes) front (off.1 ++ []) out split off.3.ends.ran.took),
          fares honest moment left failed start now (events_in bytes) front (off.1 ++ []) out sent [] off.3.ends split (append-nil sent ∙ a.5) (λ _. none),
          comes-by (fares honest moment left failed mid now [] here.0 here.1 [] [] [] here.3.ends here.2 refl (λ _. none)),
          (off.3.is_why, none-failed now front out why off.3),
        )
