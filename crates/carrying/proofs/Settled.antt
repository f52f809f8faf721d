-- What a turn comes to.
use Rattle.std.proofs.Common.{◌≡◌, ℕ, ◌≤◌, List, [], ◌++◌, length, sym, ap, subst, ◌∙◌, arith}
use Rattle.std.specs.List.{flat_map, AllByRecursion}
use Rattle.disk_model.specs.Disk.{Files}
use Rattle.packet.specs.declared.endpoint.Iface.TheVariants.{Lan, Wan}
use Rattle.devices.specs.Handing.{Frames, Hands}
use Rattle.from_devices.specs.Requests.{Gathered}
use Rattle.machine.specs.declared.event.Event.{Event}
use Rattle.frames.specs.Answers.{frames}
use Rattle.frames.specs.Framing.{EventsAndRest, Rest, whole_frames}
use Rattle.frames.specs.Streams.{FitsFrame}
use Rattle.gateway.specs.Kept.{Kept}
use Rattle.gateway.specs.Told.{TookAll}
use Rattle.socket_edge.specs.Running.{Answered, Fares, events_in, remainder_of}
use Rattle.to_devices.specs.Leaving.{leaving}
use Rattle.to_devices.specs.Replies.{Reply, FitsReply, HasNoReply, reply_frame}
use Rattle.to_devices.specs.Counting.{AreCounted}
use Rattle.to_devices.specs.declared.counts.Counts.{Counts}
use Rattle.carrying.specs.Carried.{Carries, Fails}
use Rattle.carrying.specs.Counted.{CountsTurn, before_wan}
use Rattle.carrying.specs.Turns.{Turn, events_of, headers_of}
use Rattle.carrying.proofs.Fronted.{fares-more, front}
use Rattle.carrying.proofs.Handed.{counted_is, handed_is}
use Rattle.carrying.proofs.Streamed.{Streams, turn_reads}

pub events_are : (last : ℕ) (turn : Turn) (f : Gathered) (requests : List ℕ) → Streams last turn f → AllByRecursion FitsFrame (events_of last turn) → requests ≡ f.requests → events_in requests ≡ events_of last turn
events_are last turn f requests s fit is = ap (λ (x : EventsAndRest). x.events) (ap whole_frames is ∙ turn_reads last turn f s fit)

-- and nothing stands behind its frames
pub rest_is : (last : ℕ) (turn : Turn) (f : Gathered) (requests : List ℕ) → Streams last turn f → AllByRecursion FitsFrame (events_of last turn) → requests ≡ f.requests → remainder_of requests ≡ Rest []
rest_is last turn f requests s fit is = ap (λ (x : EventsAndRest). x.remainder) (ap whole_frames is ∙ turn_reads last turn f s fit)

module _ {D : Type 0} (honest : D → Type 0) (moment : D → ℕ) (left : D → ℕ → Files → Type 0) (old new : Kept D) where
  pub carried : (last : ℕ) (turn : Turn) (f : Gathered) (requests sent : List ℕ) (headers : List (List ℕ)) (replies : List Reply) (rest : List ℕ) (l l' w w' : Frames)
      → Streams last turn f → AllByRecursion FitsFrame (events_of last turn) → requests ≡ f.requests → headers ≡ f.headers
      → Fares honest moment left old new (events_in requests) sent → Answered old.told new.told requests sent → old.told.held ≡ []
      → length sent ≤ 1048576 → AllByRecursion FitsReply replies → HasNoReply rest → sent ≡ flat_map reply_frame replies ++ rest
      → Hands l l' (leaving 0 headers replies) → Hands w w' (leaving 1 headers replies)
      → Carries honest moment left old new (events_of last turn) (headers_of last turn) l l' w w'
  carried last turn f requests sent headers replies rest l l' w w' s fit is head fares a held few fits none parts to_lan to_wan =
      let events : events_in requests ≡ events_of last turn = events_are last turn f requests s fit is in
      let p = a.progress in
      let hs : headers ≡ headers_of last turn = head ∙ s.headers in
      let split : frames p.handed ≡ flat_map reply_frame replies ++ rest = sym p.sent ∙ parts in
      let short : length (frames p.handed) ≤ 1048576 = omega (arith, ap length p.sent, few) in
      record {
        answered = p.handed;
        took = subst (λ (es : List Event). TookAll old.told new.told es p.handed) events p.took;
        none = a.none held;
        to_lan = subst (λ (x : List (List ℕ)). Hands l l' x) (ap (λ (h : List (List ℕ)). leaving 0 h replies) hs ∙ handed_is Lan (headers_of last turn) p.handed replies rest short fits none split) to_lan;
        to_wan = subst (λ (x : List (List ℕ)). Hands w w' x) (ap (λ (h : List (List ℕ)). leaving 1 h replies) hs ∙ handed_is Wan (headers_of last turn) p.handed replies rest short fits none split) to_wan;
        fares = subst (λ (es : List Event). Fares honest moment left old new es (frames p.handed)) events
            (subst (λ (x : List ℕ). Fares honest moment left old new (events_in requests) x) p.sent fares);
      }

  -- and what is counted of it
  pub counted : (last : ℕ) (turn : Turn) (f : Gathered) (requests sent : List ℕ) (replies : List Reply) (rest : List ℕ) (c c' : Counts)
      → Streams last turn f → AllByRecursion FitsFrame (events_of last turn) → requests ≡ f.requests → Answered old.told new.told requests sent
      → length sent ≤ 1048576 → AllByRecursion FitsReply replies → HasNoReply rest → sent ≡ flat_map reply_frame replies ++ rest
      → AreCounted (before_wan last turn) 0 replies c c' → CountsTurn last turn old.told new.told c c'
  counted last turn f requests sent replies rest c c' s fit is a few fits none parts are =
      let events : events_in requests ≡ events_of last turn = events_are last turn f requests s fit is in
      let p = a.progress in
      let split : frames p.handed ≡ flat_map reply_frame replies ++ rest = sym p.sent ∙ parts in
      let short : length (frames p.handed) ≤ 1048576 = omega (arith, ap length p.sent, few) in
      (p.handed, subst (λ (es : List Event). TookAll old.told new.told es p.handed) events p.took, counted_is (before_wan last turn) p.handed replies rest c c' short fits none split are)

  pub failed : (last : ℕ) (turn : Turn) (f : Gathered) (requests given rest sent : List ℕ) (l l' w w' : Frames)
      → Streams last turn f → AllByRecursion FitsFrame (events_of last turn) → requests ≡ f.requests → requests ≡ given ++ rest → Fares honest moment left old new (events_in given) sent → l' ≡ l → w' ≡ w
      → Fails honest moment left old new (events_of last turn) l l' w w'
  failed last turn f requests given rest sent l l' w w' s fit is split fares to_lan to_wan =
      let more = front given rest in
      let all : events_in given ++ more.0 ≡ events_of last turn = sym more.1 ∙ ap events_in (sym split) ∙ events_are last turn f requests s fit is in
      record {
        to_lan = to_lan;
        to_wan = to_wan;
        sent = sent;
        fares = subst (λ (es : List Event). Fares honest moment left old new es sent) all (fares-more honest moment left old new (events_in given) more.0 sent fares);
      }
