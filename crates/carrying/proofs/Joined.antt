-- Turns one after the other.
use Rattle.std.proofs.Common.{◌≡◌, ℕ, suc, ◌+◌, ◌≤◌, Bool, true, false, ltb, List, [], ◌∷◌, ◌++◌, length, map, take, Option, None, Some, refl, sym, ap, subst, ◌∙◌, arith, append_assoc, length-append}
use Rattle.std.proofs.lemmas.Grind.{flat_map-append}
use Rattle.std.proofs.lemmas.List.{append-nil, map-append}
use Rattle.disk_model.specs.Disk.{Files, LeavesOnly}
use Rattle.packet.specs.declared.endpoint.Iface.{Iface}
use Rattle.packet.specs.declared.endpoint.Iface.TheVariants.{Lan, Wan}
use Rattle.devices.specs.Handing.{Frames, Hands}
use Rattle.frames.specs.Answers.{frame, frames}
use Rattle.gateway.specs.Kept.{Kept, IsAtRest, IsSafe}
use Rattle.gateway.specs.Told.{Told, TookAll}
use Rattle.disk_model.proofs.Moments.{narrows}
use Rattle.gateway.proofs.Runs.{safe-less}
use Rattle.gateway.proofs.Taking.{after-append, length-answers}
use Rattle.machine.proofs.Judging.{AreJudged-append, AreJudged-length}
use Rattle.machine.specs.Judged.{AreJudged}
use Rattle.packet.specs.Config.{Config}
use Rattle.machine.specs.Machine.{answers, later, numbered}
use Rattle.machine.specs.declared.event.Answer.{Answer}
use Rattle.machine.specs.declared.event.Event.{Event}
use Rattle.socket_edge.specs.Progress.{answers_due, replies}
use Rattle.socket_edge.specs.Running.{Fares}
use Rattle.socket_edge.proofs.Answers.{answers_due-append, last_of as last_number}
use Rattle.socket_edge.proofs.Lasting.{fares-then}
use Rattle.to_devices.proofs.Letting.{Hands-then}
use Rattle.carrying.specs.Asking.{Asked, Asks, AsksFor}
use Rattle.carrying.specs.Carried.{Carries, handed_by, handed_to}
use Rattle.carrying.specs.Runs.{all_events, all_headers, asked_of, from_lan, from_wan, last_of}
use Rattle.carrying.specs.Turns.{Turn, events_of, headers_of, load, load_headers, packet_at, tick, tick_headers}

pub last-then : (last : ℕ) (ts : List Turn) (t : Turn) → last_of last (ts ++ t ∷ []) ≡ later (last_of last ts) t.moment
last-then last [] t = refl
last-then last (s ∷ ts) t = last-then (later last s.moment) ts t

pub events-then : (last : ℕ) (ts : List Turn) (t : Turn) → all_events last (ts ++ t ∷ []) ≡ all_events last ts ++ events_of (last_of last ts) t
events-then last [] t = append-nil (events_of last t)
events-then last (s ∷ ts) t =
    let m = later last s.moment in
    ap (λ (xs : List Event). events_of last s ++ xs) (events-then m ts t) ∙ sym (append_assoc (events_of last s) (all_events m ts) (events_of (last_of m ts) t))

pub headers-then : (last : ℕ) (ts : List Turn) (t : Turn) → all_headers last (ts ++ t ∷ []) ≡ all_headers last ts ++ headers_of (last_of last ts) t
headers-then last [] t = append-nil (headers_of last t)
headers-then last (s ∷ ts) t =
    let m = later last s.moment in
    ap (λ (xs : List (List ℕ)). headers_of last s ++ xs) (headers-then m ts t) ∙ sym (append_assoc (headers_of last s) (all_headers m ts) (headers_of (last_of m ts) t))

pub lan-then : (ts : List Turn) (t : Turn) → from_lan (ts ++ t ∷ []) ≡ from_lan ts ++ t.lan
lan-then ts t = flat_map-append (λ (turn : Turn). turn.lan) ts (t ∷ []) ∙ ap (λ (x : List (List ℕ)). from_lan ts ++ x) (append-nil t.lan)

pub wan-then : (ts : List Turn) (t : Turn) → from_wan (ts ++ t ∷ []) ≡ from_wan ts ++ t.wan
wan-then ts t = flat_map-append (λ (turn : Turn). turn.wan) ts (t ∷ []) ∙ ap (λ (x : List (List ℕ)). from_wan ts ++ x) (append-nil t.wan)

pub AsksFor-nil : (a : Asks) → AsksFor a a []
AsksFor-nil None = tt
AsksFor-nil (Some s) = refl

AsksFor-then : (a b c : Asks) (x y : List Asked) → AsksFor a b x → AsksFor b c y → AsksFor a c (x ++ y)
AsksFor-then None b c x y p q = tt
AsksFor-then (Some s) None c x y p q = absurd p
AsksFor-then (Some s) (Some t) None x y p q = absurd q
AsksFor-then (Some s) (Some t) (Some u) x y p q = p ∙ ap (λ (z : List Asked). x ++ z) q ∙ sym (append_assoc x y u)

pub asked-then : (a b c : Asks) (ts : List Turn) (t : Turn) → AsksFor a b (map asked_of ts) → AsksFor b c (asked_of t ∷ []) → AsksFor a c (map asked_of (ts ++ t ∷ []))
asked-then a b c ts t p q = rw (map-append asked_of ts (t ∷ [])) (AsksFor-then a b c (map asked_of ts) (asked_of t ∷ []) p q)

-- each event has its header
mapped : {A B C : Type 0} (f : A → B) (g : A → C) (xs : List A) → length (map f xs) ≡ length (map g xs)
mapped f g [] = refl
mapped f g (x ∷ xs) = ap suc (mapped f g xs)

tick_long : (last moment : ℕ) → length (tick_headers last moment) ≡ length (tick last moment)
tick_long last moment = tested (ltb last moment) refl
  where
    tested : (t : Bool) → ltb last moment ≡ t → length (tick_headers last moment) ≡ length (tick last moment)
    tested true t = rw t refl
    tested false t = rw t refl

load_long : (m : ℕ) (text : Option (List ℕ)) → length (load_headers text) ≡ length (load m text)
load_long m None = refl
load_long m (Some text) = refl

pub turn_long : (last : ℕ) (turn : Turn) → length (headers_of last turn) ≡ length (events_of last turn)
turn_long last turn =
    let m = later last turn.moment in
    let a = map (take 10) turn.lan in
    let b = map (take 10) turn.wan in
    let c = map (packet_at m Lan) turn.lan in
    let d = map (packet_at m Wan) turn.wan in
    omega (
      arith,
      length-append (tick_headers last turn.moment) (load_headers turn.text ++ (a ++ b)),
      length-append (load_headers turn.text) (a ++ b),
      length-append a b,
      length-append (tick last turn.moment) (load m turn.text ++ (c ++ d)),
      length-append (load m turn.text) (c ++ d),
      length-append c d,
      tick_long last turn.moment,
      load_long m turn.text,
      mapped (take 10) (packet_at m Lan) turn.lan,
      mapped (take 10) (packet_at m Wan) turn.wan,
    )

pub all_long : (last : ℕ) (ts : List Turn) → length (all_headers last ts) ≡ length (all_events last ts)
all_long last [] = refl
all_long last (t ∷ ts) =
    let m = later last t.moment in
    omega (arith, length-append (headers_of last t) (all_headers m ts), length-append (events_of last t) (all_events m ts), turn_long last t, all_long m ts)

-- the answers are as many as the events
numbered_long : (last : ℕ) (outs : List Answer) → length (numbered last outs) ≡ length outs
numbered_long last [] = refl
numbered_long last (a ∷ outs) = ap suc (numbered_long (last + 1) outs)

pub answered_long : (old new : Told) (events : List Event) (out : List (ℕ × Answer)) → TookAll old new events out → old.held ≡ [] → new.held ≡ [] → length out ≡ length events
answered_long old new events out t none none' =
    let outs = answers old.config old.state t.judged in
    omega (
      arith,
      ap length t.order,
      length-append out new.held,
      length-append old.held (numbered old.last outs),
      ap length none,
      ap length none',
      numbered_long old.last outs,
      length-answers old.config old.state t.judged,
      AreJudged-length old.config events t.judged t.are_judged,
    )

pub handed-then : (side : Iface) (hs gs : List (List ℕ)) (xs ys : List (ℕ × Answer)) → length hs ≡ length xs → handed_to side (hs ++ gs) (xs ++ ys) ≡ handed_to side hs xs ++ handed_to side gs ys
handed-then side [] gs [] ys e = refl
handed-then side [] gs (x ∷ xs) ys e = absurd (omega (arith, e))
handed-then side (h ∷ hs) gs [] ys e = absurd (omega (arith, e))
handed-then side (h ∷ hs) gs (x ∷ xs) ys e =
    ap (λ (z : List (List ℕ)). handed_by side h x.1 ++ z) (handed-then side hs gs xs ys (omega (arith, e)))
    ∙ sym (append_assoc (handed_by side h x.1) (handed_to side hs xs) (handed_to side gs ys))

-- one after the other
pub took-then : (old middle new : Told) (es fs : List Event) (xs ys : List (ℕ × Answer)) → TookAll old middle es xs → TookAll middle new fs ys → TookAll old new (es ++ fs) (xs ++ ys)
unfolding answers_due replies
took-then old middle new es fs xs ys p q = record {
  judged = p.judged ++ q.judged;
  are_judged = AreJudged-append old.config es fs p.judged q.judged p.are_judged (subst (λ (x : Config). AreJudged x fs q.judged) p.config q.are_judged);
  config = q.config ∙ p.config;
  state = q.state ∙ rw (p.state, p.config) refl ∙ sym (after-append old.config old.state p.judged q.judged);
  last = omega (arith, q.last, p.last, length-append es fs);
  order = append_assoc xs ys new.held ∙ ap (λ (zs : List (ℕ × Answer)). xs ++ zs) q.order
      ∙ answers_due-append old middle p.judged q.judged xs p.config p.state (last_number old middle es xs p) p.order;
}

pub events-front : (last : ℕ) (xs ys : List Turn) → all_events last (xs ++ ys) ≡ all_events last xs ++ all_events (last_of last xs) ys
events-front last [] ys = refl
events-front last (x ∷ xs) ys =
    let m = later last x.moment in
    ap (λ (es : List Event). events_of last x ++ es) (events-front m xs ys) ∙ sym (append_assoc (events_of last x) (all_events m xs) (all_events (last_of m xs) ys))

module _ {D : Type 0} (honest : D → Type 0) (moment : D → ℕ) (left : D → ℕ → Files → Type 0) where
  -- the same of these events, with the same answers
  pub carries-as : (a b : Kept D) (es es' : List Event) (hs hs' : List (List ℕ)) (l l' w w' : Frames) → es ≡ es' → hs ≡ hs' → (k : Carries honest moment left a b es hs l l' w w') → (same : Carries honest moment left a b es' hs' l l' w w') × (same.answered ≡ k.answered)
  carries-as a b es es' hs hs' l l' w w' e h k = (
    record {
      answered = k.answered;
      took = subst (λ (xs : List Event). TookAll a.told b.told xs k.answered) e k.took;
      none = k.none;
      to_lan = subst (λ (xs : List (List ℕ)). Hands l l' (handed_to Lan xs k.answered)) h k.to_lan;
      to_wan = subst (λ (xs : List (List ℕ)). Hands w w' (handed_to Wan xs k.answered)) h k.to_wan;
      fares = subst (λ (xs : List Event). Fares honest moment left a b xs (frames k.answered)) e k.fares;
    },
    refl,
  )

  -- what a run that carried on says of how the files fare
  fares-any : (a b : Kept D) (es : List Event) (sent : List ℕ) → Fares honest moment left a b es sent → IsAtRest honest a → LeavesOnly moment left a.disk b.disk (IsSafe a.told.config a.told.state es 0)
  fares-any a b es sent f ready =
      let o = f.outlives ready in
      narrows moment left a.disk b.disk (λ before files. IsSafe a.told.config a.told.state o.front 0 files) (λ before files. IsSafe a.told.config a.told.state es 0 files) o.any_moment
      (λ before files was is. subst (λ (xs : List Event). IsSafe a.told.config a.told.state xs 0 files) (sym o.split) (safe-less a.told.config a.told.state o.front o.back 0 0 files (omega arith) is))

  module _ (earlier : (disk : D) (s t : ℕ) (files : Files) → s ≤ t → left disk t files → left disk s files) (a b c : Kept D) (stood : a.fallen ≡ false) (stands : b.fallen ≡ false) (none : a.told.held ≡ []) where
    -- behind turns that were carried, the files fare as in all together
    pub fares-behind : (es fs : List Event) (hs : List (List ℕ)) (l l' w w' : Frames) (sent : List ℕ) → (k : Carries honest moment left a b es hs l l' w w') → Fares honest moment left b c fs sent
        → Fares honest moment left a c (es ++ fs) (frames k.answered ++ sent)
    fares-behind es fs hs l l' w w' sent k f =
        fares-then honest moment left moment earlier a b c es fs (frames k.answered) sent (record { handed = k.answered; took = k.took; sent = refl })
        (λ _. k.none) k.fares.was_honest (k.fares.stays_honest stands) (λ h. k.fares.configured h stood) (λ ready. fares-any a b es (frames k.answered) k.fares ready) stands f

    pub carries-then : (es fs : List Event) (hs gs : List (List ℕ)) (l l' l'' w w' w'' : Frames) → length hs ≡ length es
        → (k : Carries honest moment left a b es hs l l' w w') → (j : Carries honest moment left b c fs gs l' l'' w' w'') → (all : Carries honest moment left a c (es ++ fs) (hs ++ gs) l l'' w w'') × (all.answered ≡ k.answered ++ j.answered)
    carries-then es fs hs gs l l' l'' w w' w'' long k j =
        let long' : length hs ≡ length k.answered = long ∙ sym (answered_long a.told b.told es k.answered k.took none k.none) in (
          record {
            answered = k.answered ++ j.answered;
            took = took-then a.told b.told c.told es fs k.answered j.answered k.took j.took;
            none = j.none;
            to_lan = rw (handed-then Lan hs gs k.answered j.answered long') (Hands-then l l' l'' _ _ k.to_lan j.to_lan);
            to_wan = rw (handed-then Wan hs gs k.answered j.answered long') (Hands-then w w' w'' _ _ k.to_wan j.to_wan);
            fares = rw (flat_map-append frame k.answered j.answered) (fares-behind es fs hs l l' w w' (frames j.answered) k j.fares);
          },
          refl,
        )
