-- The requests of a turn are the frames of its events.
use Rattle.std.proofs.Common.{◌≡◌, ℕ, ◌<◌, ◌≤◌, ◌^◌, Bool, true, false, ltb, leb, cond, List, [], ◌∷◌, ◌++◌, length, take, map, Option, None, Some, Bor, refl, sym, ap, ◌∙◌, arith, append_assoc, inl, length-drop}
use Rattle.std.specs.Prelude.{IfNone, IfSome, MatchOption}
use Rattle.std.specs.List.{flat_map, AllByRecursion}
use Rattle.std.proofs.lemmas.Bool.{ltb-true, ltb-false, leb-true, leb-false}
use Rattle.std.proofs.lemmas.Grind.{flat_map-append}
use Rattle.std.proofs.lemmas.List.{append-nil}
use Rattle.packet.specs.declared.endpoint.Iface.{Iface}
use Rattle.packet.specs.declared.endpoint.Iface.TheVariants.{Lan, Wan}
use Rattle.machine.specs.Machine.{later}
use Rattle.machine.specs.declared.event.Event.{Event}
use Rattle.machine.specs.declared.event.What.TheVariants as what
use Rattle.frames.specs.Framing.{Rest, whole_frames}
use Rattle.frames.specs.Streams.{FitsFrame, request as framed}
use Rattle.frames.proofs.Composed.{stream_reads}
use Rattle.from_devices.specs.Requests.{Gathered, IsPacket, begun, packet_request, request, with_load}
use Rattle.carrying.specs.Turns.{Turn, events_of, gathered, headers_of, load, packet_at, tick, tick_headers, load_headers, with_text}

-- the bytes of a text, as its turn has them
abbrev pub bytes_of : Option (Bor (List ℕ)) → Option (List ℕ)
bytes_of None = None
bytes_of (Some text) = Some text.now

pub bytes_are : (text : Option (Bor (List ℕ))) → MatchOption text (bytes_of text ≡ None) (λ bytes. bytes_of text ≡ Some bytes.now)
bytes_are None = refl
bytes_are (Some text) = refl

pub text_loaded : (text : Option (Bor (List ℕ))) (g f : Gathered) → IfSome text (λ bytes. f ≡ with_load bytes.now g) → IfNone text (f ≡ g) → f ≡ with_text (bytes_of text) g
text_loaded None g f some none = none
text_loaded (Some text) g f some none = some

abbrev pub ShortText : Option (List ℕ) → Type 0
ShortText None = Unit {0}
ShortText (Some text) = length text ≤ 262144

pub short_text : (text : Option (Bor (List ℕ))) → IfSome text (λ bytes. length bytes.now ≤ 262144) → ShortText (bytes_of text)
short_text None some = tt
short_text (Some text) some = some

pub text_short : (text : Option (Bor (List ℕ))) (t : Option (List ℕ)) → IfSome text (λ bytes. length bytes.now ≤ 262144) → MatchOption text (t ≡ None) (λ bytes. t ≡ Some bytes.now) → ShortText t
text_short None t some is = rw is tt
text_short (Some text) t some is = rw is some

packet_framed : (m : ℕ) (iface : Iface) (given : List ℕ) → packet_request m iface given ≡ framed (packet_at m iface given)
unfolding request
packet_framed m Lan given = refl
packet_framed m Wan given = refl

packets_framed : (m : ℕ) (iface : Iface) (xs : List (List ℕ)) → flat_map (packet_request m iface) xs ≡ flat_map framed (map (packet_at m iface) xs)
packets_framed m iface [] = refl
packets_framed m iface (x ∷ xs) = rw (packet_framed m iface x, packets_framed m iface xs) refl

load_framed : (m : ℕ) (text : List ℕ) → request 2 0 m text ≡ framed (record { moment = m; what = what.Load text })
unfolding request
load_framed m text = refl

tick_framed : (m : ℕ) → request 3 0 m [] ≡ framed (record { moment = m; what = what.Moment })
unfolding request
tick_framed m = refl

-- a turn begins
record Begins (last moment : ℕ) (f : Gathered) : Type 0 where
  pub requests : f.requests ≡ flat_map framed (tick last moment)
  pub headers : f.headers ≡ tick_headers last moment
  pub told : f.told ≡ later last moment

begins : (moment : ℕ) (g : Gathered) → Begins g.told moment (begun moment g)
begins moment g = tested (ltb g.told moment) refl (leb g.told moment) refl
  where
    tested : (t : Bool) → ltb g.told moment ≡ t → (s : Bool) → leb g.told moment ≡ s → Begins g.told moment (begun moment g)
    tested true t true s = record {
      requests = rw t (tick_framed moment);
      headers = rw t refl;
      told = rw (t, s) refl;
    }
    tested true t false s = absurd (omega (arith, ltb-true _ _ t, leb-false _ _ s))
    tested false t true s = record {
      requests = rw t refl;
      headers = rw t refl;
      told = rw (t, s) (omega (arith, ltb-false _ _ t, leb-true _ _ s));
    }
    tested false t false s = record {
      requests = rw t refl;
      headers = rw t refl;
      told = rw (t, s) refl;
    }

-- and a text may be loaded
record Opens (last moment : ℕ) (text : Option (List ℕ)) (f : Gathered) : Type 0 where
  pub requests : f.requests ≡ flat_map framed (tick last moment) ++ flat_map framed (load (later last moment) text)
  pub headers : f.headers ≡ tick_headers last moment ++ load_headers text
  pub told : f.told ≡ later last moment

opens : (moment : ℕ) (text : Option (List ℕ)) (g : Gathered) → Opens g.told moment text (with_text text (begun moment g))
opens moment None g =
    let b = begins moment g in
    record {
      requests = b.requests ∙ sym (append-nil _);
      headers = b.headers ∙ sym (append-nil _);
      told = b.told;
    }
opens moment (Some text) g =
    let b = begins moment g in
    record {
      requests = rw (b.requests, b.told) (ap (λ x. flat_map framed (tick g.told moment) ++ x) (load_framed (later g.told moment) text ∙ sym (append-nil _)));
      headers = rw b.headers refl;
      told = b.told;
    }

-- all of a turn
pub record Streams (last : ℕ) (turn : Turn) (f : Gathered) : Type 0 where
  pub requests : f.requests ≡ flat_map framed (events_of last turn)
  pub headers : f.headers ≡ headers_of last turn
  pub told : f.told ≡ later last turn.moment

four_parts : (a b c d : List Event) → flat_map framed (a ++ (b ++ (c ++ d))) ≡ ((flat_map framed a ++ flat_map framed b) ++ flat_map framed c) ++ flat_map framed d
four_parts a b c d =
    flat_map-append framed a (b ++ (c ++ d))
    ∙ ap (λ (x : List ℕ). flat_map framed a ++ x) (flat_map-append framed b (c ++ d) ∙ ap (λ (x : List ℕ). flat_map framed b ++ x) (flat_map-append framed c d))
    ∙ sym (append_assoc (flat_map framed a) (flat_map framed b) (flat_map framed c ++ flat_map framed d))
    ∙ sym (append_assoc (flat_map framed a ++ flat_map framed b) (flat_map framed c) (flat_map framed d))

pub streams : (turn : Turn) (g : Gathered) → Streams g.told turn (gathered turn g)
streams turn g =
    let o = opens turn.moment turn.text g in
    let m = later g.told turn.moment in
    let start = flat_map framed (tick g.told turn.moment) ++ flat_map framed (load m turn.text) in
    record {
      requests =
          rw (o.requests, o.told, packets_framed m Lan turn.lan, packets_framed m Wan turn.wan)
          (sym (four_parts (tick g.told turn.moment) (load m turn.text) (map (packet_at m Lan) turn.lan) (map (packet_at m Wan) turn.wan)));
      headers = rw o.headers
          (append_assoc (tick_headers g.told turn.moment ++ load_headers turn.text) (map (take 10) turn.lan) (map (take 10) turn.wan)
          ∙ append_assoc (tick_headers g.told turn.moment) (load_headers turn.text) (map (take 10) turn.lan ++ map (take 10) turn.wan));
      told = o.told;
    }

-- each event has a frame
all-append : (xs ys : List Event) → AllByRecursion FitsFrame xs → AllByRecursion FitsFrame ys → AllByRecursion FitsFrame (xs ++ ys)
all-append [] ys p q = q
all-append (x ∷ xs) ys p q = (p.0, all-append xs ys p.1 q)

packets_fit : (m : ℕ) (iface : Iface) (xs : List (List ℕ)) → m < 2 ^ 64 → AllByRecursion IsPacket xs → AllByRecursion FitsFrame (map (packet_at m iface) xs)
packets_fit m iface [] h p = tt
packets_fit m iface (x ∷ xs) h p = (
  record {
    moment = h;
    body = omega (arith, length-drop 10 x, p.0.longest);
  },
  packets_fit m iface xs h p.1,
)

load_fits : (m : ℕ) (text : Option (List ℕ)) → m < 2 ^ 64 → ShortText text → AllByRecursion FitsFrame (load m text)
load_fits m None h short = tt
load_fits m (Some text) h short = (
  record {
    moment = h;
    body = short;
  },
  tt,
)

tick_fits : (last moment : ℕ) → moment < 2 ^ 64 → AllByRecursion FitsFrame (tick last moment)
tick_fits last moment h = tested (ltb last moment)
  where
    tested : (t : Bool) → AllByRecursion FitsFrame (cond t (record { moment = moment; what = what.Moment } ∷ []) [])
    tested true = (
      record {
        moment = h;
        body = omega arith;
      },
      tt,
    )
    tested false = tt

pub turn_fits : (last : ℕ) (turn : Turn) → turn.moment < 2 ^ 64 → later last turn.moment < 2 ^ 64 → ShortText turn.text → AllByRecursion IsPacket turn.lan → AllByRecursion IsPacket turn.wan
    → AllByRecursion FitsFrame (events_of last turn)
turn_fits last turn h k short lan wan =
    let m = later last turn.moment in
    all-append (tick last turn.moment) _ (tick_fits last turn.moment h)
    (all-append (load m turn.text) _ (load_fits m turn.text k short)
    (all-append (map (packet_at m Lan) turn.lan) _ (packets_fit m Lan turn.lan k lan) (packets_fit m Wan turn.wan k wan)))

-- the requests are whole frames, and none is faulty
pub turn_reads : (last : ℕ) (turn : Turn) (f : Gathered) → Streams last turn f → AllByRecursion FitsFrame (events_of last turn) → whole_frames f.requests ≡ record { events = events_of last turn; remainder = Rest [] }
turn_reads last turn f s fit = stream_reads f.requests (record { events = events_of last turn; remainder = Rest [] }) (record {
  fit = fit;
  tail = [];
  bytes_are = s.requests ∙ sym (append-nil _);
  ending = (refl, inl (omega arith));
})
