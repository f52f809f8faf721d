-- Hairpins come in.
use Rattle.std.proofs.Common.{◌≡◌, ◌⊎◌, ℕ, ◌<◌, true, false, List, length, Contains, Option, Some, None, is_some, Result, Ok, Err, not, nat_lt, if◌then◌else◌, refl, sym, ap, ◌∙◌, subst, inl, inr, arith}
use Rattle.std.specs.Prelude.{find}
use Rattle.std.specs.List.{filter}
use Rattle.std.specs.Option.{option_map, unwrap_or}
use Rattle.std.proofs.lemmas.Bool.{false_from_ne_true, le-ltb, not-true}
use Rattle.packet.specs.Config.{Config, is_config}
use Rattle.packet.specs.Translated.{translated}
use Rattle.packet.specs.declared.bounds.Filtering.{Filtering}
use Rattle.packet.specs.declared.bounds.Filtering.TheVariants as filtering
use Rattle.packet.specs.declared.endpoint.Endpoint.{Endpoint}
use Rattle.packet.specs.declared.endpoint.Iface.TheVariants.{Lan}
use Rattle.packet.specs.declared.route.Route.TheVariants.{Hairpin}
use Rattle.packet.specs.declared.view.View.{View}
use Rattle.portpick.specs.Choice.{IsNearest, after, port_choice}
use Rattle.portpick.specs.Pool.{endpoint, port_at}
use Rattle.portpick.proofs.Chosen.{determined}
use Rattle.sessions.specs.Laws.{IsMapping}
use Rattle.sessions.specs.Life.{alive}
use Rattle.sessions.specs.Listing.{In, clashes, has_inside, has_outside, put, same_flow}
use Rattle.sessions.specs.Sound.{AreSound}
use Rattle.sessions.specs.Table.{Clash as Clashing, HasOutside}
use Rattle.sessions.specs.declared.session.Opener.TheVariants.{Inside, Remote}
use Rattle.sessions.specs.declared.session.Session.{Session}
use Rattle.sessions.proofs.Clashing.{differ}
use Rattle.sessions.proofs.Found.{has_outside-from, has_outside-true}
use Rattle.sessions.proofs.Held.{SameKeys}
use Rattle.sessions.proofs.Puts.{find-none, find-some, has_inside-from, has_inside-true, keys-from}
use Rattle.sessions.proofs.Sets.{In-filter, In-insert}
use Rattle.verdict.specs.declared.facts.State.TheVariants.{New}
use Rattle.hairpin.specs.Legs.{Passage, begun_second, by_mapping, connection_of, counted, forwarded, hairpin_by, inside_by_rules, inside_far, is_taken, maps_inside, maps_outside, new_session, or_no_port, outside_near, passed_by, second, second_by, then_with, through, unless_dropped, uses_in}
use Rattle.hairpin.specs.declared.cause.Cause.{Cause}
use Rattle.hairpin.specs.declared.cause.Cause.TheVariants.{Clash, Filtered, NoSession, SelfMapped, TableFull}
use Rattle.hairpin.proofs.Apart.{agree, maps-from, maps-parts, maps_outside-from, maps_outside-parts, taken-by, taken-from, translated_at}
use Rattle.hairpin.proofs.Choosing.{near-is}
use Rattle.hairpin.proofs.Clashing.{none_clashes}
use Rattle.hairpin.proofs.Doubling.{Rises-put, passed-flow, passed-keys}
use Rattle.hairpin.proofs.Soundness.{filter-sound, put-known}
use Rattle.machine.specs.Hairpins.{GoesByBoth, HairpinsComeIn, HairpinsToMapping}
use Rattle.machine.specs.Hosts.{IsOccupied}
use Rattle.machine.specs.Judged.{Judged}
use Rattle.machine.specs.Laws.{living}
use Rattle.machine.specs.Machine.{State, sent, step}
use Rattle.machine.specs.Order.{IsNear, IsSource}
use Rattle.machine.specs.Requirements.{HasNoMapping, LetsIn}
use Rattle.machine.specs.Sound.{IsSoundState}
use Rattle.machine.specs.declared.event.Answer.TheVariants.{Forward}
use Rattle.machine.proofs.Admitting.{lets-true, mapped-clash}
use Rattle.machine.proofs.Looked.{none-of, of-first}
use Rattle.machine.proofs.Passing.{answer-of, one-of-flow, one-outside, put-most}
use Rattle.machine.proofs.Reading.{ports_are_some}
use Rattle.machine.proofs.Refreshing.{flows-differ, put-stays}

-- one of a set with one more is that one, or one of another flow
pub put-of : (t : Session) (sessions : List Session) (u : Session) → In u (put t sessions) → (u ≡ t) ⊎ (In u sessions × (same_flow t u ≡ false))
put-of t sessions u is = elim (In-insert t (filter (λ v. not (same_flow t v)) sessions) u is) [
  | inl e ↦ inl e
  | inr old ↦ let kept = In-filter (λ v. not (same_flow t v)) sessions u old in inr (kept.0, not-true _ kept.1)
]

-- ---- the outside endpoint of the sender

pub near-addr : (config : Config) (live : State) (view : View) (addr : ℕ) → IsNear config live view addr → addr ≡ unwrap_or (find (uses_in live.sessions view.src.addr) config.external) view.dst.addr
near-addr config live view addr (inl first) = sym (ap (λ o. unwrap_or o view.dst.addr) (of-first live.sessions view.src.addr config.external addr first))
near-addr config live view addr (inr nowhere) = nowhere.1 ∙ sym (ap (λ o. unwrap_or o view.dst.addr) (none-of live.sessions view.src.addr config.external nowhere.0))

module _ (config : Config) (live : State) (view : View) (all : AreSound config live.sessions) (some : 0 < view.src.port) (fits : view.src.port < 65536) where
  abbrev sessions : List Session
  sessions = live.sessions

  abbrev found_map : Option Session
  found_map = find (maps_inside view.proto view.src) sessions

  abbrev near : Option Session → Result Endpoint Cause
  near = outside_near config live.rules sessions live.clock view

  mapped-near : (source : Endpoint) → IsMapping sessions view.proto view.src source → near found_map ≡ Ok source
  mapped-near source m =
      let found = find-some (maps_inside view.proto view.src) sessions m.session m.is_held (maps-from view.proto view.src m.session m.translated m.proto m.inside) in
      let t = found.0 in
      let parts = maps-parts view.proto view.src t found.3 in
      let same = agree sessions all.apart t m.session found.2 m.is_held parts.0 m.translated (parts.1 ∙ sym m.proto) in
      ap near found.1 ∙ ap Ok (same.0 (parts.2 ∙ sym m.inside) ∙ m.outside)

  nearest-port : (source : Endpoint) → IsNearest (IsOccupied sessions view.proto source.addr) view.src.port source.port → port_choice (is_taken sessions view.proto source.addr) view.src.port ≡ Some source.port
  nearest-port source nearest = ((determined (is_taken sessions view.proto source.addr) view.src.port some fits).some source.port).1 (record {
    steps = nearest.steps;
    reached = nearest.reached;
    is_free = λ taken. nearest.is_free (taken-by sessions view.proto source.addr source.port taken);
    nearer_taken = λ fewer lt. let held = nearest.nearer_taken fewer lt in taken-from sessions view.proto source.addr (after fewer view.src.port) held.0 held.1 held.2 held.3;
  })

  chosen-near : (source : Endpoint) → HasNoMapping live view → IsNear config live view source.addr → IsNearest (IsOccupied sessions view.proto source.addr) view.src.port source.port → near found_map ≡ Ok source
  chosen-near source unmapped is_near nearest =
      let none : found_map ≡ None = find-none (maps_inside view.proto view.src) sessions (λ u in_u passes.
      let parts = maps-parts view.proto view.src u passes in
      unmapped u.outside (record { session = u; is_held = in_u; translated = parts.0; proto = parts.1; inside = parts.2; outside = refl })) in
      let taken = is_taken sessions view.proto in
      let uses = uses_in sessions view.src.addr in
      ap near none
      ∙ ap or_no_port (near-is uses taken config.external view.src.port view.dst.addr ∙ ap (port_at taken view.src.port) (sym (near-addr config live view source.addr is_near)) ∙ ap (option_map (endpoint source.addr)) (nearest-port source nearest))

  pub source-near : (source : Endpoint) → IsSource config live view source → near found_map ≡ Ok source
  source-near source (inl m) = mapped-near source m
  source-near source (inr chosen) = chosen-near source chosen.0 chosen.1 chosen.2

-- ---- a hairpin begins

module _ (config : Config) (s : State) (judged : Judged) (bytes : List ℕ) (view : View) (source inside : Endpoint) (is_one : is_config config ≡ true) (sound : IsSoundState config s)
    (c : HairpinsToMapping config s judged bytes view source inside) where
  abbrev live : State
  live = living s judged

  abbrev held : List Session
  held = live.sessions

  abbrev now : ℕ
  now = live.clock

  all : AreSound config held
  all = filter-sound config s.sessions sound.sessions (alive now)

  abbrev mapping : IsMapping held view.proto inside view.dst
  mapping = c.mapping

  none_out : find (has_inside view.proto view.src view.dst) held ≡ None
  none_out = find-none (has_inside view.proto view.src view.dst) held (λ u in_u passes. c.new u in_u (has_inside-true view.proto view.src view.dst u passes))

  from : outside_near config s.rules held now view (find (maps_inside view.proto view.src) held) ≡ Ok source
  from = source-near config live view all (ports_are_some bytes view c.came.fields_are).0 c.port source c.from

  -- ---- out

  abbrev first : Session
  first = new_session config s.rules held now view Inside view.src source view.dst

  abbrev with_first : List Session
  with_first = put first held

  beside : (u : Session) → In u held → In u with_first
  beside u in_u = put-stays first u held in_u (false_from_ne_true _ (λ h. c.new u in_u (has_inside-true view.proto view.src view.dst u h)))

  -- ---- in

  external : Contains config.external view.dst.addr
  external = elim (all.placed mapping.session mapping.is_held).outside [
    | inl same ↦ absurd (mapping.translated (sym same))
    | inr listed ↦ subst (λ (x : Endpoint). Contains config.external x.addr) mapping.outside listed
  ]

  new_far : (u : Session) → In u held → ¬ HasOutside view.proto view.dst source u
  new_far u in_u own =
      let away = translated_at config u is_one (all.placed u in_u) (subst (λ (x : Endpoint). Contains config.external x.addr) (sym own.1) external) in
      let same = agree held all.apart u mapping.session in_u mapping.is_held away mapping.translated (own.0 ∙ sym mapping.proto) in
      c.apart u in_u (own.0, same.1 (own.1 ∙ sym mapping.outside) ∙ mapping.inside, own.2)

  none_far : find (has_outside view.proto view.dst source) with_first ≡ None
  none_far = find-none (has_outside view.proto view.dst source) with_first (λ u in_u passes.
      let own = has_outside-true view.proto view.dst source u passes in
      elim (put-of first held u in_u) [ inl e ↦ c.away (subst (λ (v : Session). v.outside ≡ view.dst) e own.1) | inr old ↦ new_far u old.0 own ])

  let-in : (by : Filtering) → LetsIn by held view.proto inside view.dst source.addr → LetsIn by with_first view.proto inside view.dst source.addr
  let-in filtering.Endpoint lets = tt
  let-in filtering.Address lets = (lets.0, beside lets.0 lets.1, lets.2)

  given : inside_far config s.rules held now view first with_first ≡ Ok inside
  given =
      let found = find-some (maps_outside view.proto view.dst) with_first mapping.session (beside mapping.session mapping.is_held)
      (maps_outside-from view.proto view.dst mapping.session mapping.translated mapping.proto mapping.outside) in
      let m = found.0 in
      let parts = maps_outside-parts view.proto view.dst m found.3 in
      let inside_is : m.inside ≡ inside = elim (put-of first held m found.2) [
        | inl e ↦ absurd (c.away (subst (λ (v : Session). v.outside ≡ view.dst) e parts.2))
        | inr old ↦ (agree held all.apart m mapping.session old.0 mapping.is_held parts.0 mapping.translated (parts.1 ∙ sym mapping.proto)).1 (parts.2 ∙ sym mapping.outside) ∙ mapping.inside
      ] in
      let lets = lets-true config.filtering with_first m view.proto inside view.dst source.addr parts.1 inside_is parts.2 (let-in config.filtering c.let_in) in
      ap (inside_by_rules config s.rules held now view with_first source.addr (find (maps_outside view.proto view.dst) with_first)) c.alone
      ∙ ap (by_mapping config.filtering with_first source.addr) found.1
      ∙ ap (λ b. if b then Ok m.inside else Err Filtered) lets
      ∙ ap Ok inside_is

  abbrev t : Session
  t = new_session config s.rules held now view Remote inside view.dst source

  -- the sender isn't mapped to the endpoint that it sends to
  not-own : inside ≡ view.src → IsSource config live view source → ⊥
  not-own e (inl m) = c.away (sym m.outside ∙ (agree held all.apart m.session mapping.session m.is_held mapping.is_held m.translated mapping.translated (m.proto ∙ sym mapping.proto)).0 (m.inside ∙ sym e ∙ sym mapping.inside) ∙ mapping.outside)
  not-own e (inr chosen) = chosen.0 view.dst (subst (λ x. IsMapping held view.proto x view.dst) e mapping)

  free : find (clashes t) with_first ≡ None
  free = none_clashes t with_first (λ v in_v clash. elim (put-of first held v in_v) [
    | inl e ↦ elim (subst (Clashing t) e clash) [
      | inl own ↦ c.away (sym own.2)
      | inr more ↦ elim more [ inl own ↦ c.away own.1 | inr breaks ↦ elim breaks.3 [ inl one ↦ not-own one.0 c.from | inr one ↦ c.away (sym one.0) ] ]
    ]
    | inr old ↦ mapped-clash held all.apart t mapping v old.0 (c.apart v old.0) (new_far v old.0) clash
  ])

  room : nat_lt 65536 (length (put t with_first)) ≡ false
  room = le-ltb _ _ (omega (arith, c.room, put-most t with_first, put-most first held))

  pub begun : (step config s judged).1 ≡ Forward Lan (translated bytes source inside)
  begun =
      let begin : Endpoint → Result Session Cause = λ x. Ok (new_session config s.rules held now view Inside view.src x view.dst) in
      let on : Session → Session → Result Passage Cause = λ a b. forwarded config s.rules held now view Lan Lan view.src b.inside New (counted config s.rules held now view (through a b)) in
      let behind : Session → Result Passage Cause = λ a. then_with (second config s.rules held now view a (put a held)) (on a) in
      let near = outside_near config s.rules held now view (find (maps_inside view.proto view.src) held) in
      let far = inside_far config s.rules held now view first with_first in
      let begin_far = begun_second config s.rules held now view first with_first in
      answer-of config s judged Lan bytes view Hairpin c.came
      ∙ ap (λ o. (sent live bytes (hairpin_by config s.rules held now view o)).1) none_out
      ∙ ap (λ b. (sent live bytes (then_with (if b then Err NoSession else then_with near begin) behind)).1) c.begins
      ∙ ap (λ r. (sent live bytes (then_with (then_with r begin) behind)).1) from
      ∙ ap (λ b. (sent live bytes (then_with (if b then Err SelfMapped else second_by config s.rules held now view first with_first (find (has_outside view.proto view.dst source) with_first)) (on first))).1) (differ source view.dst c.away)
      ∙ ap (λ o. (sent live bytes (then_with (second_by config s.rules held now view first with_first o) (on first))).1) none_far
      ∙ ap (λ b. (sent live bytes (then_with (if b then Err NoSession else then_with far begin_far) (on first))).1) c.begins
      ∙ ap (λ r. (sent live bytes (then_with (then_with r begin_far) (on first))).1) given
      ∙ ap (λ o. (sent live bytes (then_with (if is_some o then Err Clash else Ok t) (on first))).1) free
      ∙ ap (λ f. (sent live bytes (unless_dropped f (counted config s.rules held now view (through first t)))).1) c.passes
      ∙ ap (λ b. (sent live bytes (if b then Err TableFull else Ok (through first t))).1) room

-- ---- a hairpin goes on

module _ (config : Config) (s : State) (judged : Judged) (bytes : List ℕ) (view : View) (first far : Session) (sound : IsSoundState config s) (c : GoesByBoth config s judged bytes view first far) where
  abbrev live' : State
  live' = living s judged

  abbrev held' : List Session
  held' = live'.sessions

  abbrev now' : ℕ
  now' = live'.clock

  all' : AreSound config held'
  all' = filter-sound config s.sessions sound.sessions (alive now')

  abbrev out : Session
  out = passed_by first Inside view.flags now'

  abbrev back : Session
  back = passed_by far Remote view.flags now'

  out-keys : SameKeys first out
  out-keys = passed-keys first Inside view.flags now'

  back-keys : SameKeys far back
  back-keys = passed-keys far Remote view.flags now'

  found_out : find (has_inside view.proto view.src view.dst) held' ≡ Some first
  found_out =
      let found = find-some (has_inside view.proto view.src view.dst) held' first c.first_held (has_inside-from view.proto view.src view.dst first c.goes_out) in
      let has = has_inside-true view.proto view.src view.dst found.0 found.3 in
      found.1 ∙ ap Some (one-of-flow held' all'.rises found.0 first found.2 c.first_held
      (keys-from first found.0 (has.0 ∙ sym c.goes_out.0, has.1 ∙ sym c.goes_out.1, has.2 ∙ sym c.goes_out.2)))

  far-beside : In far (put out held')
  far-beside = put-stays out far held' c.far_held (flows-differ out far (λ e. c.away (sym c.comes_in.2 ∙ sym e ∙ sym out-keys.remote ∙ c.goes_out.2)))

  found_far : find (has_outside view.proto view.dst out.outside) (put out held') ≡ Some far
  found_far =
      let has_far : HasOutside view.proto view.dst out.outside far = (c.comes_in.0, c.comes_in.1, c.comes_in.2 ∙ out-keys.outside) in
      let found = find-some (has_outside view.proto view.dst out.outside) (put out held') far far-beside (has_outside-from view.proto view.dst out.outside far has_far) in
      let u = found.0 in
      let has = has_outside-true view.proto view.dst out.outside u found.3 in
      let same : u ≡ far = elim (put-of out held' u found.2) [
        | inl e ↦ absurd (c.away (out-keys.outside ∙ sym (ap (λ (v : Session). v.outside) e) ∙ has.1))
        | inr old ↦ one-outside held' all'.rises all'.apart view.proto view.dst out.outside u far old.0 c.far_held has has_far
      ] in
      found.1 ∙ ap Some same

  room' : nat_lt 65536 (length (put back (put out held'))) ≡ false
  room' = le-ltb _ _ (omega (
    arith,
    all'.at_most,
    put-known out first held' all'.rises c.first_held (passed-flow first Inside view.flags now'),
    put-known back far (put out held') (Rises-put out held' all'.rises) far-beside (passed-flow far Remote view.flags now'),
  ))

  pub gone-on : (step config s judged).1 ≡ Forward Lan (translated bytes first.outside far.inside)
  gone-on =
      let state = connection_of first Inside view.flags in
      let on : Session → Result Passage Cause = λ b. forwarded config s.rules held' now' view Lan Lan view.src b.inside state (counted config s.rules held' now' view (through out b)) in
      answer-of config s judged Lan bytes view Hairpin c.came
      ∙ ap (λ o. (sent live' bytes (hairpin_by config s.rules held' now' view o)).1) found_out
      ∙ ap (λ b. (sent live' bytes (then_with (if b then Err SelfMapped else second_by config s.rules held' now' view out (put out held') (find (has_outside view.proto view.dst out.outside) (put out held'))) on)).1)
      (differ out.outside view.dst (λ e. c.away (out-keys.outside ∙ e)))
      ∙ ap (λ o. (sent live' bytes (then_with (second_by config s.rules held' now' view out (put out held') o) on)).1) found_far
      ∙ ap (λ x. (sent live' bytes (forwarded config s.rules held' now' view Lan Lan view.src x state (counted config s.rules held' now' view (through out back)))).1) (sym back-keys.inside)
      ∙ ap (λ f. (sent live' bytes (unless_dropped f (counted config s.rules held' now' view (through out back)))).1) c.passes
      ∙ ap (λ b. (sent live' bytes (if b then Err TableFull else Ok (through out back))).1) room'
      ∙ ap (λ x. Forward Lan (translated bytes x back.inside)) (sym out-keys.outside)
      ∙ ap (λ x. Forward Lan (translated bytes first.outside x)) (sym back-keys.inside)

pub hairpins-come-in : HairpinsComeIn
hairpins-come-in = record { begins = begun; goes_on = gone-on }
