-- What calls the source of a packet from lan, and where a packet comes to.
use Rattle.std.proofs.Common.{◌≡◌, ◌⊎◌, ℕ, true, List, [], ◌∷◌, Contains, Option, Some, None, Ok, refl, sym, ap, ◌∙◌, inl, inr}
use Rattle.std.specs.Prelude.{find}
use Rattle.std.proofs.lemmas.Option.{none-some}
use Rattle.packet.specs.Config.{Config}
use Rattle.packet.specs.declared.bounds.Filtering.{Filtering}
use Rattle.packet.specs.declared.bounds.Filtering.TheVariants as filtering
use Rattle.packet.specs.declared.endpoint.Endpoint.{Endpoint}
use Rattle.packet.specs.declared.endpoint.Iface.{Iface}
use Rattle.packet.specs.declared.endpoint.Iface.TheVariants.{Lan, Wan}
use Rattle.packet.specs.declared.endpoint.Proto.{Proto}
use Rattle.packet.specs.declared.view.View.{View}
use Rattle.portpick.specs.Choice.{port_choice}
use Rattle.portpick.specs.Pool.{endpoint, near_choice, pool_choice, port_at}
use Rattle.portpick.proofs.Pooled.{choice_is_listed}
use Rattle.sessions.specs.Laws.{IsMapping}
use Rattle.sessions.specs.Listing.{In, has_inside, has_peer, put}
use Rattle.sessions.specs.declared.session.Session.{Session}
use Rattle.sessions.proofs.PeerFinds.{has_peer-true}
use Rattle.sessions.proofs.Puts.{find-some, has_inside-from, has_inside-true}
use Rattle.verdict.specs.Hooks.{postrouting_verdict, prerouting_verdict}
use Rattle.verdict.specs.declared.facts.State.TheVariants.{New}
use Rattle.verdict.specs.declared.hook.Destination.{Destination}
use Rattle.verdict.specs.declared.hook.Destination.TheVariants as destination
use Rattle.verdict.specs.declared.hook.Source.{Source}
use Rattle.verdict.specs.declared.hook.Source.TheVariants as source
use Rattle.hairpin.specs.Legs.{facts_of, first_state, inside_by_rules, is_taken, lets_in, maps_inside, maps_outside, outside_by_rules, outside_for, outside_near, uses_in}
use Rattle.hairpin.specs.declared.cause.Cause.TheVariants.{Rule}
use Rattle.hairpin.proofs.Apart.{err-ok, find-In, mapped-some, maps-from, maps-parts, maps_outside-parts, port-ok, same_Ok}
use Rattle.hairpin.proofs.Pairs.{found-in}
use Rattle.machine.specs.Machine.{State}
use Rattle.machine.specs.Requirements.{DecideDestination, DecideSource, HasNoMapping, IsCalled, IsCalledNear, IsStateOut, LetsIn, NoneInside}
use Rattle.machine.proofs.Keeping.{near-listed}
use Rattle.machine.proofs.Letting.{mapping-lets}
use Rattle.machine.proofs.Soundness.{put_all-member}

-- where none is found, there is none
pub not-found : (proto : Proto) (inside remote : Endpoint) (sessions : List Session) → find (has_inside proto inside remote) sessions ≡ None → NoneInside sessions proto inside remote
not-found proto inside remote sessions none u in_u has =
    let found = find-some (has_inside proto inside remote) sessions u in_u (has_inside-from proto inside remote u has) in
    none-some found.0 (sym none ∙ found.1)

pub lets-known : (by : Filtering) (held : List Session) (m : Session) (proto : Proto) (inside outside : Endpoint) (remote : ℕ) → m.proto ≡ proto → m.inside ≡ inside → m.outside ≡ outside → lets_in by held m remote ≡ true
    → LetsIn by held proto inside outside remote
lets-known filtering.Endpoint held m proto inside outside remote p i o lets = tt
lets-known filtering.Address held m proto inside outside remote p i o lets =
    let known = found-in (has_peer m.proto m.inside m.outside remote) held lets in
    let peer = has_peer-true m.proto m.inside m.outside remote known.0 known.2 in
    (known.0, known.1, (peer.0 ∙ p, peer.1 ∙ i, peer.2 ∙ o, peer.3))

module _ (config : Config) (live : State) (view : View) where
  abbrev sessions : List Session
  sessions = live.sessions

  abbrev now : ℕ
  now = live.clock

  -- ---- what calls its source

  pub not-mapped : find (maps_inside view.proto view.src) sessions ≡ None → HasNoMapping live view
  not-mapped none other m =
      let found = find-some (maps_inside view.proto view.src) sessions m.session m.is_held (maps-from view.proto view.src m.session m.translated m.proto m.inside) in
      none-some found.0 (sym none ∙ found.1)

  pub is-mapped : (m : Session) → find (maps_inside view.proto view.src) sessions ≡ Some m → (o : Endpoint) → m.outside ≡ o → IsMapping sessions view.proto view.src o
  is-mapped m e o outside =
      let is = find-In (maps_inside view.proto view.src) sessions m e in
      let parts = maps-parts view.proto view.src m is.1 in
      record { session = m; is_held = is.0; translated = parts.0; proto = parts.1; inside = parts.2; outside = outside }

  abbrev how : Source
  how = postrouting_verdict config (facts_of config live.rules sessions now view Lan (Some Wan) view.src view.dst New) live.rules

  abbrev IsByRules : Endpoint → Type 0
  IsByRules o = (DecideSource config live view source.None × (o ≡ view.src))
      ⊎ DecideSource config live view (source.From o.addr)
      ⊎ (DecideSource config live view source.Masquerade × Contains config.external o.addr)

  called-rules : (d : Source) → how ≡ d → (o : Endpoint) → outside_by_rules config live.rules sessions now view d ≡ Ok o → IsByRules o
  called-rules source.None e o h = inl (e, sym (same_Ok view.src o h))
  called-rules (source.From addr) e o h =
      let taken = is_taken sessions view.proto in
      let q = mapped-some (endpoint addr) (port_choice (taken addr) view.src.port) o (port-ok (port_at taken view.src.port addr) o h) in
      inr (inl (e ∙ ap (λ (x : Endpoint). source.From x.addr) q.2))
  called-rules source.Masquerade e o h =
      let uses = uses_in sessions view.src.addr in
      let taken = is_taken sessions view.proto in
      inr (inr (e, (choice_is_listed uses taken config.external view.src.port o (port-ok (pool_choice uses taken config.external view.src.port) o h)).0))
  called-rules source.Drop e o h = absurd (err-ok Rule o h)

  pub called-by : (found : Option Session) → find (maps_inside view.proto view.src) sessions ≡ found → (o : Endpoint) → outside_for config live.rules sessions now view found ≡ Ok o → IsCalled config live view o
  called-by (Some m) e o h = inl (is-mapped m e o (same_Ok m.outside o h))
  called-by None e o h = inr (not-mapped e, called-rules how refl o h)

  pub near-by : Contains config.external view.dst.addr → (found : Option Session) → find (maps_inside view.proto view.src) sessions ≡ found → (o : Endpoint) → outside_near config live.rules sessions now view found ≡ Ok o → IsCalledNear config live view o
  near-by at (Some m) e o h = inl (is-mapped m e o (same_Ok m.outside o h))
  near-by at None e o h =
      let uses = uses_in sessions view.src.addr in
      let taken = is_taken sessions view.proto in
      inr (not-mapped e, near-listed uses taken config.external view.src.port view.dst.addr o at (port-ok (near_choice uses taken config.external view.dst.addr view.src.port) o h))

  -- ---- the state that it has by the session that takes it out

  pub state-out : (found : Option Session) → find (has_inside view.proto view.src view.dst) sessions ≡ found → IsStateOut live view (first_state config live.rules sessions now view found)
  state-out (Some s) e =
      let is = find-In (has_inside view.proto view.src view.dst) sessions s e in
      inr (s, is.0, has_inside-true view.proto view.src view.dst s is.1, refl)
  state-out None e = inl (not-found view.proto view.src view.dst sessions e, refl)

  -- ---- where it comes to, among these sessions

  module _ (iif : Iface) (remote : ℕ) (held : List Session) where
    abbrev asked : Destination
    asked = prerouting_verdict config (facts_of config live.rules sessions now view iif None view.src view.dst New) live.rules

    -- by a rule, or by a mapping
    abbrev pub Comes : Endpoint → Type 0
    Comes inside = DecideDestination config live view iif (destination.To inside)
        ⊎ (DecideDestination config live view iif destination.None
        × IsMapping held view.proto inside view.dst
        × LetsIn config.filtering held view.proto inside view.dst remote)

    comes-by : (inside : Endpoint) (d : Destination) → asked ≡ d → inside_by_rules config live.rules sessions now view held remote (find (maps_outside view.proto view.dst) held) d ≡ Ok inside → Comes inside
    comes-by inside destination.None e h =
        let m = mapping-lets config.filtering held remote (find (maps_outside view.proto view.dst) held) inside h in
        let is = find-In (maps_outside view.proto view.dst) held m.0 m.1 in
        let parts = maps_outside-parts view.proto view.dst m.0 is.1 in
        let mapping : IsMapping held view.proto inside view.dst = record { session = m.0; is_held = is.0; translated = parts.0; proto = parts.1; inside = m.2; outside = parts.2 } in
        inr (e, mapping, lets-known config.filtering held m.0 view.proto inside view.dst remote parts.1 m.2 parts.2 m.3)
    comes-by inside (destination.To x) e h = inl (e ∙ ap destination.To (same_Ok x inside h))
    comes-by inside destination.Drop e h = absurd (err-ok Rule inside h)

    pub comes : (inside : Endpoint) → inside_by_rules config live.rules sessions now view held remote (find (maps_outside view.proto view.dst) held) asked ≡ Ok inside → Comes inside
    comes inside h = comes-by inside asked refl h

  -- a session at the packet's destination was there before one that isn't
  module _ (first : Session) (away : ¬ (first.outside ≡ view.dst)) where
    was-held : (u : Session) → In u (put first sessions) → u.outside ≡ view.dst → In u sessions
    was-held u is at = elim (put_all-member (first ∷ []) sessions u is) [
      | inl among ↦ elim among [ inl one ↦ absurd (away (sym (ap (λ (v : Session). v.outside) one) ∙ at)) | inr no_more ↦ absurd no_more ]
      | inr old ↦ old
    ]

    lets-before : (by : Filtering) (inside : Endpoint) (remote : ℕ) → LetsIn by (put first sessions) view.proto inside view.dst remote → LetsIn by sessions view.proto inside view.dst remote
    lets-before filtering.Endpoint inside remote lets = tt
    lets-before filtering.Address inside remote lets = (lets.0, was-held lets.0 lets.1 lets.2.2, lets.2)

    pub comes-before : (iif : Iface) (remote : ℕ) (inside : Endpoint) → Comes iif remote (put first sessions) inside → Comes iif remote sessions inside
    comes-before iif remote inside (inl to) = inl to
    comes-before iif remote inside (inr by) =
        let m = by.1 in
        let mapping : IsMapping sessions view.proto inside view.dst = record { session = m.session; is_held = was-held m.session m.is_held m.outside; translated = m.translated; proto = m.proto; inside = m.inside; outside = m.outside } in
        inr (by.0, mapping, lets-before config.filtering inside remote by.2)
