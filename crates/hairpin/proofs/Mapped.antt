-- What sessions tell of their mappings, and the mappings of the sessions that are held.
use Rattle.std.proofs.Common.{◌≡◌, ◌≢◌, ℕ, ◌<◌, List, Option, Some, None, Contains, true, Bool, Ok, Err, is_some, if◌then◌else◌, refl, sym, ap, ◌∙◌, subst, arith}
use Rattle.std.specs.Prelude.{find}
use Rattle.std.proofs.lemmas.Bool.{false_from_ne_true}
use Rattle.packet.specs.Config.{Config, Pool, is_config}
use Rattle.packet.specs.declared.bounds.Filtering.{Filtering}
use Rattle.packet.specs.declared.bounds.Filtering.TheVariants as filtering
use Rattle.packet.specs.declared.endpoint.Endpoint.{Endpoint}
use Rattle.packet.specs.declared.endpoint.Proto.{Proto}
use Rattle.portpick.specs.Choice.{IsTestOf}
use Rattle.portpick.specs.Pool.{endpoint, port_at}
use Rattle.sessions.specs.Laws.{IsMapping}
use Rattle.sessions.specs.Listing.{In, has_peer, listing}
use Rattle.sessions.specs.Table.{KnowsIn}
use Rattle.sessions.specs.declared.session.Session.{Session}
use Rattle.sessions.proofs.Clashing.{apart-from, differ}
use Rattle.sessions.proofs.PeerFinds.{known-found}
use Rattle.sessions.proofs.Puts.{find-none, find-some}
use Rattle.sessions.proofs.Sets.{In-listing, listing-In}
use Rattle.mappings.specs.declared.map.Mapping.{Mapping}
use Rattle.mappings.specs.Map.{Mappings, Uses, times, mapping}
use Rattle.mappings.proofs.Times.{one_at-itself}
use Rattle.hairpin.specs.Legs.{by_mapping, is_taken, maps_inside, maps_outside, uses_in}
use Rattle.sessions.specs.Sound.{AreSound}
use Rattle.hairpin.specs.Tallies.{AreOf, tally, mapping_of}
use Rattle.hairpin.specs.Translations.{IsOutside, TellsTaken, Translations}
use Rattle.hairpin.specs.declared.cause.Cause.TheVariants.{Filtered}
use Rattle.hairpin.proofs.Apart.{agree, maps-from, maps-parts, maps_outside-from, maps_outside-parts, taken-by, taken-from, translated_at}
use Rattle.hairpin.proofs.Pairs.{is-uses, uses-is}
use Rattle.hairpin.proofs.Tally.{tally-at, tally-some, weighs, weight-translated}

-- what the sessions tell of the mapping of an inside endpoint
module _ (config : Config) (sessions : List Session) (sound : AreSound config sessions) (proto : Proto) (inside : Endpoint) where
  -- it is that of the first session that has it
  pub mapped : (outside : Endpoint) → IsMapping sessions proto inside outside → (t : Session) × (find (maps_inside proto inside) sessions ≡ Some t) × (t.outside ≡ outside)
  mapped outside m =
      let u = m.session in
      let found = find-some (maps_inside proto inside) sessions u m.is_held (maps-from proto inside u m.translated m.proto m.inside) in
      let t = found.0 in
      let parts = maps-parts proto inside t found.3 in
      let same = agree sessions sound.apart t u found.2 m.is_held parts.0 m.translated (parts.1 ∙ sym m.proto) in
      (t, found.1, same.0 (parts.2 ∙ sym m.inside) ∙ m.outside)

  pub not_mapped : ((outside : Endpoint) → ¬ IsMapping sessions proto inside outside) → find (maps_inside proto inside) sessions ≡ None
  not_mapped none = find-none (maps_inside proto inside) sessions (λ t in_t passes.
      let parts = maps-parts proto inside t passes in
      none t.outside (record { session = t; is_held = in_t; translated = parts.0; proto = parts.1; inside = parts.2; outside = refl }))

-- what is held of a session's mapping
mapping-is : (s : Session) (proto : Proto) (inside outside : Endpoint) → s.proto ≡ proto → s.inside ≡ inside → s.outside ≡ outside → mapping_of s ≡ mapping proto inside outside
mapping-is s proto inside outside p i o = ap (λ x. mapping x s.inside s.outside) p ∙ ap (λ x. mapping proto x s.outside) i ∙ ap (mapping proto inside) o

module _ (held : List (Option Session)) (m : Mappings) (counts : (p : Mapping) → times m p ≡ tally p held) where
  -- the mapping of a translated session that is held is held
  own_held : (s : Session) → In s (listing held) → s.inside ≢ s.outside → 0 < times m (mapping_of s)
  own_held s in_s away =
      let own = mapping_of s in
      let at = In-listing held s in_s in
      omega (arith, tally-at own held at.0 (Some s) at.1, counts own, weight-translated own s (differ s.inside s.outside away), one_at-itself own)

  -- a mapping that is held is that of a translated session that is held
  held_by : (p : Mapping) → 0 < times m p → (s : Session) × In s (listing held) × (s.inside ≢ s.outside) × (p ≡ mapping_of s)
  held_by p lt =
      let some = tally-some p held (omega (arith, lt, counts p)) in
      let is = weighs p some.1 some.3 in
      (some.1, listing-In held some.1 some.0 some.2, apart-from _ _ is.0, is.1)

  -- the addresses that a host uses by the sessions are those that it uses by the mappings
  uses_test : (host : ℕ) → IsTestOf (uses_in (listing held) host) (Uses m host)
  uses_test host external = (
    (λ h.
        let is = uses-is (listing held) host external h in
        record { mapping = mapping_of is.0; held = own_held is.0 is.1 is.2.0; inside = is.2.1; at = is.3 }),
    (λ u.
        let s = held_by u.mapping u.held in
        is-uses (listing held) host external (s.0, s.1, (s.2, ap (λ (p : Mapping). p.inside.addr) (sym s.3) ∙ u.inside), ap (λ (p : Mapping). p.outside.addr) (sym s.3) ∙ u.at)),
  )

module _ (held : List (Option Session)) (m : Mappings) (counts : (p : Mapping) → times m p ≡ tally p held) (config : Config) (is_one : is_config config ≡ true) (sound : AreSound config (listing held)) (proto : Proto) where
  mapping_held : (s : Session) (inside outside : Endpoint) → In s (listing held) → s.inside ≢ s.outside → s.proto ≡ proto → s.inside ≡ inside → s.outside ≡ outside → 0 < times m (mapping proto inside outside)
  mapping_held s inside outside in_s away p i o = subst (λ x. 0 < times m x) (mapping-is s proto inside outside p i o) (own_held held m counts s in_s away)

  -- the mapping that is found is that of the first session that has it
  pub mapped_in : (inside outside : Endpoint) → 0 < times m (mapping proto inside outside) → (t : Session) × (find (maps_outside proto outside) (listing held) ≡ Some t) × (t.inside ≡ inside)
  mapped_in inside outside lt =
      let is = held_by held m counts (mapping proto inside outside) lt in
      let u = is.0 in
      let u_proto : u.proto ≡ proto = sym (ap (λ (q : Mapping). q.proto) is.3) in
      let u_inside : u.inside ≡ inside = sym (ap (λ (q : Mapping). q.inside) is.3) in
      let u_outside : u.outside ≡ outside = sym (ap (λ (q : Mapping). q.outside) is.3) in
      let found = find-some (maps_outside proto outside) (listing held) u is.1 (maps_outside-from proto outside u is.2 u_proto u_outside) in
      let parts = maps_outside-parts proto outside found.0 found.3 in
      let same = agree (listing held) sound.apart found.0 u found.2 is.1 parts.0 is.2 (parts.1 ∙ sym u_proto) in
      (found.0, found.1, same.1 (parts.2 ∙ sym u_outside) ∙ u_inside)

  pub not_mapped_in : (outside : Endpoint) → ((inside : Endpoint) → times m (mapping proto inside outside) ≡ 0) → find (maps_outside proto outside) (listing held) ≡ None
  not_mapped_in outside none = find-none (maps_outside proto outside) (listing held) (λ t in_t passes.
      let parts = maps_outside-parts proto outside t passes in
      absurd (omega (arith, none t.inside, mapping_held t t.inside outside in_t parts.0 parts.1 refl parts.2)))

  -- the ports that sessions have outside at an external address are those of the mappings
  pub taken_test : (addr : ℕ) → Contains config.external addr → IsTestOf (is_taken (listing held) proto addr) (λ q. IsOutside m proto (endpoint addr q))
  taken_test addr listed port = (
    (λ h.
        let s = taken-by (listing held) proto addr port h in
        let away = translated_at config s.0 is_one (sound.placed s.0 s.1) (subst (λ (e : Endpoint). Contains config.external e.addr) (sym s.3) listed) in
        (s.0.inside, mapping_held s.0 s.0.inside (endpoint addr port) s.1 away s.2 refl s.3)),
    (λ o.
        let s = held_by held m counts (mapping proto o.0 (endpoint addr port)) o.1 in
        taken-from (listing held) proto addr port s.0 s.1 (sym (ap (λ (q : Mapping). q.proto) s.3)) (sym (ap (λ (q : Mapping). q.outside) s.3))),
  )

-- what the translations choose is what the sessions make them choose
module _ (config : Config) (is_one : is_config config ≡ true) (held : List (Option Session)) (t : Translations) (are : AreOf config held t) (proto : Proto) where
  tells_taken : TellsTaken t proto (is_taken (listing held) proto)
  tells_taken addr listed = taken_test held t.mappings are.counts config is_one are.sound proto addr (subst (λ (pool : Pool). Contains pool addr) are.external listed)

  pub chosen_at : (addr port : ℕ) (o : Option Endpoint) → Contains config.external addr
      → ((taken : ℕ → ℕ → Bool) → IsTestOf (taken addr) (λ q. IsOutside t.mappings proto (endpoint addr q)) → o ≡ port_at taken port addr) → o ≡ port_at (is_taken (listing held) proto) port addr
  chosen_at addr port o listed choice = choice (is_taken (listing held) proto) (taken_test held t.mappings are.counts config is_one are.sound proto addr listed)

  pub chosen_by : (host : ℕ) (o : Option Endpoint) (choose : (ℕ → Bool) → (ℕ → ℕ → Bool) → Pool → Option Endpoint)
      → ((uses : ℕ → Bool) (taken : ℕ → ℕ → Bool) → IsTestOf uses (Uses t.mappings host) → TellsTaken t proto taken → o ≡ choose uses taken t.external)
      → o ≡ choose (uses_in (listing held) host) (is_taken (listing held) proto) config.external
  chosen_by host o choose choice = choice (uses_in (listing held) host) (is_taken (listing held) proto) (uses_test held t.mappings are.counts host) tells_taken
      ∙ ap (choose (uses_in (listing held) host) (is_taken (listing held) proto)) are.external

-- ---- whom a mapping lets in

-- filtering by address, what a mapping gives is told by whether the table knows the remote address
module _ (filter : Filtering) (by : filter ≡ filtering.Address) (held : List (Option Session)) (proto : Proto) (inside outside : Endpoint) (remote : ℕ)
    (m : Session) (p : m.proto ≡ proto) (i : m.inside ≡ inside) (o : m.outside ≡ outside) where
  abbrev peers : Session → Bool
  peers = has_peer proto inside outside remote

  same-peers : has_peer m.proto m.inside m.outside remote ≡ peers
  same-peers = ap (λ x. has_peer x m.inside m.outside remote) p ∙ ap (λ x. has_peer proto x m.outside remote) i ∙ ap (λ x. has_peer proto inside x remote) o

  asked : by_mapping filter (listing held) remote (Some m) ≡ (if is_some (find peers (listing held)) then Ok inside else Err Filtered)
  asked = ap (λ (f : Filtering). by_mapping f (listing held) remote (Some m)) by ∙ ap (λ (q : Session → Bool). if is_some (find q (listing held)) then Ok m.inside else Err Filtered) same-peers
      ∙ ap (λ (e : Endpoint). if is_some (find peers (listing held)) then Ok e else Err Filtered) i

  pub given_known : KnowsIn held proto inside outside remote → Ok inside ≡ by_mapping filter (listing held) remote (Some m)
  given_known knows = sym (asked ∙ ap (λ b. if b then Ok inside else Err Filtered) ((known-found proto inside outside remote held).0 knows))

  pub given_unknown : ¬ KnowsIn held proto inside outside remote → Err Filtered ≡ by_mapping filter (listing held) remote (Some m)
  given_unknown none = sym (asked ∙ ap (λ b. if b then Ok inside else Err Filtered)
      (false_from_ne_true (is_some (find peers (listing held))) (λ found. none ((known-found proto inside outside remote held).1 found))))
