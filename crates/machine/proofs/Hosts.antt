-- A host stays at its external address over the leg of a packet.
use Rattle.std.proofs.Common.{◌≡◌, ◌⊎◌, ℕ, List, Contains, Option, Some, None, Ok, IfOk, Bool, true, false, if◌then◌else◌, refl, sym, ap, ◌∙◌, subst, inl, inr}
use Rattle.std.specs.Prelude.{find}
use Rattle.packet.specs.Config.{Config, is_inside}
use Rattle.packet.specs.declared.endpoint.Endpoint.{Endpoint}
use Rattle.packet.specs.declared.endpoint.Iface.TheVariants.{Lan, Wan}
use Rattle.packet.specs.declared.view.View.{View}
use Rattle.portpick.specs.Pool.{near_choice, pool_choice}
use Rattle.ruletree.specs.declared.tree.Spelled.{Spelled}
use Rattle.sessions.specs.Listing.{In, has_inside, has_outside, put}
use Rattle.sessions.specs.declared.session.Opener.{Opener}
use Rattle.sessions.specs.declared.session.Opener.TheVariants.{Inside, Remote}
use Rattle.sessions.specs.declared.session.Session.{Session}
use Rattle.verdict.specs.Hooks.{prerouting_verdict, postrouting_verdict}
use Rattle.verdict.specs.declared.facts.Facts.{Facts}
use Rattle.verdict.specs.declared.facts.State.TheVariants.{New}
use Rattle.verdict.specs.declared.hook.Destination.{Destination}
use Rattle.verdict.specs.declared.hook.Destination.TheVariants as destination
use Rattle.verdict.specs.declared.hook.Source.{Source}
use Rattle.verdict.specs.declared.hook.Source.TheVariants as source
use Rattle.hairpin.specs.Legs.{Passage, facts_of, hairpin_leg, in_leg, inside_by_rules, is_taken, maps_inside, maps_outside, new_session, out_leg, outside_by_rules, outside_for, outside_near, passed_by, put_all, uses_in}
use Rattle.hairpin.specs.declared.cause.Cause.TheVariants.{Rule}
use Rattle.hairpin.proofs.Apart.{err-ok, find-In, maps-parts, maps_outside-parts, port-ok, same_Ok, some-mapping}
use Rattle.hairpin.proofs.Doubling.{passed-keys}
use Rattle.hairpin.specs.Paired.{IsAt, IsAtOne, Translates}
use Rattle.hairpin.proofs.Pairs.{hairpin, masquerade, put_in}
use Rattle.machine.specs.Hosts.{LeaveToPool}
use Rattle.machine.proofs.Passages.{FirstBegins, FirstGoesOn, SecondBegins, SecondGoesOn, hairpin-told, in-ways, ok-by, out-ways}

-- ---- a session that is put in

-- where the session translates the host, it is at the address of those that do
abbrev pub Fits : ℕ → List Session → Session → Type 0
Fits host sessions t = Translates host t → (addr : ℕ) → IsAt sessions host addr → addr ≡ t.outside.addr

-- one with the endpoints of a session that is held fits
fits-as : (host : ℕ) (sessions : List Session) (s t : Session) → IsAtOne sessions host → In s sessions → (Translates host t → Translates host s) → s.outside ≡ t.outside → Fits host sessions t
fits-as host sessions s t one in_s kept outside = λ away addr at. one addr t.outside.addr at (s, in_s, kept away, ap (λ (e : Endpoint). e.addr) outside)

fits-passed : (host : ℕ) (sessions : List Session) (s : Session) (sender : Opener) (view : View) (now : ℕ) → IsAtOne sessions host → In s sessions → Fits host sessions (passed_by s sender view.flags now)
fits-passed host sessions s sender view now one in_s =
    let keys = passed-keys s sender view.flags now in
    fits-as host sessions s (passed_by s sender view.flags now) one in_s
    (λ away. ((λ e. away.0 (sym keys.inside ∙ e ∙ keys.outside)), ap (λ (x : Endpoint). x.addr) keys.inside ∙ away.1))
    keys.outside

-- ---- what a leg puts in

module _ (config : Config) (rules : Spelled) (now : ℕ) (view : View) (host : ℕ) (free : LeaveToPool config rules host) where
  -- what the inside endpoint of a mapping that is held is, or of a rule, fits
  fits-rules : (sessions : List Session) → IsAtOne sessions host → (facts : Facts) (opener : Opener) (inside remote : Endpoint) (from : ℕ) (d : Destination) → prerouting_verdict config facts rules ≡ d
      → inside_by_rules config rules sessions now view sessions from (find (maps_outside view.proto view.dst) sessions) d ≡ Ok inside
      → Fits host sessions (new_session config rules sessions now view opener inside view.dst remote)
  fits-rules sessions one facts opener inside remote from destination.None e h =
      let m = some-mapping config.filtering sessions from (find (maps_outside view.proto view.dst) sessions) inside h in
      let is = find-In (maps_outside view.proto view.dst) sessions m.0 m.1 in
      let parts = maps_outside-parts view.proto view.dst m.0 is.1 in
      fits-as host sessions m.0 (new_session config rules sessions now view opener inside view.dst remote) one is.0 (λ away. (parts.0, ap (λ (x : Endpoint). x.addr) m.2 ∙ away.1)) parts.2
  fits-rules sessions one facts opener inside remote from (destination.To x) e h =
      λ away. absurd (free.destination facts x (ap (λ (y : Endpoint). y.addr) (same_Ok x inside h) ∙ away.1) e)
  fits-rules sessions one facts opener inside remote from destination.Drop e h = absurd (err-ok Rule inside h)

  module _ (sessions : List Session) (one : IsAtOne sessions host) where
    -- a mapping of the packet's inside endpoint
    fits-mapped : (m : Session) (outside remote : Endpoint) → find (maps_inside view.proto view.src) sessions ≡ Some m → m.outside ≡ outside
        → Fits host sessions (new_session config rules sessions now view Inside view.src outside remote)
    fits-mapped m outside remote e same =
        let is = find-In (maps_inside view.proto view.src) sessions m e in
        let parts = maps-parts view.proto view.src m is.1 in
        fits-as host sessions m (new_session config rules sessions now view Inside view.src outside remote) one is.0 (λ away. (parts.0, ap (λ (x : Endpoint). x.addr) parts.2 ∙ away.1)) same

    module _ (listed : (addr : ℕ) → IsAt sessions host addr → Contains config.external addr) where
      abbrev Chosen : Endpoint → Type 0
      Chosen outside = Fits host sessions (new_session config rules sessions now view Inside view.src outside view.dst)

      -- an endpoint at the address of a host that has one
      fits-at : (outside : Endpoint) → ((addr : ℕ) → IsAt sessions view.src.addr addr → Contains config.external addr → IsAt sessions view.src.addr outside.addr) → Chosen outside
      fits-at outside there = λ away addr at.
          one addr outside.addr at (subst (λ a. IsAt sessions a outside.addr) away.1 (there addr (subst (λ a. IsAt sessions a addr) (sym away.1) at) (listed addr at)))

      -- ---- out

      fits-source : (how : Source) → postrouting_verdict config (facts_of config rules sessions now view Lan (Some Wan) view.src view.dst New) rules ≡ how
          → (outside : Endpoint) → outside_by_rules config rules sessions now view how ≡ Ok outside → Chosen outside
      fits-source source.None e outside h = λ away. absurd (away.0 (same_Ok view.src outside h))
      fits-source (source.From addr) e outside h = λ away. absurd (free.source (facts_of config rules sessions now view Lan (Some Wan) view.src view.dst New) addr away.1 e)
      fits-source source.Masquerade e outside h = fits-at outside (λ addr at is_listed.
          let taken = is_taken sessions view.proto in
          masquerade config.external sessions taken view.src.addr view.src.port addr outside at is_listed (port-ok (pool_choice (uses_in sessions view.src.addr) taken config.external view.src.port) outside h))
      fits-source source.Drop e outside h = absurd (err-ok Rule outside h)

      fits-out : (found : Option Session) → find (maps_inside view.proto view.src) sessions ≡ found → (outside : Endpoint) → outside_for config rules sessions now view found ≡ Ok outside → Chosen outside
      fits-out (Some m) e outside h = fits-mapped m outside view.dst e (same_Ok m.outside outside h)
      fits-out None e outside h = fits-source (postrouting_verdict config (facts_of config rules sessions now view Lan (Some Wan) view.src view.dst New) rules) refl outside h

      abbrev Keeps : Passage → Type 0
      Keeps passage = IsAtOne (put_all passage.sessions sessions) host

      pub out-keeps : IfOk (out_leg config rules sessions now view) Keeps
      out-keeps = out-ways config rules sessions now view Keeps
          (λ s e. put_in host (passed_by s Inside view.flags now) sessions one
          (fits-passed host sessions s Inside view now one (find-In (has_inside view.proto view.src view.dst) sessions s e).0))
          (λ outside h. put_in host (new_session config rules sessions now view Inside view.src outside view.dst) sessions one (fits-out (find (maps_inside view.proto view.src) sessions) refl outside h))

      -- ---- in

      fits-in : (b : Bool) (inside : Endpoint)
          → (if b then Ok view.dst else inside_by_rules config rules sessions now view sessions view.src.addr (find (maps_outside view.proto view.dst) sessions)
          (prerouting_verdict config (facts_of config rules sessions now view Wan None view.src view.dst New) rules)) ≡ Ok inside
          → Fits host sessions (new_session config rules sessions now view Remote inside view.dst view.src)
      fits-in true inside h = λ away. absurd (away.0 (sym (same_Ok view.dst inside h)))
      fits-in false inside h =
          let facts = facts_of config rules sessions now view Wan None view.src view.dst New in
          fits-rules sessions one facts Remote inside view.src view.src.addr (prerouting_verdict config facts rules) refl h

      pub in-keeps : IfOk (in_leg config rules sessions now view) Keeps
      in-keeps = in-ways config rules sessions now view Keeps
          (λ s e. put_in host (passed_by s Remote view.flags now) sessions one
          (fits-passed host sessions s Remote view now one (find-In (has_outside view.proto view.dst view.src) sessions s e).0))
          (λ inside h. put_in host (new_session config rules sessions now view Remote inside view.dst view.src) sessions one (fits-in (is_inside config view.dst.addr) inside h))

      -- ---- hairpin

      fits-near : (found : Option Session) → find (maps_inside view.proto view.src) sessions ≡ found → (outside : Endpoint) → outside_near config rules sessions now view found ≡ Ok outside → Chosen outside
      fits-near (Some m) e outside h = fits-mapped m outside view.dst e (same_Ok m.outside outside h)
      fits-near None e outside h = fits-at outside (λ addr at is_listed.
          let taken = is_taken sessions view.proto in
          hairpin config.external sessions taken view.src.addr view.dst.addr view.src.port addr outside at is_listed (port-ok (near_choice (uses_in sessions view.src.addr) taken config.external view.dst.addr view.src.port) outside h))

      fits-first : (first : Session) → FirstGoesOn config rules sessions now view first ⊎ FirstBegins config rules sessions now view first → Fits host sessions first
      fits-first first (inl on) = subst (Fits host sessions) (sym on.2) (fits-passed host sessions on.0 Inside view now one (find-In (has_inside view.proto view.src view.dst) sessions on.0 on.1).0)
      fits-first first (inr begun) = subst (Fits host sessions) (sym begun.2.2) (fits-near (find (maps_inside view.proto view.src) sessions) refl begun.2.0 begun.2.1)

  -- the second session, where the first one is put in
  module _ (sessions : List Session) (first : Session) (one : IsAtOne (put first sessions) host) where
    abbrev held : List Session
    held = put first sessions

    fits-second : (t : Session) → SecondGoesOn config rules sessions now view first held t ⊎ SecondBegins config rules sessions now view first held t → Fits host held t
    fits-second t (inl on) = subst (Fits host held) (sym on.2) (fits-passed host held on.0 Remote view now one (find-In (has_outside view.proto view.dst first.outside) held on.0 on.1).0)
    fits-second t (inr begun) =
        let facts = facts_of config rules sessions now view Lan None view.src view.dst New in
        subst (Fits host held) (sym begun.2.3) (fits-rules held one facts Remote begun.2.0 first.outside first.outside.addr (prerouting_verdict config facts rules) refl begun.2.1)

  pub hairpin-keeps : (sessions : List Session) → IsAtOne sessions host → ((addr : ℕ) → IsAt sessions host addr → Contains config.external addr)
      → IfOk (hairpin_leg config rules sessions now view) (λ passage. IsAtOne (put_all passage.sessions sessions) host)
  hairpin-keeps sessions one listed = ok-by (λ (p : Passage). IsAtOne (put_all p.sessions sessions) host) (hairpin_leg config rules sessions now view) (λ p h.
      let both = hairpin-told config rules sessions now view p h in
      let with_first = put_in host both.first sessions one (fits-first sessions one listed both.first both.by_first) in
      subst (λ (q : Passage). IsAtOne (put_all q.sessions sessions) host) (sym both.are)
      (put_in host both.far (put both.first sessions) with_first (fits-second sessions both.first with_first both.far both.by_far)))
