-- A new mapping keeps its port where it can.
use Rattle.std.proofs.Common.{◌≡◌, ◌≢◌, ◌⊎◌, Bool, true, ℕ, ◌<◌, ◌^◌, List, [], ◌∷◌, Contains, Some, None, Result, Ok, Err, IsTrue, refl, sym, ap, ◌∙◌, subst, inl, inr, arith}
use Rattle.std.specs.Prelude.{find}
use Rattle.std.specs.Option.{unwrap_or}
use Rattle.std.proofs.lemmas.Bool.{cases_lt}
use Rattle.std.proofs.lemmas.Option.{none-some}
use Rattle.packet.specs.Config.{Config, is_config, is_inside}
use Rattle.packet.specs.declared.endpoint.Endpoint.{Endpoint}
use Rattle.packet.specs.declared.endpoint.Iface.TheVariants.{Lan, Wan}
use Rattle.packet.specs.declared.endpoint.Proto.{Proto}
use Rattle.packet.specs.declared.route.Route.{Route}
use Rattle.packet.specs.declared.route.Route.TheVariants.{Out, Hairpin, In as InRoute}
use Rattle.packet.specs.declared.view.View.{View}
use Rattle.packet.proofs.Routes.{routed_is_on_route}
use Rattle.portpick.specs.Choice.{after, port_choice}
use Rattle.portpick.specs.Pool.{endpoint, near_choice, pool_choice, port_at}
use Rattle.portpick.proofs.Chosen.{choice-some, nearest-alike}
use Rattle.portpick.proofs.Pooled.{choice_is_listed}
use Rattle.sessions.specs.Listing.{In, has_inside, has_outside, put}
use Rattle.sessions.specs.Table.{Clash as Clashing}
use Rattle.sessions.specs.declared.session.Opener.TheVariants.{Remote}
use Rattle.sessions.specs.declared.session.Session.{Session}
use Rattle.sessions.proofs.Clashing.{apart-from}
use Rattle.sessions.proofs.Found.{has_outside-true}
use Rattle.sessions.proofs.Puts.{find-none, has_inside-true}
use Rattle.verdict.specs.Hooks.{postrouting_verdict}
use Rattle.verdict.specs.declared.facts.State.TheVariants.{New}
use Rattle.verdict.specs.declared.hook.Source.{Source}
use Rattle.verdict.specs.declared.hook.Source.TheVariants as source
use Rattle.hairpin.specs.Legs.{Passage, facts_of, hairpin_leg, is_taken, maps_inside, out_leg, outside_by_rules, outside_for, outside_near, uses_in}
use Rattle.hairpin.specs.declared.cause.Cause.{Cause}
use Rattle.hairpin.specs.declared.cause.Cause.TheVariants.{Rule}
use Rattle.hairpin.proofs.Apart.{err-ok, find-In, mapped-some, maps-parts, outside_away, port-ok, same_Ok, taken-by, taken-from}
use Rattle.hairpin.proofs.Choosing.{near-given}
use Rattle.hairpin.proofs.Clashing.{no_clash}
use Rattle.hairpin.proofs.Doubling.{passed-keys, put-In}
use Rattle.machine.specs.Judged.{Judged}
use Rattle.machine.specs.Laws.{living}
use Rattle.machine.specs.Machine.{State, leg, sent}
use Rattle.machine.specs.Requirements.{KeepsPort, MakesMapping, NewMappingsKeepPorts}
use Rattle.machine.specs.declared.event.Answer.{Answer}
use Rattle.machine.proofs.Left.{step-of}
use Rattle.machine.proofs.Passages.{FirstBegins, FirstGoesOn, hairpin-told, new_far, new_out, out-told}
use Rattle.machine.proofs.Reading.{ports_are_some}
use Rattle.machine.proofs.Soundness.{external-is, put_all-member}

-- the nearest free port is the port itself, if it is free
own-nearest : (port chosen steps : ℕ) → chosen ≡ after steps port → (0 < steps → ⊥) → chosen ≡ port
own-nearest port chosen steps reached first =
    elim (cases_lt 0 steps) [ inl lt ↦ absurd (first lt) | inr le ↦ let none : steps ≡ 0 = omega (arith, le) in reached ∙ ap (λ n. after n port) none ]

module _ (sessions : List Session) (proto : Proto) (port : ℕ) (some : 0 < port) (fits : port < 2 ^ 16) where
  pub keeps-port : (outside : Endpoint) → port_choice (is_taken sessions proto outside.addr) port ≡ Some outside.port → KeepsPort sessions proto port outside
  keeps-port outside is =
      let addr = outside.addr in
      let near = choice-some (is_taken sessions proto addr) port some fits outside.port is in
      record {
        alike = nearest-alike port some fits (λ q. IsTrue (is_taken sessions proto addr q)) outside.port near;
        free = λ held. near.is_free (taken-from sessions proto addr outside.port held.0 held.1 held.2 held.3);
        own = λ nobody. own-nearest port outside.port near.steps near.reached (λ lt. nobody (taken-by sessions proto addr port (near.nearer_taken 0 lt)));
      }

  keeps-at : (addr : ℕ) (outside : Endpoint) → port_at (is_taken sessions proto) port addr ≡ Some outside → KeepsPort sessions proto port outside
  keeps-at addr outside is =
      let q = mapped-some (endpoint addr) (port_choice (is_taken sessions proto addr) port) outside is in
      subst (KeepsPort sessions proto port) q.2 (keeps-port (endpoint addr q.0) q.1)

  keeps-near : (pool : List ℕ) (uses : ℕ → Bool) (far : ℕ) (outside : Endpoint) → near_choice uses (is_taken sessions proto) pool far port ≡ Some outside → KeepsPort sessions proto port outside
  unfolding near_choice
  keeps-near pool uses far outside is = keeps-at (unwrap_or (find uses pool) far) outside is

-- where a port is given, it is at an address of the pool
given-listed : (taken : ℕ → ℕ → Bool) (pool : List ℕ) (port : ℕ) (e : Endpoint) → (addr : ℕ) × Contains pool addr × (port_at taken port addr ≡ Some e) → Contains pool e.addr
given-listed taken pool port e given =
    let q = mapped-some (endpoint given.0) (port_choice (taken given.0) port) e given.2 in
    subst (λ (x : Endpoint). Contains pool x.addr) q.2 given.1

-- what a hairpin is given is at an external address
pub near-listed : (uses : ℕ → Bool) (taken : ℕ → ℕ → Bool) (pool : List ℕ) (port far : ℕ) (e : Endpoint) → Contains pool far → near_choice uses taken pool far port ≡ Some e → Contains pool e.addr
near-listed uses taken pool port far e listed is = given-listed taken pool port e (near-given uses taken pool port far e listed is)

module _ (config : Config) (s : State) (judged : Judged) (bytes : List ℕ) (view : View) (r : Route) (outside : Endpoint) (is_one : is_config config ≡ true) (m : MakesMapping config s judged bytes view r outside) where
  abbrev live : State
  live = living s judged

  abbrev held : List Session
  held = live.sessions

  abbrev now : ℕ
  now = live.clock

  abbrev Keeps : Type 0
  Keeps = KeepsPort held view.proto view.src.port outside

  none : find (has_inside view.proto view.src view.dst) held ≡ None
  none = find-none (has_inside view.proto view.src view.dst) held (λ u in_u passes. m.new u in_u (has_inside-true view.proto view.src view.dst u passes))

  unmapped : find (maps_inside view.proto view.src) held ≡ None
  unmapped = find-none (maps_inside view.proto view.src) held (λ u in_u passes.
      let parts = maps-parts view.proto view.src u passes in
      m.unmapped u.outside (record { session = u; is_held = in_u; translated = parts.0; proto = parts.1; inside = parts.2; outside = refl }))

  some : 0 < view.src.port
  some = (ports_are_some bytes view m.came.fields_are).0

  -- the session of the new mapping is no old one
  abbrev w : Session
  w = m.mapped.session

  not-old : (u : Session) → In u held → u.proto ≡ w.proto → u.inside ≡ w.inside → u.outside ≡ w.outside → ⊥
  not-old u old p i o = m.unmapped outside
      (record { session = u; is_held = old; translated = λ e. m.mapped.translated (sym i ∙ e ∙ o); proto = p ∙ m.mapped.proto; inside = i ∙ m.mapped.inside; outside = o ∙ m.mapped.outside })

  -- ---- out

  abbrev how : Source
  how = postrouting_verdict config (facts_of config s.rules held now view Lan (Some Wan) view.src view.dst New) s.rules

  keeps-source : (d : Source) (o : Endpoint) → view.src ≢ o → outside_by_rules config s.rules held now view d ≡ Ok o → KeepsPort held view.proto view.src.port o
  keeps-source source.None o away h = absurd (away (same_Ok view.src o h))
  keeps-source (source.From addr) o away h = keeps-at held view.proto view.src.port some m.port addr o (port-ok (port_at (is_taken held view.proto) view.src.port addr) o h)
  keeps-source source.Masquerade o away h =
      let uses = uses_in held view.src.addr in
      let taken = is_taken held view.proto in
      keeps-port held view.proto view.src.port some m.port o (choice_is_listed uses taken config.external view.src.port o (port-ok (pool_choice uses taken config.external view.src.port) o h)).1
  keeps-source source.Drop o away h = absurd (err-ok Rule o h)

  keeps-out : (p : Passage) → out_leg config s.rules held now view ≡ Ok p → In w p.sessions → Keeps
  keeps-out p h is = elim (out-told config s.rules held now view p h) [
    | inl on ↦ absurd (none-some on.0 (sym none ∙ on.1))
    | inr begun ↦ elim (subst (λ (q : Passage). In w q.sessions) begun.2.2 is) [
      | inl e ↦
          let same : begun.2.0 ≡ outside = ap (λ (v : Session). v.outside) (sym e) ∙ m.mapped.outside in
          let away : view.src ≢ begun.2.0 = λ same'. m.mapped.translated (ap (λ (v : Session). v.inside) e ∙ same' ∙ ap (λ (v : Session). v.outside) (sym e)) in
          subst (KeepsPort held view.proto view.src.port) same
          (keeps-source how begun.2.0 away (sym (ap (outside_for config s.rules held now view) unmapped) ∙ begun.2.1))
      | inr no_more ↦ absurd no_more
    ]
  ]

  -- ---- hairpin

  module _ (inside : is_inside config view.src.addr ≡ true) (at : Contains config.external view.dst.addr) where
    -- the first session is at the chosen endpoint, which is external
    abbrev IsNear : Session → Type 0
    IsNear first = (o : Endpoint) × (first ≡ new_out config s.rules held now view o) × Contains config.external o.addr × KeepsPort held view.proto view.src.port o

    first-near : (first : Session) → FirstGoesOn config s.rules held now view first ⊎ FirstBegins config s.rules held now view first → IsNear first
    first-near first (inl on) = absurd (none-some on.0 (sym none ∙ on.1))
    first-near first (inr begun) =
        let o = begun.2.0 in
        let uses = uses_in held view.src.addr in
        let taken = is_taken held view.proto in
        let choice = port-ok (near_choice uses taken config.external view.dst.addr view.src.port) o (sym (ap (outside_near config s.rules held now view) unmapped) ∙ begun.2.1) in
        (o, begun.2.2, near-listed uses taken config.external view.src.port view.dst.addr o at choice, keeps-near held view.proto view.src.port some m.port config.external uses view.dst.addr o choice)

    keeps-both : (p : Passage) → hairpin_leg config s.rules held now view ≡ Ok p → In w p.sessions → Keeps
    keeps-both p h is =
        let both = hairpin-told config s.rules held now view p h in
        let first = both.first in
        let near = first-near first both.by_first in
        let away : first.outside ≢ view.dst = apart-from first.outside view.dst both.away in
        let translated : first.inside ≢ first.outside = λ e.
        outside_away config is_one near.0.addr near.2
        (subst (λ (x : Endpoint). is_inside config x.addr ≡ true) (sym (ap (λ (v : Session). v.inside) near.1) ∙ e ∙ ap (λ (v : Session). v.outside) near.1) inside) in
        elim (subst (λ (q : Passage). In w q.sessions) both.are is) [
          | inl e ↦ subst (KeepsPort held view.proto view.src.port) (sym (ap (λ (v : Session). v.outside) near.1) ∙ ap (λ (v : Session). v.outside) (sym e) ∙ m.mapped.outside) near.3
          | inr (inl e) ↦ elim both.by_far [
            | inl on ↦
                let u = on.0 in
                let keys = passed-keys u Remote view.flags now in
                let found = find-In (has_outside view.proto view.dst first.outside) (put first held) u on.1 in
                let has = has_outside-true view.proto view.dst first.outside u found.1 in
                let same = sym on.2 ∙ sym e in
                elim (put_all-member (first ∷ []) held u found.0) [
                  | inl (inl one) ↦ absurd (away (ap (λ (v : Session). v.outside) (sym one) ∙ has.1))
                  | inl (inr no_more) ↦ absurd no_more
                  | inr old ↦ absurd (not-old u old (keys.proto ∙ ap (λ (v : Session). v.proto) same) (keys.inside ∙ ap (λ (v : Session). v.inside) same) (keys.outside ∙ ap (λ (v : Session). v.outside) same))
                ]
            | inr begun ↦
                let t = new_far config s.rules held now view first (put first held) begun.2.0 in
                let is_t : w ≡ t = e ∙ begun.2.3 in
                let own : t.inside ≡ first.inside = ap (λ (v : Session). v.inside) (sym is_t) ∙ m.mapped.inside ∙ sym (ap (λ (v : Session). v.inside) near.1) in
                let there : t.inside ≢ t.outside = λ e'. m.mapped.translated (ap (λ (v : Session). v.inside) is_t ∙ e' ∙ ap (λ (v : Session). v.outside) (sym is_t)) in
                let clash : Clashing t first = inr (inr (there, translated, sym (ap (λ (v : Session). v.proto) near.1), inl (own, (λ e'. away (sym e'))))) in
                absurd (no_clash t (put first held) begun.2.2 first (put-In first held) clash)
          ]
          | inr (inr no_more) ↦ absurd no_more
        ]

  keeps-leg : (r' : Route) → r ≡ r' → (p : Passage) → leg config live view r' ≡ Ok p → In w p.sessions → Keeps
  keeps-leg Out e p h is = keeps-out p h is
  keeps-leg Hairpin e p h is =
      let there = (routed_is_on_route config Lan view Hairpin (m.came.route_is ∙ ap Ok e)).1 in
      keeps-both there.1 (external-is config view.dst.addr there.2) p h is
  keeps-leg InRoute e p h is = let side : Lan ≡ Wan = (routed_is_on_route config Lan view InRoute (m.came.route_is ∙ ap Ok e)).1.0 in absurd cc

  keeps-sent : (way : Result Passage Cause) → leg config live view r ≡ way → In w (sent live bytes way).0.sessions → Keeps
  keeps-sent (Err cause) h is = absurd (not-old w is refl refl refl)
  keeps-sent (Ok p) h is = elim (put_all-member p.sessions held w is) [ inl made ↦ keeps-leg r refl p h made | inr old ↦ absurd (not-old w old refl refl refl) ]

  pub mapping-keeps : Keeps
  mapping-keeps = keeps-sent (leg config live view r) refl (subst (λ (p : State × Answer). In w p.0.sessions) (step-of config s judged Lan bytes view r m.came) m.mapped.is_held)

pub new-mappings-keep : NewMappingsKeepPorts
new-mappings-keep config s judged bytes view r outside is_one makes = mapping-keeps config s judged bytes view r outside is_one makes
