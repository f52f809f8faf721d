-- A mapping lets in whom it should.
use Rattle.std.proofs.Common.{◌≡◌, ◌≢◌, ℕ, true, false, List, is_some, None, Ok, Err, if◌then◌else◌, refl, sym, ap, ◌∙◌, subst, inl, inr}
use Rattle.std.specs.Prelude.{find}
use Rattle.std.proofs.lemmas.Bool.{false_from_ne_true}
use Rattle.packet.specs.Config.{Config, is_config, is_inside}
use Rattle.packet.specs.Translated.{translated}
use Rattle.packet.specs.declared.bounds.Filtering.{Filtering}
use Rattle.packet.specs.declared.bounds.Filtering.TheVariants as filtering
use Rattle.packet.specs.declared.endpoint.Endpoint.{Endpoint}
use Rattle.packet.specs.declared.endpoint.Iface.TheVariants.{Lan, Wan}
use Rattle.packet.specs.declared.endpoint.Proto.{Proto}
use Rattle.packet.specs.declared.route.Route.TheVariants.{In as InRoute}
use Rattle.packet.specs.declared.view.View.{View}
use Rattle.sessions.specs.Laws.{IsMapping}
use Rattle.sessions.specs.Life.{alive}
use Rattle.sessions.specs.Listing.{In, clashes, has_outside, has_peer}
use Rattle.sessions.specs.Sound.{AreSound}
use Rattle.sessions.specs.Table.{Clash as Clashing, HasInside, HasOutside}
use Rattle.sessions.specs.declared.session.Opener.TheVariants.{Remote}
use Rattle.sessions.specs.declared.session.Session.{Session}
use Rattle.sessions.proofs.Found.{has_outside-true}
use Rattle.sessions.proofs.PeerFinds.{has_peer-from}
use Rattle.sessions.proofs.Puts.{find-none, find-some}
use Rattle.verdict.specs.declared.facts.State.TheVariants.{New}
use Rattle.hairpin.specs.Legs.{begun_in, by_mapping, counted, forwarded, in_by, inside_for, inward, lets_in, maps_outside, new_session, then_with, unless_dropped}
use Rattle.hairpin.specs.declared.cause.Cause.TheVariants.{Clash, Filtered, NoSession, TableFull}
use Rattle.hairpin.proofs.Apart.{agree, maps_outside-from, maps_outside-parts, outside_away}
use Rattle.hairpin.proofs.Clashing.{none_clashes}
use Rattle.hairpin.proofs.Soundness.{filter-sound}
use Rattle.machine.specs.Judged.{Judged}
use Rattle.machine.specs.Laws.{living}
use Rattle.machine.specs.Machine.{State, sent, step}
use Rattle.machine.specs.Requirements.{ComesToMapping, LetsIn, MappingsLetIn}
use Rattle.machine.specs.Sound.{IsSoundState}
use Rattle.machine.specs.declared.event.Answer.TheVariants.{Forward}
use Rattle.machine.proofs.Letting.{given-mapping}
use Rattle.machine.proofs.Passing.{answer-of, room-for}

-- the test tells whom a mapping lets in
pub lets-true : (by : Filtering) (sessions : List Session) (m : Session) (proto : Proto) (inside outside : Endpoint) (remote : ℕ) → m.proto ≡ proto → m.inside ≡ inside → m.outside ≡ outside → LetsIn by sessions proto inside outside remote
    → lets_in by sessions m remote ≡ true
lets-true filtering.Endpoint sessions m proto inside outside remote p i o lets = refl
lets-true filtering.Address sessions m proto inside outside remote p i o lets =
    let peer = lets.2 in
    ap is_some (find-some (has_peer m.proto m.inside m.outside remote) sessions lets.0 lets.1
    (has_peer-from m.proto m.inside m.outside remote lets.0 (peer.0 ∙ sym p, peer.1 ∙ sym i, peer.2 ∙ sym o, peer.3))).1

-- a session between the endpoints of a mapping clashes with none of another flow
pub mapped-clash : (held : List Session) → ((u v : Session) → In u held → In v held → u ≢ v → ¬ Clashing u v) → (t : Session) → IsMapping held t.proto t.inside t.outside → (v : Session) → In v held
    → ¬ HasInside t.proto t.inside t.remote v → ¬ HasOutside t.proto t.outside t.remote v → Clashing t v → ⊥
mapped-clash held apart t mapping v in_v not_inside not_outside (inl own) = not_inside own
mapped-clash held apart t mapping v in_v not_inside not_outside (inr (inl own)) = not_outside own
mapped-clash held apart t mapping v in_v not_inside not_outside (inr (inr breaks)) =
    let same = agree held apart v mapping.session in_v mapping.is_held breaks.1 mapping.translated (sym breaks.2 ∙ sym mapping.proto) in
    elim breaks.3 [
      | inl one ↦ one.1 (sym mapping.outside ∙ sym (same.0 (sym one.0 ∙ sym mapping.inside)))
      | inr one ↦ one.1 (sym mapping.inside ∙ sym (same.1 (sym one.0 ∙ sym mapping.outside)))
    ]

module _ (config : Config) (s : State) (judged : Judged) (bytes : List ℕ) (view : View) (inside : Endpoint) (is_one : is_config config ≡ true) (sound : IsSoundState config s) (c : ComesToMapping config s judged bytes view inside) where
  abbrev live : State
  live = living s judged

  abbrev held : List Session
  held = live.sessions

  abbrev now : ℕ
  now = live.clock

  all : AreSound config held
  all = filter-sound config s.sessions sound.sessions (alive now)

  none : find (has_outside view.proto view.dst view.src) held ≡ None
  none = find-none (has_outside view.proto view.dst view.src) held (λ u in_u passes. c.new u in_u (has_outside-true view.proto view.dst view.src u passes))

  -- an endpoint of a mapping is no inside one
  abbrev mapping : IsMapping held view.proto inside view.dst
  mapping = c.mapping

  outside : is_inside config view.dst.addr ≡ false
  outside = false_from_ne_true _ (λ h. elim (all.placed mapping.session mapping.is_held).outside [
    | inl same ↦ mapping.translated (sym same)
    | inr listed ↦ outside_away config is_one mapping.session.outside.addr listed (subst (λ (x : Endpoint). is_inside config x.addr ≡ true) (sym mapping.outside) h)
  ])

  given : inside_for config s.rules held now view ≡ Ok inside
  given =
      let found = find-some (maps_outside view.proto view.dst) held mapping.session mapping.is_held (maps_outside-from view.proto view.dst mapping.session mapping.translated mapping.proto mapping.outside) in
      let m = found.0 in
      let parts = maps_outside-parts view.proto view.dst m found.3 in
      let same = agree held all.apart m mapping.session found.2 mapping.is_held parts.0 mapping.translated (parts.1 ∙ sym mapping.proto) in
      let inside_is : m.inside ≡ inside = same.1 (parts.2 ∙ sym mapping.outside) ∙ mapping.inside in
      let lets = lets-true config.filtering held m view.proto inside view.dst view.src.addr parts.1 inside_is parts.2 c.let_in in
      given-mapping config s.rules held now view outside c.alone
      ∙ ap (λ o. by_mapping config.filtering held view.src.addr o) found.1
      ∙ ap (λ b. if b then Ok m.inside else Err Filtered) lets
      ∙ ap Ok inside_is

  abbrev t : Session
  t = new_session config s.rules held now view Remote inside view.dst view.src

  free : find (clashes t) held ≡ None
  free = none_clashes t held (λ v in_v. mapped-clash held all.apart t mapping v in_v (c.apart v in_v) (c.new v in_v))

  pub admitted : (step config s judged).1 ≡ Forward Lan (translated bytes view.src inside)
  admitted =
      let way = counted config s.rules held now view (inward t) in
      answer-of config s judged Wan bytes view InRoute c.came
      ∙ ap (λ o. (sent live bytes (in_by config s.rules held now view o)).1) none
      ∙ ap (λ b. (sent live bytes (if b then Err NoSession else then_with (inside_for config s.rules held now view) (begun_in config s.rules held now view))).1) c.begins
      ∙ ap (λ r. (sent live bytes (then_with r (begun_in config s.rules held now view))).1) given
      ∙ ap (λ o. (sent live bytes (if is_some o then Err Clash else forwarded config s.rules held now view Wan Lan view.src inside New way)).1) free
      ∙ ap (λ f. (sent live bytes (unless_dropped f way)).1) c.passes
      ∙ ap (λ b. (sent live bytes (if b then Err TableFull else Ok (inward t))).1) (room-for t held c.room)

pub mappings-let-in : MappingsLetIn
mappings-let-in config s judged bytes view inside is_one sound comes = admitted config s judged bytes view inside is_one sound comes
