-- Whom a mapping lets in.
use Rattle.std.proofs.Common.{◌≡◌, ◌≢◌, ℕ, Bool, true, false, List, Option, Some, None, is_some, length, nat_lt, Result, Ok, Err, IfOk, IfErr, if◌then◌else◌, refl, sym, ap, ◌∙◌, subst, inl, inr}
use Rattle.std.specs.Prelude.{find}
use Rattle.std.proofs.lemmas.Bool.{cases_Bool, false≢true}
use Rattle.std.proofs.lemmas.Option.{none-some}
use Rattle.packet.specs.Config.{Config, is_inside}
use Rattle.packet.specs.Same.{same_endpoint}
use Rattle.packet.specs.declared.bounds.Filtering.{Filtering}
use Rattle.packet.specs.declared.bounds.Filtering.TheVariants as filtering
use Rattle.packet.specs.declared.endpoint.Endpoint.{Endpoint}
use Rattle.packet.specs.declared.endpoint.Iface.TheVariants.{Lan, Wan}
use Rattle.packet.specs.declared.view.View.{View}
use Rattle.ruletree.specs.declared.tree.Spelled.{Spelled}
use Rattle.sessions.specs.Listing.{In, clashes, has_inside, has_outside, has_peer, put}
use Rattle.sessions.specs.Sound.{AreSound}
use Rattle.sessions.specs.Table.{HasPeer, most_sessions}
use Rattle.sessions.specs.declared.session.Opener.TheVariants.{Inside, Remote}
use Rattle.sessions.specs.declared.session.Session.{Session}
use Rattle.sessions.proofs.PeerFinds.{has_peer-from, has_peer-true}
use Rattle.sessions.proofs.Puts.{find-some}
use Rattle.verdict.specs.Hooks.{forward_verdict, prerouting_verdict, postrouting_verdict}
use Rattle.verdict.specs.declared.facts.State.TheVariants.{New}
use Rattle.verdict.specs.declared.hook.Destination.{Destination}
use Rattle.verdict.specs.declared.hook.Destination.TheVariants as destination
use Rattle.verdict.specs.declared.hook.Forwarding.{Forwarding}
use Rattle.verdict.specs.declared.hook.Forwarding.TheVariants as forwarding
use Rattle.verdict.specs.declared.hook.Source.{Source}
use Rattle.verdict.specs.declared.hook.Source.TheVariants as source
use Rattle.hairpin.specs.Legs.{Passage, by_mapping, counted, facts_of, first_by, forwarded, hairpin_leg, in_by, in_leg, inside_by_rules, inside_far, inside_for, inward, lets_in, maps_outside, maps_inside, needs_session, new_session, or_no_port, out_by, out_leg, outside_by_rules, outside_for, outside_near, outward, passed_by, put_all, second, second_by, then_with, through, unless_dropped}
use Rattle.hairpin.specs.declared.cause.Cause.{Cause}
use Rattle.hairpin.specs.declared.cause.Cause.TheVariants.{Clash, Filtered, NoMapping, NoPort, NoSession, Rule, SelfMapped, TableFull}
use Rattle.hairpin.proofs.Apart.{agree, err-ok, find-In, maps_outside-parts, same_Ok}
use Rattle.hairpin.proofs.Pairs.{found-in}
use Rattle.machine.proofs.Passages.{in-ways}

-- ---- where a mapping lets in

let-in : (b : Bool) (x y : Endpoint) → (if b then Ok x else Err Filtered) ≡ Ok y → (b ≡ true) × (x ≡ y)
let-in true x y e = (refl, same_Ok x y e)
let-in false x y e = absurd (err-ok Filtered y e)

pub mapping-lets : (by : Filtering) (sessions : List Session) (remote : ℕ) (found : Option Session) (inside : Endpoint) → by_mapping by sessions remote found ≡ Ok inside
    → (m : Session) × (found ≡ Some m) × (m.inside ≡ inside) × (lets_in by sessions m remote ≡ true)
mapping-lets by sessions remote None inside h = absurd (err-ok NoMapping inside h)
mapping-lets by sessions remote (Some m) inside h = let is = let-in (lets_in by sessions m remote) m.inside inside h in (m, refl, is.1, is.0)

module _ (config : Config) (rules : Spelled) (sessions : List Session) (now : ℕ) (view : View) where
  abbrev asked : Destination
  asked = prerouting_verdict config (facts_of config rules sessions now view Wan None view.src view.dst New) rules

  abbrev mapped : Option Session
  mapped = find (maps_outside view.proto view.dst) sessions

  -- what neither an inside address nor a rule takes on, the mapping does
  pub given-mapping : is_inside config view.dst.addr ≡ false → asked ≡ destination.None → inside_for config rules sessions now view ≡ by_mapping config.filtering sessions view.src.addr mapped
  given-mapping outside none =
      ap (λ b. if b then Ok view.dst else inside_by_rules config rules sessions now view sessions view.src.addr mapped asked) outside
      ∙ ap (inside_by_rules config rules sessions now view sessions view.src.addr mapped) none

  -- a packet without a session comes in by a mapping only from an address that a session of the mapping has
  pub in-known : config.filtering ≡ filtering.Address → find (has_outside view.proto view.dst view.src) sessions ≡ None → is_inside config view.dst.addr ≡ false → asked ≡ destination.None
      → IfOk (in_leg config rules sessions now view) (λ passage. (u : Session) × In u sessions × HasPeer view.proto passage.dst view.dst view.src.addr u)
  in-known by none outside plain = in-ways config rules sessions now view (λ passage. (u : Session) × In u sessions × HasPeer view.proto passage.dst view.dst view.src.addr u)
      (λ s e. absurd (none-some s (sym none ∙ e)))
      (λ inside h.
      let m = mapping-lets config.filtering sessions view.src.addr mapped inside (sym (given-mapping outside plain) ∙ h) in
      let parts = maps_outside-parts view.proto view.dst m.0 (find-In (maps_outside view.proto view.dst) sessions m.0 m.1).1 in
      let knows : lets_in filtering.Address sessions m.0 view.src.addr ≡ true = subst (λ f. lets_in f sessions m.0 view.src.addr ≡ true) by m.3 in
      let u = found-in (has_peer m.0.proto m.0.inside m.0.outside view.src.addr) sessions knows in
      let peer = has_peer-true m.0.proto m.0.inside m.0.outside view.src.addr u.0 u.2 in
      (u.0, u.1, (peer.0 ∙ parts.1, peer.1 ∙ m.2, peer.2 ∙ parts.2, peer.3)))

-- ---- where a packet is dropped as Filtered

module _ (Q : Cause → Type 0) where
  err-unless : {A : Type 0} (b : Bool) (cause : Cause) (way : Result A Cause) → Q cause → IfErr way Q → IfErr (if b then Err cause else way) Q
  err-unless true cause way here is = here
  err-unless false cause way here is = is

  err-filtered : {A : Type 0} (verdict : Forwarding) (way : Result A Cause) → Q Rule → IfErr way Q → IfErr (unless_dropped verdict way) Q
  err-filtered forwarding.Drop way here is = here
  err-filtered forwarding.Pass way here is = is

  err-then : {A B : Type 0} (r : Result B Cause) (next : B → Result A Cause) → IfErr r Q → ((b : B) → IfErr (next b) Q) → IfErr (then_with r next) Q
  err-then (Err cause) next here is = here
  err-then (Ok b) next here is = is b

  err-port : (o : Option Endpoint) → Q NoPort → IfErr (or_no_port o) Q
  err-port None here = here
  err-port (Some e) here = tt

module _ (config : Config) (rules : Spelled) (sessions : List Session) (now : ℕ) (view : View) (Q : Cause → Type 0) (others : (cause : Cause) → cause ≢ Filtered → Q cause) where
  begun-err : (passage : Passage) → IfErr (counted config rules sessions now view passage) Q
  begun-err passage = err-unless Q (nat_lt most_sessions (length (put_all passage.sessions sessions))) TableFull (Ok passage) (others TableFull (λ e. cc)) (tt {0})

  -- a packet that goes out never is
  source-err : (how : Source) → IfErr (outside_by_rules config rules sessions now view how) Q
  source-err source.None = tt
  source-err (source.From addr) = err-port Q _ (others NoPort (λ e. cc))
  source-err source.Masquerade = err-port Q _ (others NoPort (λ e. cc))
  source-err source.Drop = others Rule (λ e. cc)

  outside-err : (found : Option Session) → IfErr (outside_for config rules sessions now view found) Q
  outside-err (Some m) = tt
  outside-err None = source-err (postrouting_verdict config (facts_of config rules sessions now view Lan (Some Wan) view.src view.dst New) rules)

  out-err : (found : Option Session) → IfErr (out_by config rules sessions now view found) Q
  out-err (Some s) = err-filtered Q {A = Passage} _ (Ok (outward (passed_by s Inside view.flags now))) (others Rule (λ e. cc)) (tt {0})
  out-err None =
      let outside_is = outside_for config rules sessions now view (find (maps_inside view.proto view.src) sessions) in
      let begun = λ (outside : Endpoint). counted config rules sessions now view (outward (new_session config rules sessions now view Inside view.src outside view.dst)) in
      let way = then_with outside_is begun in
      err-unless Q (needs_session view) NoSession (forwarded config rules sessions now view Lan Wan view.src view.dst New way) (others NoSession (λ e. cc))
      (err-filtered Q (forward_verdict config (facts_of config rules sessions now view Lan (Some Wan) view.src view.dst New) rules) way (others Rule (λ e. cc))
      (err-then Q outside_is begun (outside-err (find (maps_inside view.proto view.src) sessions)) (λ outside. begun-err (outward (new_session config rules sessions now view Inside view.src outside view.dst)))))

  pub out-dropped : IfErr (out_leg config rules sessions now view) Q
  out-dropped = out-err (find (has_inside view.proto view.src view.dst) sessions)

  -- one that comes in is as its inside endpoint is found
  in-err : IfErr (inside_for config rules sessions now view) Q → (found : Option Session) → IfErr (in_by config rules sessions now view found) Q
  in-err far (Some s) = err-filtered Q {A = Passage} _ (Ok (inward (passed_by s Remote view.flags now))) (others Rule (λ e. cc)) (tt {0})
  in-err far None = err-unless Q {A = Passage} _ NoSession _ (others NoSession (λ e. cc)) (err-then Q {A = Passage} (inside_for config rules sessions now view) _ far
      (λ inside.
      let t = new_session config rules sessions now view Remote inside view.dst view.src in
      err-unless Q {A = Passage} (is_some (find (clashes t) sessions)) Clash (forwarded config rules sessions now view Wan Lan view.src inside New (counted config rules sessions now view (inward t))) (others Clash (λ e. cc))
      (err-filtered Q {A = Passage} _ (counted config rules sessions now view (inward t)) (others Rule (λ e. cc)) (begun-err (inward t)))))

  -- one that hairpins is as the far inside endpoint is found
  near-err : (found : Option Session) → IfErr (outside_near config rules sessions now view found) Q
  near-err (Some m) = tt
  near-err None = err-port Q _ (others NoPort (λ e. cc))

  first-err : (found : Option Session) → IfErr (first_by config rules sessions now view found) Q
  first-err (Some s) = tt
  first-err None = err-unless Q {A = Session} _ NoSession _ (others NoSession (λ e. cc)) (err-then Q {A = Session} (outside_near config rules sessions now view (find (maps_inside view.proto view.src) sessions)) _
      (near-err (find (maps_inside view.proto view.src) sessions)) (λ outside. tt {0}))

  module _ (far : (first : Session) (held : List Session) → IfErr (inside_far config rules sessions now view first held) Q) where
    second-err : (first : Session) (held : List Session) (found : Option Session) → IfErr (second_by config rules sessions now view first held found) Q
    second-err first held (Some s) = tt
    second-err first held None = err-unless Q {A = Session} _ NoSession _ (others NoSession (λ e. cc)) (err-then Q {A = Session} (inside_far config rules sessions now view first held) _ (far first held) (λ inside.
        let t = new_session config rules sessions now view Remote inside view.dst first.outside in
        err-unless Q {A = Session} (is_some (find (clashes t) held)) Clash (Ok t) (others Clash (λ e. cc)) (tt {0})))

    pub hairpin-dropped : IfErr (hairpin_leg config rules sessions now view) Q
    hairpin-dropped = err-then Q {A = Passage} (first_by config rules sessions now view (find (has_inside view.proto view.src view.dst) sessions)) _ (first-err (find (has_inside view.proto view.src view.dst) sessions)) (λ first.
        err-then Q {A = Passage} (second config rules sessions now view first (put first sessions)) _
        (err-unless Q {A = Session} (same_endpoint first.outside view.dst) SelfMapped _ (others SelfMapped (λ e. cc)) (second-err first (put first sessions) (find (has_outside view.proto view.dst first.outside) (put first sessions))))
        (λ t. err-filtered Q {A = Passage} _ (counted config rules sessions now view (through first t)) (others Rule (λ e. cc)) (begun-err (through first t))))

  -- ---- only a mapping drops so

  mapping-err : (sessions' : List Session) (remote : ℕ) (found : Option Session) → ((m : Session) → found ≡ Some m → lets_in config.filtering sessions' m remote ≡ false → Q Filtered)
      → IfErr (by_mapping config.filtering sessions' remote found) Q
  mapping-err sessions' remote None stranger = others NoMapping (λ e. cc)
  mapping-err sessions' remote (Some m) stranger = elim (cases_Bool (lets_in config.filtering sessions' m remote)) [
    | inl lets ↦ subst (λ b. IfErr (if b then Ok m.inside else Err Filtered) Q) (sym lets) tt
    | inr keeps_out ↦ subst (λ b. IfErr (if b then Ok m.inside else Err Filtered) Q) (sym keeps_out) (stranger m refl keeps_out)
  ]

  rules-err : (sessions' : List Session) (remote : ℕ) (found : Option Session) → ((m : Session) → found ≡ Some m → lets_in config.filtering sessions' m remote ≡ false → Q Filtered)
      → (d : Destination) → IfErr (inside_by_rules config rules sessions now view sessions' remote found d) Q
  rules-err sessions' remote found stranger destination.None = mapping-err sessions' remote found stranger
  rules-err sessions' remote found stranger (destination.To inside) = tt
  rules-err sessions' remote found stranger destination.Drop = others Rule (λ e. cc)

  near-in : (b : Bool) → (b ≡ false → IfErr (inside_by_rules config rules sessions now view sessions view.src.addr (find (maps_outside view.proto view.dst) sessions)
      (prerouting_verdict config (facts_of config rules sessions now view Wan None view.src view.dst New) rules)) Q)
      → IfErr (if b then Ok view.dst else inside_by_rules config rules sessions now view sessions view.src.addr (find (maps_outside view.proto view.dst) sessions)
      (prerouting_verdict config (facts_of config rules sessions now view Wan None view.src view.dst New) rules)) Q
  near-in true far = tt
  near-in false far = far refl

  pub in-stranger : ((m : Session) → is_inside config view.dst.addr ≡ false → find (maps_outside view.proto view.dst) sessions ≡ Some m → lets_in config.filtering sessions m view.src.addr ≡ false → Q Filtered)
      → IfErr (in_leg config rules sessions now view) Q
  in-stranger stranger = in-err (near-in (is_inside config view.dst.addr) (λ outside.
      rules-err sessions view.src.addr (find (maps_outside view.proto view.dst) sessions) (λ m. stranger m outside)
      (prerouting_verdict config (facts_of config rules sessions now view Wan None view.src view.dst New) rules))) (find (has_outside view.proto view.dst view.src) sessions)

  pub hairpin-stranger : ((held : List Session) (remote : ℕ) (m : Session) → lets_in config.filtering held m remote ≡ false → Q Filtered) → IfErr (hairpin_leg config rules sessions now view) Q
  hairpin-stranger stranger = hairpin-dropped (λ first held.
      rules-err held first.outside.addr (find (maps_outside view.proto view.dst) held) (λ m e. stranger held first.outside.addr m)
      (prerouting_verdict config (facts_of config rules sessions now view Lan None view.src view.dst New) rules))

-- only filtering by address keeps somebody out
pub kept-out : (by : Filtering) (held : List Session) (m : Session) (remote : ℕ) → lets_in by held m remote ≡ false → by ≡ filtering.Address
kept-out filtering.Endpoint held m remote h = absurd (false≢true (sym h))
kept-out filtering.Address held m remote h = refl

-- who is known at an address is let in from there by a mapping that has the outside endpoint
pub known-in : (by : Filtering) (config : Config) (sessions : List Session) → AreSound config sessions → (m t : Session) → In m sessions → In t sessions → m.inside ≢ m.outside → t.inside ≢ t.outside
    → m.proto ≡ t.proto → m.outside ≡ t.outside → lets_in by sessions m t.remote.addr ≡ true
known-in filtering.Endpoint config sessions sound m t in_m in_t m_away t_away proto outside = refl
known-in filtering.Address config sessions sound m t in_m in_t m_away t_away proto outside =
    let inside = (agree sessions sound.apart m t in_m in_t m_away t_away proto).1 outside in
    ap is_some (find-some (has_peer m.proto m.inside m.outside t.remote.addr) sessions t in_t (has_peer-from m.proto m.inside m.outside t.remote.addr t (sym proto, sym inside, sym outside, refl))).1
