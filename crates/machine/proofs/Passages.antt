-- What is told of a leg that lets a packet pass, and so what holds of all that it may come to.
use Rattle.std.proofs.Common.{◌≡◌, ◌⊎◌, ℕ, Bool, true, false, List, Option, Some, None, is_some, length, nat_lt, Result, Ok, Err, IfOk, refl, sym, ap, subst, inl, inr, if◌then◌else◌}
use Rattle.std.specs.Prelude.{find}
use Rattle.std.proofs.lemmas.Bool.{cases_Bool}
use Rattle.packet.specs.Config.{Config}
use Rattle.packet.specs.Same.{same_endpoint}
use Rattle.packet.specs.declared.endpoint.Endpoint.{Endpoint}
use Rattle.packet.specs.declared.endpoint.Flags.{Flags}
use Rattle.packet.specs.declared.endpoint.Iface.{Iface}
use Rattle.packet.specs.declared.endpoint.Iface.TheVariants.{Lan, Wan}
use Rattle.packet.specs.declared.view.View.{View}
use Rattle.ruletree.specs.declared.tree.Spelled.{Spelled}
use Rattle.sessions.specs.Life.{restarts, shown}
use Rattle.sessions.specs.Listing.{clashes, has_inside, has_outside, put}
use Rattle.sessions.specs.Table.{most_sessions, restarted, seen}
use Rattle.sessions.specs.declared.session.Opener.{Opener}
use Rattle.sessions.specs.declared.session.Opener.TheVariants.{Inside, Remote}
use Rattle.sessions.specs.declared.session.Session.{Session}
use Rattle.verdict.specs.Hooks.{forward_verdict}
use Rattle.verdict.specs.declared.facts.State.{State}
use Rattle.verdict.specs.declared.facts.State.TheVariants.{New}
use Rattle.verdict.specs.declared.hook.Forwarding.{Forwarding}
use Rattle.verdict.specs.declared.hook.Forwarding.TheVariants as forwarding
use Rattle.hairpin.specs.Legs.{Passage, begun_in, begun_out, connection_of, counted, facts_of, first_by, first_state, forwarded, hairpin_leg, in_by, in_leg, inside_far, inside_for, inward, maps_inside, needs_session, new_session, out_by, out_leg, outside_for, outside_near, outward, passed_by, put_all, second, second_by, then_with, through, unless_dropped}
use Rattle.hairpin.specs.declared.cause.Cause.{Cause}
use Rattle.hairpin.specs.declared.cause.Cause.TheVariants.{Clash, NoSession, Rule, SelfMapped, TableFull}
use Rattle.hairpin.proofs.Apart.{err-ok, same_Ok}
use Rattle.hairpin.proofs.Doubling.{gone}

pub unless-ok : {A : Type 0} (b : Bool) (cause : Cause) (way : Result A Cause) (x : A) → (if b then Err cause else way) ≡ Ok x → (b ≡ false) × (way ≡ Ok x)
unless-ok true cause way x e = absurd (err-ok cause x e)
unless-ok false cause way x e = (refl, e)

pub then-ok : {A B : Type 0} (r : Result A Cause) (next : A → Result B Cause) (y : B) → then_with r next ≡ Ok y → (a : A) × (r ≡ Ok a) × (next a ≡ Ok y)
then-ok (Err cause) next y e = absurd (err-ok cause y e)
then-ok (Ok a) next y e = (a, refl, e)

pub ok-by : {A : Type 0} (P : A → Type 0) (way : Result A Cause) → ((x : A) → way ≡ Ok x → P x) → IfOk way P
ok-by P (Err cause) all = tt
ok-by P (Ok x) all = all x refl

passed-ok : {A : Type 0} (verdict : Forwarding) (way : Result A Cause) (x : A) → unless_dropped verdict way ≡ Ok x → (verdict ≡ forwarding.Pass) × (way ≡ Ok x)
passed-ok forwarding.Drop way x e = absurd (err-ok Rule x e)
passed-ok forwarding.Pass way x e = (refl, e)

-- a session that goes on was used now
pub passed-last : (s : Session) (sender : Opener) (flags : Flags) (now : ℕ) → (passed_by s sender flags now).last ≡ now
passed-last s sender flags now = elim (cases_Bool (restarts s flags)) [
  | inl anew ↦ ap (λ b. (if b then restarted s sender now else seen s (shown s.proto s.opener sender flags) now).last) anew
  | inr on ↦ ap (λ b. (if b then restarted s sender now else seen s (shown s.proto s.opener sender flags) now).last) on
]

module _ (config : Config) (rules : Spelled) (sessions : List Session) (now : ℕ) (view : View) where
  abbrev pub Passes : Iface → Iface → Endpoint → Endpoint → State → Type 0
  Passes iif oif src dst state = forward_verdict config (facts_of config rules sessions now view iif (Some oif) src dst state) rules ≡ forwarding.Pass

  counted-ok : (passage p : Passage) → counted config rules sessions now view passage ≡ Ok p → passage ≡ p
  counted-ok passage p e = same_Ok passage p (unless-ok (nat_lt most_sessions (length (put_all passage.sessions sessions))) TableFull (Ok passage) p e).1

  -- ---- out

  abbrev pub found_out : Option Session
  found_out = find (has_inside view.proto view.src view.dst) sessions

  abbrev pub new_out : Endpoint → Session
  new_out outside = new_session config rules sessions now view Inside view.src outside view.dst

  abbrev pub GoesOn : Passage → Type 0
  GoesOn p = (s : Session) × (found_out ≡ Some s) × (p ≡ outward (passed_by s Inside view.flags now))

  abbrev pub BeginsOut : Passage → Type 0
  BeginsOut p = (found_out ≡ None) × (needs_session view ≡ false)
      × ((outside : Endpoint) × (outside_for config rules sessions now view (find (maps_inside view.proto view.src) sessions) ≡ Ok outside) × (p ≡ outward (new_out outside)) × Passes Lan Wan view.src view.dst New)

  out-told-by : (found : Option Session) → found_out ≡ found → (p : Passage) → out_by config rules sessions now view found ≡ Ok p → GoesOn p ⊎ BeginsOut p
  out-told-by (Some s) e p h =
      let way = passed-ok (forward_verdict config (facts_of config rules sessions now view Lan (Some Wan) view.src view.dst (connection_of s Inside view.flags)) rules) (Ok (outward (passed_by s Inside view.flags now))) p h in
      inl (s, e, sym (same_Ok (outward (passed_by s Inside view.flags now)) p way.1))
  out-told-by None e p h =
      let begun = unless-ok (needs_session view) NoSession (forwarded config rules sessions now view Lan Wan view.src view.dst New (begun_out config rules sessions now view)) p h in
      let way = passed-ok (forward_verdict config (facts_of config rules sessions now view Lan (Some Wan) view.src view.dst New) rules) (begun_out config rules sessions now view) p begun.1 in
      let new = then-ok (outside_for config rules sessions now view (find (maps_inside view.proto view.src) sessions)) (λ outside. counted config rules sessions now view (outward (new_out outside))) p way.1 in
      inr (e, begun.0, (new.0, new.1, sym (counted-ok (outward (new_out new.0)) p new.2), way.0))

  pub out-told : (p : Passage) → out_leg config rules sessions now view ≡ Ok p → GoesOn p ⊎ BeginsOut p
  out-told p h = out-told-by found_out refl p h

  -- a packet goes out by its session, or by one that begins at the outside endpoint that it is given
  pub out-ways : (P : Passage → Type 0) → ((s : Session) → found_out ≡ Some s → P (outward (passed_by s Inside view.flags now)))
      → ((outside : Endpoint) → outside_for config rules sessions now view (find (maps_inside view.proto view.src) sessions) ≡ Ok outside → P (outward (new_out outside)))
      → IfOk (out_leg config rules sessions now view) P
  out-ways P goes begins = ok-by P (out_leg config rules sessions now view) (λ p h. elim (out-told p h) [
    | inl on ↦ subst P (sym on.2) (goes on.0 on.1)
    | inr begun ↦ subst P (sym begun.2.2) (begins begun.2.0 begun.2.1)
  ])

  -- ---- in

  abbrev pub found_in : Option Session
  found_in = find (has_outside view.proto view.dst view.src) sessions

  abbrev pub new_in : Endpoint → Session
  new_in inside = new_session config rules sessions now view Remote inside view.dst view.src

  abbrev pub ComesOn : Passage → Type 0
  ComesOn p = (s : Session) × (found_in ≡ Some s) × (p ≡ inward (passed_by s Remote view.flags now))

  abbrev pub BeginsIn : Passage → Type 0
  BeginsIn p = (found_in ≡ None) × (needs_session view ≡ false)
      × ((inside : Endpoint) × (inside_for config rules sessions now view ≡ Ok inside) × Passes Wan Lan view.src inside New × (p ≡ inward (new_in inside)) × (find (clashes (new_in inside)) sessions ≡ None))

  in-told-by : (found : Option Session) → found_in ≡ found → (p : Passage) → in_by config rules sessions now view found ≡ Ok p → ComesOn p ⊎ BeginsIn p
  in-told-by (Some s) e p h =
      let way = passed-ok (forward_verdict config (facts_of config rules sessions now view Wan (Some Lan) view.src s.inside (connection_of s Remote view.flags)) rules) (Ok (inward (passed_by s Remote view.flags now))) p h in
      inl (s, e, sym (same_Ok (inward (passed_by s Remote view.flags now)) p way.1))
  in-told-by None e p h =
      let begun = unless-ok (needs_session view) NoSession (then_with (inside_for config rules sessions now view) (begun_in config rules sessions now view)) p h in
      let new = then-ok (inside_for config rules sessions now view) (begun_in config rules sessions now view) p begun.1 in
      let way = counted config rules sessions now view (inward (new_in new.0)) in
      let free = unless-ok (is_some (find (clashes (new_in new.0)) sessions)) Clash (forwarded config rules sessions now view Wan Lan view.src new.0 New way) p new.2 in
      let passes = passed-ok (forward_verdict config (facts_of config rules sessions now view Wan (Some Lan) view.src new.0 New) rules) way p free.1 in
      inr (e, begun.0, (new.0, new.1, passes.0, sym (counted-ok (inward (new_in new.0)) p passes.1), gone (find (clashes (new_in new.0)) sessions) free.0))

  pub in-told : (p : Passage) → in_leg config rules sessions now view ≡ Ok p → ComesOn p ⊎ BeginsIn p
  in-told p h = in-told-by found_in refl p h

  -- a packet comes in by its session, or by one that begins at the inside endpoint that it is given
  pub in-ways : (P : Passage → Type 0) → ((s : Session) → found_in ≡ Some s → P (inward (passed_by s Remote view.flags now)))
      → ((inside : Endpoint) → inside_for config rules sessions now view ≡ Ok inside → P (inward (new_in inside)))
      → IfOk (in_leg config rules sessions now view) P
  in-ways P goes begins = ok-by P (in_leg config rules sessions now view) (λ p h. elim (in-told p h) [
    | inl on ↦ subst P (sym on.2) (goes on.0 on.1)
    | inr begun ↦ subst P (sym begun.2.3) (begins begun.2.0 begun.2.1)
  ])

  -- ---- hairpin

  abbrev pub FirstGoesOn : Session → Type 0
  FirstGoesOn first = (s : Session) × (found_out ≡ Some s) × (first ≡ passed_by s Inside view.flags now)

  abbrev pub FirstBegins : Session → Type 0
  FirstBegins first = (found_out ≡ None) × (needs_session view ≡ false)
      × ((outside : Endpoint) × (outside_near config rules sessions now view (find (maps_inside view.proto view.src) sessions) ≡ Ok outside) × (first ≡ new_out outside))

  first-told-by : (found : Option Session) → found_out ≡ found → (first : Session) → first_by config rules sessions now view found ≡ Ok first → FirstGoesOn first ⊎ FirstBegins first
  first-told-by (Some s) e first h = inl (s, e, sym (same_Ok (passed_by s Inside view.flags now) first h))
  first-told-by None e first h =
      let near = outside_near config rules sessions now view (find (maps_inside view.proto view.src) sessions) in
      let begun = unless-ok (needs_session view) NoSession (then_with near (λ outside. Ok (new_out outside))) first h in
      let new = then-ok near (λ outside. Ok (new_out outside)) first begun.1 in
      inr (e, begun.0, (new.0, new.1, sym (same_Ok (new_out new.0) first new.2)))

  -- the second, among the sessions with the first one
  module _ (first : Session) (held : List Session) where
    abbrev pub found_far : Option Session
    found_far = find (has_outside view.proto view.dst first.outside) held

    abbrev pub new_far : Endpoint → Session
    new_far inside = new_session config rules sessions now view Remote inside view.dst first.outside

    abbrev pub SecondGoesOn : Session → Type 0
    SecondGoesOn t = (s : Session) × (found_far ≡ Some s) × (t ≡ passed_by s Remote view.flags now)

    abbrev pub SecondBegins : Session → Type 0
    SecondBegins t = (found_far ≡ None) × (needs_session view ≡ false)
        × ((inside : Endpoint) × (inside_far config rules sessions now view first held ≡ Ok inside) × (find (clashes (new_far inside)) held ≡ None) × (t ≡ new_far inside))

    second-told-by : (found : Option Session) → found_far ≡ found → (t : Session) → second_by config rules sessions now view first held found ≡ Ok t → SecondGoesOn t ⊎ SecondBegins t
    second-told-by (Some s) e t h = inl (s, e, sym (same_Ok (passed_by s Remote view.flags now) t h))
    second-told-by None e t h =
        let far = inside_far config rules sessions now view first held in
        let begun = unless-ok (needs_session view) NoSession _ t h in
        let new = then-ok far _ t begun.1 in
        let free = unless-ok (is_some (find (clashes (new_far new.0)) held)) Clash (Ok (new_far new.0)) t new.2 in
        inr (e, begun.0, (new.0, new.1, gone (find (clashes (new_far new.0)) held) free.0, sym (same_Ok (new_far new.0) t free.1)))

  -- both are different, and the packet leaves by them
  pub record Hairpinned (p : Passage) : Type 0 where
    pub first : Session
    pub far : Session
    pub by_first : FirstGoesOn first ⊎ FirstBegins first
    pub away : same_endpoint first.outside view.dst ≡ false
    pub by_far : SecondGoesOn first (put first sessions) far ⊎ SecondBegins first (put first sessions) far
    pub lets : Passes Lan Lan view.src far.inside (first_state config rules sessions now view found_out)
    pub are : p ≡ through first far

  pub hairpin-told : (p : Passage) → hairpin_leg config rules sessions now view ≡ Ok p → Hairpinned p
  hairpin-told p h =
      let on : Session → Session → Result Passage Cause = λ first t.
      forwarded config rules sessions now view Lan Lan view.src t.inside (first_state config rules sessions now view found_out) (counted config rules sessions now view (through first t)) in
      let one = then-ok (first_by config rules sessions now view found_out) (λ first. then_with (second config rules sessions now view first (put first sessions)) (on first)) p h in
      let first = one.0 in
      let two = then-ok (second config rules sessions now view first (put first sessions)) (on first) p one.2 in
      let t = two.0 in
      let other = unless-ok (same_endpoint first.outside view.dst) SelfMapped (second_by config rules sessions now view first (put first sessions) (found_far first (put first sessions))) t two.1 in
      let way = counted config rules sessions now view (through first t) in
      let passes = passed-ok (forward_verdict config (facts_of config rules sessions now view Lan (Some Lan) view.src t.inside (first_state config rules sessions now view found_out)) rules) way p two.2 in
      record {
        first = first;
        far = t;
        by_first = first-told-by found_out refl first one.1;
        away = other.0;
        by_far = second-told-by first (put first sessions) (found_far first (put first sessions)) refl t other.1;
        lets = passes.0;
        are = sym (counted-ok (through first t) p passes.1);
      }
