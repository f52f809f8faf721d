-- What is known of a session that begins, and that what a packet on its way out comes to may join the sessions.
use Rattle.std.proofs.Common.{◌≡◌, ◌≢◌, ◌⊎◌, ℕ, ◌+◌, ◌<◌, ◌≤◌, List, length, Contains, Option, Some, None, Ok, Err, count_by, is_some, true, false, nat_lt, if◌then◌else◌, refl, sym, ap, ◌∙◌, subst, inl, inr, arith}
use Rattle.std.specs.Prelude.{find}
use Rattle.std.proofs.lemmas.Bool.{false≢true, le-ltb, lt-ltb}
use Rattle.packet.specs.Config.{Config, is_config, is_inside}
use Rattle.packet.specs.Same.{same_endpoint}
use Rattle.packet.specs.declared.endpoint.Endpoint.{Endpoint}
use Rattle.packet.specs.declared.endpoint.Iface.TheVariants.{Lan, Wan}
use Rattle.packet.specs.declared.view.View.{View}
use Rattle.packet.proofs.SameLemmas.{same_endpoint-itself}
use Rattle.portpick.specs.Choice.{port_choice}
use Rattle.portpick.specs.Pool.{endpoint, pool_choice, port_at}
use Rattle.ruletree.specs.declared.tree.Spelled.{Spelled}
use Rattle.sessions.specs.Listing.{In, has_inside, listing, put}
use Rattle.sessions.specs.Table.{Clash}
use Rattle.sessions.specs.declared.session.Change.TheVariants.{Begin}
use Rattle.sessions.specs.declared.session.Opener.TheVariants.{Inside}
use Rattle.sessions.specs.declared.session.Session.{Session}
use Rattle.sessions.proofs.Puts.{length-listing}
use Rattle.sessions.proofs.Sets.{listing-In}
use Rattle.verdict.specs.Hooks.{forward_verdict, postrouting_verdict}
use Rattle.verdict.specs.declared.facts.Facts.{Facts}
use Rattle.verdict.specs.declared.facts.State.TheVariants.{New}
use Rattle.verdict.specs.declared.hook.Source.{Source}
use Rattle.verdict.specs.declared.hook.Source.TheVariants as source
use Rattle.hairpin.specs.Legs.{begun_out, counted, facts_of, forwarded, is_taken, maps_inside, needs_session, new_session, out_by, out_leg, outside_by_rules, outside_for, outward, passed_by, connection_of, then_with, uses_in}
use Rattle.hairpin.specs.Plans.{MayBegin, Plans}
use Rattle.hairpin.specs.KeepBounds.{KeepBounds}
use Rattle.sessions.specs.Sound.{AreSound}
use Rattle.hairpin.specs.declared.cause.Cause.TheVariants.{NoSession, Rule, TableFull}
use Rattle.hairpin.specs.declared.plan.Plan.{Plan}
use Rattle.hairpin.proofs.Apart.{choice-free, chosen_apart, err-ok, find-In, fresh, mapped-some, mapped_apart, maps-parts, outside_away, port-ok, same_Ok}
use Rattle.hairpin.proofs.Choosing.{pool-given}
use Rattle.hairpin.proofs.Soundness.{IsFine, fine-filtered, fine-one, fine-then, fine-unless, one-joins, passed-joins, put-more}

-- what is known of a session that begins: it stands apart from all, and its outside endpoint is in its place
pub record Opened (config : Config) (sessions : List Session) (new : Session) : Type 0 where
  pub apart : (s : Session) → In s sessions → ¬ Clash new s
  pub outside : (new.outside ≡ new.inside) ⊎ Contains config.external new.outside.addr
  pub port : 0 < new.outside.port

-- none of them is of the new session's protocol, inside and remote endpoint
module _ (config : Config) (is_one : is_config config ≡ true) (sessions : List Session) (sound : AreSound config sessions) (new : Session)
    (none : find (has_inside new.proto new.inside new.remote) sessions ≡ None) where
  -- by a mapping that lives
  pub opened_mapped : (m : Session) → find (maps_inside new.proto new.inside) sessions ≡ Some m → m.outside ≡ new.outside → Opened config sessions new
  opened_mapped m e outside =
      let is = find-In (maps_inside new.proto new.inside) sessions m e in
      let parts = maps-parts new.proto new.inside m is.1 in
      let placed = sound.placed m is.0 in
      let address : Contains config.external m.outside.addr = elim placed.outside [ inl same ↦ absurd (parts.0 (sym same)) | inr there ↦ there ] in
      record {
        apart = λ s in_s.
            mapped_apart sessions sound.apart new none s in_s m is.0 parts.0 parts.1 parts.2 outside
            (λ same. outside_away config is_one m.outside.addr address (subst (λ (x : Endpoint). is_inside config x.addr ≡ true) same (sound.placed s in_s).inside));
        outside = inr (subst (λ (x : Endpoint). Contains config.external x.addr) outside address);
        port = subst (λ (x : Endpoint). 0 < x.port) outside placed.outside_port;
      }

  -- at a port that is chosen at an external address
  pub opened_chosen : (addr : ℕ) → Contains config.external addr → 0 < new.inside.port → find (maps_inside new.proto new.inside) sessions ≡ None
      → port_at (is_taken sessions new.proto) new.inside.port addr ≡ Some new.outside → Opened config sessions new
  opened_chosen addr listed lt unmapped h =
      let some = mapped-some (endpoint addr) (port_choice (is_taken sessions new.proto addr) new.inside.port) new.outside h in
      let free = choice-free (is_taken sessions new.proto addr) new.inside.port some.0 lt some.1 in
      record {
        apart = λ s in_s. chosen_apart sessions sound.apart new none s in_s unmapped (subst (λ (x : Endpoint). is_taken sessions new.proto x.addr x.port ≡ false) some.2 free.0);
        outside = inr (subst (λ (x : Endpoint). Contains config.external x.addr) some.2 listed);
        port = subst (λ (x : Endpoint). 0 < x.port) some.2 free.1;
      }

  -- untranslated: whoever has this endpoint outside has it inside too, as no external address is inside
  pub opened_plain : is_inside config new.inside.addr ≡ true → 0 < new.inside.port → new.inside ≡ new.outside → Opened config sessions new
  opened_plain is_near lt same = record {
    apart = λ s in_s clash. elim clash [
      | inl h ↦ fresh sessions sound.apart new none s in_s h.0 h.1 h.2
      | inr more ↦ elim more [
        | inl h ↦ elim (sound.placed s in_s).outside [
          | inl plain ↦ fresh sessions sound.apart new none s in_s h.0 (sym plain ∙ h.1 ∙ sym same) h.2
          | inr there ↦ outside_away config is_one s.outside.addr there (subst (λ (x : Endpoint). is_inside config x.addr ≡ true) (same ∙ sym h.1) is_near)
        ]
        | inr h ↦ h.0 same
      ]
    ];
    outside = inl (sym same);
    port = subst (λ (x : Endpoint). 0 < x.port) same lt;
  }

-- the session may begin
pub may_begin : (config : Config) (held : List (Option Session)) (now : ℕ) (t : Session) → Opened config (listing held) t → t.seen ≡ 0 → t.last ≡ now → count_by is_some held ≢ 65536
    → MayBegin config.external held now t
may_begin config held now t o unseen last few = record {
  unseen = unseen;
  last = last;
  apart = λ any. o.apart any.held (listing-In held any.held any.place any.is_held) any.clash;
  few = few;
  placed = λ away. elim o.outside [
    | inl same ↦ absurd (false≢true (sym away ∙ subst (λ x. same_endpoint t.inside x ≡ true) (sym same) (same_endpoint-itself t.inside)))
    | inr there ↦ (there, o.port)
  ];
}

-- the plan of a packet that begins the session
abbrev pub plan_begun : Session → Plan
plan_begun t = record { first = Begin t; second = None; src = t.outside; dst = t.remote; iface = Wan }

module _ (config : Config) (rules : Spelled) (bounded : KeepBounds config rules) (sessions : List Session) (now : ℕ) (view : View) where
  abbrev facts : Facts
  facts = facts_of config rules sessions now view Lan (Some Wan) view.src view.dst New

  module _ (is_one : is_config config ≡ true) (sound : AreSound config sessions) (is_near : is_inside config view.src.addr ≡ true) (near_port : 0 < view.src.port)
      (none : find (has_inside view.proto view.src view.dst) sessions ≡ None) where
    abbrev new : Endpoint → Session
    new outside = new_session config rules sessions now view Inside view.src outside view.dst

    opened_rules : (how : Source) → find (maps_inside view.proto view.src) sessions ≡ None → postrouting_verdict config facts rules ≡ how → (outside : Endpoint)
        → outside_by_rules config rules sessions now view how ≡ Ok outside → Opened config sessions (new outside)
    opened_rules source.None unmapped e outside h = opened_plain config is_one sessions sound (new outside) none is_near near_port (same_Ok view.src outside h)
    opened_rules (source.From addr) unmapped e outside h =
        opened_chosen config is_one sessions sound (new outside) none addr (bounded.from facts addr e) near_port unmapped (port-ok (port_at (is_taken sessions view.proto) view.src.port addr) outside h)
    opened_rules source.Masquerade unmapped e outside h =
        let uses = uses_in sessions view.src.addr in
        let taken = is_taken sessions view.proto in
        let given = pool-given uses taken config.external view.src.port outside (port-ok (pool_choice uses taken config.external view.src.port) outside h) in
        opened_chosen config is_one sessions sound (new outside) none given.0 given.1 near_port unmapped given.2
    opened_rules source.Drop unmapped e outside h = absurd (err-ok Rule outside h)

    opened_for : (found : Option Session) → find (maps_inside view.proto view.src) sessions ≡ found → (outside : Endpoint)
        → outside_for config rules sessions now view found ≡ Ok outside → Opened config sessions (new outside)
    opened_for (Some m) e outside h = opened_mapped config is_one sessions sound (new outside) none m e (same_Ok m.outside outside h)
    opened_for None e outside h = opened_rules (postrouting_verdict config facts rules) e refl outside h

    -- the session that begins at the outside endpoint that a mapping or the rules give
    pub opened : (outside : Endpoint) → outside_for config rules sessions now view (find (maps_inside view.proto view.src) sessions) ≡ Ok outside → Opened config sessions (new outside)
    opened outside h = opened_for (find (maps_inside view.proto view.src) sessions) refl outside h

    begun-at : (outside : Endpoint) → outside_for config rules sessions now view (find (maps_inside view.proto view.src) sessions) ≡ Ok outside
        → begun_out config rules sessions now view ≡ counted config rules sessions now view (outward (new outside))
    begun-at outside h = ap (λ r. then_with r (λ o. counted config rules sessions now view (outward (new o)))) h

    -- there is room for it, or not
    module _ (held : List (Option Session)) (is : sessions ≡ listing held) (outside : Endpoint) (h : outside_for config rules sessions now view (find (maps_inside view.proto view.src) sessions) ≡ Ok outside) where
      counts : length (put (new outside) sessions) ≡ count_by is_some held + 1
      counts = put-more (new outside) sessions (opened outside h).apart ∙ ap (λ (xs : List Session). length xs + 1) is ∙ ap (λ n. n + 1) (length-listing held)

      pub no_room : count_by is_some held ≡ 65536 → Plans config.external held now (Err TableFull) (begun_out config rules sessions now view)
      no_room many =
          let full : nat_lt 65536 (length (put (new outside) sessions)) ≡ true = lt-ltb _ _ (omega (arith, many, counts)) in
          subst (Plans config.external held now (Err TableFull)) (sym (begun-at outside h ∙ ap (λ b. if b then Err TableFull else Ok (outward (new outside))) full)) refl

      pub room_left : count_by is_some held ≢ 65536 → (t : Session) → t ≡ new outside → Plans config.external held now (Ok (plan_begun t)) (begun_out config rules sessions now view)
      room_left few t t_is =
          let most : count_by is_some held ≤ 65536 = omega (arith, sound.at_most, ap (λ (xs : List Session). length xs) is, length-listing held) in
          let room : nat_lt 65536 (length (put (new outside) sessions)) ≡ false = le-ltb _ _ (omega (arith, few, most, counts)) in
          let may = may_begin config held now (new outside) (subst (λ (xs : List Session). Opened config xs (new outside)) is (opened outside h)) refl refl few in
          subst (λ (u : Session). Plans config.external held now (Ok (plan_begun u)) (begun_out config rules sessions now view)) (sym t_is)
          (subst (Plans config.external held now (Ok (plan_begun (new outside)))) (sym (begun-at outside h ∙ ap (λ b. if b then Err TableFull else Ok (outward (new outside))) room))
          (record { sessions = (new outside, (refl, may), refl); src = refl; dst = refl; iface = refl }))

    fine_begun : 0 < view.dst.port → IsFine config sessions now (begun_out config rules sessions now view)
    fine_begun remote_port = fine-then config sessions now (outside_for config rules sessions now view (find (maps_inside view.proto view.src) sessions)) (λ o. counted config rules sessions now view (outward (new o))) (λ outside e.
        let o = opened outside e in
        fine-one config sessions sound now (new outside) outside view.dst Wan o.apart
        (record { inside = is_near; outside = o.outside; inside_port = near_port; outside_port = o.port; remote_port = remote_port }) (omega arith) refl)

module _ (config : Config) (rules : Spelled) (sessions : List Session) (now : ℕ) (view : View) (is_one : is_config config ≡ true) (sound : AreSound config sessions) (bounded : KeepBounds config rules)
    (is_near : is_inside config view.src.addr ≡ true) (near_port : 0 < view.src.port) (remote_port : 0 < view.dst.port) where
  fine_by : (found : Option Session) → find (has_inside view.proto view.src view.dst) sessions ≡ found → IsFine config sessions now (out_by config rules sessions now view found)
  fine_by (Some s) e =
      let t = passed_by s Inside view.flags now in
      fine-filtered config sessions now (forward_verdict config (facts_of config rules sessions now view Lan (Some Wan) view.src view.dst (connection_of s Inside view.flags)) rules) (Ok (outward t))
      (one-joins config sessions now t (passed-joins config sessions sound s Inside view.flags now (find-In (has_inside view.proto view.src view.dst) sessions s e).0))
  fine_by None e =
      let way = begun_out config rules sessions now view in
      fine-unless config sessions now (needs_session view) NoSession (forwarded config rules sessions now view Lan Wan view.src view.dst New way) (λ begins.
      fine-filtered config sessions now (forward_verdict config (facts_of config rules sessions now view Lan (Some Wan) view.src view.dst New) rules) way
      (fine_begun config rules bounded sessions now view is_one sound is_near near_port e remote_port))

  -- what a packet on its way out comes to may join the sessions
  pub fine-out : IsFine config sessions now (out_leg config rules sessions now view)
  fine-out = fine_by (find (has_inside view.proto view.src view.dst) sessions) refl
