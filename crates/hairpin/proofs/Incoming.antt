-- What a packet from a remote endpoint comes to, from what is looked up, and that it may join the sessions.
use Rattle.std.proofs.Common.{◌≡◌, ◌≢◌, ◌⊎◌, ℕ, ◌+◌, ◌<◌, ◌≤◌, List, length, Contains, Option, Some, None, Result, Ok, Err, count_by, is_some, Bool, true, false, nat_lt, if◌then◌else◌, refl, sym, ap, ◌∙◌, subst, inl, inr, arith}
use Rattle.std.specs.Prelude.{find}
use Rattle.std.proofs.lemmas.Bool.{cases_Bool, false≢true, le-ltb, lt-ltb}
use Rattle.packet.specs.Config.{Config, is_config, is_inside}
use Rattle.packet.specs.declared.endpoint.Endpoint.{Endpoint}
use Rattle.packet.specs.declared.endpoint.Iface.TheVariants.{Lan, Wan}
use Rattle.packet.specs.declared.view.View.{View}
use Rattle.ruletree.specs.declared.tree.Spelled.{Spelled}
use Rattle.sessions.specs.Listing.{clashes, has_outside, listing, put}
use Rattle.sessions.specs.Table.{AnyClash}
use Rattle.sessions.specs.declared.session.Change.TheVariants.{Begin}
use Rattle.sessions.specs.declared.session.Opener.TheVariants.{Remote}
use Rattle.sessions.specs.declared.session.Session.{Session}
use Rattle.sessions.proofs.Clashing.{apart-from}
use Rattle.sessions.proofs.Puts.{length-listing}
use Rattle.verdict.specs.Hooks.{forward_verdict, prerouting_verdict}
use Rattle.verdict.specs.declared.facts.State.TheVariants.{New}
use Rattle.verdict.specs.declared.hook.Destination.{Destination}
use Rattle.verdict.specs.declared.hook.Destination.TheVariants as destination
use Rattle.verdict.specs.declared.hook.Forwarding.{Forwarding}
use Rattle.verdict.specs.declared.hook.Forwarding.TheVariants as forwarding
use Rattle.hairpin.specs.Legs.{Passage, begun_in, by_mapping, counted, facts_of, in_by, in_leg, inside_by_rules, inside_for, inward, maps_outside, needs_session, new_session, passed_by, connection_of, then_with, unless_dropped}
use Rattle.hairpin.specs.Plans.{MayBegin, Plans}
use Rattle.hairpin.specs.KeepBounds.{KeepBounds}
use Rattle.sessions.specs.Sound.{AreSound, IsPlaced}
use Rattle.hairpin.specs.declared.cause.Cause.{Cause}
use Rattle.hairpin.specs.declared.cause.Cause.TheVariants.{Clash, NoSession, Rule, TableFull}
use Rattle.hairpin.proofs.Apart.{find-In, same_Ok}
use Rattle.hairpin.proofs.Clashing.{any_found, no_clash, none_found}
use Rattle.hairpin.proofs.Doubling.{gone, inside-placed}
use Rattle.hairpin.proofs.Soundness.{IsFine, fine-filtered, fine-one, fine-then, fine-unless, one-joins, passed-joins, put-more}

module _ (config : Config) (rules : Spelled) (sessions : List Session) (now : ℕ) (view : View) where
  -- what the rules and the mapping of the destination give
  abbrev given : Destination → Result Endpoint Cause
  given verdict = inside_by_rules config rules sessions now view sessions view.src.addr (find (maps_outside view.proto view.dst) sessions) verdict

  -- the inside endpoint, where no rule translates
  pub inside-mapped : is_inside config view.dst.addr ≡ false → prerouting_verdict config (facts_of config rules sessions now view Wan None view.src view.dst New) rules ≡ destination.None
      → inside_for config rules sessions now view ≡ by_mapping config.filtering sessions view.src.addr (find (maps_outside view.proto view.dst) sessions)
  inside-mapped far asked =
      let verdict = prerouting_verdict config (facts_of config rules sessions now view Wan None view.src view.dst New) rules in
      ap (λ b. if b then Ok view.dst else given verdict) far ∙ ap given asked

  pub inside-near : is_inside config view.dst.addr ≡ true → inside_for config rules sessions now view ≡ Ok view.dst
  inside-near near = ap (λ b. if b then Ok view.dst else given (prerouting_verdict config (facts_of config rules sessions now view Wan None view.src view.dst New) rules)) near

  pub is-near : (inside : Endpoint) → is_inside config view.dst.addr ≡ true → Ok inside ≡ inside_for config rules sessions now view → inside ≡ view.dst
  is-near inside near is = same_Ok inside view.dst (is ∙ inside-near near)

  -- a packet that has no session, and needs none
  pub in-new : find (has_outside view.proto view.dst view.src) sessions ≡ None → needs_session view ≡ false
      → (r : Result Endpoint Cause) → inside_for config rules sessions now view ≡ r → in_leg config rules sessions now view ≡ then_with r (begun_in config rules sessions now view)
  in-new none needs r is =
      ap (in_by config rules sessions now view) none ∙ ap (λ b. if b then Err NoSession else then_with (inside_for config rules sessions now view) (begun_in config rules sessions now view)) needs
      ∙ ap (λ way. then_with way (begun_in config rules sessions now view)) is

-- a session that begins to this inside endpoint
module _ (config : Config) (rules : Spelled) (held : List (Option Session)) (now : ℕ) (view : View) (inside : Endpoint) (t : Session) (is : t ≡ new_session config rules (listing held) now view Remote inside view.dst view.src) where
  abbrev filtered : Forwarding
  filtered = forward_verdict config (facts_of config rules (listing held) now view Wan (Some Lan) view.src inside New) rules

  abbrev way : Result Passage Cause
  way = begun_in config rules (listing held) now view inside

  abbrev behind : Session → Result Passage Cause
  behind u = unless_dropped filtered (counted config rules (listing held) now view (inward u))

  asked : (b : Bool) → is_some (find (clashes t) (listing held)) ≡ b → way ≡ (if b then Err Clash else behind t)
  asked b e = ap (λ (u : Session). if is_some (find (clashes u) (listing held)) then Err Clash else behind u) (sym is) ∙ ap (λ c. if c then Err Clash else behind t) e

  pub begun-clash : AnyClash held t → Plans config.external held now (Err Clash) way
  begun-clash any = subst (Plans config.external held now (Err Clash)) (sym (asked true (any_found held t any))) refl

  module _ (apart : ¬ AnyClash held t) where
    decided : (d : Forwarding) → filtered ≡ d → way ≡ unless_dropped d (counted config rules (listing held) now view (inward t))
    decided d e = asked false (ap is_some (none_found held t apart)) ∙ ap (λ f. unless_dropped f (counted config rules (listing held) now view (inward t))) e

    pub begun-dropped : filtered ≡ forwarding.Drop → Plans config.external held now (Err Rule) way
    begun-dropped e = subst (Plans config.external held now (Err Rule)) (sym (decided forwarding.Drop e)) refl

    counts : length (put t (listing held)) ≡ count_by is_some held + 1
    counts = put-more t (listing held) (no_clash t (listing held) (none_found held t apart)) ∙ ap (λ n. n + 1) (length-listing held)

    pub begun-full : filtered ≡ forwarding.Pass → count_by is_some held ≡ 65536 → Plans config.external held now (Err TableFull) way
    begun-full e full =
        let many : nat_lt 65536 (length (put t (listing held))) ≡ true = lt-ltb 65536 (length (put t (listing held))) (omega (arith, counts, full)) in
        subst (Plans config.external held now (Err TableFull)) (sym (decided forwarding.Pass e ∙ ap (λ b. if b then Err TableFull else Ok (inward t)) many)) refl

    pub begun-plans : filtered ≡ forwarding.Pass → length (listing held) ≤ 65536 → count_by is_some held ≢ 65536 → (inside ≡ view.dst) ⊎ (Contains config.external view.dst.addr × (0 < view.dst.port))
        → Plans config.external held now (Ok (record { first = Begin t; second = None; src = view.src; dst = inside; iface = Lan })) way
    begun-plans e most few placed =
        let same = length-listing held in
        let below : count_by is_some held < 65536 = omega (arith, same, most, few) in
        let room : nat_lt 65536 (length (put t (listing held))) ≡ false = le-ltb 65536 (length (put t (listing held))) (omega (arith, counts, below)) in
        let may : MayBegin config.external held now t = subst (MayBegin config.external held now) (sym is) (record {
          unseen = refl;
          last = refl;
          apart = subst (λ (u : Session). ¬ AnyClash held u) is apart;
          few = few;
          placed = λ away. elim placed [ inl same ↦ absurd (apart-from inside view.dst away same) | inr there ↦ there ];
        }) in
        subst (Plans config.external held now (Ok (record { first = Begin t; second = None; src = view.src; dst = inside; iface = Lan }))) (sym (decided forwarding.Pass e ∙ ap (λ b. if b then Err TableFull else Ok (inward t)) room))
        (record { sessions = (t, (refl, may), refl); src = ap (λ (u : Session). u.remote) (sym is); dst = ap (λ (u : Session). u.inside) (sym is); iface = refl })

-- ---- what the leg comes to may join sessions that are sound

module _ (config : Config) (rules : Spelled) (sessions : List Session) (now : ℕ) (view : View) (sound : AreSound config sessions) (bounded : KeepBounds config rules)
    (routed : (is_inside config view.dst.addr ≡ true) ⊎ Contains config.external view.dst.addr) (src_port : 0 < view.src.port) (dst_port : 0 < view.dst.port) where
  abbrev new : Endpoint → Session
  new inside = new_session config rules sessions now view Remote inside view.dst view.src

  -- an inside endpoint that is found is inside, and the destination stands for it
  found : (inside : Endpoint) → inside_for config rules sessions now view ≡ Ok inside → IsPlaced config (new inside)
  found inside is = elim (cases_Bool (is_inside config view.dst.addr)) [
    | inl near ↦ subst (λ (i : Endpoint). IsPlaced config (new i)) (sym (is-near config rules sessions now view inside near (sym is)))
        (record { inside = near; outside = inl refl; inside_port = dst_port; outside_port = dst_port; remote_port = src_port })
    | inr far ↦ elim routed [
      | inl near ↦ absurd (false≢true (sym far ∙ near))
      | inr away ↦
          let facts = facts_of config rules sessions now view Wan None view.src view.dst New in
          let by = given config rules sessions now view (prerouting_verdict config facts rules) in
          let there = inside-placed config rules sessions now view sessions sound bounded view.src.addr facts dst_port inside (prerouting_verdict config facts rules) refl (sym (ap (λ b. if b then Ok view.dst else by) far) ∙ is) in
          record { inside = there.0; outside = inr away; inside_port = there.1; outside_port = dst_port; remote_port = src_port }
    ]
  ]

  fine-begun : (inside : Endpoint) → IsPlaced config (new inside) → IsFine config sessions now (begun_in config rules sessions now view inside)
  fine-begun inside placed =
      let t = new inside in
      let filtered = forward_verdict config (facts_of config rules sessions now view Wan (Some Lan) view.src inside New) rules in
      let behind = counted config rules sessions now view (inward t) in
      fine-unless config sessions now (is_some (find (clashes t) sessions)) Clash (unless_dropped filtered behind) (λ free.
      let apart = no_clash t sessions (gone (find (clashes t) sessions) free) in
      fine-filtered config sessions now filtered behind (fine-one config sessions sound now t view.src inside Lan apart placed (omega arith) refl))

  fine-by : (o : Option Session) → find (has_outside view.proto view.dst view.src) sessions ≡ o → IsFine config sessions now (in_by config rules sessions now view o)
  fine-by (Some s) e =
      let t = passed_by s Remote view.flags now in
      fine-filtered config sessions now (forward_verdict config (facts_of config rules sessions now view Wan (Some Lan) view.src s.inside (connection_of s Remote view.flags)) rules) (Ok (inward t))
      (one-joins config sessions now t (passed-joins config sessions sound s Remote view.flags now (find-In (has_outside view.proto view.dst view.src) sessions s e).0))
  fine-by None e =
      let way = begun_in config rules sessions now view in
      fine-unless config sessions now (needs_session view) NoSession (then_with (inside_for config rules sessions now view) way) (λ free.
      fine-then config sessions now (inside_for config rules sessions now view) way (λ inside is. fine-begun inside (found inside is)))

pub fine-in : (config : Config) (rules : Spelled) (sessions : List Session) (now : ℕ) (view : View) → is_config config ≡ true → AreSound config sessions → KeepBounds config rules
    → (is_inside config view.dst.addr ≡ true) ⊎ Contains config.external view.dst.addr → 0 < view.src.port → 0 < view.dst.port → IsFine config sessions now (in_leg config rules sessions now view)
fine-in config rules sessions now view is_one sound bounded routed src_port dst_port =
    fine-by config rules sessions now view sound bounded routed src_port dst_port (find (has_outside view.proto view.dst view.src) sessions) refl
