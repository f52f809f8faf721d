-- At which outside endpoint a new session is.
use Rattle.std.proofs.Common.{◌≡◌, ◌≢◌, ◌⊎◌, ℕ, ◌<◌, ◌^◌, Bool, true, cond, List, [], ◌∷◌, ◌++◌, Contains, Option, Some, None, Ok, IfOk, IsTrue, refl, sym, ap, ◌∙◌, subst, inl, inr}
use Rattle.std.specs.Prelude.{find}
use Rattle.std.specs.List.{AllByRecursion}
use Rattle.std.specs.Option.{option_map, unwrap_or}
use Rattle.std.proofs.lemmas.Bool.{false_from_ne_true}
use Rattle.std.proofs.lemmas.Option.{none-some, same_Some}
use Rattle.packet.specs.Config.{Config, Pool}
use Rattle.packet.specs.declared.endpoint.Endpoint.{Endpoint}
use Rattle.packet.specs.declared.endpoint.Iface.TheVariants.{Lan, Wan}
use Rattle.packet.specs.declared.endpoint.Proto.{Proto}
use Rattle.packet.specs.declared.view.View.{View}
use Rattle.portpick.specs.Choice.{AllTaken, IsAlike, port_choice}
use Rattle.portpick.specs.Pool.{choice_by, endpoint, first_port, near_choice, or_else, pool_choice, port_at}
use Rattle.portpick.proofs.Chosen.{choice-some, determined, nearest-alike}
use Rattle.portpick.proofs.Pooled.{choice_is_listed}
use Rattle.ruletree.specs.declared.tree.Spelled.{Spelled}
use Rattle.sessions.specs.Listing.{has_inside}
use Rattle.sessions.specs.declared.session.Session.{Session}
use Rattle.verdict.specs.Hooks.{postrouting_verdict}
use Rattle.verdict.specs.declared.facts.State.TheVariants.{New}
use Rattle.verdict.specs.declared.hook.Source.{Source}
use Rattle.verdict.specs.declared.hook.Source.TheVariants as source
use Rattle.hairpin.specs.Legs.{Passage, facts_of, hairpin_leg, is_taken, maps_inside, out_leg, outside_by_rules, outside_for, outside_near, uses_in}
use Rattle.hairpin.specs.declared.cause.Cause.TheVariants.{Rule}
use Rattle.hairpin.proofs.Apart.{err-ok, find-In, mapped-some, maps-parts, port-ok, same_Ok, taken-by, taken-from}
use Rattle.hairpin.specs.Paired.{IsAt}
use Rattle.hairpin.proofs.Pairs.{hairpin, masquerade, uses-is}
use Rattle.machine.specs.Hosts.{IsOccupied}
use Rattle.machine.proofs.Passages.{FirstBegins, FirstGoesOn, hairpin-told, ok-by, out-ways}

-- ---- among the ports of an address

module _ (sessions : List Session) (proto : Proto) (port : ℕ) (some : 0 < port) (fits : port < 2 ^ 16) where
  abbrev Keeps : Endpoint → Type 0
  Keeps outside = IsAlike port outside.port × ¬ IsOccupied sessions proto outside.addr outside.port

  keeps-choice : (addr chosen : ℕ) → port_choice (is_taken sessions proto addr) port ≡ Some chosen → Keeps (endpoint addr chosen)
  keeps-choice addr chosen is =
      let near = choice-some (is_taken sessions proto addr) port some fits chosen is in (
        nearest-alike port some fits (λ q. IsTrue (is_taken sessions proto addr q)) chosen near,
        (λ held. near.is_free (taken-from sessions proto addr chosen held.0 held.1 held.2 held.3)),
      )

  pub keeps-at : (addr : ℕ) (outside : Endpoint) → port_at (is_taken sessions proto) port addr ≡ Some outside → Keeps outside
  keeps-at addr outside is =
      let q = mapped-some (endpoint addr) (port_choice (is_taken sessions proto addr) port) outside is in
      subst Keeps q.2 (keeps-choice addr q.0 q.1)

  pub keeps-pool : (uses : ℕ → Bool) (pool : Pool) (outside : Endpoint) → pool_choice uses (is_taken sessions proto) pool port ≡ Some outside → Keeps outside
  keeps-pool uses pool outside is = keeps-choice outside.addr outside.port (choice_is_listed uses (is_taken sessions proto) pool port outside is).1

  pub keeps-near : (uses : ℕ → Bool) (pool : Pool) (far : ℕ) (outside : Endpoint) → near_choice uses (is_taken sessions proto) pool far port ≡ Some outside → Keeps outside
  unfolding near_choice
  keeps-near uses pool far outside is = keeps-at (unwrap_or (find uses pool) far) outside is

  -- ---- among the addresses

  abbrev IsFull : ℕ → Type 0
  IsFull addr = AllTaken (IsOccupied sessions proto addr) port

  pub no_choice : (addr : ℕ) (o : Option ℕ) → option_map (endpoint addr) o ≡ None → o ≡ None
  no_choice addr None e = refl
  no_choice addr (Some q) e = absurd (none-some (endpoint addr q) (sym e))

  pub full-at : (addr : ℕ) → port_at (is_taken sessions proto) port addr ≡ None → IsFull addr
  full-at addr none = λ other alike. taken-by sessions proto addr other
      ((determined (is_taken sessions proto addr) port some fits).none.0 (no_choice addr (port_choice (is_taken sessions proto addr) port) none) other alike)

  -- the pool is full up to what is given
  abbrev GivesBehind : Pool → ℕ → Type 0
  GivesBehind pool addr = (before behind : Pool) × (pool ≡ before ++ addr ∷ behind) × AllByRecursion IsFull before

  first-or : (addr : ℕ) (pool : Pool) (e : Endpoint) (o : Option Endpoint) → port_at (is_taken sessions proto) port addr ≡ o → or_else o (first_port (is_taken sessions proto) port pool) ≡ Some e
      → (first_port (is_taken sessions proto) port pool ≡ Some e → GivesBehind pool e.addr) → GivesBehind (addr ∷ pool) e.addr
  first-or addr pool e (Some x) here h more =
      let q = mapped-some (endpoint addr) (port_choice (is_taken sessions proto addr) port) x here in
      ([], pool, ap (λ (y : Endpoint). y.addr ∷ pool) (q.2 ∙ same_Some x e h), tt)
  first-or addr pool e None here h more =
      let rest = more h in
      (addr ∷ rest.0, rest.1, ap (λ (p : Pool). addr ∷ p) rest.2, (full-at addr here, rest.3))

  first-full : (pool : Pool) (e : Endpoint) → first_port (is_taken sessions proto) port pool ≡ Some e → GivesBehind pool e.addr
  first-full [] e h = absurd (none-some e h)
  first-full (addr ∷ pool) e h = first-or addr pool e (port_at (is_taken sessions proto) port addr) refl h (first-full pool e)

  pub pool-full : (uses : ℕ → Bool) (pool : Pool) (e : Endpoint) → find uses pool ≡ None → pool_choice uses (is_taken sessions proto) pool port ≡ Some e → GivesBehind pool e.addr
  unfolding pool_choice
  pool-full uses pool e none h = first-full pool e (sym (ap (choice_by (is_taken sessions proto) port pool) none) ∙ h)

nowhere : (p : ℕ → Bool) (pool : Pool) → ((addr : ℕ) → p addr ≡ true → ⊥) → find p pool ≡ None
nowhere p [] none = refl
nowhere p (addr ∷ pool) none = ap (λ b. cond b (Some addr) (find p pool)) (false_from_ne_true _ (none addr)) ∙ nowhere p pool none

-- ---- where a packet begins a session

module _ (config : Config) (rules : Spelled) (sessions : List Session) (now : ℕ) (view : View) (none : find (has_inside view.proto view.src view.dst) sessions ≡ None) where
  -- what holds of the outside endpoint of a packet that goes out
  begins-out : (P : Endpoint → Type 0)
      → ((outside : Endpoint) → outside_for config rules sessions now view (find (maps_inside view.proto view.src) sessions) ≡ Ok outside → P outside)
      → IfOk (out_leg config rules sessions now view) (λ passage. P passage.src)
  begins-out P begins = out-ways config rules sessions now view (λ passage. P passage.src) (λ s e. absurd (none-some s (sym none ∙ e))) begins

  -- and of one that hairpins
  first-new : (P : Endpoint → Type 0) → ((outside : Endpoint) → outside_near config rules sessions now view (find (maps_inside view.proto view.src) sessions) ≡ Ok outside → P outside)
      → (first : Session) → FirstGoesOn config rules sessions now view first ⊎ FirstBegins config rules sessions now view first → P first.outside
  first-new P begins first (inl on) = absurd (none-some on.0 (sym none ∙ on.1))
  first-new P begins first (inr begun) = subst (λ (s : Session). P s.outside) (sym begun.2.2) (begins begun.2.0 begun.2.1)

  begins-hairpin : (P : Endpoint → Type 0) → ((outside : Endpoint) → outside_near config rules sessions now view (find (maps_inside view.proto view.src) sessions) ≡ Ok outside → P outside)
      → IfOk (hairpin_leg config rules sessions now view) (λ passage. P passage.src)
  begins-hairpin P begins = ok-by (λ (p : Passage). P p.src) (hairpin_leg config rules sessions now view) (λ p h.
      let both = hairpin-told config rules sessions now view p h in
      subst (λ (q : Passage). P q.src) (sym both.are) (first-new P begins both.first both.by_first))

  abbrev how : Source
  how = postrouting_verdict config (facts_of config rules sessions now view Lan (Some Wan) view.src view.dst New) rules

  -- a mapping of the packet's source is one of its host
  mapped-at : (m : Session) → find (maps_inside view.proto view.src) sessions ≡ Some m → IsAt sessions view.src.addr m.outside.addr
  mapped-at m e =
      let is = find-In (maps_inside view.proto view.src) sessions m e in
      let parts = maps-parts view.proto view.src m is.1 in
      (m, is.0, (parts.0, ap (λ (x : Endpoint). x.addr) parts.2), refl)

  module _ (addr : ℕ) (at : IsAt sessions view.src.addr addr) (listed : Contains config.external addr) where
    paired-for : how ≡ source.Masquerade → (found : Option Session) → find (maps_inside view.proto view.src) sessions ≡ found → (outside : Endpoint)
        → outside_for config rules sessions now view found ≡ Ok outside → IsAt sessions view.src.addr outside.addr
    paired-for is (Some m) e outside h = subst (λ (x : Endpoint). IsAt sessions view.src.addr x.addr) (same_Ok m.outside outside h) (mapped-at m e)
    paired-for is None e outside h =
        let taken = is_taken sessions view.proto in
        let choice = port-ok (pool_choice (uses_in sessions view.src.addr) taken config.external view.src.port) outside (sym (ap (outside_by_rules config rules sessions now view) is) ∙ h) in
        masquerade config.external sessions taken view.src.addr view.src.port addr outside at listed choice

    pub out-paired : how ≡ source.Masquerade → IfOk (out_leg config rules sessions now view) (λ passage. IsAt sessions view.src.addr passage.src.addr)
    out-paired is = begins-out (λ x. IsAt sessions view.src.addr x.addr) (paired-for is (find (maps_inside view.proto view.src) sessions) refl)

    paired-near : (found : Option Session) → find (maps_inside view.proto view.src) sessions ≡ found → (outside : Endpoint)
        → outside_near config rules sessions now view found ≡ Ok outside → IsAt sessions view.src.addr outside.addr
    paired-near (Some m) e outside h = subst (λ (x : Endpoint). IsAt sessions view.src.addr x.addr) (same_Ok m.outside outside h) (mapped-at m e)
    paired-near None e outside h =
        let taken = is_taken sessions view.proto in
        let choice = port-ok (near_choice (uses_in sessions view.src.addr) taken config.external view.dst.addr view.src.port) outside h in
        hairpin config.external sessions taken view.src.addr view.dst.addr view.src.port addr outside at listed choice

    pub hairpin-paired : IfOk (hairpin_leg config rules sessions now view) (λ passage. IsAt sessions view.src.addr passage.src.addr)
    hairpin-paired = begins-hairpin (λ x. IsAt sessions view.src.addr x.addr) (paired-near (find (maps_inside view.proto view.src) sessions) refl)

  module _ (some : 0 < view.src.port) (fits : view.src.port < 2 ^ 16) (unmapped : find (maps_inside view.proto view.src) sessions ≡ None) where
    abbrev KeepsClass : Endpoint → Type 0
    KeepsClass outside = outside ≢ view.src → IsAlike view.src.port outside.port × ¬ IsOccupied sessions view.proto outside.addr outside.port

    class-source : (s : Source) (outside : Endpoint) → outside_by_rules config rules sessions now view s ≡ Ok outside → KeepsClass outside
    class-source source.None outside h = λ away. absurd (away (sym (same_Ok view.src outside h)))
    class-source (source.From addr) outside h =
        λ away. keeps-at sessions view.proto view.src.port some fits addr outside (port-ok (port_at (is_taken sessions view.proto) view.src.port addr) outside h)
    class-source source.Masquerade outside h = λ away.
        let uses = uses_in sessions view.src.addr in
        keeps-pool sessions view.proto view.src.port some fits uses config.external outside (port-ok (pool_choice uses (is_taken sessions view.proto) config.external view.src.port) outside h)
    class-source source.Drop outside h = absurd (err-ok Rule outside h)

    pub out-class : IfOk (out_leg config rules sessions now view) (λ passage. KeepsClass passage.src)
    out-class = begins-out KeepsClass (λ outside h. class-source how outside (sym (ap (outside_for config rules sessions now view) unmapped) ∙ h))

    pub hairpin-class : IfOk (hairpin_leg config rules sessions now view) (λ passage. KeepsClass passage.src)
    hairpin-class = begins-hairpin KeepsClass (λ outside h away.
        let uses = uses_in sessions view.src.addr in
        keeps-near sessions view.proto view.src.port some fits uses config.external view.dst.addr outside
        (port-ok (near_choice uses (is_taken sessions view.proto) config.external view.dst.addr view.src.port) outside (sym (ap (outside_near config rules sessions now view) unmapped) ∙ h)))

  -- a host that is nowhere
  module _ (some : 0 < view.src.port) (fits : view.src.port < 2 ^ 16) (away : (addr : ℕ) → ¬ IsAt sessions view.src.addr addr) (is : how ≡ source.Masquerade) where
    abbrev FullBefore : Endpoint → Type 0
    FullBefore outside = (before behind : Pool) × (config.external ≡ before ++ outside.addr ∷ behind)
        × AllByRecursion (λ addr. AllTaken (IsOccupied sessions view.proto addr) view.src.port) before

    full-for : (found : Option Session) → find (maps_inside view.proto view.src) sessions ≡ found → (outside : Endpoint) → outside_for config rules sessions now view found ≡ Ok outside → FullBefore outside
    full-for (Some m) e outside h = absurd (away m.outside.addr (mapped-at m e))
    full-for None e outside h =
        let uses = uses_in sessions view.src.addr in
        let choice = port-ok (pool_choice uses (is_taken sessions view.proto) config.external view.src.port) outside (sym (ap (outside_by_rules config rules sessions now view) is) ∙ h) in
        pool-full sessions view.proto view.src.port some fits uses config.external outside (nowhere uses config.external (λ addr used. away addr (uses-is sessions view.src.addr addr used))) choice

    pub out-full : IfOk (out_leg config rules sessions now view) (λ passage. FullBefore passage.src)
    out-full = begins-out FullBefore (full-for (find (maps_inside view.proto view.src) sessions) refl)
