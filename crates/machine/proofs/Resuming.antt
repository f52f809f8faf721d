-- Sessions that take their places again, one after the other.
use Rattle.std.proofs.Common.{◌≡◌, ℕ, ◌<◌, ◌≤◌, List, [], ◌∷◌, ◌++◌, length, length-append, drop, map, Contains, Option, true, false, cond, not, append_assoc, refl, sym, ap, subst, ◌∙◌, inl, inr, arith}
use Rattle.std.proofs.lemmas.Bool.{false≢true, false_from_ne_true, lt-ltb}
use Rattle.std.proofs.lemmas.List.{append-nil, drop_all}
use Rattle.packet.specs.Config.{Config, Pool}
use Rattle.packet.specs.declared.endpoint.Proto.TheVariants.{Tcp}
use Rattle.packet.specs.Same.{same_endpoint}
use Rattle.packet.proofs.SameLemmas.{same_endpoint-itself}
use Rattle.ruletree.specs.declared.tree.Spelled.{Spelled}
use Rattle.ruletext.specs.Texts.{Loads}
use Rattle.sessions.specs.declared.session.Session.{Session}
use Rattle.sessions.specs.declared.session.Opener.TheVariants.{Inside}
use Rattle.sessions.specs.Listing.{In, Rises, below, insert, listing, put, same_flow}
use Rattle.sessions.specs.Sound.{AreSound}
use Rattle.sessions.specs.Stilled.{at_moment}
use Rattle.sessions.specs.Table.{Clash}
use Rattle.sessions.proofs.Puts.{length-listing}
use Rattle.sessions.proofs.Sets.{below-itself, below-trans, listing-In}
use Rattle.sessions.proofs.Stilled.{last-moved, sound-moved}
use Rattle.hairpin.proofs.Soundness.{filter-all, other-flow}
use Rattle.hairpin.specs.Plans.{MayBegin}
use Rattle.durable.specs.Entering.{IsRuleset}
use Rattle.machine.specs.Core.{IsCore}
use Rattle.machine.specs.Flows.{Flows, IsNoneLater, MayJoin}
use Rattle.machine.proofs.Lasting.{alive-last}
use Rattle.machine.specs.Sound.{IsInForce}

-- ---- a list around one of its members

In-middle : (xs : List Session) (s : Session) (ys : List Session) → In s (xs ++ s ∷ ys)
In-middle [] s ys = inl refl
In-middle (x ∷ xs) s ys = inr (In-middle xs s ys)

In-front : (xs ys : List Session) (t : Session) → In t xs → In t (xs ++ ys)
In-front [] ys t not_in = absurd not_in
In-front (x ∷ xs) ys t (inl e) = inl e
In-front (x ∷ xs) ys t (inr is) = inr (In-front xs ys t is)

-- what stands before a member of a rising list comes before it
front-below : (xs : List Session) (s : Session) (ys : List Session) → Rises (xs ++ s ∷ ys) → (t : Session) → In t xs → below t s ≡ true
front-below [] s ys rises t not_in = absurd not_in
front-below (x ∷ xs) s ys rises t (inl e) = subst (λ u. below u s ≡ true) (sym e) (rises.0 s (In-middle xs s ys))
front-below (x ∷ xs) s ys rises t (inr is) = front-below xs s ys rises.1 t is

insert-last : (s : Session) (xs : List Session) → ((t : Session) → In t xs → below t s ≡ true) → insert s xs ≡ xs ++ s ∷ []
insert-last s [] all = refl
insert-last s (x ∷ xs) all =
    let not_so : below s x ≡ false = false_from_ne_true _ (λ so. below-itself s (below-trans s x s so (all x (inl refl)))) in
    ap (λ b. cond b (s ∷ x ∷ xs) (x ∷ insert s xs)) not_so ∙ ap (λ (l : List Session). x ∷ l) (insert-last s xs (λ t is. all t (inr is)))

-- ---- the front of sound sessions is held, and the next one joins it

module _ (config : Config) (xs : List Session) (s : Session) (ys : List Session) (sound : AreSound config (xs ++ s ∷ ys)) where
  apart-front : (t : Session) → In t xs → ¬ Clash s t
  apart-front t is = sound.apart s t (In-middle xs s ys) (In-front xs (s ∷ ys) t is)
      (λ e. below-itself s (subst (λ u. below u s ≡ true) (sym e) (front-below xs s ys sound.rises t is)))

  pub put-next : put s xs ≡ xs ++ s ∷ []
  put-next =
      ap (λ (l : List Session). insert s l) (filter-all (λ t. not (same_flow s t)) xs (λ t is. ap not (other-flow s xs apart-front t is)))
      ∙ insert-last s xs (front-below xs s ys sound.rises)

pub joins-next : (config : Config) (external : Pool) (held : List (Option Session)) (s : Session) (ys : List Session) → external ≡ config.external
    → AreSound config (listing held ++ s ∷ ys) → MayJoin external held s
joins-next config external held s ys at sound =
    let front = listing held in
    let here = In-middle front s ys in
    let placed = sound.placed s here in
    record {
      seen = sound.seen s here;
      apart = λ any. apart-front config front s ys sound any.held (listing-In held any.held any.place any.is_held) any.clash;
      few = λ full. absurd (omega (arith, sound.at_most, length-append front (s ∷ ys), length-listing held, full));
      placed = λ away. elim placed.outside [
        | inl same ↦ absurd (false≢true (sym away ∙ subst (λ e. same_endpoint s.inside e ≡ true) (sym same) (same_endpoint-itself s.inside)))
        | inr listed ↦ (subst (λ (pool : Pool). Contains pool s.outside.addr) (sym at) listed, placed.outside_port)
      ];
    }

-- ---- the loop

-- these are held, and those are still to be
abbrev pub ArePlaced : ℕ → List Session → List (Option Session) → List Session → Type 0
ArePlaced moment sessions held rest = listing held ++ map (at_moment moment) rest ≡ map (at_moment moment) sessions

-- all that are held had their last packets at the moment
pub latest-placed : (moment : ℕ) (sessions : List Session) (held : List (Option Session)) (rest : List Session) → ArePlaced moment sessions held rest → IsNoneLater held moment
latest-placed moment sessions held rest are slot s is =
    let last = last-moved moment sessions s (subst (In s) are (In-front (listing held) (map (at_moment moment) rest) s (listing-In held s slot is))) in
    omega (arith, last)

module _ (config : Config) (moment : ℕ) (sessions : List Session) (sound : AreSound config sessions) (held : List (Option Session)) (s : Session) (rest : List Session)
    (are : ArePlaced moment sessions held (s ∷ rest)) where
  sound-placed : AreSound config (listing held ++ at_moment moment s ∷ map (at_moment moment) rest)
  sound-placed = subst (AreSound config) (sym are) (sound-moved config moment sessions sound)

  pub joins-placed : (external : Pool) → external ≡ config.external → MayJoin external held (at_moment moment s)
  joins-placed external at = joins-next config external held (at_moment moment s) (map (at_moment moment) rest) at sound-placed

  pub placed-next : (later : List (Option Session)) → listing later ≡ put (at_moment moment s) (listing held) → ArePlaced moment sessions later rest
  placed-next later put_in =
      let more = map (at_moment moment) rest in
      ap (λ (l : List Session). l ++ more) (put_in ∙ put-next config (listing held) (at_moment moment s) more sound-placed)
      ∙ append_assoc (listing held) (at_moment moment s ∷ []) more
      ∙ are

pub placed-all : (moment : ℕ) (sessions : List Session) (held : List (Option Session)) (i : ℕ) → length sessions ≤ i → ArePlaced moment sessions held (drop i sessions)
    → listing held ≡ map (at_moment moment) sessions
placed-all moment sessions held i le are = sym (append-nil (listing held)) ∙ subst (ArePlaced moment sessions held) (drop_all i sessions le) are

-- the session that stands for none, where a list has no such place
abbrev pub nobody : Session
nobody = record { proto = Tcp; inside = record { addr = 0; port = 0 }; outside = record { addr = 0; port = 0 }; remote = record { addr = 0; port = 0 }; opener = Inside; seen = 0; last = 0 }

-- a session that may begin now may join
pub begun-joins : (external : Pool) (held : List (Option Session)) (now : ℕ) (s : Session) → MayBegin external held now s → MayJoin external held s
begun-joins external held now s may = record { seen = omega (arith, may.unseen); apart = may.apart; few = may.few; placed = may.placed }

-- ---- the core

pub resumed : (config : Config) (text : List ℕ) (rules : Spelled) (flows : Flows) (moment : ℕ) (sessions : List Session) → AreSound config sessions
    → flows.translations.external ≡ config.external → listing flows.table.held ≡ map (at_moment moment) sessions → IsInForce config text rules → IsCore config text rules flows moment
resumed config text rules flows moment sessions sound external listed in_force = record {
  external = external;
  sound = record {
    sessions = subst (AreSound config) (sym listed) (sound-moved config moment sessions sound);
    latest = λ s is. let last = last-moved moment sessions s (subst (In s) listed is) in omega (arith, last);
    in_force = in_force;
  };
  live = λ s is. lt-ltb _ _ (alive-last moment s (last-moved moment sessions s (subst (In s) listed is)));
}

-- ---- the text

-- a text that is there loads
pub some-loads : (config : Config) (text : List ℕ) → 0 < length text → IsRuleset config text → ((rules : Spelled) → ¬ Loads config text rules) → ⊥
some-loads config text some (inl none) refused = let few : length text ≡ 0 = ap length none in omega (arith, some, few)
some-loads config text some (inr loaded) refused = refused loaded.0 loaded.1
