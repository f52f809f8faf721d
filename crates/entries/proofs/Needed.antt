-- An event has entries just where one is needed.
use Rattle.std.proofs.Common.{◌≡◌, ◌⊎◌, inl, inr, ℕ, List, [], ◌∷◌, ◌++◌, Some, Result, Ok, Err, Bool, true, false, not, ◌==◌, if◌then◌else◌, refl, sym, ap, subst, ◌∙◌, map, arith}
use Rattle.std.specs.Prelude.{find}
use Rattle.std.specs.List.{filter}
use Rattle.std.proofs.lemmas.Bool.{and_from, not-true}
use Rattle.std.proofs.lemmas.Bool.Decides.{nat_tests}
use Rattle.packet.specs.Config.{Config, is_config}
use Rattle.packet.specs.Fields.{fields}
use Rattle.packet.specs.Route.{route}
use Rattle.packet.specs.declared.endpoint.Iface.{Iface}
use Rattle.packet.specs.declared.fault.Fault.{Fault}
use Rattle.packet.specs.declared.route.Route.{Route}
use Rattle.packet.specs.declared.route.RouteFault.{RouteFault}
use Rattle.packet.specs.declared.view.View.{View}
use Rattle.sessions.specs.declared.session.Opener.{Opener}
use Rattle.sessions.specs.declared.session.Opener.TheVariants.{Inside, Remote}
use Rattle.sessions.specs.declared.session.Session.{Session}
use Rattle.sessions.specs.Life.{alive, same_side}
use Rattle.sessions.specs.Listing.{key, In, Rises, put, same_flow}
use Rattle.sessions.specs.Stilled.{stilled}
use Rattle.sessions.proofs.Stilled.{In-map, map-In, one-of-key}
use Rattle.sessions.proofs.Puts.{find-is, flow-keys, keys-flow}
use Rattle.sessions.proofs.Sets.{below-itself, Rises-filter, In-filter, filter-In, insert-In}
use Rattle.hairpin.specs.Legs.{Passage, put_all}
use Rattle.sessions.specs.Sound.{AreSound}
use Rattle.hairpin.specs.declared.cause.Cause.{Cause}
use Rattle.hairpin.proofs.Soundness.{HaveOwnFlows, IsFine, JoinEach}
use Rattle.machine.specs.Judged.{Judged, IsRight}
use Rattle.machine.specs.Machine.{State, act, aged, later, leg, on_route, sent, step, with_fields}
use Rattle.machine.specs.Noted.{AreDistinct, AreEntriesOf, AreOver, EndsSome, HasEntry, TakesText, between, ends, goes_on, is_unchanged, lasting, entries_for, entries_for_all, entries_making, of_deed, of_fields, of_route, of_way}
use Rattle.machine.specs.Sound.{IsSoundState}
use Rattle.machine.specs.declared.deed.Deed.{Deed}
use Rattle.machine.specs.declared.deed.Deed.TheVariants as deed
use Rattle.machine.proofs.Soundness.{aged-sound, later-above}
use Rattle.durable.specs.Coding.{Entry, Load, Restart, Seen}
use Rattle.durable.specs.Entering.{Durable, durable, Enters, flow_of}
use Rattle.entries.proofs.Changing.{noted-enters}
use Rattle.entries.proofs.Whole.{deed-enters, fine-leg}

-- ---- what changes nothing has no entry

pub side-itself : (a : Opener) → same_side a a ≡ true
side-itself Inside = refl
side-itself Remote = refl

pub number-itself : (n : ℕ) → (n == n) ≡ true
number-itself n = grind (arith, nat_tests)

pub nothing-between : (s t : Session) → is_unchanged s t ≡ true → between s t ≡ []
nothing-between s t same = ap (λ (b : Bool). if b then [] else (if goes_on s t then Seen (flow_of t) t.seen ∷ [] else Restart (flow_of t) t.opener t.seen ∷ [])) same

noted-none : (ss : List Session) (t : Session) → Rises ss → In (stilled t) (map stilled ss) → entries_for ss t ≡ []
noted-none ss t rises is =
    let u = In-map stilled ss (stilled t) is in
    let own : same_flow t u.0 ≡ true = keys-flow t u.0 (ap key u.2) in
    let found : find (same_flow t) ss ≡ Some u.0 = find-is (same_flow t) ss u.0 u.1 own (λ v in_v h. one-of-key ss rises v u.0 in_v u.1 (flow-keys t v h ∙ ap key u.2)) in
    let same : is_unchanged u.0 t ≡ true = and_from (same_side u.0.opener t.opener) (u.0.seen == t.seen)
    (ap (λ (x : Session). same_side u.0.opener x.opener) u.2 ∙ side-itself u.0.opener)
    (ap (λ (x : Session). u.0.seen == x.seen) u.2 ∙ number-itself u.0.seen) in
    ap (λ o. entries_making o t) found ∙ nothing-between u.0 t same

stays : (ts ss : List Session) (t : Session) → ((u : Session) → In u ts → same_flow u t ≡ false) → In t ss → In t (put_all ts ss)
stays [] ss t own is = is
stays (u ∷ ts) ss t own is =
    stays ts (put u ss) t (λ v in_v. own v (inr in_v))
    (insert-In u (filter (λ v. not (same_flow u v)) ss) t (inr (filter-In (λ v. not (same_flow u v)) ss t is (ap not (own u (inl refl))))))

module _ (config : Config) (now : ℕ) where
  all-none : (ts ss : List Session) → AreSound config ss → JoinEach config ss now ts → HaveOwnFlows ts → map stilled (put_all ts ss) ≡ map stilled ss → entries_for_all ts ss ≡ []
  all-none [] ss sound joins flows same = refl
  all-none (t ∷ ts) ss sound joins flows same =
      let in_put : In t (put t ss) = insert-In t (filter (λ v. not (same_flow t v)) ss) t (inl refl) in
      let there : In (stilled t) (map stilled ss) = subst (In (stilled t)) same (map-In stilled (put_all ts (put t ss)) t (stays ts (put t ss) t flows.0 in_put)) in
      let none = noted-none ss t sound.rises there in
      let leads = subst (λ es. Enters config es (durable [] (map stilled ss)) (durable [] (map stilled (put t ss)))) none (noted-enters config now [] ss t sound joins.0) in
      let first : map stilled (put t ss) ≡ map stilled ss = ap (λ (d : Durable). d.sessions) leads in
      ap (λ es. es ++ entries_for_all ts (put t ss)) none ∙ all-none ts (put t ss) joins.0.sound joins.1 flows.1 (same ∙ sym first)

nothing : (gone : List Session) (es : List Entry) → ends gone ++ es ≡ [] → (gone ≡ []) × (es ≡ [])
nothing [] es h = (refl, h)
nothing (t ∷ ts) es h = absurd cc

empty-or : (es : List Entry) → (es ≡ []) ⊎ (es ≡ [] → ⊥)
empty-or [] = inl refl
empty-or (e ∷ es) = inr (λ h. cc)

gone-none : (now : ℕ) (s : State) (gone : List Session) → AreOver now s.sessions gone → ¬ EndsSome now s → gone ≡ []
gone-none now s [] are none = refl
gone-none now s (t ∷ ts) are none = let over = are.over t (inl refl) in absurd (none (t, over.0, over.1))

module _ (config : Config) (is_one : is_config config ≡ true) where
  module _ (s : State) (sound : IsSoundState config s) where
    way-none : (bytes : List ℕ) (way : Result Passage Cause) → IsFine config s.sessions s.clock way → lasting (sent s bytes way).0 ≡ lasting s → of_way s.sessions way ≡ []
    way-none bytes (Err why) fine same = refl
    way-none bytes (Ok passage) fine same = all-none config s.clock passage.sessions s.sessions sound.sessions fine.each fine.flows (ap (λ (d : Durable). d.sessions) same)

    route-none : (iface : Iface) (bytes : List ℕ) (view : View) → fields bytes ≡ Ok view → (r : Result Route RouteFault) → route config iface view ≡ r
        → lasting (on_route config s bytes view r).0 ≡ lasting s → of_route config s view r ≡ []
    route-none iface bytes view is (Err fault) e same = refl
    route-none iface bytes view is (Ok r) e same = way-none bytes (leg config s view r) (fine-leg config is_one s sound iface bytes view is r e) same

    fields-none : (iface : Iface) (bytes : List ℕ) (r : Result View Fault) → fields bytes ≡ r → lasting (with_fields config s iface bytes r).0 ≡ lasting s → of_fields config s iface r ≡ []
    fields-none iface bytes (Err fault) e same = refl
    fields-none iface bytes (Ok view) e same = route-none iface bytes view e (route config iface view) refl same

    deed-none : (d : Deed) → ¬ TakesText d → lasting (act config s d).0 ≡ lasting s → of_deed config s d ≡ []
    deed-none (deed.Take text rules) none same = absurd (none (text, rules, refl))
    deed-none (deed.Refuse text) none same = refl
    deed-none (deed.Packet iface bytes) none same = fields-none iface bytes (fields bytes) refl same
    deed-none deed.Moment none same = refl

  module _ (s : State) (judged : Judged) (es : List Entry) (sound : IsSoundState config s) (right : IsRight config judged.deed) (are : AreEntriesOf config s judged es) where
    abbrev now : ℕ
    now = later s.clock judged.moment

    abbrev live : State
    live = aged now s

    live-sound : IsSoundState config live
    live-sound = aged-sound config is_one s sound now (later-above s.clock judged.moment)

    pub empty-needs : es ≡ [] → ¬ HasEntry config s judged
    unfolding step
    empty-needs e has =
        let both = nothing are.gone (of_deed config live judged.deed) (sym are.are ∙ e) in
        elim has [
          | inl over ↦ subst (In over.0) both.0 (are.are_over.all over.0 over.1 over.2)
          | inr more ↦ elim more [
            | inl takes ↦ let bad : Load takes.0 ∷ [] ≡ [] = ap (of_deed config live) (sym takes.2) ∙ both.1 in cc
            | inr differs ↦ differs (subst (λ l. Enters config l (lasting live) (lasting (act config live judged.deed).0)) both.1 (deed-enters config is_one live live-sound judged.deed right))
          ]
        ]

    pub needs-empty : ¬ HasEntry config s judged → es ≡ []
    unfolding step
    needs-empty none =
        let no_over = gone-none now s are.gone are.are_over (λ over. none (inl over)) in
        let does : of_deed config live judged.deed ≡ [] = elim (empty-or (of_deed config live judged.deed)) [
          | inl e ↦ e
          | inr some ↦ absurd (none (inr (inr (λ same. some (deed-none live live-sound judged.deed (λ takes. none (inr (inl takes))) same)))))
        ] in
        are.are ∙ ap (λ (g : List Session). ends g ++ of_deed config live judged.deed) no_over ∙ does

-- two lists of the entries of an event are both empty where one is
pub one-none : (config : Config) (s : State) (judged : Judged) (es fs : List Entry) → AreEntriesOf config s judged es → AreEntriesOf config s judged fs → es ≡ [] → fs ≡ []
one-none config s judged es fs are others e =
    let now = later s.clock judged.moment in
    let does = of_deed config (aged now s) judged.deed in
    let both = nothing are.gone does (sym are.are ∙ e) in
    let none = gone-none now s others.gone others.are_over (λ over. subst (In over.0) both.0 (are.are_over.all over.0 over.1 over.2)) in
    others.are ∙ ap (λ (g : List Session). ends g ++ does) none ∙ both.1

-- ---- there are such entries

rises-distinct : (ss : List Session) → Rises ss → AreDistinct ss
rises-distinct [] rises = tt
rises-distinct (s ∷ ss) rises = ((λ is. below-itself s (rises.0 s is)), rises-distinct ss rises.1)

some-over : (now : ℕ) (ss : List Session) → Rises ss → AreOver now ss (filter (λ t. not (alive now t)) ss)
some-over now ss rises = record {
  distinct = rises-distinct (filter (λ t. not (alive now t)) ss) (Rises-filter (λ t. not (alive now t)) ss rises);
  over = λ t is. let old = In-filter (λ u. not (alive now u)) ss t is in (old.0, not-true _ old.1);
  all = λ t is dead. filter-In (λ u. not (alive now u)) ss t is (ap not dead);
}

pub some-entries : (config : Config) (s : State) (judged : Judged) → IsSoundState config s → (es : List Entry) × AreEntriesOf config s judged es
some-entries config s judged sound =
    let now = later s.clock judged.moment in
    let gone : List Session = filter (λ t. not (alive now t)) s.sessions in
    (ends gone ++ of_deed config (aged now s) judged.deed, record { gone = gone; are_over = some-over now s.sessions sound.sessions.rises; are = refl })
