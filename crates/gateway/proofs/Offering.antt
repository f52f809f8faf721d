-- What an event that is taken does to the entries that wait.
use Rattle.std.proofs.Common.{◌≡◌, ◌⊎◌, ◌↔◌, inl, inr, ℕ, suc, ◌+◌, ◌*◌, ◌<◌, ◌≤◌, List, [], ◌∷◌, ◌++◌, length, refl, sym, ◌∙◌, ap, subst, arith, IsTrue, length-append}
use Rattle.std.proofs.lemmas.List.{nil_from_length}
use Rattle.packet.specs.Config.{Config, is_config}
use Rattle.sessions.specs.Listing.{In}
use Rattle.sessions.specs.declared.session.Session.{Session}
use Rattle.disk_model.specs.Disk.{Files}
use Rattle.durable.specs.Coding.{Entry}
use Rattle.durable.specs.Entering.{Enters}
use Rattle.durable.proofs.Bodies.{enters_once}
use Rattle.machine.specs.Judged.{Judged, IsJudged, IsRight}
use Rattle.machine.specs.Machine.{State, step}
use Rattle.machine.specs.Noted.{AreDistinct, AreEntriesOf, AreOver, HasEntry, lasting}
use Rattle.machine.specs.Sizes.{most_bytes}
use Rattle.machine.specs.Sound.{IsSoundState}
use Rattle.machine.specs.declared.deed.Deed.{Deed}
use Rattle.machine.specs.declared.deed.Deed.TheVariants as deed
use Rattle.machine.specs.declared.event.Answer.{Answer}
use Rattle.machine.specs.declared.event.Event.{Event}
use Rattle.entries.proofs.Whole.{step-entered}
use Rattle.entries.proofs.Needed.{empty-needs, needs-empty, some-entries}
use Rattle.gateway.specs.Given.{handed}
use Rattle.gateway.specs.declared.given.Given.{Given}
use Rattle.gateway.specs.declared.given.Given.TheVariants as given
use Rattle.gateway.specs.Kept.{IsRoomy, LeadsToPresent}

-- the entries of one more event make what the files stand for the present state
pub takes_in : (config own : Config) (files : Files) (were are entries : List Entry) (s new : State) (event : Event) (judged : Judged) (answer : Answer) → own ≡ config
    → IsTrue (is_config config) → IsSoundState config s → LeadsToPresent config files were s → IsJudged config event judged → step config s judged ≡ (new, answer) → AreEntriesOf config s judged entries
    → are ≡ were ++ entries → LeadsToPresent own files are new
takes_in config own files were are entries s new event judged answer stays is_one sound was is_judged steps of same =
    let on : Enters config entries (lasting s) (lasting new) =
    subst (λ (p : State × Answer). Enters config entries (lasting s) (lasting p.0)) steps (step-entered config is_one s judged entries sound is_judged.right of) in
    subst (λ (c : Config). LeadsToPresent c files are new) (sym stays) (record {
      durable = was.durable;
      recovers = was.recovers;
      enters = subst (λ (es : List Entry). Enters config es was.durable (lasting new)) (sym same) ((enters_once config).join were entries was.durable (lasting s) (lasting new) was.enters on);
    })

-- when an answer needn't wait
pub at_once : (config : Config) (s : State) (event : Event) (judged : Judged) (entries were are : List Entry) (held mid : List (ℕ × Answer)) (IsNow : Type 0) → IsTrue (is_config config)
    → IsSoundState config s → IsJudged config event judged → AreEntriesOf config s judged entries → are ≡ were ++ entries → (held ≡ [] → were ≡ []) → mid ≡ held
    → IsNow ↔ (are ≡ []) → (IsNow → mid ≡ []) → IsNow ↔ ((held ≡ []) × ¬ HasEntry config s judged)
at_once config s event judged entries were are held mid IsNow is_one sound is_judged of same none stays now quiet = (
  λ is. (sym stays ∙ quiet is, empty-needs config is_one s judged entries sound is_judged.right of (nil_from_length entries (let long = ap length (sym same ∙ now.0 is) in omega (arith, long, length-append were entries)))),
  λ (both : (held ≡ []) × ¬ HasEntry config s judged).
      now.1 (same ∙ ap (λ (es : List Entry). es ++ entries) (none both.0) ∙ needs-empty config is_one s judged entries sound is_judged.right of both.1),
)

-- an event with nothing that must survive has no entries
pub none_of : (config : Config) (s : State) (event : Event) (judged : Judged) → IsTrue (is_config config) → IsSoundState config s → IsJudged config event judged
    → ¬ HasEntry config s judged → AreEntriesOf config s judged []
none_of config s event judged is_one sound is_judged needless =
    let some = some-entries config s judged sound in
    subst (λ (es : List Entry). AreEntriesOf config s judged es) (needs-empty config is_one s judged some.0 sound is_judged.right some.1 needless) some.1

-- ---- the room that an event takes at most

without : (x : Session) (ys : List Session) → In x ys → (rest : List Session) × (length ys ≡ suc (length rest)) × ((t : Session) → In t ys → (t ≡ x) ⊎ In t rest)
without x [] there = elim there [ ]
without x (y ∷ ys) (inl e) = (ys, refl, λ t is. elim is [ inl same ↦ inl (same ∙ sym e) | inr there ↦ inr there ])
without x (y ∷ ys) (inr there) =
    let r = without x ys there in
    (y ∷ r.0, ap suc r.1, λ t is. elim is [ inl same ↦ inr (inl same) | inr deep ↦ elim (r.2 t deep) [ inl e ↦ inl e | inr d ↦ inr (inr d) ] ])

-- distinct members of a list are no more than it has
pub few_distinct : (xs ys : List Session) → AreDistinct xs → ((t : Session) → In t xs → In t ys) → length xs ≤ length ys
few_distinct [] ys distinct within = omega arith
few_distinct (x ∷ xs) ys distinct within =
    let r = without x ys (within x (inl refl)) in
    let rest = few_distinct xs r.0 distinct.1
    (λ t is. elim (r.2 t (within t (inr is))) [ inl e ↦ absurd (distinct.0 (subst (λ (u : Session). In u xs) e is)) | inr there ↦ there ]) in
    let long = r.1 in
    omega (arith, rest, long)

pub few_bytes : (config : Config) (d : Deed) → IsRight config d → most_bytes d ≤ 262149
few_bytes config (deed.Take text rules) right = let short = right.0 in omega (arith, short)
few_bytes config (deed.Refuse text) right = omega arith
few_bytes config (deed.Packet iface bytes) right = omega arith
few_bytes config deed.Moment right = omega arith

-- where there is room for every event, none is too much
pub roomy_enough : (config : Config) (s : State) (now filled : ℕ) (gone : List Session) (d : Deed) → IsSoundState config s → AreOver now s.sessions gone → IsRight config d → IsRoomy filled
    → 67108864 < filled + (14 * length gone + most_bytes d) + 6 → ⊥
roomy_enough config s now filled gone d sound over right roomy too =
    let few = few_distinct gone s.sessions over.distinct (λ t is. (over.over t is).0) in
    let most = sound.sessions.at_most in
    let bytes = few_bytes config d right in
    omega (arith, roomy, too, few, most, bytes)

-- an event whose answer is handed out, so that none is held, found none held
pub held_before : (given : Given) (before now : List (ℕ × Answer)) (one : ℕ × Answer) → handed given ++ now ≡ before ++ one ∷ [] → now ≡ [] → before ≡ []
held_before (given.Now number answer) before now one order none = nil_from_length before (omega (arith, ap length order, ap length none, length-append before (one ∷ [])))
held_before (given.Held number) before now one order none = absurd (omega (arith, ap length order, ap length none, length-append before (one ∷ [])))
