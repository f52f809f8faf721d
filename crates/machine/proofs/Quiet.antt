-- A packet that shows what was seen before makes no entry, and one that shows more makes one.
use Rattle.std.proofs.Common.{◌≡◌, ◌≢◌, ◌==◌, ◌&&◌, ℕ, List, [], ◌∷◌, Option, Some, None, Result, Ok, Err, true, false, Bool, get_or, bit_or, if◌then◌else◌, refl, sym, ap, subst, ◌∙◌}
use Rattle.std.proofs.lemmas.Bool.{eq-eqb, ne_eqb}
use Rattle.std.proofs.lemmas.List.{append-nil}
use Rattle.packet.specs.Config.{Pool}
use Rattle.sessions.specs.Life.{same_side}
use Rattle.sessions.specs.Listing.{listing}
use Rattle.sessions.specs.Table.{IsSoundTable, seen}
use Rattle.sessions.specs.declared.session.Change.TheVariants as change
use Rattle.sessions.specs.declared.session.Opener.{Opener}
use Rattle.sessions.specs.declared.session.Opener.TheVariants.{Inside, Remote}
use Rattle.sessions.specs.declared.session.Session.{Session}
use Rattle.sessions.proofs.Sets.{Apart-sound}
use Rattle.hairpin.specs.Legs.{Passage}
use Rattle.hairpin.specs.Plans.{GiveAll, Plans}
use Rattle.hairpin.specs.declared.cause.Cause.{Cause}
use Rattle.hairpin.specs.declared.going.Going.{Going}
use Rattle.hairpin.specs.declared.plan.Plan.{Plan}
use Rattle.durable.specs.Coding.{Restart, Seen}
use Rattle.durable.specs.Entering.{flow_of}
use Rattle.machine.specs.Noted.{between, goes_on, is_unchanged, entries_for_all}
use Rattle.machine.proofs.Telling.{cons≢nil, made-told}

same_side-itself : (side : Opener) → same_side side side ≡ true
same_side-itself Inside = refl
same_side-itself Remote = refl

between-seen : (s : Session) (bits now : ℕ) → bit_or s.seen bits ≡ s.seen → between s (seen s bits now) ≡ []
between-seen s bits now same =
    let t = seen s bits now in
    let is : is_unchanged s t ≡ true = subst (λ n. (same_side s.opener s.opener && s.seen == n) ≡ true) (sym same) (ap (λ b. b && s.seen == s.seen) (same_side-itself s.opener) ∙ eq-eqb s.seen s.seen refl) in
    ap (λ b. if b then [] else (if goes_on s t then Seen (flow_of t) t.seen ∷ [] else Restart (flow_of t) t.opener t.seen ∷ [])) is

-- and one that shows more makes some
between-new : (s : Session) (bits now : ℕ) → bit_or s.seen bits ≢ s.seen → between s (seen s bits now) ≢ []
between-new s bits now other none =
    let t = seen s bits now in
    let goes : Bool = goes_on s t in
    let differs : (s.seen == bit_or s.seen bits) ≡ false = ne_eqb s.seen (bit_or s.seen bits) (λ e. other (sym e)) in
    let is : is_unchanged s t ≡ false = ap (λ b. same_side s.opener s.opener && b) differs ∙ ap (λ b. b && false) (same_side-itself s.opener) in
    let made : between s t ≡ (if goes then Seen (flow_of t) t.seen ∷ [] else Restart (flow_of t) t.opener t.seen ∷ []) = ap (λ b. if b then [] else (if goes then Seen (flow_of t) t.seen ∷ [] else Restart (flow_of t) t.opener t.seen ∷ [])) is in
    elim goes as (λ b. (if b then Seen (flow_of t) t.seen ∷ [] else Restart (flow_of t) t.opener t.seen ∷ []) ≡ [] → ⊥) [
      | true ↦ cons≢nil _ _
      | false ↦ cons≢nil _ _
    ] (sym made ∙ none)

module _ (external : Pool) (held : List (Option Session)) (now : ℕ) (g : Going) (sound : IsSoundTable held) (ts : List Session)
    (gives : GiveAll external held now (change.Seen g.slot g.bits) None ts) where
  given-told : (s : Session) × (get_or held g.slot None ≡ Some s) × (entries_for_all ts (listing held) ≡ between s (seen s g.bits now))
  given-told =
      let given = gives.1 in
      let told = made-told held (Apart-sound held sound) (λ s. seen s g.bits now) (λ s. refl) g.slot given.0 gives.0 given.1 given.0 given.1 given.3 in
      (given.0, given.1, ap (λ us. entries_for_all us (listing held)) gives.2 ∙ append-nil _ ∙ sym told)

  pub quiet-gives : ((s : Session) → get_or held g.slot None ≡ Some s → bit_or s.seen g.bits ≡ s.seen) → entries_for_all ts (listing held) ≡ []
  quiet-gives quiet = let t = given-told in t.2 ∙ between-seen t.0 g.bits now (quiet t.0 t.1)

  pub new-gives : ((s : Session) → get_or held g.slot None ≡ Some s → bit_or s.seen g.bits ≢ s.seen) → entries_for_all ts (listing held) ≢ []
  new-gives new none = let t = given-told in between-new t.0 g.bits now (new t.0 t.1) (sym t.2 ∙ none)

-- the changes of a plan give sessions
pub way-gives : (external : Pool) (held : List (Option Session)) (now : ℕ) (plan : Plan) (way : Result Passage Cause) → Plans external held now (Ok plan) way
    → (ts : List Session) × GiveAll external held now plan.first plan.second ts
way-gives external held now plan (Ok passage) is = (passage.sessions, is.sessions)
way-gives external held now plan (Err cause) is = absurd is
