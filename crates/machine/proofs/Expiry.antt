-- Ending just the sessions that are due leaves the others.
use Rattle.std.proofs.Common.{◌≡◌, ◌↔◌, ℕ, ◌<◌, ◌≤◌, List, [], ◌∷◌, Option, Some, None, true, false, IfSome, IsSome, IsSomeAnd, get_or, length, refl, sym, ◌∙◌, subst, inl, inr, arith}
use Rattle.std.specs.Option.{option_map}
use Rattle.std.specs.List.{Contains, filter}
use Rattle.std.proofs.lemmas.Bool.{cases_Bool, ltb-true, ltb-false}
use Rattle.std.proofs.lemmas.List.{get_or_default}
use Rattle.std.proofs.lemmas.Option.{none-some}
use Rattle.sessions.specs.declared.session.Session.{Session}
use Rattle.sessions.specs.Listing.{In, listing}
use Rattle.sessions.specs.Table as table
use Rattle.sessions.specs.Table.{IsSoundTable}
use Rattle.sessions.proofs.Sets.{Apart-sound, Rises-listing, Rises-filter, In-filter, filter-In, In-listing, listing-In, listing-is}
use Rattle.timers.specs.declared.due.Idle.{Idle}
use Rattle.timers.specs.Due as due
use Rattle.mappings.specs.Map.{Mappings}
use Rattle.timers.specs.Laws.{idle_of}
use Rattle.sessions.specs.Life.{alive}
use Rattle.machine.specs.Flows.{Tied, IsDue, IsNoneLater}

pub alive-not_due : (now : ℕ) (s : Session) → alive now s ≡ true → ¬ IsDue now s
alive-not_due now s h over = let lt = ltb-true _ _ h in omega arith

pub due-not_alive : (now : ℕ) (s : Session) → alive now s ≡ false → IsDue now s
due-not_alive now s h = ltb-false _ _ h

pub expired : (old new : List (Option Session)) (slots : List ℕ) (now : ℕ) → IsSoundTable old → IsSoundTable new
    → ((slot : ℕ) → Contains slots slot ↔ IsSomeAnd (get_or old slot None) (IsDue now))
    → ((k : ℕ) → k < length slots → get_or new (get_or slots k 0) None ≡ None)
    → ((slot : ℕ) → ¬ Contains slots slot → get_or new slot None ≡ get_or old slot None)
    → listing new ≡ filter (alive now) (listing old)
expired old new slots now sound_old sound_new exactly ended others =
    listing-is new (filter (alive now) (listing old)) (Apart-sound new sound_new)
    (Rises-filter (alive now) (listing old) (Rises-listing old (Apart-sound old sound_old)))
    (λ s is.
    let kept = In-filter (alive now) (listing old) s is in
    let at = In-listing old s kept.0 in
    let stays : ¬ Contains slots at.0 = λ has. alive-not_due now s kept.1 (rw at.1 at ((exactly at.0).0 has)) in
    (at.0, others at.0 stays ∙ at.1))
    (λ slot s is.
    let stays : ¬ Contains slots slot = λ has.
    let gone = ended has.0 has.1 in
    let e : get_or slots has.0 0 ≡ slot = get_or_default slots has.0 0 slot has.1 ∙ has.2 in
    none-some s (sym gone ∙ subst (λ k. get_or new k None ≡ Some s) (sym e) is) in
    let was : get_or old slot None ≡ Some s = sym (others slot stays) ∙ is in
    filter-In (alive now) (listing old) s (listing-In old s slot was)
    (elim (cases_Bool (alive now s)) [ inl lives ↦ lives | inr over ↦ absurd (stays ((exactly slot).1 (rw was (due-not_alive now s over)))) ]))

-- what the timers say, said of the sessions
latest_map : (o : Option Session) (now : ℕ) → ((s : Session) → o ≡ Some s → s.last ≤ now) → IfSome (option_map idle_of o) (λ i. i.last ≤ now)
latest_map None now h = tt
latest_map (Some s) now h = h s refl

pub latest_watched : (t : table.Sessions) (d : due.Watched) (m : Mappings) (now : ℕ) → Tied t d m → IsNoneLater t.held now → due.IsLatest d now
latest_watched t d m now tied latest = λ slot. subst (λ o. IfSome o (λ (i : Idle). i.last ≤ now)) (sym (tied.idle slot)) (latest_map (table.at t slot) now (λ s is. latest slot s is))

over_map : (o : Option Session) (now : ℕ) → IsSomeAnd (option_map idle_of o) (due.IsOver now) ↔ IsSomeAnd o (IsDue now)
over_map None now = ((λ h. h), (λ h. h))
over_map (Some s) now = ((λ h. h), (λ h. h))

pub due_held : (o : Option Session) (now : ℕ) → IsSomeAnd o (IsDue now) → IsSome o
due_held None now is = absurd is
due_held (Some s) now is = refl

-- where every session is alive none is due
pub none_due : (held : List (Option Session)) (now : ℕ) → ((t : Session) → In t (listing held) → alive now t ≡ true) → (slot : ℕ) → ¬ IsSomeAnd (get_or held slot None) (IsDue now)
none_due held now lives slot = (elim (get_or held slot None) as (λ o. get_or held slot None ≡ o → ¬ IsSomeAnd o (IsDue now)) [
  | None ↦ λ e h. h
  | Some s ↦ λ e. alive-not_due now s (lives s (listing-In held s slot e))
]) refl

pub none_over : (t : table.Sessions) (d : due.Watched) (m : Mappings) (now : ℕ) → Tied t d m → ((slot : ℕ) → ¬ IsSomeAnd (table.at t slot) (IsDue now)) → due.IsNoneOver d now
none_over t d m now tied none slot over = none slot ((over_map (table.at t slot) now).0 (subst (λ o. IsSomeAnd o (due.IsOver now)) (tied.idle slot) over))

pub first_of : (slots : List ℕ) → 0 < length slots → (slot : ℕ) × Contains slots slot
first_of [] lt = absurd (omega (arith, lt))
first_of (slot ∷ slots) lt = (slot, (0, omega arith, refl))
