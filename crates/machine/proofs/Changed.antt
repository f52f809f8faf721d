-- What a change does to the sessions that are held.
use Rattle.std.proofs.Common.{◌≡◌, ◌≢◌, ℕ, ◌≤◌, List, Option, Some, None, bit_or, get_or, refl, sym, ap, ◌∙◌, subst, inl, inr, arith}
use Rattle.std.proofs.lemmas.Bool.{cases_eq}
use Rattle.std.proofs.lemmas.Option.{same_Some}
use Rattle.packet.specs.Config.{Pool}
use Rattle.sessions.specs.declared.session.Change.{Change}
use Rattle.sessions.specs.declared.session.Change.TheVariants.{Begin, Seen, Restart}
use Rattle.sessions.specs.declared.session.Session.{Session}
use Rattle.sessions.specs.Listing.{key}
use Rattle.sessions.specs.declared.session.Opener.{Opener}
use Rattle.sessions.specs.Table.{Sessions, Updates, IsSoundTable, at, restarted, seen}
use Rattle.sessions.proofs.Puts.{put-is}
use Rattle.hairpin.specs.Plans.{Became, Gives, IsOf}
use Rattle.machine.specs.Flows.{Flows, IsNoneLater, TakesMore, adds}

-- the slot, which held none or the session of the change, got this
pub became : (old new : Sessions) (change : Change) (slot : ℕ) (t : Session) → IsSoundTable old.held → IsSoundTable new.held → Updates old new slot (Some t)
    → ((s : Session) → at old slot ≡ Some s → key s ≡ key t)
    → ((k : ℕ) (s : Session) → at old k ≡ Some s → ¬ IsOf change k → k ≢ slot)
    → Became old.held change t new.held
became old new change slot t sound_old sound_new updates fits away = record {
  listing = put-is old.held new.held slot t sound_old sound_new updates.changed updates.others fits;
  kept = λ k s is other. updates.others k (away k s is other) ∙ is;
}

-- the session that is held gives just one
pub seen_became : (external : Pool) (held later : List (Option Session)) (now slot bits : ℕ)
    → ((s : Session) → get_or held slot None ≡ Some s → Became held (Seen slot bits) (seen s bits now) later)
    → (t : Session) → Gives external held now (Seen slot bits) t → Became held (Seen slot bits) t later
seen_became external held later now slot bits made t gives = subst (λ x. Became held (Seen slot bits) x later) (sym gives.3) (made gives.0 gives.1)

pub restart_became : (external : Pool) (held later : List (Option Session)) (now slot : ℕ) (opener : Opener)
    → ((s : Session) → get_or held slot None ≡ Some s → Became held (Restart slot opener) (restarted s opener now) later)
    → (t : Session) → Gives external held now (Restart slot opener) t → Became held (Restart slot opener) t later
restart_became external held later now slot opener made t gives = subst (λ x. Became held (Restart slot opener) x later) (sym gives.2) (made gives.0 gives.1)

-- no session is seen later than the one that the slot got
pub latest_update : (old new : Sessions) (slot : ℕ) (t : Session) (now : ℕ) → Updates old new slot (Some t) → t.last ≤ now → IsNoneLater old.held now → IsNoneLater new.held now
latest_update old new slot t now updates last latest = λ k s is. elim (cases_eq k slot) [
  | inl here ↦ subst (λ (u : Session). u.last ≤ now) (sym (same_Some s t (sym is ∙ subst (λ j. at new j ≡ Some t) (sym here) updates.changed))) last
  | inr away ↦ latest k s (sym (updates.others k away) ∙ is)
]

-- room for some sessions is room for fewer
pub ready-fewer : (n m : ℕ) (f : Flows) → n ≤ m → TakesMore m f → TakesMore n f
ready-fewer n m f le was = record {
  table = omega (arith, le, was.table);
  watchable = was.watchable;
  translations = record { mappings = omega (arith, le, was.translations.mappings); ports = omega (arith, le, was.translations.ports) };
}

pub adds-few : (change : Change) → adds change ≤ 1
adds-few (Begin s) = omega arith
adds-few (Seen slot bits) = omega arith
adds-few (Restart slot opener) = omega arith

-- a packet that shows what was seen, in the second of the one before, leaves its session as it is
seen_again : (s : Session) (bits last : ℕ) → bit_or s.seen bits ≡ s.seen → s.last ≡ last → seen s bits last ≡ s
seen_again s bits last shown now = ap (λ n. record s { seen = n; last = last }) shown ∙ ap (λ (n : ℕ). record s { last = n }) (sym now)

pub became_again : (old : Sessions) (slot : ℕ) (s : Session) (bits last : ℕ) → IsSoundTable old.held → at old slot ≡ Some s
    → (bit_or s.seen bits ≡ s.seen) × (s.last ≡ last) → Became old.held (Seen slot bits) (seen s bits last) old.held
became_again old slot s bits last sound is stays =
    let same = seen_again s bits last stays.0 stays.1 in
    became old old (Seen slot bits) slot (seen s bits last) sound sound (record { changed = is ∙ ap Some (sym same); others = λ k away. refl })
    (λ u at_u. ap key (same_Some u s (sym at_u ∙ is)))
    (λ k u at_u other e. other (sym e))
