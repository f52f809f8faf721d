-- What holds before any session has begun and any rules have loaded.
use Rattle.std.proofs.Common.{◌≡◌, ℕ, suc, List, [], ◌∷◌, get_or, Option, Some, None, refl, sym, subst, ◌∙◌, arith}
use Rattle.std.proofs.lemmas.Option.{none-some}
use Rattle.packet.specs.Config.{Config}
use Rattle.packet.specs.declared.endpoint.Endpoint.{Endpoint}
use Rattle.ruletree.specs.declared.tree.Spelled.{Spelled}
use Rattle.mappings.specs.Map.{Mappings, times}
use Rattle.mappings.specs.declared.map.Mapping.{Mapping}
use Rattle.sessions.specs.Listing.{listing}
use Rattle.sessions.specs.declared.session.Session.{Session}
use Rattle.verdict.specs.Hooks.{hook_outcome, prerouting_verdict, postrouting_verdict}
use Rattle.verdict.specs.declared.facts.Facts.{Facts}
use Rattle.verdict.specs.declared.hook.Destination.TheVariants as destination
use Rattle.verdict.specs.declared.hook.Source.TheVariants as source
use Rattle.hairpin.specs.KeepBounds.{KeepBounds}
use Rattle.sessions.specs.Sound.{AreSound}
use Rattle.hairpin.specs.Tallies.{tally}
use Rattle.hairpin.proofs.Tally.{tally-same}

pub listing-none : (held : List (Option Session)) → ((slot : ℕ) → get_or held slot None ≡ None) → listing held ≡ []
listing-none [] none = refl
listing-none (None ∷ held) none = listing-none held (λ slot. none (suc slot))
listing-none (Some s ∷ held) none = absurd (none-some s (sym (none 0)))

pub counts_none : (mappings : Mappings) (held : List (Option Session)) → ((p : Mapping) → times mappings p ≡ 0) → ((slot : ℕ) → get_or held slot None ≡ None) → (p : Mapping) → times mappings p ≡ tally p held
counts_none mappings held unmapped none p = unmapped p ∙ sym (tally-same p held [] none)

none-sound : (config : Config) → AreSound config []
none-sound config = record { rises = tt; apart = λ s t not_in. absurd not_in; at_most = omega arith; placed = λ s not_in. absurd not_in; seen = λ s not_in. absurd not_in }

pub sound_none : (config : Config) (held : List (Option Session)) → ((slot : ℕ) → get_or held slot None ≡ None) → AreSound config (listing held)
sound_none config held none = subst (AreSound config) (sym (listing-none held none)) (none-sound config)

abbrev pub no_tables : Spelled
no_tables = record { tables = [] }

pub none-to : (config : Config) (facts : Facts) (inside : Endpoint) → prerouting_verdict config facts no_tables ≡ destination.To inside → ⊥
unfolding prerouting_verdict hook_outcome
none-to config facts inside h = cc

pub none-from : (config : Config) (facts : Facts) (addr : ℕ) → postrouting_verdict config facts no_tables ≡ source.From addr → ⊥
unfolding postrouting_verdict hook_outcome
none-from config facts addr h = cc

pub bounds_none : (config : Config) (rules : Spelled) → rules ≡ record { tables = [] } → KeepBounds config rules
bounds_none config rules none = subst (KeepBounds config) (sym none) (record {
  to = λ facts inside h. absurd (none-to config facts inside h);
  port = λ facts inside h. absurd (none-to config facts inside h);
  from = λ facts addr h. absurd (none-from config facts addr h);
})
