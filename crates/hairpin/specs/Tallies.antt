-- How often the sessions that are held have a mapping.
use Rattle.std.specs.Prelude.{◌≡◌, ℕ, ◌+◌, List, [], ◌∷◌, Option, Some, None, cond}
use Rattle.packet.specs.Config.{Config}
use Rattle.packet.specs.Same.{same_endpoint}
use Rattle.sessions.specs.Listing.{listing}
use Rattle.sessions.specs.Sound.{AreSound}
use Rattle.sessions.specs.declared.session.Session.{Session}
use Rattle.mappings.specs.declared.map.Mapping.{Mapping}
use Rattle.mappings.specs.Map.{one_at, mapping, times}
use Rattle.hairpin.specs.Translations.{Translations}

-- the mapping of a session
abbrev pub mapping_of : Session → Mapping
mapping_of s = mapping s.proto s.inside s.outside

-- one where the place holds a translated session of this mapping
abbrev pub weight : Mapping → Option Session → ℕ
weight p None = 0
weight p (Some s) = cond (same_endpoint s.inside s.outside) 0 (one_at p (mapping_of s))

-- how many translated sessions of this mapping the places hold
abbrev pub tally : Mapping → List (Option Session) → ℕ
tally p [] = 0
tally p (place ∷ places) = weight p place + tally p places

-- the sessions that are held are sound, and the translations are theirs, at the external addresses
pub record AreOf (config : Config) (held : List (Option Session)) (t : Translations) : Type 0 where
  pub external : t.external ≡ config.external
  pub counts : (p : Mapping) → times t.mappings p ≡ tally p held
  pub sound : AreSound config (listing held)
