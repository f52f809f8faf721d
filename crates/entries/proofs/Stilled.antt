-- Entries among sessions without their moments.
use Rattle.std.proofs.Common.{◌≡◌, List, [], ◌∷◌, ◌++◌, true, not, refl, ap, subst, ◌∙◌, map}
use Rattle.packet.specs.Config.{Config}
use Rattle.sessions.specs.declared.session.Session.{Session}
use Rattle.sessions.specs.Listing.{has_inside, In}
use Rattle.sessions.specs.Stilled.{stilled}
use Rattle.sessions.proofs.Stilled.{filter-moved, map-In}
use Rattle.durable.specs.Coding.{Entry}
use Rattle.durable.specs.Entering.{Durable, Enters, entered, IsNamed, is_of_flow, ended}
use Rattle.durable.specs.declared.entry.Flow.{Flow}

pub stilled-of : (f : Flow) (s : Session) → is_of_flow f (stilled s) ≡ is_of_flow f s
unfolding has_inside
stilled-of f s = refl

pub named-stilled : (f : Flow) (ss : List Session) (t : Session) → In t ss → is_of_flow f t ≡ true → IsNamed f (map stilled ss)
named-stilled f ss t is h = (stilled t, map-In stilled ss t is, stilled-of f t ∙ h)

pub ended-stilled : (f : Flow) (ss : List Session) → ended f (map stilled ss) ≡ map stilled (ended f ss)
ended-stilled f ss = filter-moved 0 (λ s. not (is_of_flow f s)) (λ s. ap not (stilled-of f s)) ss

-- one list of entries behind another
pub join : (config : Config) (es fs : List Entry) (old mid new : Durable) → Enters config es old mid → Enters config fs mid new → Enters config (es ++ fs) old new
join config [] fs old mid new first more = subst (λ (d : Durable). Enters config fs d new) first more
join config (e ∷ es) fs old mid new first more = (first.0, join config es fs (entered e old) mid new first.1 more)
