-- What a gateway that is compacted hands to its store.
use Rattle.std.proofs.Common.{◌≡◌, ℕ, List, map, sym, ◌∙◌, ap, subst}
use Rattle.sessions.specs.declared.session.Session.{Session}
use Rattle.sessions.specs.Stilled.{stilled}
use Rattle.disk_model.specs.Disk.{Files}
use Rattle.durable.specs.Entering.{Durable, durable}
use Rattle.durable.specs.Recovery.{Recovers}
use Rattle.machine.specs.Machine.{State}
use Rattle.machine.specs.Noted.{lasting}

pub lasting_is : (s : State) (text : List ℕ) (sessions : List Session) → text ≡ s.text → sessions ≡ map stilled s.sessions → durable text sessions ≡ lasting s
lasting_is s text sessions same still = ap (λ (t : List ℕ). durable t sessions) same ∙ ap (λ (ss : List Session). durable s.text ss) still

pub recovers_so : (files : Files) (s : State) (text : List ℕ) (sessions : List Session) → text ≡ s.text → sessions ≡ map stilled s.sessions → Recovers files (lasting s)
    → Recovers files (durable text sessions)
recovers_so files s text sessions same still recovers = subst (λ (d : Durable). Recovers files d) (sym (lasting_is s text sessions same still)) recovers
