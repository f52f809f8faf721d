-- What an event's entries say of it.
use Rattle.std.proofs.Common.{◌≡◌, ◌++◌, ◌∷◌, [], ℕ, List, false, inl, inr, refl, sym, subst, ◌∙◌}
use Rattle.std.specs.List.{filter}
use Rattle.std.proofs.lemmas.Bool.{cases_Bool, false≢true}
use Rattle.packet.specs.Config.{Config}
use Rattle.sessions.specs.Life.{alive}
use Rattle.sessions.specs.Listing.{In}
use Rattle.sessions.specs.declared.session.Session.{Session}
use Rattle.sessions.proofs.Sets.{In-filter}
use Rattle.durable.specs.Coding.{Entry, End}
use Rattle.durable.specs.Entering.{flow_of}
use Rattle.machine.specs.Judged.{Judged}
use Rattle.machine.specs.Machine.{State, EndsNone, aged, later}
use Rattle.machine.specs.Noted.{AreEntriesOf, AreOver, ends, of_deed}
use Rattle.machine.specs.declared.deed.Deed.{Deed}
use Rattle.machine.proofs.Telling.{cons≢nil}

-- ---- where there is no entry

none-gone : (gone : List Session) (es : List Entry) → [] ≡ ends gone ++ es → (gone ≡ []) × (es ≡ [])
none-gone [] es e = (refl, sym e)
none-gone (t ∷ ts) es e = absurd (cons≢nil (End (flow_of t)) (ends ts ++ es) (sym e))

pub quiet-ends : (config : Config) (s : State) (judged : Judged) (now : ℕ) → now ≡ later s.clock judged.moment → AreEntriesOf config s judged [] → EndsNone now s
quiet-ends config s judged now is entries = λ t held.
    let none = none-gone entries.gone (of_deed config (aged (later s.clock judged.moment) s) judged.deed) entries.are in
    elim (cases_Bool (alive now t)) [ inl lives ↦ lives | inr over ↦ absurd (subst (In t) none.0 (entries.are_over.all t held (subst (λ n. alive n t ≡ false) is over))) ]

pub quiet-deed : (config : Config) (s : State) (judged : Judged) (now : ℕ) (d : Deed) → now ≡ later s.clock judged.moment → judged.deed ≡ d → AreEntriesOf config s judged []
    → of_deed config (aged now s) d ≡ []
quiet-deed config s judged now d is e entries =
    subst (λ n. of_deed config (aged n s) d ≡ []) (sym is)
    (subst (λ x. of_deed config (aged (later s.clock judged.moment) s) x ≡ []) e (none-gone entries.gone (of_deed config (aged (later s.clock judged.moment) s) judged.deed) entries.are).1)

-- where expiry leaves all, none is over
pub none-ended : (now : ℕ) (sessions : List Session) → sessions ≡ filter (alive now) sessions → AreOver now sessions []
none-ended now sessions stay = record {
  distinct = tt;
  over = λ t held. absurd held;
  all = λ t held over. absurd (false≢true (sym over ∙ (In-filter (alive now) sessions t (subst (In t) stay held)).1));
}
