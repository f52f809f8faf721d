-- Why two files stand for no state.
use Rattle.std.proofs.Common.{◌≡◌, ◌⊎◌, inl, inr, ℕ, List, [], refl, ap, subst, ◌∙◌, arith}
use Rattle.std.proofs.lemmas.Bool.{cases_lt}
use Rattle.std.specs.Prelude.{Option, Some, None}
use Rattle.packet.specs.Config.{Config}
use Rattle.disk_model.specs.Disk.{Files}
use Rattle.disk_model.specs.declared.disk.FileId.{FileId}
use Rattle.disk_model.specs.declared.disk.FileId.TheVariants.{A, B}
use Rattle.durable.specs.Coding.{Heading}
use Rattle.durable.specs.Entering.{Durable, empty}
use Rattle.durable.specs.Recovery.{Found, Finds, IsActive, IsConfigured, IsOpen, NoneOpen, Recovers, behind}
use Rattle.durable.proofs.Headed.{headed_open, recovers_once}
use Rattle.diagnosis.specs.Reading.{IsReadAs, IsHeld}
use Rattle.diagnosis.specs.Finding.{HasFault, AreTwins}
use Rattle.diagnosis.specs.declared.reading.Held.{Held}
use Rattle.diagnosis.specs.declared.reading.Reading.{Reading}
use Rattle.diagnosis.specs.declared.reading.Reading.TheVariants.{Empty, Closed, Faulty, Whole}
use Rattle.diagnosis.proofs.Alone.{closed_nothing}

-- what files stand for is found in them
pub found_of : (files : Files) (d : Durable) → Recovers files d → (found : Option Found) × Finds files found
found_of files d (inl none) = (None, none.0)
found_of files d (inr (f, h, end, active)) =
    (Some (record { file = f; version = h.version; generation = h.generation; config = h.config; state = d; start = behind h; end = end }), record { heading = h; active = active; version = refl; generation = refl; config = refl; start = refl })

-- ---- the configuration

pub configured_by : (config : Config) (files : Files) (f : FileId) (h : Heading) (d : Durable) (end : ℕ) → IsActive files f h d end → h.config ≡ config → IsConfigured config files
configured_by config files f h d end active is g k e place also = ap (λ (x : Heading). x.config) (recovers_once.active files g f k h e d place end also active).1 ∙ is

none_open : (files : Files) (f : FileId) → NoneOpen files → ¬ IsOpen (files f)
none_open files A none = none.0
none_open files B none = none.1

pub configured_none : (config : Config) (files : Files) → NoneOpen files → IsConfigured config files
configured_none config files none f h d end active = absurd (none_open files f none (headed_open (files f) h active.0.headed))

-- ---- why

empty_idle : (file : List ℕ) → file ≡ [] → ¬ IsOpen file
empty_idle file is opened = closed_nothing (subst IsOpen is opened)

none : (files : Files) → ¬ IsOpen (files A) → ¬ IsOpen (files B) → ((d : Durable) → ¬ Recovers files d) → ⊥
none files a b nothing = nothing empty (inl ((a, b), refl))

whole_a : (config : Config) (files : Files) (held : Held) → IsHeld config (files A) held → ¬ IsOpen (files B) → ((d : Durable) → ¬ Recovers files d) → ⊥
whole_a config files held a b nothing = nothing a.1 (inr (A, a.0, a.2, (a.3, λ opened. absurd (b opened))))

whole_b : (config : Config) (files : Files) (held : Held) → ¬ IsOpen (files A) → IsHeld config (files B) held → ((d : Durable) → ¬ Recovers files d) → ⊥
whole_b config files held a b nothing = nothing b.1 (inr (B, b.0, b.2, (b.3, λ opened. absurd (a opened))))

-- of two whole files the newer one is active
both_whole : (config : Config) (files : Files) (held other : Held) → IsHeld config (files A) held → IsHeld config (files B) other → ((d : Durable) → ¬ Recovers files d)
    → held.generation ≡ other.generation
both_whole config files held other a b nothing =
    elim (cases_lt a.0.generation b.0.generation) [
      | inl less ↦ absurd (nothing b.1 (inr (B, b.0, b.2, (b.3, λ opened. (a.0, a.3.headed, less)))))
      | inr least ↦ elim (cases_lt b.0.generation a.0.generation) [
        | inl more ↦ absurd (nothing a.1 (inr (A, a.0, a.2, (a.3, λ opened. (b.0, b.3.headed, more)))))
        | inr most ↦ omega (arith, least, most, a.4, b.4)
      ]
    ]

pub why : (config : Config) (files : Files) (a b : Reading) → IsReadAs config (files A) a → IsReadAs config (files B) b → ((d : Durable) → ¬ Recovers files d)
    → HasFault a ⊎ HasFault b ⊎ AreTwins a b
why config files (Faulty fault) b one two nothing = inl (fault, refl)
why config files Empty (Faulty fault) one two nothing = inr (inl (fault, refl))
why config files Closed (Faulty fault) one two nothing = inr (inl (fault, refl))
why config files (Whole held) (Faulty fault) one two nothing = inr (inl (fault, refl))
why config files (Whole held) (Whole other) one two nothing = inr (inr (held, other, refl, refl, both_whole config files held other one two nothing))
why config files Empty Empty one two nothing = absurd (none files (empty_idle (files A) one) (empty_idle (files B) two) nothing)
why config files Empty Closed one two nothing = absurd (none files (empty_idle (files A) one) two.1 nothing)
why config files Closed Empty one two nothing = absurd (none files one.1 (empty_idle (files B) two) nothing)
why config files Closed Closed one two nothing = absurd (none files one.1 two.1 nothing)
why config files Empty (Whole held) one two nothing = absurd (whole_b config files held (empty_idle (files A) one) two nothing)
why config files Closed (Whole held) one two nothing = absurd (whole_b config files held one.1 two nothing)
why config files (Whole held) Empty one two nothing = absurd (whole_a config files held one (empty_idle (files B) two) nothing)
why config files (Whole held) Closed one two nothing = absurd (whole_a config files held one two.1 nothing)
