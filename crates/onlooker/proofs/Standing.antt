-- What was found in two files, as what they stand for.
use Rattle.std.proofs.Common.{◌≡◌, ◌≢◌, ◌⊎◌, ◌∙◌, inl, inr, refl, sym, ap, subst, ℕ, List}
use Rattle.std.specs.Prelude.{Option, Some, None}
use Rattle.packet.specs.Config.{Config}
use Rattle.disk_model.specs.Disk.{Files}
use Rattle.disk_model.specs.declared.disk.FileId.{FileId}
use Rattle.disk_model.specs.declared.disk.FileId.TheVariants.{A, B}
use Rattle.durable.specs.Coding.{Heading}
use Rattle.durable.specs.Entering.{Durable, empty}
use Rattle.durable.specs.Recovery.{Found, Finds, IsActive, IsConfigured, IsFound, IsOpen, NoneOpen, Recovers, behind}
use Rattle.durable.proofs.Headed.{headed_open, recovers_once}
use Rattle.onlooker.specs.Looking.{HasOther, StandsFor}

configured_by : (config : Config) (files : Files) (f : FileId) (h : Heading) (d : Durable) (end : ℕ) → IsActive files f h d end → h.config ≡ config → IsConfigured config files
configured_by config files f h d end active is g k e place also =
    let once = recovers_once.active files g f k h e d place end also active in
    ap (λ (x : Heading). x.config) once.1 ∙ is

none_open : (files : Files) (f : FileId) → NoneOpen files → ¬ IsOpen (files f)
none_open files A none = none.0
none_open files B none = none.1

pub stands_empty : (config : Config) (files : Files) → NoneOpen files → StandsFor config files empty
stands_empty config files none = (inl (none, refl), λ f h d end active. absurd (none_open files f none (headed_open (files f) h active.0.headed)))

pub stands : (config : Config) (files : Files) (x : Found) (d : Durable) → IsFound files x → x.config ≡ config → d ≡ x.state → StandsFor config files d
stands config files x d found same is = subst (λ (e : Durable). StandsFor config files e) (sym is) (
  inr (x.file, found.heading, x.end, found.active),
  configured_by config files x.file found.heading x.state x.end found.active (sym found.config ∙ same),
)

pub has_other : (config stored : Config) (files : Files) (x : Found) → IsFound files x → stored ≡ x.config → stored ≢ config → HasOther config files stored
has_other config stored files x found is differs = record {
  file = x.file;
  heading = found.heading;
  state = x.state;
  end = x.end;
  active = found.active;
  kept = is ∙ found.config;
  differs = differs;
}

pub found_of : (files : Files) (d : Durable) → Recovers files d → (found : Option Found) × Finds files found
found_of files d (inl none) = (None, none.0)
found_of files d (inr (f, h, end, active)) = (
  Some (record { file = f; version = h.version; generation = h.generation; config = h.config; state = d; start = behind h; end = end }),
  record { heading = h; active = active; version = refl; generation = refl; config = refl; start = refl },
)
