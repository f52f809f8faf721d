-- A gateway that is to work.
use Rattle.std.specs.Prelude.{◌≡◌, ⊤, false}
use Rattle.gateway.specs.Kept.{Kept}
use Rattle.options.specs.declared.Work.{Work}
use Rattle.options.specs.declared.Work.TheVariants.{View}

-- its active file was made anew by its opening, or since, and has no groups
abbrev pub IsMadeAnew : {D : Type 0} → Kept D → Type 0
IsMadeAnew gateway = gateway.migrated ≡ false → gateway.grown ≡ 0

-- requests are answered only over such a file
abbrev pub IsOpenedFor : {D : Type 0} → Work → Kept D → Type 0
IsOpenedFor (View view) gateway = ⊤
IsOpenedFor work gateway = IsMadeAnew gateway
