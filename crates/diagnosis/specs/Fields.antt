-- The parts of a configuration.
use Rattle.std.specs.Prelude.{◌≡◌}
use Rattle.packet.specs.Config.{Config}
use Rattle.diagnosis.specs.declared.fields.Field.{Field}
use Rattle.diagnosis.specs.declared.fields.Field.TheVariants.{Lan, Wan, Inside, External, Filtering}

-- the two have one value in this part
abbrev pub Agrees : Field → Config → Config → Type 0
Agrees Lan a b = a.lan ≡ b.lan
Agrees Wan a b = a.wan ≡ b.wan
Agrees Inside a b = a.inside ≡ b.inside
Agrees External a b = a.external ≡ b.external
Agrees Filtering a b = a.filtering ≡ b.filtering
