-- The modes of a socket.
use Rattle.std.specs.Prelude.{ℕ}
use Rattle.options.specs.declared.Access.{Access}
use Rattle.options.specs.declared.Access.TheVariants.{Owner, Group, Everyone}

-- to connect is to write: 0600, 0660, 0666
abbrev pub mode_of : Access → ℕ
mode_of Owner = 0o600
mode_of Group = 0o660
mode_of Everyone = 0o666
