-- What the columns promise.
use Rattle.std.specs.Prelude.{◌≡◌, ◌+◌, ◌<◌, ◌^◌, length}
use Rattle.packet.specs.declared.endpoint.Endpoint.{Endpoint}
use Rattle.session_lines.specs.Lines.{endpoint_width, column}

-- an endpoint fits its places, so that all columns begin at the same ones
abbrev pub ColumnsAreAligned : Type 0
ColumnsAreAligned = (e : Endpoint) → e.addr < 2 ^ 32 → e.port < 2 ^ 16
    → length (column e) ≡ endpoint_width + 1
