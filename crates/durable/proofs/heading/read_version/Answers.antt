use Rattle.std.proofs.Common.{◌≡◌, refl, rules}
use Rattle.std.specs.Prelude.{None}
use Rattle.durable.specs.Reading.{version_at, version_of}
use Rattle.durable.proofs.Versioned.{version_found, version_none}
use Rattle.durable.proofs.heading.read_version.Goals as goal

pub returns-in_err-version : goal.returns-in_err-version
unfolding version_at
returns-in_err-version c =
    let none : version_of c.in_ok-number.number ≡ None = version_none c.in_ok-number.number c.in_err-version.ensures.none in
    search rules

pub returns : goal.returns
unfolding version_at
returns c = rw (c.in_ok-number.ensures, version_found c.in_ok-number.number c.in_ok-version.version c.in_ok-version.ensures.found) refl
