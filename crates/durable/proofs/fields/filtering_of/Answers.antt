use Rattle.std.proofs.Common.{◌≡◌, refl, rules}
use Rattle.std.specs.Prelude.{None}
use Rattle.durable.specs.Reading.{filtering_at, filtering_of}
use Rattle.durable.proofs.Versioned.{filtering_found, filtering_none}
use Rattle.durable.proofs.fields.filtering_of.Goals as goal

pub returns-in_err-filtering : goal.returns-in_err-filtering
unfolding filtering_at
returns-in_err-filtering c =
    let none : filtering_of c.in_ok-code.code ≡ None = filtering_none c.in_ok-code.code c.in_err-filtering.ensures.none in
    search rules

pub returns : goal.returns
unfolding filtering_at
returns c = rw (c.in_ok-code.ensures, filtering_found c.in_ok-code.code c.in_ok-filtering.filtering c.in_ok-filtering.ensures.found) refl
