use Rattle.std.proofs.Common.{get_or, arith}
use Rattle.std.proofs.lemmas.List.{get_or_default}
use Rattle.std.proofs.lemmas.List.Edits.{map_over_more}
use Rattle.packet.specs.declared.endpoint.Proto.TheVariants.{Tcp}
use Rattle.sessions.specs.Stilled.{stilled}
use Rattle.sessions.specs.declared.session.Opener.TheVariants.{Inside}
use Rattle.sessions.specs.declared.session.Session.{Session}
use Rattle.gateway.proofs.surviving.forget_moments.Goals as goal

abbrev no_one : Session
no_one = record { proto = Tcp; inside = record { addr = 0; port = 0 }; outside = record { addr = 0; port = 0 }; remote = record { addr = 0; port = 0 }; opener = Inside; seen = 0; last = 0 }

pub loop-session-preserved : goal.loop-session-preserved
loop-session-preserved c =
    let ys = c.loop-session.sessions in
    let i = c.loop-session.session-index in
    let lt = c.loop-session-test.true in
    let long = c.loop-session.auto.sessions in
    let this = get_or ys i no_one in
    map_over_more stilled c.args.sessions.now ys i this lt c.loop-session.invariant (get_or_default ys i no_one this (omega (arith, lt, long)))
