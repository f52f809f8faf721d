use Rattle.std.proofs.Common.{Result, ℕ, inl, inr, refl, sym, subst, ap, ◌∙◌}
use Rattle.std.proofs.lemmas.Result.{err_from_is_err_and}
use Rattle.gateway.specs.declared.fault.GatewayFault.TheVariants as fault
use Rattle.gateway.specs.Kept.{Kept}
use Rattle.socket_edge.specs.declared.fault.EdgeFault.{EdgeFault}
use Rattle.commands.specs.Faults.{IsOfServing}
use Rattle.commands.specs.Visits.{EndsService, Idles}
use Rattle.commands.proofs.Visited.{ends-fallen}
use Rattle.commands.proofs.clients.serve_next.Goals as goal

pub returns-then-has_fallen-clause-causes : goal.returns-then-has_fallen-clause-causes
returns-then-has_fallen-clause-causes g c = subst IsOfServing (sym c.from.ensures) (inr (fault.Reopen, refl))

-- the gateway couldn't be compacted
pub returns-in_err-compact_between_clients-clause-err : goal.returns-in_err-compact_between_clients-clause-err
returns-in_err-compact_between_clients-clause-err g c =
    let p = err_from_is_err_and c.from_residual.result c.from_residual.ensures.1 in
    let e = c.in_err-compact_between_clients.ensures in
    rw p.1 (inl (record { same = refl {a = c.args.clients.now}; idles = e.idles; fault = e.causes.0; told = p.2 ∙ e.causes.1; cause = e.causes.2 }))

-- none came
pub returns-in-Err-clause-err : goal.returns-in-Err-clause-err
returns-in-Err-clause-err g c =
    let e = c.in-Err.ensures in
    inr (inl (record {
      none = e.missed;
      idles = subst (λ (k : Kept _). Idles g.D.Disk.honest g.D.Disk.moment g.D.Disk.left c.args.gateway.now k) (sym e.stays) c.compact_between_clients.ensures.idles;
      stands = ap (λ (k : Kept _). k.fallen) e.stays ∙ c.in_ok-compact_between_clients.ensures.stands;
      told = c.at_path.ensures.of_path;
    }))

-- its end was a fault of the gateway
pub returns-in_err-tell_on-clause-err : goal.returns-in_err-tell_on-clause-err
returns-in_err-tell_on-clause-err g c =
    let p = err_from_is_err_and c.from_residual-in_err-tell_on.result c.from_residual-in_err-tell_on.ensures.1 in
    let e = c.in_err-tell_on.ensures.err in
    rw p.1 (inr (inr (record {
      end = c.in-Ok.ended;
      visit = record { start = c.compact_between_clients.new.gateway; idles = c.compact_between_clients.ensures.idles; meets = c.in-Ok.ensures.meets };
      told = subst (λ (end : Result ℕ EdgeFault). EndsService end c.meet_next.new.gateway p.0.refusal) (sym e.1) (p.2 ∙ e.2);
    })))

-- the gateway has fallen
pub returns-then-has_fallen-clause-err : goal.returns-then-has_fallen-clause-err
returns-then-has_fallen-clause-err g c =
    inr (inr (record {
      end = c.in-Ok.ended;
      visit = record { start = c.compact_between_clients.new.gateway; idles = c.compact_between_clients.ensures.idles; meets = c.in-Ok.ensures.meets };
      told = ends-fallen g.D.Disk.honest g.D.Disk.moment g.D.Disk.left g.D.Disk.failed c.in-Ok.ended c.meet_next.new.gateway c.from.result.refusal c.in_ok-tell_on.ensures.ok
          (sym c.has_fallen.ensures.value ∙ c.if-has_fallen.true) c.from.ensures;
    }))

pub returns-clause-ok : goal.returns-clause-ok
returns-clause-ok g c = (
  c.in-Ok.ended,
  record { start = c.compact_between_clients.new.gateway; idles = c.compact_between_clients.ensures.idles; meets = c.in-Ok.ensures.meets },
  (c.in_ok-tell_on.ensures.ok, sym c.has_fallen.ensures.value ∙ c.if-has_fallen.false),
)
