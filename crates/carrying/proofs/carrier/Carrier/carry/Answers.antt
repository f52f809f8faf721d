use Rattle.std.proofs.Common.{◌≡◌, ℕ, [], ◌∷◌, length, refl, sym, ap, subst, ◌∙◌, arith, inl, inr}
use Rattle.devices.specs.Handing.{GaveAll, Waits}
use Rattle.from_devices.proofs.Gathering.{Gives-nil}
use Rattle.to_devices.proofs.Letting.{Hands-nil}
use Rattle.machine.specs.Machine.{later}
use Rattle.carrying.specs.Asking.{AsksFor}
use Rattle.carrying.specs.Carried.{Carries, Fails}
use Rattle.carrying.specs.Runs.{Stood, asked_of, from_lan, from_wan}
use Rattle.carrying.specs.Turns.{Gave, TakesAll, events_of, headers_of}
use Rattle.carrying.proofs.Going.{going-first, going-next, ran-ends, ran-fails}
use Rattle.carrying.proofs.Taken.{GaveAll-then, Waits-on, Waits-same}
use Rattle.socket_edge.specs.Running.{Explains}
use Rattle.socket_edge.proofs.Tending.{idle-fares}
use Rattle.carrying.proofs.carrier.Carrier.carry.Goals as goal

pub loop-turn-init : goal.loop-turn-init
loop-turn-init g c =
    let d = c.args.devices.now in (
      going-first g.D.Disk.honest g.D.Disk.moment g.D.Disk.left (GaveAll g.L.Device.coming g.L.Device.waited g.L.Device.has_none d.lan) (GaveAll g.W.Device.coming g.W.Device.waited g.W.Device.has_none d.wan) (Stood g.L.Device.coming g.L.Device.handed g.L.Device.waited g.W.Device.coming g.W.Device.handed g.W.Device.waited d) c.args.gateway.now c.args.self.now.told (g.P.Pace.asks c.args.pace.now)
          (g.L.Device.coming d.lan) (g.W.Device.coming d.wan) (g.L.Device.handed d.lan) (g.W.Device.handed d.wan) c.args.self.now.counts c.requires.stands c.requires.none
          (idle-fares g.D.Disk.honest g.D.Disk.moment g.D.Disk.left g.D.Disk.seen g.D.Disk.failed g.met.D.Disk.reads g.met.D.Disk.earlier c.args.gateway.now c.stands.ensures [])
          (record {
            devices = d;
            gave_lan = Gives-nil (g.L.Device.coming d.lan);
            gave_wan = Gives-nil (g.W.Device.coming d.wan);
            handed_lan = Hands-nil (g.L.Device.handed d.lan);
            handed_wan = Hands-nil (g.W.Device.handed d.wan);
            lan_waits = Waits-same (g.L.Device.waited d.lan) (g.L.Device.waited d.lan) refl;
            wan_waits = Waits-same (g.W.Device.waited d.wan) (g.W.Device.waited d.wan) refl;
          }),
      c.requires.stands,
      refl,
      Waits-same (g.L.Device.waited d.lan) (g.L.Device.waited d.lan) refl,
      Waits-same (g.W.Device.waited d.wan) (g.W.Device.waited d.wan) refl,
    )

pub returns-in_default : goal.returns-in_default
returns-in_default g c =
    let d = c.args.devices.now in
    let e = c.loop-turn.devices in
    let over = c.in_default.ensures.over in
    let run =
    ran-ends g.D.Disk.honest g.D.Disk.moment g.D.Disk.left (GaveAll g.L.Device.coming g.L.Device.waited g.L.Device.has_none d.lan) (GaveAll g.W.Device.coming g.W.Device.waited g.W.Device.has_none d.wan) (Stood g.L.Device.coming g.L.Device.handed g.L.Device.waited g.W.Device.coming g.W.Device.handed g.W.Device.waited d) g.met.D.Disk.earlier c.events_are_judged_once.ensures c.args.gateway.now c.loop-turn.gateway c.requires.none c.args.self.now.told c.loop-turn.self.told c.loop-turn._turn
    (g.P.Pace.asks c.args.pace.now) (g.P.Pace.asks c.loop-turn.pace)
    (g.L.Device.coming d.lan) (g.L.Device.coming e.lan) (g.W.Device.coming d.wan) (g.W.Device.coming e.wan)
    (g.L.Device.handed d.lan) (g.L.Device.handed e.lan) (g.W.Device.handed d.wan) (g.W.Device.handed e.wan) c.args.self.now.counts c.loop-turn.self.counts c.loop-turn.invariant.0 (inl over.0) in
    rw (c.next.ensures.from_lan, c.next.ensures.from_wan, c.next.ensures.to_lan, c.next.ensures.to_wan, over.1) (record { ran = (run.0, tt, run.1, run.2, run.3); causes = tt; stands = c.loop-turn.invariant.1; no_failure = c.loop-turn.invariant.2 })

pub returns-in-Err : goal.returns-in-Err
returns-in-Err g c =
    let d = c.args.devices.now in
    let e = c.loop-turn.devices in
    let b = c.next.new.devices in
    let f = c.turn_at.new.devices in
    let n = c.next.ensures in
    let t = c.in-Err.ensures.turned in
    let asked : AsksFor (g.P.Pace.asks c.loop-turn.pace) (g.P.Pace.asks c.next.new.self) (asked_of t.0 ∷ []) = rw (t.1, t.2) c.in-Some.ensures.asked in
    let gave : Gave t.0 (g.L.Device.coming e.lan) (g.L.Device.coming f.lan) (g.W.Device.coming e.wan) (g.W.Device.coming f.wan) = rw (← n.from_lan, ← n.from_wan) t.3 in
    let takes : TakesAll c.loop-turn.self.told t.0 (GaveAll g.L.Device.coming g.L.Device.waited g.L.Device.has_none b.lan 0 t.0.lan) (GaveAll g.W.Device.coming g.W.Device.waited g.W.Device.has_none b.wan 0 t.0.wan) = t.5 in
    let fails : Fails g.D.Disk.honest g.D.Disk.moment g.D.Disk.left c.loop-turn.gateway c.turn_at.new.gateway (events_of c.loop-turn.self.told t.0)
    (g.L.Device.handed e.lan) (g.L.Device.handed f.lan) (g.W.Device.handed e.wan) (g.W.Device.handed f.wan) = rw (← n.to_lan, ← n.to_wan) t.4 in
    let run =
    ran-fails g.D.Disk.honest g.D.Disk.moment g.D.Disk.left (GaveAll g.L.Device.coming g.L.Device.waited g.L.Device.has_none d.lan) (GaveAll g.W.Device.coming g.W.Device.waited g.W.Device.has_none d.wan) (Stood g.L.Device.coming g.L.Device.handed g.L.Device.waited g.W.Device.coming g.W.Device.handed g.W.Device.waited d) g.met.D.Disk.earlier c.args.gateway.now c.loop-turn.gateway c.turn_at.new.gateway c.requires.stands c.requires.none c.events_are_judged_once.ensures c.args.self.now.told c.loop-turn.self.told c.loop-turn._turn c.in-Err.fault t.0
    (g.P.Pace.asks c.args.pace.now) (g.P.Pace.asks c.loop-turn.pace) (g.P.Pace.asks c.next.new.self)
    (g.L.Device.coming d.lan) (g.L.Device.coming e.lan) (g.L.Device.coming f.lan) (g.W.Device.coming d.wan) (g.W.Device.coming e.wan) (g.W.Device.coming f.wan)
    (g.L.Device.handed d.lan) (g.L.Device.handed e.lan) (g.L.Device.handed f.lan) (g.W.Device.handed d.wan) (g.W.Device.handed e.wan) (g.W.Device.handed f.wan)
    (GaveAll g.L.Device.coming g.L.Device.waited g.L.Device.has_none b.lan 0 t.0.lan) (GaveAll g.W.Device.coming g.W.Device.waited g.W.Device.has_none b.wan 0 t.0.wan) c.args.self.now.counts c.loop-turn.self.counts c.turn_at.new.self.counts
    (λ turns count gave all. GaveAll-then g.L.Device.coming g.L.Device.waited g.L.Device.has_none d.lan e.lan b.lan c.loop-turn._turn (length turns) (from_lan turns) t.0.lan count gave n.from_lan c.loop-turn.invariant.3 n.lan_waits all)
    (λ turns count gave all. GaveAll-then g.W.Device.coming g.W.Device.waited g.W.Device.has_none d.wan e.wan b.wan c.loop-turn._turn (length turns) (from_wan turns) t.0.wan count gave n.from_wan c.loop-turn.invariant.4 n.wan_waits all)
    c.loop-turn.invariant.0 asked gave takes fails t.6 in
    let why = subst (λ k. Explains g.D.Disk.honest g.D.Disk.moment g.D.Disk.left g.D.Disk.failed c.in-Err.fault k c.turn_at.new.gateway) (sym run.1) c.in-Err.ensures.why in
    record { ran = (run.0, why, run.2, run.3, run.4); causes = c.in-Err.ensures.causes; stands = tt; no_failure = tt }

pub loop-turn-preserved : goal.loop-turn-preserved
loop-turn-preserved g c =
    let d = c.args.devices.now in
    let e = c.loop-turn.devices in
    let b = c.next.new.devices in
    let f = c.turn_at.new.devices in
    let n = c.next.ensures in
    let t = c.in-Ok.ensures.turned in
    let asked : AsksFor (g.P.Pace.asks c.loop-turn.pace) (g.P.Pace.asks c.next.new.self) (asked_of t.0 ∷ []) = rw (t.1, t.2) c.in-Some.ensures.asked in
    let gave : Gave t.0 (g.L.Device.coming e.lan) (g.L.Device.coming f.lan) (g.W.Device.coming e.wan) (g.W.Device.coming f.wan) = rw (← n.from_lan, ← n.from_wan) t.3 in
    let takes : TakesAll c.loop-turn.self.told t.0 (GaveAll g.L.Device.coming g.L.Device.waited g.L.Device.has_none b.lan 0 t.0.lan) (GaveAll g.W.Device.coming g.W.Device.waited g.W.Device.has_none b.wan 0 t.0.wan) = t.5 in
    let carries : Carries g.D.Disk.honest g.D.Disk.moment g.D.Disk.left c.loop-turn.gateway c.turn_at.new.gateway (events_of c.loop-turn.self.told t.0) (headers_of c.loop-turn.self.told t.0)
    (g.L.Device.handed e.lan) (g.L.Device.handed f.lan) (g.W.Device.handed e.wan) (g.W.Device.handed f.wan) = rw (← n.to_lan, ← n.to_wan) t.4 in
    let lan_waits = Waits-on c.loop-turn._turn (g.L.Device.waited d.lan) (g.L.Device.waited e.lan) (g.L.Device.waited b.lan) (g.L.Device.waited f.lan) c.loop-turn.invariant.3 n.lan_waits c.turn_at.ensures.lan_waited in
    let wan_waits = Waits-on c.loop-turn._turn (g.W.Device.waited d.wan) (g.W.Device.waited e.wan) (g.W.Device.waited b.wan) (g.W.Device.waited f.wan) c.loop-turn.invariant.4 n.wan_waits c.turn_at.ensures.wan_waited in
    let at : c.turn_at.new.self.told ≡ later c.loop-turn.self.told t.0.moment = c.turn_at.ensures.latest ∙ ap (λ (m : ℕ). later c.loop-turn.self.told m) (sym t.1) in (
      going-next g.D.Disk.honest g.D.Disk.moment g.D.Disk.left (GaveAll g.L.Device.coming g.L.Device.waited g.L.Device.has_none d.lan) (GaveAll g.W.Device.coming g.W.Device.waited g.W.Device.has_none d.wan) (Stood g.L.Device.coming g.L.Device.handed g.L.Device.waited g.W.Device.coming g.W.Device.handed g.W.Device.waited d) g.met.D.Disk.earlier c.args.gateway.now c.loop-turn.gateway c.turn_at.new.gateway c.requires.stands c.requires.none c.args.self.now.told c.loop-turn.self.told c.turn_at.new.self.told c.loop-turn._turn t.0
          (g.P.Pace.asks c.args.pace.now) (g.P.Pace.asks c.loop-turn.pace) (g.P.Pace.asks c.next.new.self)
          (g.L.Device.coming d.lan) (g.L.Device.coming e.lan) (g.L.Device.coming f.lan) (g.W.Device.coming d.wan) (g.W.Device.coming e.wan) (g.W.Device.coming f.wan)
          (g.L.Device.handed d.lan) (g.L.Device.handed e.lan) (g.L.Device.handed f.lan) (g.W.Device.handed d.wan) (g.W.Device.handed e.wan) (g.W.Device.handed f.wan)
          (GaveAll g.L.Device.coming g.L.Device.waited g.L.Device.has_none b.lan 0 t.0.lan) (GaveAll g.W.Device.coming g.W.Device.waited g.W.Device.has_none b.wan 0 t.0.wan) c.args.self.now.counts c.loop-turn.self.counts c.turn_at.new.self.counts
          (λ turns count gave all. GaveAll-then g.L.Device.coming g.L.Device.waited g.L.Device.has_none d.lan e.lan b.lan c.loop-turn._turn (length turns) (from_lan turns) t.0.lan count gave n.from_lan c.loop-turn.invariant.3 n.lan_waits all)
          (λ turns count gave all. GaveAll-then g.W.Device.coming g.W.Device.waited g.W.Device.has_none d.wan e.wan b.wan c.loop-turn._turn (length turns) (from_wan turns) t.0.wan count gave n.from_wan c.loop-turn.invariant.4 n.wan_waits all)
          c.loop-turn.invariant.0 asked gave takes at c.in-Ok.ensures.stands carries t.6
          (λ turns to_lan to_wan count gave_lan gave_wan handed_lan handed_wan. record {
            devices = f;
            gave_lan = gave_lan;
            gave_wan = gave_wan;
            handed_lan = handed_lan;
            handed_wan = handed_wan;
            lan_waits = subst (λ (n : ℕ). Waits n (g.L.Device.waited d.lan) (g.L.Device.waited f.lan)) (sym count) lan_waits;
            wan_waits = subst (λ (n : ℕ). Waits n (g.W.Device.waited d.wan) (g.W.Device.waited f.wan)) (sym count) wan_waits;
          }),
      c.in-Ok.ensures.stands,
      c.in-Ok.ensures.no_failure ∙ c.loop-turn.invariant.2,
      lan_waits,
      wan_waits,
    )

pub returns : goal.returns
returns g c =
    let d = c.args.devices.now in
    let e = c.loop-turn.devices in
    let run =
    ran-ends g.D.Disk.honest g.D.Disk.moment g.D.Disk.left (GaveAll g.L.Device.coming g.L.Device.waited g.L.Device.has_none d.lan) (GaveAll g.W.Device.coming g.W.Device.waited g.W.Device.has_none d.wan) (Stood g.L.Device.coming g.L.Device.handed g.L.Device.waited g.W.Device.coming g.W.Device.handed g.W.Device.waited d) g.met.D.Disk.earlier c.events_are_judged_once.ensures c.args.gateway.now c.loop-turn.gateway c.requires.none c.args.self.now.told c.loop-turn.self.told c.loop-turn._turn
    (g.P.Pace.asks c.args.pace.now) (g.P.Pace.asks c.loop-turn.pace)
    (g.L.Device.coming d.lan) (g.L.Device.coming e.lan) (g.W.Device.coming d.wan) (g.W.Device.coming e.wan)
    (g.L.Device.handed d.lan) (g.L.Device.handed e.lan) (g.W.Device.handed d.wan) (g.W.Device.handed e.wan) c.args.self.now.counts c.loop-turn.self.counts c.loop-turn.invariant.0 (inr (omega (arith, c.loop-turn-test.false, c.loop-turn.auto._turn-end))) in
    record { ran = (run.0, tt, run.1, run.2, run.3); causes = tt; stands = c.loop-turn.invariant.1; no_failure = c.loop-turn.invariant.2 }
