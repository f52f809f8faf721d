-- What it means that a session goes on.
use Rattle.std.specs.Prelude.{◌≡◌, ◌≢◌, ℕ, None, Result, Ok, Err, bit_or, false, true}
use Rattle.packet.specs.declared.endpoint.Flags.{Flags}
use Rattle.sessions.specs.Life.{IsSeen, restarts, shown}
use Rattle.sessions.specs.declared.session.Change.TheVariants.{Seen}
use Rattle.sessions.specs.declared.session.Opener.{Opener}
use Rattle.sessions.specs.declared.session.Session.{Session}
use Rattle.hairpin.specs.declared.cause.Cause.{Cause}
use Rattle.hairpin.specs.declared.going.Going.{Going}
use Rattle.hairpin.specs.declared.plan.Plan.{Plan}

-- the plan of a packet that leaves so
abbrev pub plan_of : Going → Plan
plan_of g =
    record { first = Seen g.slot g.bits; second = None; iface = g.iface; src = g.src; dst = g.dst }

abbrev pub planned : Result Going Cause → Result Plan Cause
planned (Ok g) = Ok (plan_of g)
planned (Err cause) = Err cause

-- when the last packet of this session passed, and whether the packet shows something new of it
pub record Tells (s : Session) (g : Going) : Type 0 where
  pub last : g.last ≡ s.last
  pub quiet : g.is_new ≡ false → bit_or s.seen g.bits ≡ s.seen
  pub new : g.is_new ≡ true → bit_or s.seen g.bits ≢ s.seen

-- a packet from this side doesn't begin the session anew, and shows these bits of it
pub record Shows (s : Session) (sender : Opener) (flags : Flags) (bits : ℕ) : Type 0 where
  pub goes_on : restarts s flags ≡ false
  pub are : bits ≡ shown s.proto s.opener sender flags
  pub known : IsSeen s.proto bits
