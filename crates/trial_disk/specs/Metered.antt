-- How the disk in memory counts its calls, and which of them fail.
use Rattle.std.specs.Prelude.{◌≡◌, ◌≢◌, ◌⊎◌, ℕ, zero, suc, ◌<◌, ◌≤◌, ◌+◌, ◌-◌, ◌^◌, min, Bool, false, if◌then◌else◌, nat_eq, Option, Some, None}
use Rattle.trial_disk.specs.declared.meter.Turn.{Turn}
use Rattle.trial_disk.specs.declared.meter.Turn.TheVariants.{Passes, Refused, Cut}

-- calls and failures so far, and how many calls are still to pass before the fuse blows and before one call fails
pub record Metered : Type 0 where
  pub calls : ℕ
  pub failures : ℕ
  pub fuse : Option ℕ
  pub once : Option ℕ

-- one more, up to the greatest u64
abbrev pub one_more : ℕ → ℕ
one_more n = min (n + 1) (2 ^ 64 - 1)

-- a fuse that has blown stays so
abbrev pub burnt : Option ℕ → Option ℕ
burnt None = None
burnt (Some left) = Some (left - 1)

-- the one call has failed
abbrev pub spent : Option ℕ → Option ℕ
spent None = None
spent (Some left) = if nat_eq left 0 then None else Some (left - 1)

abbrev pub is_due : Option ℕ → Bool
is_due None = false
is_due (Some left) = nat_eq left 0

abbrev pub turn_by : Option ℕ → Option ℕ → Turn
turn_by fuse once = if is_due fuse then Refused else if is_due once then Cut else Passes

abbrev pub turn_of : Metered → Turn
turn_of m = turn_by m.fuse m.once

-- a call is counted
abbrev pub ticked : Metered → Metered
ticked m = record {
  calls = one_more m.calls;
  failures = m.failures;
  fuse = burnt m.fuse;
  once = spent m.once;
}

-- a failure is counted
abbrev pub failed : Metered → Metered
failed m = record { calls = m.calls; failures = one_more m.failures; fuse = m.fuse; once = m.once }

-- After so many calls, each of which has failed or hasn't.
abbrev pub AfterCalls : ℕ → Metered → Metered → Type 0
AfterCalls zero old new = new ≡ old
AfterCalls (suc calls) old new = (mid : Metered) × AfterCalls calls old mid
    × ((new ≡ ticked mid) ⊎ (new ≡ failed (ticked mid)))

-- With a fuse and nothing else set, the call behind the first n is refused where the fuse's calls are over, and passes
-- before.
abbrev pub FuseBlows : Type 0
FuseBlows = (calls n : ℕ) (set now : Metered) → set.fuse ≡ Some calls → set.once ≡ None
    → AfterCalls n set now
    → (n < calls → turn_of now ≡ Passes) × (calls ≤ n → turn_of now ≡ Refused)

-- With one call and nothing else set to fail, that one fails and each other passes.
abbrev pub FailsOnce : Type 0
FailsOnce = (calls n : ℕ) (set now : Metered) → set.fuse ≡ None → set.once ≡ Some calls
    → AfterCalls n set now
    → (n ≡ calls → turn_of now ≡ Cut) × (n ≢ calls → turn_of now ≡ Passes)
