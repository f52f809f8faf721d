use Rattle.std.proofs.Common.{refl, []}
use Rattle.trial_disk.proofs.replay.left_by.Goals as goal

pub loop-rest-init : goal.loop-rest-init
loop-rest-init c = (
  record { base = c.args.first.now; writes = [] },
  refl,
  record {
    read_is = c.in_ok-from_slice.ensures.items;
    left_is = c.in_ok-from_slice-2.ensures.items;
    number_is = refl;
  },
)
