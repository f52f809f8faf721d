-- What a place of the row keeps. No public clause cites this module.
use Rattle.std.specs.Prelude.{Option, Some, None}
use Rattle.timers.specs.declared.cell.KeptWatch.{KeptWatch}
use Rattle.timers.specs.declared.cell.KeptWatch.TheVariants.{Nothing, Short, Middle, Long}
use Rattle.timers.specs.declared.links.Queue.TheVariants.{Short as short, Middle as middle, Long as long}
use Rattle.timers.specs.declared.links.Watch.{Watch}

-- what is watched
abbrev pub watch_of : KeptWatch → Option Watch
watch_of Nothing = None
watch_of (Short slot last) = Some (record { slot = slot; last = last; queue = short })
watch_of (Middle slot last) = Some (record { slot = slot; last = last; queue = middle })
watch_of (Long slot last) = Some (record { slot = slot; last = last; queue = long })
