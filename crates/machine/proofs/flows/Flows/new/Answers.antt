use Rattle.std.proofs.Common.{[], ap, sym, ◌∙◌}
use Rattle.std.specs.Option.{option_map}
use Rattle.timers.specs.Laws.{idle_of}
use Rattle.hairpin.proofs.Tally.{tally-same}
use Rattle.machine.proofs.flows.Flows.new.Goals as goal

pub invariant_of-result : goal.invariant_of-result
invariant_of-result c = record {
  idle = λ slot. c.new-3.ensures slot ∙ sym (ap (option_map idle_of) (c.new-2.ensures.empty slot));
  counts = λ p. c.in_ok-translations.ensures.none p ∙ sym (tally-same p c.new-2.result.held [] (λ k. c.new-2.ensures.empty k));
}
