use Rattle.std.proofs.Common.{◌≡◌, ◌++◌, ◌∷◌, [], inl, inr, slice_index, sym, ap, ◌∙◌, arith}
use Rattle.std.proofs.lemmas.Bool.{cases_lt}
use Rattle.std.proofs.lemmas.List.{get_or_default}
use Rattle.sessions.specs.Table.{at}
use Rattle.machine.specs.Noted.{ends, sessions_at}
use Rattle.machine.proofs.Costs.{ends-more}
use Rattle.machine.proofs.flows.Flows.end_all.Goals as goal

pub loop-slot-preserved : goal.loop-slot-preserved
loop-slot-preserved g c =
    let slots = c.args.slots.now in
    let i = c.loop-slot.slot-index in
    let lt = c.loop-slot-test.true in
    let item = c.slot-item.result in
    let is : slice_index slots i ≡ item = get_or_default slots i 0 item lt ∙ sym c.slot-item.is in
    let updates = c.end_noted.ensures.updates in
    let before = c.loop-slot.invariant in
    let held = c.loop-slot.self.table.held in
    let told = c.end_noted.ensures.noted in
    record {
      ended = λ k few. elim (cases_lt k i) [
        | inl less ↦ updates.others (slice_index slots k) (λ e. c.requires.once k i less lt (e ∙ sym is)) ∙ before.ended k less
        | inr most ↦ let this : k ≡ i = omega (arith, few, most) in ap (λ j. at c.end_noted.new.self.table (slice_index slots j)) this ∙ ap (at c.end_noted.new.self.table) is ∙ updates.changed
      ];
      others = λ place away. updates.others place (λ e. away i (omega arith) (is ∙ sym e)) ∙ before.others place (λ k less. away k (omega (arith, less)));
      external = c.end_noted.ensures.external ∙ before.external;
      ready = λ n is_ready. c.end_noted.ensures.ready n (before.ready n is_ready);
      noted = record {
        kept = (λ keeps. told.kept.0 (before.noted.kept.0 keeps), λ keeps. before.noted.kept.1 (told.kept.1 keeps));
        stays = told.stays ∙ before.noted.stays;
        added = λ keeps.
            ends-more c.args.self.now.table.held held slots i (g.N.Notes.noted c.args.notes.now) (g.N.Notes.noted c.loop-slot.notes) (g.N.Notes.noted c.end_noted.new.notes) lt
            (before.others (slice_index slots i) (λ k less. c.requires.once k i less lt)) (before.noted.added keeps)
            (told.added (before.noted.kept.0 keeps) ∙ ap (λ slot. g.N.Notes.noted c.loop-slot.notes ++ ends (sessions_at held (slot ∷ []))) (sym is));
      };
      room = λ keeps. omega (arith, before.room keeps, c.end_noted.ensures.room (before.noted.kept.0 keeps));
    }
