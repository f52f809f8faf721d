use Rattle.std.proofs.Common.{◌≡◌, ◌<◌, ◌++◌, ◌∷◌, [], suc, All, length, inl, inr, refl, sym, ap, subst, ◌∙◌}
use Rattle.std.specs.List.{Contains}
use Rattle.std.specs.Option.{option_to_list}
use Rattle.std.proofs.lemmas.Option.{get_or_from_slice_get}
use Rattle.std.proofs.lemmas.List.Elements.{Contains-push, Contains-append_left, All-get_or}
use Rattle.digraph.specs.Edges.{HasEdge}
use Rattle.digraph.specs.Paths.{IsReachedFrom}
use Rattle.digraph.proofs.Rows.{edge_within}
use Rattle.digraph.proofs.Walks.{path_on}
use Rattle.digraph.proofs.witness.comes_to.Goals as goal

pub loop-init : goal.loop-init
loop-init c = record { same = c.requires.same; waiting = λ b is. (c.requires.waiting b is, (b, is, 0, refl)) }

pub returns-then-place-to : goal.returns-then-place-to
returns-then-place-to c =
    let popped : c.loop.waiting.items ≡ c.pop.new.self.items ++ c.in-Some.place ∷ [] = c.pop.ensures.items ∙ ap (λ r. c.pop.new.self.items ++ option_to_list r) c.in-Some.is in
    let here = c.loop.invariant.waiting c.in-Some.place (subst (λ xs. Contains xs c.in-Some.place) (sym popped) (Contains-push c.pop.new.self.items c.in-Some.place)) in
    λ _. subst (IsReachedFrom (HasEdge c.args.rows.now) (Contains c.args.waiting.now.items)) c.if-place-to.true here.1

pub row_at-requires : goal.row_at-requires
row_at-requires c =
    let popped : c.loop.waiting.items ≡ c.pop.new.self.items ++ c.in-Some.place ∷ [] = c.pop.ensures.items ∙ ap (λ r. c.pop.new.self.items ++ option_to_list r) c.in-Some.is in
    (c.loop.invariant.waiting c.in-Some.place (subst (λ xs. Contains xs c.in-Some.place) (sym popped) (Contains-push c.pop.new.self.items c.in-Some.place))).0

pub meet_row-requires : goal.meet_row-requires
meet_row-requires c =
    let popped : c.loop.waiting.items ≡ c.pop.new.self.items ++ c.in-Some.place ∷ [] = c.pop.ensures.items ∙ ap (λ r. c.pop.new.self.items ++ option_to_list r) c.in-Some.is in
    let here = c.loop.invariant.waiting c.in-Some.place (subst (λ xs. Contains xs c.in-Some.place) (sym popped) (Contains-push c.pop.new.self.items c.in-Some.place)) in
    let row : All (λ b. b < length c.args.rows.now) c.row_at.result.now =
    subst (All (λ b. b < length c.args.rows.now)) (get_or_from_slice_get c.args.rows.now c.in-Some.place c.row_at.result.now c.row_at.result.now c.row_at.ensures)
    (All-get_or (All (λ b. b < length c.args.rows.now)) c.args.rows.now c.in-Some.place c.row_at.result.now here.0 c.requires.within) in
    subst (λ n. All (λ b. b < n) c.row_at.result.now) (sym c.loop.invariant.same) row

pub loop-preserved : goal.loop-preserved
loop-preserved c =
    let popped : c.loop.waiting.items ≡ c.pop.new.self.items ++ c.in-Some.place ∷ [] = c.pop.ensures.items ∙ ap (λ r. c.pop.new.self.items ++ option_to_list r) c.in-Some.is in
    let here = c.loop.invariant.waiting c.in-Some.place (subst (λ xs. Contains xs c.in-Some.place) (sym popped) (Contains-push c.pop.new.self.items c.in-Some.place)) in
    record {
      same = c.meet_row.ensures.same ∙ c.loop.invariant.same;
      waiting = λ b is. elim (c.in_ok-meet_row.ensures.waiting b is) [
        | inl before ↦ c.loop.invariant.waiting b (subst (λ xs. Contains xs b) (sym popped) (Contains-append_left c.pop.new.self.items (c.in-Some.place ∷ []) b before))
        | inr new ↦
            let edge : HasEdge c.args.rows.now c.in-Some.place b = (c.row_at.result.now, c.row_at.ensures, new) in
            let from = here.1 in (
              (edge_within c.args.rows.now c.requires.within c.in-Some.place b edge).1,
              (from.0, from.1, suc from.2, path_on (HasEdge c.args.rows.now) from.2 from.0 c.in-Some.place b from.3 edge),
            )
      ];
    }
