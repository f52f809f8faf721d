use Rattle.std.proofs.Common.{◌++◌, ◌∙◌, ap, List, ℕ}
use Rattle.std.specs.Prelude.{codes}
use Rattle.session_lines.specs.Objects.{object}
use Rattle.session_lines.proofs.Grown.{four_texts}
use Rattle.session_lines.proofs.object.put_object.Goals as goal

pub returns-clause-ok : goal.returns-clause-ok
unfolding object
returns-clause-ok c =
    let proto = c.in_ok-put_between.ensures.ok ∙ ap (λ (t : List ℕ). c.args.out.now.items ++ (codes "{\"protocol\":\"" ++ t ++ codes "\"")) c.proto_word.ensures in
    let opener = c.in_ok-put_between-2.ensures.ok ∙ ap (λ (t : List ℕ). c.put_places.new.out.items ++ (codes ",\"opener\":\"" ++ t ++ codes "\"")) c.opener_word.ensures in
    let phase = c.in_ok-put_between-3.ensures.ok ∙ ap (λ (t : List ℕ). c.put_between-2.new.out.items ++ (codes ",\"phase\":" ++ t ++ codes "}\n")) c.phase_value.ensures in
    four_texts _ _ _ _ _ _ _ _ _ proto c.in_ok-put_places.ensures.ok opener phase
