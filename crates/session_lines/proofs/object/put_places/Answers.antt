use Rattle.session_lines.specs.Objects.{places}
use Rattle.session_lines.proofs.Grown.{three_texts}
use Rattle.session_lines.proofs.object.put_places.Goals as goal

pub returns-clause-ok : goal.returns-clause-ok
unfolding places
returns-clause-ok c = three_texts _ _ _ _ _ _ _ c.in_ok-put_place.ensures.ok c.in_ok-put_place-2.ensures.ok c.in_ok-put_place-3.ensures.ok
