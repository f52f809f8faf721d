use Rattle.session_lines.proofs.Grown.{three_texts}
use Rattle.session_lines.proofs.object.put_between.Goals as goal

pub returns-clause-ok : goal.returns-clause-ok
returns-clause-ok c = three_texts _ _ _ _ _ _ _ c.in_ok-put_word.ensures.ok c.in_ok-put_word-2.ensures.ok c.in_ok-put_word-3.ensures.ok
