use Rattle.session_lines.specs.Lines.{columns}
use Rattle.session_lines.proofs.Grown.{three_texts}
use Rattle.session_lines.proofs.line.put_columns.Goals as goal

pub returns-clause-ok : goal.returns-clause-ok
unfolding columns
returns-clause-ok c = three_texts _ _ _ _ _ _ _ c.in_ok-put_column.ensures.ok c.in_ok-put_column-2.ensures.ok c.in_ok-put_column-3.ensures.ok
