use Rattle.session_lines.specs.Lines.{endpoint_text}
use Rattle.session_lines.proofs.Grown.{with_port}
use Rattle.session_lines.proofs.column.put_endpoint.Goals as goal

pub returns-clause-ok : goal.returns-clause-ok
unfolding endpoint_text
returns-clause-ok c = with_port _ _ _ _ _ _ c.in_ok-put_address.ensures.ok c.in_ok-put_number.ensures.ok
