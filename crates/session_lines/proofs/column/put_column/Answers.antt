use Rattle.std.proofs.Common.{◌≡◌, [], ◌∷◌, length, rules}
use Rattle.session_lines.specs.Lines.{column, endpoint_text}
use Rattle.session_lines.proofs.Grown.{filled_text}
use Rattle.session_lines.proofs.column.put_column.Goals as goal

pub returns-clause-ok : goal.returns-clause-ok
unfolding column
returns-clause-ok c =
    let start : c.len-end.result ≡ length c.args.out.now.items = search rules in
    filled_text 21 c.len-end.result c.args.out.now.items (endpoint_text c.args.endpoint) (32 ∷ []) _ _ _ start c.in_ok-put_endpoint.ensures.ok c.in_ok-fill.ensures.ok c.in_ok-push.ensures.items
