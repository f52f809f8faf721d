use Rattle.std.proofs.Common.{◌++◌, ◌∙◌, ap}
use Rattle.session_lines.specs.Lines.{line}
use Rattle.session_lines.proofs.Grown.{five_texts}
use Rattle.session_lines.proofs.line.put_line.Goals as goal

pub returns-clause-ok : goal.returns-clause-ok
unfolding line
returns-clause-ok c =
    let word = c.in_ok-put_word.ensures.ok ∙ ap (λ t. c.args.out.now.items ++ t) c.proto_word.ensures in
    let state = c.in_ok-put_word-2.ensures.ok ∙ ap (λ t. c.put_columns.new.out.items ++ t) c.progress_word.ensures in
    five_texts _ _ _ _ _ _ _ _ _ _ _ word c.in_ok-push.ensures.items c.in_ok-put_columns.ensures.ok state c.in_ok-push-2.ensures.items
