use Rattle.std.proofs.Common.{◌++◌, ◌∙◌, drop, ap}
use Rattle.text_marks.specs.Lines.{marked}
use Rattle.text_marks.specs.Reports.{found}
use Rattle.text_marks.proofs.Shown.{three_parts}
use Rattle.text_marks.proofs.report.explain.Goals as goal

pub returns : goal.returns
returns c =
    let at = c.in_ok-found.found.at in
    let text = c.args.text.now in
    let named = c.in_ok-put_found.ensures ∙ ap (λ t. c.put_marked.new.out.items ++ found t) c.split_at.ensures.back in
    let rest = c.in_ok-extend_from_slice.ensures.items ∙ ap (λ t. c.put_found.new.out.items ++ t) c.as_slice.ensures.value in
    (at, c.in_ok-remarks.remarks.items, c.in_ok-found.ensures.within, three_parts (marked text at) (found (drop at text)) c.in_ok-remarks.remarks.items _ _ _ _ c.new-shown.ensures.items c.in_ok-put_marked.ensures named rest)
