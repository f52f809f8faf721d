use Rattle.session_lines.proofs.Grown.{four_octets, kept_before_both, on_err}
use Rattle.session_lines.proofs.column.put_address.Goals as goal

pub returns-clause-ok : goal.returns-clause-ok
returns-clause-ok c = four_octets _ _ _ _ _ _ _ _ _ _ _ c.in_ok-put_number.ensures.ok c.in_ok-put_number-2.ensures.ok c.in_ok-put_number-3.ensures.ok c.in_ok-put_number-4.ensures.ok

pub returns-in_err-put_number-4-clause-err : goal.returns-in_err-put_number-4-clause-err
returns-in_err-put_number-4-clause-err c =
    let third = kept_before_both _ _ _ _ _ c.in_ok-put_number-3.ensures.ok c.in_err-put_number-4.ensures.err in
    let second = kept_before_both _ _ _ _ _ c.in_ok-put_number-2.ensures.ok third in
    on_err _ (kept_before_both _ _ _ _ _ c.in_ok-put_number.ensures.ok second)
