use Rattle.digraph.proofs.Rows.{is_path}
use Rattle.digraph.proofs.nesting.has_path.Goals as goal

pub returns : goal.returns
returns c =
    let p = is_path c.args.rows.now c.in_ok-heights.heights.items c.args.steps c.in_ok-heights.ensures in
    let r = rw c.as_slice.ensures.value at c.is_reached.ensures in
    (λ yes. p.0 (r.0 yes), λ path. r.1 (p.1 path))
