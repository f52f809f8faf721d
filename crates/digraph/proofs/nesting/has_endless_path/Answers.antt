use Rattle.std.proofs.Common.{◌↔◌, ℕ, IsTrue, length, arith}
use Rattle.std.proofs.lemmas.Result.{IfOk-weaker}
use Rattle.digraph.specs.Paths.{HasPath, HasLoop}
use Rattle.digraph.specs.Edges.{HasEdge}
use Rattle.digraph.proofs.Rows.{is_loop}
use Rattle.digraph.proofs.nesting.has_endless_path.Goals as goal

pub returns : goal.returns
returns c =
    let d = is_loop c.args.rows.now c.requires.within (omega arith) in
    IfOk-weaker c.has_path.result (λ found. IsTrue found ↔ (a : ℕ) × HasPath (HasEdge c.args.rows.now) (length c.args.rows.now) a) (λ found. IsTrue found ↔ HasLoop (HasEdge c.args.rows.now))
    (λ found is. (λ y. d.0 (is.0 y), λ p. is.1 (d.1 p))) c.has_path.ensures
