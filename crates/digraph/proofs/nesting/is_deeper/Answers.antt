use Rattle.std.proofs.Common.{◌↔◌, ◌+◌, ℕ, IsTrue}
use Rattle.std.proofs.lemmas.Result.{IfOk-weaker}
use Rattle.digraph.specs.Paths.{HasPath, IsDeeper}
use Rattle.digraph.specs.Edges.{HasEdge}
use Rattle.digraph.proofs.Rows.{is_deeper}
use Rattle.digraph.proofs.nesting.is_deeper.Goals as goal

pub returns : goal.returns
returns c =
    let d = is_deeper c.args.rows.now c.args.most in
    IfOk-weaker c.has_path.result (λ yes. IsTrue yes ↔ (a : ℕ) × HasPath (HasEdge c.args.rows.now) (c.args.most + 1) a) (λ yes. IsTrue yes ↔ IsDeeper (HasEdge c.args.rows.now) c.args.most)
    (λ yes is. (λ y. d.0 (is.0 y), λ p. is.1 (d.1 p))) c.has_path.ensures
