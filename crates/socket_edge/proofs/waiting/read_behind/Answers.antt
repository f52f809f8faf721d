use Rattle.std.proofs.Common.{◌≡◌, ◌+◌, ◌≤◌, ◌++◌, List, ℕ, length, take, arith, ap, subst, ◌∙◌, length-take-le}
use Rattle.std.proofs.lemmas.Grind.{common_steps}
use Rattle.std.proofs.lemmas.List.{take-append-le}
use Rattle.std.proofs.Math.Seq.{take-append-add}
use Rattle.socket_edge.proofs.Fitting.{came-fit}
use Rattle.socket_edge.proofs.waiting.read_behind.Goals as goal

-- what stands before, and the bytes that came behind it
front_then : (len n : ℕ) (old came rest : List ℕ) → len ≤ length old → n ≤ length came → take (len + n) (take len old ++ (came ++ rest)) ≡ take len old ++ take n came
front_then len n old came rest within few =
    subst (λ m. take (m + n) (take len old ++ (came ++ rest)) ≡ take len old ++ take n came) (length-take-le len old within)
    (take-append-add (take len old) (came ++ rest) n ∙ ap (λ more. take len old ++ more) (take-append-le n came rest few))

pub returns-in-Ok-clause-ok : goal.returns-in-Ok-clause-ok
returns-in-Ok-clause-ok g c =
    let n = c.in-Ok.n in
    let few : n ≤ length c.read-came.new.bytes = c.in-Ok.ensures.bound.0 in
    let room : length c.read-came.new.bytes ≤ c.args.size = grind (arith, common_steps) in (
      take n c.read-came.new.bytes,
      c.in-Ok.ensures.went,
      front_then c.args.len n c.args.bytes.now c.read-came.new.bytes _ (omega (arith, c.requires.room)) few,
      c.in-Ok.ensures.bound.1,
      omega (arith, few, room),
      came-fit _ c.read-came.new.bytes _ n c.bytes_fit.ensures,
    )
