use Rattle.std.proofs.Common.{◌≡◌, ℕ, List, Contains, get_or, sym, ap, ◌∙◌, subst}
use Rattle.hairpin.specs.Translations.{Translations}
use Rattle.hairpin.proofs.Choosing.{first-listed, lone, pool-one}
use Rattle.hairpin.proofs.translations.Translations.choose_for.Goals as goal

pub returns-in-len1 : goal.returns-in-len1
returns-in-len1 c = λ uses taken says tests.
    let xs = c.addresses.result.now in
    let external : c.args.self.now.external ≡ xs = ap (λ (t : Translations). t.external) (sym c.self.view_is) ∙ sym c.addresses.ensures in
    let listed = subst (λ (pool : List ℕ). Contains pool (get_or xs 0 0)) (sym external) (first-listed xs c.in-len1.len_at_least) in
    c.choose_at.ensures taken (tests (get_or xs 0 0) listed)
    ∙ sym (pool-one uses taken c.args.self.now.external c.args.inside.port (get_or xs 0 0) (external ∙ lone xs c.in-len1.len_at_least c.in-len1.len_below))
