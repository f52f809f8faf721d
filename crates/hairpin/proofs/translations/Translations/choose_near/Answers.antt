use Rattle.std.proofs.Common.{◌≡◌, Contains, get_or, sym, ap, ◌∙◌, subst}
use Rattle.std.specs.Option.{unwrap_or}
use Rattle.portpick.specs.Pool.{port_at}
use Rattle.hairpin.specs.Translations.{Translations}
use Rattle.hairpin.proofs.Choosing.{listed-or, lone, near-is, near-one}
use Rattle.hairpin.proofs.translations.Translations.choose_near.Goals as goal

pub returns-in-len1 : goal.returns-in-len1
returns-in-len1 c = λ uses taken says tests.
    let xs = c.addresses.result.now in
    let external : c.args.self.now.external ≡ xs = ap (λ (t : Translations). t.external) (sym c.self.view_is) ∙ sym c.addresses.ensures in
    c.choose_at.ensures taken (tests c.args.far c.requires.far)
    ∙ sym (near-one uses taken c.args.self.now.external c.args.inside.port (get_or xs 0 0) c.args.far (external ∙ lone xs c.in-len1.len_at_least c.in-len1.len_below) c.requires.far)

pub returns : goal.returns
returns c = λ uses taken says tests.
    let pool = c.args.self.now.external in
    let port = c.args.inside.port in
    let is = c.unwrap_or-addr.ensures ∙ ap (λ o. unwrap_or o c.args.far) (c.used.ensures.choice uses says) in
    let listed : Contains pool c.unwrap_or-addr.result = subst (Contains pool) (sym c.unwrap_or-addr.ensures) (listed-or pool c.used.result c.args.far c.used.ensures.listed c.requires.far) in
    c.choose_at-2.ensures taken (tests c.unwrap_or-addr.result listed) ∙ ap (port_at taken port) is ∙ sym (near-is uses taken pool port c.args.far)
