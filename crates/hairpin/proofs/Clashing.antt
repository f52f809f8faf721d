-- A search for a clash among sessions.
use Rattle.std.proofs.Common.{◌≡◌, List, Option, None, is_some, true, sym, ap, ◌∙◌}
use Rattle.std.specs.Prelude.{find}
use Rattle.std.proofs.lemmas.Option.{none-some}
use Rattle.sessions.specs.Listing.{In, clashes, listing}
use Rattle.sessions.specs.Table.{AnyClash, Clash}
use Rattle.sessions.specs.declared.session.Session.{Session}
use Rattle.sessions.proofs.Clashing.{Clash-clashes, clashes-Clash}
use Rattle.sessions.proofs.Puts.{find-none, find-some}
use Rattle.sessions.proofs.Sets.{In-listing, listing-In}

-- none is found that clashes just where no member clashes
module _ (t : Session) (sessions : List Session) where
  pub no_clash : find (clashes t) sessions ≡ None → (s : Session) → In s sessions → ¬ Clash t s
  no_clash none s is clash =
      let found = find-some (clashes t) sessions s is (Clash-clashes t s clash) in
      none-some found.0 (sym none ∙ found.1)

  pub none_clashes : ((s : Session) → In s sessions → ¬ Clash t s) → find (clashes t) sessions ≡ None
  none_clashes apart = find-none (clashes t) sessions (λ s is h. apart s is (clashes-Clash t s h))

-- of a table, by what its slots hold
module _ (held : List (Option Session)) (t : Session) where
  pub any_found : AnyClash held t → is_some (find (clashes t) (listing held)) ≡ true
  any_found any =
      let found = find-some (clashes t) (listing held) any.held (listing-In held any.held any.place any.is_held) (Clash-clashes t any.held any.clash) in
      ap is_some found.1

  pub none_found : ¬ AnyClash held t → find (clashes t) (listing held) ≡ None
  none_found apart = none_clashes t (listing held) (λ s is clash.
      let at = In-listing held s is in
      apart (record { place = at.0; held = s; is_held = at.1; clash = clash }))
