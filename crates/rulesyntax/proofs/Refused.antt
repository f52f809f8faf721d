-- Which faults are true of a text.
use Rattle.std.proofs.Common.{◌≡◌, ℕ, List, Result, Ok, Err}
use Rattle.std.specs.Prelude.{IfErr}
use Rattle.ruletree.specs.declared.tree.Spelled.{Spelled}
use Rattle.ruletree.specs.declared.fault.Kind.{Kind}
use Rattle.ruletree.specs.declared.fault.Kind.TheVariants.{TooLong, Syntax, Unsupported, Family, UnknownChain, UnknownSet, Duplicate, Loop, Depth, WrongHook, WrongType, NotExternal, NotInside, Limit, Overlap, NoMemory}
use Rattle.ruletree.specs.declared.fault.LoadFault.{LoadFault}
use Rattle.rulesyntax.specs.Text.{IsShort, IsSpelledBy, IsOkOrNoMemory, IsUnread, IsUnreadFor}

module _ (text : List ℕ) (short : IsShort text) where
  of_kind : (kind : Kind) → IsUnread kind → ((rules : Spelled) → IsSpelledBy rules text → kind ≡ NoMemory) → IsUnreadFor text kind
  of_kind NoMemory unread only = short
  of_kind Syntax unread only = (tt, short, λ rules spelled. let e = only rules spelled in absurd cc)
  of_kind Unsupported unread only = (tt, short, λ rules spelled. let e = only rules spelled in absurd cc)
  of_kind Family unread only = (tt, short, λ rules spelled. let e = only rules spelled in absurd cc)
  of_kind TooLong unread only = absurd unread
  of_kind UnknownChain unread only = absurd unread
  of_kind UnknownSet unread only = absurd unread
  of_kind Duplicate unread only = absurd unread
  of_kind Loop unread only = absurd unread
  of_kind Depth unread only = absurd unread
  of_kind WrongHook unread only = absurd unread
  of_kind WrongType unread only = absurd unread
  of_kind NotExternal unread only = absurd unread
  of_kind NotInside unread only = absurd unread
  of_kind Limit unread only = absurd unread
  of_kind Overlap unread only = absurd unread

  -- what reading its tokens gives
  pub refused : (read : Result Spelled LoadFault) → ((rules : Spelled) → IsSpelledBy rules text → IsOkOrNoMemory rules read) → IfErr read (λ fault. IsUnread fault.kind) → IfErr read (λ fault. IsUnreadFor text fault.kind)
  refused (Ok rules) only kinds = tt
  refused (Err fault) only kinds = of_kind fault.kind kinds only
