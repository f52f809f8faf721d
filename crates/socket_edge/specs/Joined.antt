-- Proofs, no definitions: what is read and written one after the other. They stand here since an `impl` of `Peer` can
-- name nothing of proofs/. No public clause cites this module.
use Rattle.std.proofs.Common.{◌≡◌, ℕ, List, [], ◌∷◌, ◌++◌, Option, Some, None, refl, sym, ap, subst, ◌∙◌, append_assoc}
use Rattle.std.proofs.lemmas.List.{append-nil}
use Rattle.std.specs.Io.KnownBytes.{Appends, Consumes}
use Rattle.socket_edge.specs.Turns.{Turn, Gave, ReadFailed, Took, WriteFailed, given, taken}

pub given_then : (turns more : List Turn) → given (turns ++ more) ≡ given turns ++ given more
given_then [] more = refl
given_then (Gave bytes ∷ turns) more = ap (λ (x : List ℕ). bytes ++ x) (given_then turns more) ∙ sym (append_assoc bytes (given turns) (given more))
given_then (ReadFailed ∷ turns) more = given_then turns more
given_then (Took bytes ∷ turns) more = given_then turns more
given_then (WriteFailed ∷ turns) more = given_then turns more

pub taken_then : (turns more : List Turn) → taken (turns ++ more) ≡ taken turns ++ taken more
taken_then [] more = refl
taken_then (Gave bytes ∷ turns) more = taken_then turns more
taken_then (ReadFailed ∷ turns) more = taken_then turns more
taken_then (Took bytes ∷ turns) more = ap (λ (x : List ℕ). bytes ++ x) (taken_then turns more) ∙ sym (append_assoc bytes (taken turns) (taken more))
taken_then (WriteFailed ∷ turns) more = taken_then turns more

pub Appends-then : (a b c : Option (List ℕ)) (x y : List ℕ) → Appends a b x → Appends b c y → Appends a c (x ++ y)
Appends-then None b c x y p q = tt
Appends-then (Some s) None c x y p q = absurd p
Appends-then (Some s) (Some t) None x y p q = absurd q
Appends-then (Some s) (Some t) (Some u) x y p q = q ∙ ap (λ (z : List ℕ). z ++ y) p ∙ append_assoc s x y

pub Consumes-then : (a b c : Option (List ℕ)) (x y : List ℕ) → Consumes a b x → Consumes b c y → Consumes a c (x ++ y)
Consumes-then None b c x y p q = tt
Consumes-then (Some s) None c x y p q = absurd p
Consumes-then (Some s) (Some t) None x y p q = absurd q
Consumes-then (Some s) (Some t) (Some u) x y p q = p ∙ ap (λ (z : List ℕ). x ++ z) q ∙ sym (append_assoc x y u)

pub Appends-nil : (a : Option (List ℕ)) → Appends a a []
Appends-nil None = tt
Appends-nil (Some s) = sym (append-nil s)

pub Consumes-nil : (a : Option (List ℕ)) → Consumes a a []
Consumes-nil None = tt
Consumes-nil (Some s) = refl

pub consumed_then : (a b c : Option (List ℕ)) (turns more : List Turn) → Consumes a b (given turns)
    → Consumes b c (given more) → Consumes a c (given (turns ++ more))
consumed_then a b c turns more p q = subst (Consumes a c) (sym (given_then turns more)) (Consumes-then a b c (given turns) (given more) p q)

pub appended_then : (a b c : Option (List ℕ)) (turns more : List Turn) → Appends a b (taken turns)
    → Appends b c (taken more) → Appends a c (taken (turns ++ more))
appended_then a b c turns more p q = subst (Appends a c) (sym (taken_then turns more)) (Appends-then a b c (taken turns) (taken more) p q)
