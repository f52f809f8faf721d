-- The entries that a body has.
use Rattle.std.proofs.Common.{◌≡◌, ◌≢◌, ℕ, zero, suc, ◌+◌, ◌<◌, ◌≤◌, List, [], ◌∷◌, ◌++◌, length, refl, sym, ap, subst, ◌∙◌, length-append, arith}
use Rattle.std.proofs.lemmas.List.{append-nil}
use Rattle.std.proofs.lemmas.List.Concat.{flat_map-cons, flat_map-append}
use Rattle.durable.specs.Coding.{Entry, entry_bytes, body_bytes, IsEntry, AreEntries}
use Rattle.durable.specs.Reading.{entry_at}
use Rattle.durable.proofs.Values.{coded-entry}
use Rattle.durable.proofs.Bodies.{length-entry}
use Rattle.gateway.specs.HeldAnswers.{HasGroup, entries_at, entries_in, behind_it}

pub length-entries : (es : List Entry) → length es ≤ length (body_bytes es)
length-entries [] = omega arith
length-entries (e ∷ es) = omega (arith, ap length (flat_map-cons entry_bytes e es), length-append (entry_bytes e) (body_bytes es), length-entry e, length-entries es)

none_read : (n : ℕ) → entries_at n [] ≡ []
unfolding entry_at
none_read zero = refl
none_read (suc n) = refl

pub entries_at-is : (n : ℕ) (es : List Entry) → AreEntries es → length es ≤ n → entries_at n (body_bytes es) ≡ es
entries_at-is n [] are le = none_read n
entries_at-is zero (e ∷ es) are le = absurd (omega (arith, le))
entries_at-is (suc n) (e ∷ es) are le =
    ap (λ (l : List ℕ). entries_at (suc n) l) (flat_map-cons entry_bytes e es) ∙ ap (behind_it (entries_at n)) (coded-entry.again e (body_bytes es) are.0)
    ∙ ap (λ (l : List Entry). e ∷ l) (entries_at-is n es are.1 (omega (arith, le)))

pub entries_in-is : (es : List Entry) → AreEntries es → entries_in (body_bytes es) ≡ es
entries_in-is es are = entries_at-is (length (body_bytes es)) es are (length-entries es)

-- a body of entries is that of the entries it has
pub entries_of : (body : List ℕ) (es : List Entry) → AreEntries es → body ≡ body_bytes es → entries_in body ≡ es
entries_of body es are is = ap entries_in is ∙ entries_in-is es are

pub body_is : (body : List ℕ) (es : List Entry) → AreEntries es → body ≡ body_bytes es → body ≡ body_bytes (entries_in body)
body_is body es are is = is ∙ ap body_bytes (sym (entries_of body es are is))

pub are_coded : (body : List ℕ) (es : List Entry) → AreEntries es → body ≡ body_bytes es → AreEntries (entries_in body)
are_coded body es are is = subst AreEntries (sym (entries_of body es are is)) are

-- the body has no byte if there are none
pub empty_where_none : (body : List ℕ) (es : List Entry) → AreEntries es → body ≡ body_bytes es → entries_in body ≡ [] → body ≡ []
empty_where_none body es are is none = body_is body es are is ∙ ap body_bytes none

pub some_bytes : (body : List ℕ) (room : ℕ) → body ≢ [] → 0 < length body + room
some_bytes [] room some = absurd (some refl)
some_bytes (b ∷ body) room some = omega arith

pub more_bytes : (es : List Entry) (e : Entry) → body_bytes (es ++ e ∷ []) ≡ body_bytes es ++ entry_bytes e
more_bytes es e = flat_map-append entry_bytes es (e ∷ []) ∙ ap (λ (l : List ℕ). body_bytes es ++ l) (flat_map-cons entry_bytes e [] ∙ append-nil (entry_bytes e))

pub more_coded : (es : List Entry) (e : Entry) → AreEntries es → IsEntry e → AreEntries (es ++ e ∷ [])
more_coded [] e are is = (is, tt)
more_coded (f ∷ es) e are is = (are.0, more_coded es e are.1 is)

-- one entry more stands behind the others, in the room that there is for entries
pub one_more : (body new : List ℕ) (spare new_spare place room left : ℕ) (e : Entry) → HasGroup body spare place room
    → IsEntry e → length (entry_bytes e) ≤ room → new ≡ body ++ entry_bytes e → spare ≤ new_spare + length (entry_bytes e) → left + length new ≡ room + length body
    → HasGroup new new_spare place left
one_more body new spare new_spare place room left e was is le put less rest =
    let more = length-entry e in
    let long = ap length put ∙ length-append body (entry_bytes e) in
    record {
      entries = was.entries ++ e ∷ [];
      coded = more_coded was.entries e was.coded is;
      are = put ∙ ap (λ (l : List ℕ). l ++ entry_bytes e) was.are ∙ sym (more_bytes was.entries e);
      has_room = let spare_was = was.has_room in omega (arith, spare_was, less, rest, long);
      fits = λ some. let fit = was.fits (omega (arith, le, more)) in omega (arith, fit, rest);
    }

pub one_more_noted : (body new : List ℕ) (spare place room : ℕ) (e : Entry) → HasGroup body spare place room → IsEntry e → new ≡ body ++ entry_bytes e → entries_in new ≡ entries_in body ++ e ∷ []
one_more_noted body new spare place room e was is put =
    entries_of new (was.entries ++ e ∷ []) (more_coded was.entries e was.coded is) (put ∙ ap (λ (l : List ℕ). l ++ entry_bytes e) was.are ∙ sym (more_bytes was.entries e))
    ∙ ap (λ (l : List Entry). l ++ e ∷ []) (sym (entries_of body was.entries was.coded was.are))

-- what waits grows by the bytes of the entries that come
pub filled-on : (place new_place : ℕ) (were are entries : List Entry) → new_place ≡ place → are ≡ were ++ entries
    → new_place + length (body_bytes are) ≡ place + length (body_bytes were) + length (body_bytes entries)
filled-on place new_place were are entries same is =
    let long = ap (λ (es : List Entry). length (body_bytes es)) is ∙ ap length (flat_map-append entry_bytes were entries) ∙ length-append (body_bytes were) (body_bytes entries) in
    omega (arith, same, long)
