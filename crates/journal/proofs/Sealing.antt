-- The body in a sealed buffer.
use Rattle.std.proofs.Common.{◌≡◌, ℕ, suc, ◌+◌, ◌-◌, ◌<◌, ◌≤◌, ◌^◌, List, [], ◌∷◌, ◌++◌, length, take, drop, refl, sym, ◌∙◌, ap, arith, length-append, length-drop, append_assoc}
use Rattle.std.proofs.lemmas.List.{take_at, drop_at, drop-append-le, drop-take, length-take-le, take-take}
use Rattle.byteorder.specs.Endian.{big_bytes}
use Rattle.byteorder.specs.Numbers.{length-bytes_high_first}
use Rattle.journal.specs.Groups.{Growing, IsSealed, sealed, body_in}

pub length-body_in : (end : ℕ) (bytes : List ℕ) → 4 ≤ end → end ≤ length bytes → length (body_in end bytes) ≡ end - 4
length-body_in end bytes long within = omega (arith, length-drop 4 (take end bytes), length-take-le end bytes within)

-- what the first bytes are does not depend on those behind
pub body-kept : (end more : ℕ) (old new : List ℕ) → take (end + more) new ≡ take (end + more) old → body_in end new ≡ body_in end old
body-kept end more old new e =
    ap (λ l. drop 4 l) (sym (take-take end (end + more) new (omega arith)) ∙ ap (take end) e ∙ take-take end (end + more) old (omega arith))

module _ (end count : ℕ) (old : List ℕ) (long : 4 ≤ end) (within : end < length old) (is : count ≡ end - 4) where
  abbrev size : List ℕ
  size = big_bytes 4 count

  abbrev body : List ℕ
  body = body_in end old

  abbrev behind : List ℕ
  behind = drop (end + 1) old

  -- the buffer with its length in front, and the 0 behind the body
  abbrev pub closed : List ℕ
  closed = size ++ drop 4 (take end old ++ 0 ∷ behind)

  spelled : closed ≡ size ++ (body ++ 0 ∷ behind)
  spelled = ap (λ l. size ++ l) (drop-append-le 4 (take end old) (0 ∷ behind) (omega (arith, long, within, length-take-le end old (omega arith))))

  size-length : length size ≡ 4
  size-length = length-bytes_high_first 4 count

  body-length : length body ≡ end - 4
  body-length = length-body_in end old long (omega arith)

  pub closed_is_sealed : take (end + 1) closed ≡ sealed body
  closed_is_sealed =
      let whole : length (size ++ (body ++ 0 ∷ [])) ≡ end + 1 = omega (arith, long, size-length, body-length, length-append size (body ++ 0 ∷ []), length-append body (0 ∷ [])) in
      ap (take (end + 1)) (spelled ∙ ap (λ l. size ++ l) (sym (append_assoc body (0 ∷ []) behind)) ∙ sym (append_assoc size (body ++ 0 ∷ []) behind))
      ∙ take_at (size ++ (body ++ 0 ∷ [])) behind (end + 1) whole
      ∙ ap (λ n. big_bytes 4 n ++ (body ++ 0 ∷ [])) (is ∙ sym body-length)

  pub closed_has_body : body_in end closed ≡ body
  closed_has_body =
      let whole : length (size ++ body) ≡ end = omega (arith, long, size-length, body-length, length-append size body) in
      ap (body_in end) (spelled ∙ sym (append_assoc size body (0 ∷ behind)))
      ∙ ap (λ l. drop 4 l) (take_at (size ++ body) (0 ∷ behind) end whole)
      ∙ drop_at size body 4 size-length

-- an entry behind the body
pub grown : (end : ℕ) (bytes entry : List ℕ) → 4 ≤ end → end ≤ length bytes → (rest : List ℕ) → body_in (end + length entry) (take end bytes ++ (entry ++ rest)) ≡ body_in end bytes ++ entry
grown end bytes entry long within rest =
    let size : length (take end bytes) ≡ end = length-take-le end bytes within in
    ap (λ l. drop 4 (take (end + length entry) l)) (sym (append_assoc (take end bytes) entry rest))
    ∙ ap (λ l. drop 4 l) (take_at (take end bytes ++ entry) rest (end + length entry) (omega (arith, size, length-append (take end bytes) entry)))
    ∙ drop-append-le 4 (take end bytes) entry (omega (arith, size, long))

-- the first bytes of the body
pub cut : (end len : ℕ) (bytes : List ℕ) → len + 4 ≤ end → body_in (len + 4) bytes ≡ take len (body_in end bytes)
cut end len bytes short =
    ap (λ l. drop 4 l) (sym (take-take (len + 4) end bytes short) ∙ ap (λ n. take n (take end bytes)) (let e : len + 4 ≡ 4 + len = omega arith in e))
    ∙ drop-take 4 len (take end bytes)

-- ---- the buffer of a group

-- a body has as many bytes
pub room-in : (end : ℕ) (bytes : List ℕ) (g : Growing) → IsSealed end bytes → record { body = body_in end bytes; room = length bytes - (end + 1) } ≡ g → (length g.body ≡ end - 4) × (g.room ≡ length bytes - (end + 1))
room-in end bytes g i is = (ap (λ v. length v.body) (sym is) ∙ length-body_in end bytes i.long (omega (arith, i.within)), ap (λ v. v.room) (sym is))

-- what is sealed at a place, as it is written back
pub is_sealed : (end : ℕ) (bytes holds : List ℕ) → 4 ≤ end → end < length bytes → end < 2 ^ 32 + 4 → take (end + 1) bytes ≡ sealed holds → body_in end bytes ≡ holds → IsSealed end bytes
is_sealed end bytes holds long within fits s is = record { sealed_is = s ∙ ap sealed (sym is); long = long; within = within; fits = fits }
