-- Texts that grow at their ends.
use Rattle.std.proofs.Common.{◌≡◌, ◌<◌, ◌∙◌, ℕ, ◌+◌, ◌-◌, List, [], ◌++◌, length, get_or, take, drop, replicate}
use Rattle.std.proofs.Common.{sym, ap, append_assoc, append-nil, length-append, arith}
use Rattle.std.specs.Prelude.{Result, Ok, Err, OnErr}
use Rattle.std.specs.List.{flat_map}
use Rattle.std.proofs.Math.Seq.{take-append_seam}
use Rattle.std.proofs.lemmas.List.{flat_map_more, take-append-drop, take_more}

-- what stood before a text that is kept is kept
pub kept_before : (old mid out text : List ℕ) → mid ≡ old ++ text → take (length mid) out ≡ mid → take (length old) out ≡ old
kept_before old mid out text grown kept =
    let whole : out ≡ old ++ (text ++ drop (length mid) out) = sym (take-append-drop (length mid) out) ∙ ap (λ t. t ++ drop (length mid) out) (kept ∙ grown) ∙ append_assoc old text (drop (length mid) out) in
    ap (λ t. take (length old) t) whole ∙ take-append_seam old (text ++ drop (length mid) out)

-- and so is what stood before two texts
pub kept_before_both :
    (old mid out one two : List ℕ) → mid ≡ old ++ one ++ two → take (length mid) out ≡ mid → take (length old) out ≡ old
kept_before_both old mid out one two grown kept =
    kept_before old mid out (one ++ two) (grown ∙ append_assoc old one two) kept

-- what holds whatever is answered holds at an error
pub on_err : {T E P : Type 0} (r : Result T E) → P → OnErr r P
on_err (Ok x) p = tt
on_err (Err e) p = p

-- the text of one item more
pub one_more :
    {X : Type 0} (f : X → List ℕ) (old mid new : List ℕ) (xs : List X) (i : ℕ) (x : X)
    → i < length xs → mid ≡ old ++ flat_map f (take i xs) → new ≡ mid ++ f (get_or xs i x)
    → new ≡ old ++ flat_map f (take (i + 1) xs)
one_more f old mid new xs i x within before grown =
    grown ∙ ap (λ t. t ++ f (get_or xs i x)) before ∙ flat_map_more f old (take i xs) (get_or xs i x)
    ∙ ap (λ l. old ++ flat_map f l) (sym (take_more xs i x within))

-- the four octets, put one after the other
pub four_octets :
    (old a b c d one two three four dot colon : List ℕ)
    → one ≡ old ++ a ++ dot → two ≡ one ++ b ++ dot → three ≡ two ++ c ++ dot → four ≡ three ++ d ++ colon
    → four ≡ old ++ (a ++ dot ++ b ++ dot ++ c ++ dot ++ d) ++ colon
four_octets old a b c d one two three four dot colon e f g h =
    let whole : four ≡ (((((((old ++ a) ++ dot) ++ b) ++ dot) ++ c) ++ dot) ++ d) ++ colon = cc in
    whole ∙ simp append_assoc

-- an address with a colon, and a port
pub with_port : (old address colon port one two : List ℕ) → one ≡ old ++ address ++ colon → two ≡ one ++ port ++ [] → two ≡ old ++ (address ++ colon ++ port)
with_port old address colon port one two e f =
    let whole : two ≡ ((old ++ address) ++ colon) ++ port ++ [] = cc in
    whole ∙ simp (append_assoc, append-nil)

-- three texts, put one after the other
pub three_texts : (old a b c one two three : List ℕ) → one ≡ old ++ a → two ≡ one ++ b → three ≡ two ++ c → three ≡ old ++ (a ++ b ++ c)
three_texts old a b c one two three e1 e2 e3 =
    let whole : three ≡ ((old ++ a) ++ b) ++ c = cc in
    whole ∙ simp append_assoc

-- four texts, put one after the other
pub four_texts :
    (old a b c d one two three four : List ℕ)
    → one ≡ old ++ a → two ≡ one ++ b → three ≡ two ++ c → four ≡ three ++ d
    → four ≡ old ++ (a ++ b ++ c ++ d)
four_texts old a b c d one two three four e1 e2 e3 e4 =
    let whole : four ≡ (((old ++ a) ++ b) ++ c) ++ d = cc in
    whole ∙ simp append_assoc

-- five texts, put one after the other
pub five_texts :
    (old a b c d e one two three four five : List ℕ)
    → one ≡ old ++ a → two ≡ one ++ b → three ≡ two ++ c → four ≡ three ++ d → five ≡ four ++ e
    → five ≡ old ++ (a ++ b ++ c ++ d ++ e)
five_texts old a b c d e one two three four five e1 e2 e3 e4 e5 =
    let whole : five ≡ ((((old ++ a) ++ b) ++ c) ++ d) ++ e = cc in
    whole ∙ simp append_assoc

-- a text, filled up to the width, and the space behind it
pub filled_text :
    (width start : ℕ) (old text space one two three : List ℕ) → start ≡ length old
    → one ≡ old ++ text → two ≡ one ++ replicate ((start + width) - length one) 32 → three ≡ two ++ space
    → three ≡ old ++ ((text ++ replicate (width - length text) 32) ++ space)
filled_text width start old text space one two three e0 e1 e2 e3 =
    let long : length one ≡ length old + length text = ap length e1 ∙ length-append old text in
    let room : (start + width) - length one ≡ width - length text = omega (arith, long, e0) in
    let whole : three ≡ ((old ++ text) ++ replicate ((start + width) - length one) 32) ++ space = cc in
    whole ∙ ap (λ n. ((old ++ text) ++ replicate n 32) ++ space) room ∙ simp append_assoc
