-- Texts put together.
use Rattle.std.proofs.Common.{◌≡◌, ◌∙◌, ℕ, ◌+◌, ◌<◌, List, [], ◌∷◌, ◌++◌, length, get_or, take, min, map, ap, append_assoc, add-one}
use Rattle.std.proofs.Math.Seq.{take-suc}
use Rattle.std.proofs.lemmas.List.{map-append, take_min}
use Rattle.text_marks.specs.Lines.{visible}

pub shortened_text :
    (n shown : ℕ) (old token dots one two : List ℕ) → shown ≡ min n (length token) → one ≡ old ++ map visible (take shown token) → two ≡ one ++ dots
    → two ≡ old ++ (map visible (take n token) ++ dots)
shortened_text n shown old token dots one two e f g =
    let whole : two ≡ (old ++ map visible (take (min n (length token)) token)) ++ dots = cc in
    whole ∙ ap (λ t. (old ++ map visible t) ++ dots) (take_min n token) ∙ append_assoc old (map visible (take n token)) dots

pub three_parts :
    (line found more zero one two three : List ℕ) → zero ≡ [] → one ≡ zero ++ line → two ≡ one ++ found → three ≡ two ++ more
    → three ≡ line ++ found ++ more
three_parts line found more zero one two three e f g h =
    let whole : three ≡ (([] ++ line) ++ found) ++ more = cc in
    whole

-- a turn of a loop that shows each byte so
pub one_more : (f : ℕ → ℕ) (bytes : List ℕ) (i shown : ℕ) (start old new : List ℕ) → i < length bytes → old ≡ start ++ map f (take i bytes)
    → shown ≡ f (get_or bytes i 0) → new ≡ old ++ (shown ∷ []) → new ≡ start ++ map f (take (i + 1) bytes)
one_more f bytes i shown start old new lt so_far is put =
    let longer : map f (take (i + 1) bytes) ≡ map f (take i bytes) ++ (f (get_or bytes i 0) ∷ []) = rw (add-one, take-suc bytes i 0 lt) (simp map-append) in
    let regrouped : (start ++ map f (take i bytes)) ++ (f (get_or bytes i 0) ∷ []) ≡ start ++ map f (take (i + 1) bytes) = rw (longer, append_assoc) in
    put ∙ ap (λ (n : ℕ). old ++ (n ∷ [])) is ∙ ap (λ (l : List ℕ). l ++ (f (get_or bytes i 0) ∷ [])) so_far ∙ regrouped
