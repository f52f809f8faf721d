-- What the bytes at an open gate say.
use Rattle.std.proofs.Common.{◌≡◌, ℕ, ◌+◌, ◌<◌, ◌≤◌, ◌^◌, List, [], ◌∷◌, ◌++◌, length, get_or, take, drop, sym, ◌∙◌, ap, arith, length-drop, take-append-drop}
use Rattle.std.specs.Int.{w32, from_be_bytes}
use Rattle.std.proofs.lemmas.List.{take_at, drop-drop, drop_more, length-take-le, get_or-drop, get_or-take}
use Rattle.std.proofs.lemmas.Nat.{be_bytes_4}
use Rattle.byteorder.specs.Endian.{big_bytes, big_number}
use Rattle.byteorder.specs.Numbers.{length-bytes_high_first, big_number-reads_back}
use Rattle.journal.specs.Groups.{GroupAt, IsBrokenAt}

same_number : (bs : List ℕ) → big_number 4 bs ≡ from_be_bytes w32 bs
same_number bs = omega arith

pub number_bytes : (bs : List ℕ) (n : ℕ) → length bs ≡ 4 → ((i : ℕ) → get_or bs i 0 < 256) → n ≡ big_number 4 bs → big_bytes 4 n ≡ bs
number_bytes bs n four bytes is = be_bytes_4 bs n four bytes (is ∙ same_number bs)

-- a length that goes past the end
pub too_long : (file : List ℕ) (at count : ℕ) → get_or file at 0 ≡ 1 → at + 6 ≤ length file → count < 2 ^ 32 → big_bytes 4 count ≡ take 4 (drop (at + 1) file) → length file < at + 6 + count → IsBrokenAt file at
too_long file at count open_gate within fits is long = record {
  open_gate = open_gate;
  no_group = λ body g.
      let rest = body ++ drop (at + 5 + length body) file in
      let behind : drop (at + 1) file ≡ big_bytes 4 (length body) ++ rest = sym (drop-drop 1 at file) ∙ ap (λ l. drop 1 l) g.split in
      let size : take 4 (drop (at + 1) file) ≡ big_bytes 4 (length body) = ap (λ l. take 4 l) behind ∙ take_at (big_bytes 4 (length body)) rest 4 (length-bytes_high_first 4 (length body)) in
      let number : big_number 4 (big_bytes 4 (length body) ++ []) ≡ length body = big_number-reads_back 4 (length body) [] g.fits in
      let same : count ≡ length body = sym (big_number-reads_back 4 count [] fits) ∙ ap (λ l. big_number 4 (l ++ [])) (is ∙ size) ∙ number in
      omega (arith, same, long, g.within);
}

pub whole : (file body : List ℕ) (at count : ℕ) → get_or file at 0 ≡ 1 → big_bytes 4 count ≡ take 4 (drop (at + 1) file) → count < 2 ^ 32 → at + 6 + count ≤ length file → body ≡ take count (drop (at + 5) file) → GroupAt file at body
whole file body at count open_gate number fits within body_is =
    let long : length body ≡ count = ap length body_is ∙ length-take-le count (drop (at + 5) file) (omega (arith, within, length-drop (at + 5) file)) in
    let rest : drop (at + 5) file ≡ body ++ drop (at + 5 + length body) file =
    sym (take-append-drop count (drop (at + 5) file)) ∙ ap (λ l. l ++ drop count (drop (at + 5) file)) (sym body_is) ∙ ap (λ l. body ++ l) (drop-drop count (at + 5) file ∙ ap (λ k. drop (at + 5 + k) file) (sym long)) in
    let behind : drop (at + 1) file ≡ big_bytes 4 (length body) ++ (body ++ drop (at + 5 + length body) file) =
    sym (take-append-drop 4 (drop (at + 1) file))
    ∙ ap (λ l. l ++ drop 4 (drop (at + 1) file)) (sym number ∙ ap (λ k. big_bytes 4 k) (sym long))
    ∙ ap (λ l. big_bytes 4 (length body) ++ l) (drop-drop 4 (at + 1) file ∙ ap (λ k. drop k file) (omega arith) ∙ rest) in
    record {
      split = drop_more file at 0 (omega (arith, within)) ∙ ap (λ k. k ∷ drop (at + 1) file) open_gate ∙ ap (λ l. 1 ∷ l) behind;
      within = omega (arith, long, within);
      fits = omega (arith, long, fits);
    }

pub gate_is : (file bytes : List ℕ) (at : ℕ) → bytes ≡ take 1 (drop at file) → get_or bytes 0 0 ≡ 1 → get_or file at 0 ≡ 1
gate_is file bytes at is open_gate =
    ap (λ k. get_or file k 0) (omega arith) ∙ sym (get_or-drop at file 0 0) ∙ sym (get_or-take 1 (drop at file) 0 0 (omega arith)) ∙ sym (ap (λ l. get_or l 0 0) is) ∙ open_gate
