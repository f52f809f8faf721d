-- Packets that are taken one after the other.
use Rattle.std.proofs.Common.{◌≡◌, ℕ, zero, suc, ◌+◌, ◌≤◌, ◌<◌, List, [], ◌∷◌, ◌++◌, length, map, take, drop, Option, Some, None, refl, sym, ap, ◌∙◌, append_assoc, arith, length-drop}
use Rattle.std.specs.Prelude.{slice_index}
use Rattle.std.specs.List.{flat_map, AllByRecursion}
use Rattle.std.proofs.lemmas.Grind.{flat_map-append}
use Rattle.std.proofs.lemmas.List.{append-nil, map-append, length-take-le, take-append-le, take-take}
use Rattle.std.proofs.Math.Seq.{take-append-add, take-append_seam, drop-append-add}
use Rattle.packet.specs.Laws.{AreBytes}
use Rattle.packet.specs.declared.endpoint.Iface.{Iface}
use Rattle.devices.specs.Handing.{Gives}
use Rattle.from_devices.specs.Requests.{Gathered, IsPacket, packet_request, request, with_packets}
use borrow.Rule.Slice.PartMut.{put_mid}

pub Gives-then : (a b c : Option (List (List ℕ))) (x y : List (List ℕ)) → Gives a b x → Gives b c y → Gives a c (x ++ y)
Gives-then None b c x y p q = tt
Gives-then (Some s) None c x y p q = absurd p
Gives-then (Some s) (Some t) None x y p q = absurd q
Gives-then (Some s) (Some t) (Some u) x y p q = p ∙ ap (λ (z : List (List ℕ)). x ++ z) q ∙ sym (append_assoc x y u)

pub Gives-nil : (a : Option (List (List ℕ))) → Gives a a []
Gives-nil None = tt
Gives-nil (Some s) = refl

pub packets-nil : (iface : Iface) (g : Gathered) → g ≡ with_packets iface [] g
packets-nil iface g = sym (rw (append-nil g.requests, append-nil g.headers) refl)

pub packets-then : (iface : Iface) (x y : List (List ℕ)) (g : Gathered) → with_packets iface y (with_packets iface x g) ≡ with_packets iface (x ++ y) g
packets-then iface x y g =
    let f = packet_request g.told iface in
    rw (append_assoc g.requests (flat_map f x) (flat_map f y), append_assoc g.headers (map (take 10) x) (map (take 10) y), flat_map-append f x y, map-append (take 10) x y) refl

pub all-append : (x y : List (List ℕ)) → AllByRecursion IsPacket x → AllByRecursion IsPacket y → AllByRecursion IsPacket (x ++ y)
all-append [] y p q = q
all-append (z ∷ x) y p q = (p.0, all-append x y p.1 q)

pub all-then : (x : List (List ℕ)) (y : List ℕ) → AllByRecursion IsPacket x → IsPacket y → AllByRecursion IsPacket (x ++ y ∷ [])
all-then x y p q = all-append x (y ∷ []) p (q, tt)

first_fits : (x : ℕ) (xs : List ℕ) → x < 256 → AreBytes xs → AreBytes (x ∷ xs)
first_fits x xs h t = each
  where
    each : (i : ℕ) → slice_index (x ∷ xs) i < 256
    each zero = h
    each (suc i) = t i

pub take_fits : (n : ℕ) (xs : List ℕ) → AreBytes xs → AreBytes (take n xs)
take_fits zero xs h = λ i. omega arith
take_fits (suc n) [] h = λ i. omega arith
take_fits (suc n) (x ∷ xs) h = first_fits x (take n xs) (h 0) (take_fits n xs (λ j. h (suc j)))

-- bytes written behind the first ones
pub put_behind : (at n : ℕ) (xs ys : List ℕ) → at ≤ length xs → n ≤ length ys → (k : ℕ) → take (at + n) (put_mid at k xs ys) ≡ take at xs ++ take n ys
put_behind at n xs ys within few k =
    let size : length (take at xs) ≡ at = length-take-le at xs within in
    let more = drop k (drop at xs) in
    ap (λ (m : ℕ). take (m + n) (take at xs ++ (ys ++ more))) (sym size) ∙ take-append-add (take at xs) (ys ++ more) n ∙ ap (λ (z : List ℕ). take at xs ++ z) (take-append-le n ys more few)

-- the header in front of what was taken
pub header_taken : (count : ℕ) (room : List ℕ) → 10 ≤ count → take 10 (take count room) ≡ take 10 room
header_taken count room least = take-take 10 count room least

four_more : (n : ℕ) → n + 4 ≡ 4 + n
four_more n = omega arith

request_size : (kind iface moment : ℕ) (body : List ℕ) → length (request kind iface moment body) ≡ 14 + length body
unfolding request
request_size kind iface moment body = omega arith

-- the request of what stands behind the first bytes of its place
pub packet_taken : (bytes room frame : List ℕ) (count len k kind iface moment : ℕ) → len ≡ count + 4 → 4 ≤ length bytes → 10 ≤ count → count ≤ length room
    → frame ≡ request kind iface moment (drop 14 (take len (put_mid 4 k bytes room)))
    → (more : List ℕ) → take len (frame ++ more) ≡ request kind iface moment (drop 10 (take count room))
packet_taken bytes room frame count len k kind iface moment size four least few is more =
    let four_long : length (take 4 bytes) ≡ 4 = length-take-le 4 bytes four in
    let whole : take len (put_mid 4 k bytes room) ≡ take 4 bytes ++ take count room =
    ap (λ (m : ℕ). take m (put_mid 4 k bytes room)) (size ∙ four_more count) ∙ put_behind 4 count bytes room four few k in
    let body : drop 14 (take len (put_mid 4 k bytes room)) ≡ drop 10 (take count room) =
    ap (drop 14) whole ∙ ap (λ (m : ℕ). drop (m + 10) (take 4 bytes ++ take count room)) (sym four_long) ∙ drop-append-add (take 4 bytes) (take count room) 10 in
    let is' : frame ≡ request kind iface moment (drop 10 (take count room)) = is ∙ ap (request kind iface moment) body in
    let long : length frame ≡ len = ap length is' ∙ request_size kind iface moment (drop 10 (take count room)) ∙ omega (arith, length-drop 10 (take count room), length-take-le count room few, size, least) in
    ap (λ (m : ℕ). take m (frame ++ more)) (sym long) ∙ take-append_seam frame more ∙ is'
