-- Bytes of bytes, and packets of what was read.
use Rattle.std.proofs.Common.{◌≡◌, ◌<◌, ◌+◌, ◌↔◌, ℕ, zero, suc, List, [], ◌∷◌, ◌++◌, take, drop, take-append-drop, length, refl, sym, ap, subst, ◌∙◌, arith, append_assoc, flat_map}
use Rattle.packet.specs.Laws.{AreBytes}
use Rattle.machine.specs.declared.event.Event.{Event}
use Rattle.machine.specs.declared.event.What.{What}
use Rattle.frames.specs.Framing.{EventsAndRest, whole_frames}
use Rattle.frames.specs.Streams.{IsStream, header, interface_of, kind_of, request, request_body}
use Rattle.socket_edge.specs.Running.{PacketsAreBytes}

pub none-fit : AreBytes []
none-fit = λ k. omega arith

first-fit : (x : ℕ) (xs : List ℕ) → x < 256 → AreBytes xs → AreBytes (x ∷ xs)
first-fit x xs h t zero = h
first-fit x xs h t (suc i) = t i

pub fit-then : (xs ys : List ℕ) → AreBytes xs → AreBytes ys → AreBytes (xs ++ ys)
fit-then [] ys h t = t
fit-then (x ∷ xs) ys h t = first-fit x (xs ++ ys) (h 0) (fit-then xs ys (λ k. h (suc k)) t)

behind-fit : (front more : List ℕ) → AreBytes (front ++ more) → AreBytes more
behind-fit [] more h = h
behind-fit (x ∷ xs) more h = behind-fit xs more (λ k. h (suc k))

front-fit : (front more : List ℕ) → AreBytes (front ++ more) → AreBytes front
front-fit [] more h = none-fit
front-fit (x ∷ xs) more h = first-fit x xs (h 0) (front-fit xs more (λ k. h (suc k)))

take-fit : (n : ℕ) (xs : List ℕ) → AreBytes xs → AreBytes (take n xs)
take-fit n xs h = front-fit (take n xs) (drop n xs) (subst AreBytes (sym (take-append-drop n xs)) h)

pub came-fit : (front came rest : List ℕ) (n : ℕ) → AreBytes (front ++ (came ++ rest)) → AreBytes (take n came)
came-fit front came rest n h = take-fit n came (front-fit came rest (behind-fit front (came ++ rest) h))

-- ---- the frames of bytes are bytes

frame-fits : (before : List Event) (event : Event) (after : List Event) (tail : List ℕ) → AreBytes (flat_map request (before ++ event ∷ after) ++ tail) → AreBytes (request event)
frame-fits [] event after tail h = front-fit (request event) (flat_map request after) (front-fit (request event ++ flat_map request after) tail h)
frame-fits (e ∷ before) event after tail h =
    let more = flat_map request (before ++ event ∷ after) in
    frame-fits before event after tail (behind-fit (request e) (more ++ tail) (subst AreBytes (append_assoc (request e) more tail) h))

body-fits : (event : Event) → AreBytes (request event) → AreBytes (request_body event.what)
body-fits event h = behind-fit (header (kind_of event.what) (interface_of event.what) (length (request_body event.what)) event.moment) (request_body event.what) h

pub packets-fit : ((bytes : List ℕ) (f : EventsAndRest) → AreBytes bytes → (whole_frames bytes ≡ f) ↔ IsStream bytes f) → PacketsAreBytes
packets-fit law bytes before event after iface packet h are is =
    let stream = (law bytes (whole_frames bytes) h).0 refl in
    let all = ap (λ (es : List Event). flat_map request es ++ stream.tail) are in
    let frames = subst AreBytes (stream.bytes_are ∙ all) h in
    subst (λ (w : What). AreBytes (request_body w)) is (body-fits event (frame-fits before event after stream.tail frames))
