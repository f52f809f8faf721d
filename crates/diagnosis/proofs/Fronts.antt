-- Beginnings of a file, and whether its front is whole in them.
use Rattle.std.proofs.Common.{◌≡◌, inl, inr, ℕ, ◌+◌, ◌<◌, ◌≤◌, List, [], ◌∷◌, ◌++◌, length, take, drop, sym, ap, subst, ◌∙◌, arith, length-append, take-append-drop}
use Rattle.std.proofs.lemmas.Bool.{cases_lt}
use Rattle.std.proofs.lemmas.List.{take_at, take_all, take-take, length-take-le, get_or-take}
use Rattle.std.specs.Prelude.{Option, Some, None, Bool, true, false}
use Rattle.durable.specs.Coding.{Heading, heading_bytes}
use Rattle.durable.specs.Laws.{IsFresh}
use Rattle.disk_model.specs.Disk.{pair}
use Rattle.durable.specs.Recovery.{Found, Finds, IsHeaded, IsOpen, begun, behind}
use Rattle.durable.proofs.Headed.{headed_open, headed_once}
use Rattle.durable.proofs.Growing.{grows}
use Rattle.diagnosis.specs.Reading.{HasSoundSnapshot, HasNoFront}
use Rattle.diagnosis.specs.Probing.{Brackets, HasFront, IsFrontEnd, Tells, TellsBegin}
use Rattle.diagnosis.proofs.Alone.{found_alone, holds_alone}

pub open_take : (n : ℕ) (file : List ℕ) → 0 < n → IsOpen file → IsOpen (take n file)
open_take n file some opened = get_or-take n file 0 0 some ∙ opened

-- the front of a headed file
front_is : (file : List ℕ) (h : Heading) → IsHeaded file h → take (behind h) file ≡ 1 ∷ heading_bytes h
front_is file h on = ap (λ (l : List ℕ). take (behind h) l) on.front ∙ take_at (1 ∷ heading_bytes h) (drop (behind h) file) (behind h) (omega arith)

-- a file with the same front, and a gate behind it
pub same_front : (old new : List ℕ) (h : Heading) → IsHeaded old h → take (behind h) new ≡ take (behind h) old → behind h < length new → IsHeaded new h
same_front old new h on same gated = record {
  whole = on.whole;
  config = on.config;
  front = sym (take-append-drop (behind h) new) ∙ ap (λ (l : List ℕ). l ++ drop (behind h) new) (same ∙ front_is old h on);
  gated = gated;
}

-- the whole file, by one of its beginnings
pub lengthened : (n : ℕ) (file : List ℕ) (h : Heading) → n ≤ length file → IsHeaded (take n file) h → IsHeaded file h
lengthened n file h le on =
    let size = length-take-le n file le in
    same_front (take n file) file h on (sym (take-take (behind h) n file (omega (arith, on.gated, size)))) (omega (arith, on.gated, size, le))

-- a beginning of the file that reaches past its front
shortened : (n : ℕ) (file : List ℕ) (h : Heading) → n ≤ length file → behind h < n → IsHeaded file h → IsHeaded (take n file) h
shortened n file h le reaches on = same_front file (take n file) h on (take-take (behind h) n file (omega (arith, reaches))) (omega (arith, reaches, length-take-le n file le))

-- ---- the search

pub first_range : (file : List ℕ) → HasFront file → Brackets file 0 (length file)
first_range file front = record {
  order = omega (arith, front.1.gated);
  within = omega arith;
  front = subst HasFront (sym (take_all (length file) file (omega arith))) front;
  no_front = λ h on. absurd (omega (arith, on.gated));
}

pub lower_half : (file : List ℕ) (low high middle : ℕ) → Brackets file low high → low < middle → middle < high → HasFront (take middle file) → Brackets file low middle
lower_half file low high middle range above below front = record {
  order = above;
  within = omega (arith, below, range.within);
  front = front;
  no_front = range.no_front;
}

pub upper_half : (file : List ℕ) (low high middle : ℕ) → Brackets file low high → low < middle → middle < high → HasNoFront (take middle file) → Brackets file middle high
upper_half file low high middle range above below none = record {
  order = below;
  within = range.within;
  front = range.front;
  no_front = none;
}

pub last_range : (file : List ℕ) (low high : ℕ) → Brackets file low high → high ≤ low + 1 → IsFrontEnd file low
last_range file low high range narrow =
    let h = range.front.0 in
    let on = range.front.1 in
    let size = length-take-le high file range.within in
    let whole = lengthened high file h range.within on in
    elim (cases_lt (behind h) low) [
      | inl less ↦
          let wide : low ≤ length file = omega (arith, range.order, range.within) in
          let generation = range.no_front h (shortened low file h wide less whole) in
          absurd (omega (arith, generation, range.front.2))
      | inr least ↦ (h, whole, omega (arith, least, on.gated, size, narrow, range.order))
    ]

-- ---- the snapshot

-- a file that ends behind its front
alone_headed : (file alone : List ℕ) (end : ℕ) (h : Heading) → IsHeaded file h → end ≡ behind h → alone ≡ take end file ++ 0 ∷ [] → IsHeaded alone h × IsFresh alone h
alone_headed file alone end h on is made =
    let front : take end file ≡ 1 ∷ heading_bytes h = ap (λ (n : ℕ). take n file) is ∙ front_is file h on in
    let whole : alone ≡ (1 ∷ heading_bytes h) ++ 0 ∷ [] = made ∙ ap (λ (l : List ℕ). l ++ 0 ∷ []) front in
    let same : take (behind h) alone ≡ take (behind h) file = ap (λ (l : List ℕ). take (behind h) l) whole ∙ take_at (1 ∷ heading_bytes h) (0 ∷ []) (behind h) (omega arith) ∙ sym (front_is file h on) in
    let size : behind h < length alone = omega (arith, ap length whole, length-append (1 ∷ heading_bytes h) (0 ∷ [])) in
    (same_front file alone h on same size, ([], whole))

found_begins : (file alone : List ℕ) (end : ℕ) (at : IsFrontEnd file end) → alone ≡ take end file ++ 0 ∷ [] → (found : Option Found) → Finds (pair alone []) found → HasSoundSnapshot at.0
found_begins file alone end at made None found = absurd (found.0 (headed_open alone at.0 (alone_headed file alone end at.0 at.1 at.2 made).0))
found_begins file alone end at made (Some x) found =
    let there = alone_headed file alone end at.0 at.1 at.2 made in
    let holds = found_alone alone x found in
    subst HasSoundSnapshot (headed_once alone found.heading at.0 holds.headed there.0) (record { text = holds.text; sessions = holds.sound })

nothing_begins : (file alone : List ℕ) (end : ℕ) (at : IsFrontEnd file end) → alone ≡ take end file ++ 0 ∷ [] → ((found : Option Found) → ¬ Finds (pair alone []) found) → ¬ HasSoundSnapshot at.0
nothing_begins file alone end at made none begins =
    let h = at.0 in
    let there = alone_headed file alone end h at.1 at.2 made in
    let found = holds_alone alone h (begun h.snapshot) (behind h) (grows.made alone h there.1 at.1.whole at.1.config begins) in
    none found.0 found.1

pub tells_begin : (file alone : List ℕ) (end : ℕ) → IsFrontEnd file end → alone ≡ take end file ++ 0 ∷ [] → (found : Bool) → Tells (pair alone []) found → TellsBegin file found
tells_begin file alone end at made true told = (at.0, at.1, found_begins file alone end at made told.0 told.1)
tells_begin file alone end at made false told = (at.0, at.1, nothing_begins file alone end at made told)
