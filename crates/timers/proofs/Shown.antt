-- What a row shows: the idle time of each slot, by what is watched at its place.
use Rattle.std.proofs.Common.{◌≡◌, ℕ, zero, suc, ◌+◌, ◌-◌, ◌<◌, ◌≤◌, List, [], ◌∷◌, length, get_or, drop, Option, Some, None, IsSome, IsSomeAnd, IfSome, refl, sym, ap, ◌∙◌, subst, inl, inr, arith}
use Rattle.std.specs.Option.{option_map}
use Rattle.std.proofs.lemmas.Bool.{cases_eq}
use Rattle.std.proofs.lemmas.List.{get_or-drop}
use Rattle.std.proofs.lemmas.Option.{none-some}
use Rattle.std.proofs.Math.Path.{fun_ext}
use Rattle.timers.specs.declared.due.Idle.{Idle}
use Rattle.timers.specs.declared.links.Link.{Link}
use Rattle.timers.specs.declared.links.Watch.{Watch}
use Rattle.timers.specs.Due.{Watched, at, Updates, IsOver, AreDue}
use Rattle.timers.specs.Links.{alone, most_places, link, watch, tag_by, last, last_by, idle_by, idle_in, idles, idles_by, timeout_in, IsPut, IsRing, IsRow, IsOverAt, IsFound}
use Rattle.timers.proofs.Held.{above_heads, tag_held, inside_row}

get_or-idles_by : (links : List Link) (k j : ℕ) → get_or (idles_by links) k None ≡ option_map idle_by (get_or links k (alone j)).watch
get_or-idles_by [] k j = refl
get_or-idles_by (place ∷ places) zero j = refl
get_or-idles_by (place ∷ places) (suc k) j = get_or-idles_by places k j

-- the idle time of a slot, by its place
pub at-idles : (links : List Link) (slot : ℕ) → get_or (idles links) slot None ≡ option_map idle_by (watch links (slot + 3))
at-idles links slot =
    let three : 3 + slot ≡ slot + 3 = omega arith in
    get_or-idles_by (drop 3 links) slot (slot + 3)
    ∙ ap (λ (l : Link). option_map idle_by l.watch) (get_or-drop 3 links slot (alone (slot + 3)) ∙ ap (λ q. get_or links q (alone (slot + 3))) three)

unmapped : (o : Option Watch) → IsSome (option_map idle_by o) → IsSome o
unmapped None is = is
unmapped (Some w) is = is

-- what is shown as watched is watched
pub held_watch : (links : List Link) (slot : ℕ) → IsSome (get_or (idles links) slot None) → IsSome (watch links (slot + 3))
held_watch links slot is = unmapped (watch links (slot + 3)) (subst IsSome (at-idles links slot) is)

pub held_inside : (links : List Link) (slot : ℕ) → IsSome (get_or (idles links) slot None) → slot + 3 < length links
held_inside links slot is = inside_row links (slot + 3) (held_watch links slot is)

none_unmapped : (o : Option Watch) → option_map idle_by o ≡ None → o ≡ None
none_unmapped None e = refl
none_unmapped (Some w) e = absurd (none-some (idle_by w) (sym e))

-- what is not shown is not watched
pub free_watch : (links : List Link) (slot : ℕ) → get_or (idles links) slot None ≡ None → watch links (slot + 3) ≡ None
free_watch links slot e = none_unmapped (watch links (slot + 3)) (sym (at-idles links slot) ∙ e)

-- a change at one place is the change of one slot
pub IsPut-idle : (before after : List Link) (slot : ℕ) (o : Option Watch) → IsPut (watch before) (watch after) (slot + 3) o → IsPut (idle_in before) (idle_in after) slot (option_map idle_by o)
IsPut-idle before after slot o put = record {
  here = ap (option_map idle_by) put.here;
  others = λ j away. ap (option_map idle_by) (put.others (j + 3) (λ e. away (omega (arith, e))));
}

-- with the seconds of the queue in place of the queue
pub IsPut-watch : (before after : List Link) (slot : ℕ) (w : Watch) (timeout : ℕ) → IsPut (watch before) (watch after) (slot + 3) (Some w) → timeout_in w.queue ≡ timeout
    → IsPut (idle_in before) (idle_in after) slot (Some (record { last = w.last; timeout = timeout }))
IsPut-watch before after slot w timeout put same =
    subst (λ t. IsPut (idle_in before) (idle_in after) slot (Some (record { last = w.last; timeout = t }))) same (IsPut-idle before after slot (Some w) put)

-- so it is shown
pub Updates-idle : (old new : Watched) (before after : List Link) (slot : ℕ) (o : Option Idle) → old.idle ≡ idles before → new.idle ≡ idles after
    → IsPut (idle_in before) (idle_in after) slot o → Updates old new slot o
Updates-idle old new before after slot o was is put = record {
  changed = ap (λ xs. get_or xs slot None) is ∙ at-idles after slot ∙ put.here;
  others = λ j away. ap (λ xs. get_or xs j None) is ∙ at-idles after j ∙ put.others j away ∙ sym (at-idles before j) ∙ ap (λ xs. get_or xs j None) (sym was);
}

module _ (old new : List Link) (same : (k : ℕ) → link new k ≡ link old k) where
  -- new places with nothing watched change nothing
  pub IsRow-same : (length old ≤ most_places → length new ≤ most_places) → IsRow old → IsRow new
  IsRow-same few row = record {
    few = few row.few;
    placed = λ k w is. row.placed k w (ap (λ (l : Link). l.watch) (sym (same k)) ∙ is);
    ring = subst (λ (f : ℕ → Link). IsRing (λ k. (f k).next) (λ k. (f k).previous) (λ k. tag_by (f k).watch k) (λ k. last_by (f k).watch)) (fun_ext (λ k. sym (same k))) row.ring;
  }

  pub idles-same : (slot : ℕ) → get_or (idles new) slot None ≡ get_or (idles old) slot None
  idles-same slot = at-idles new slot ∙ ap (λ (l : Link). option_map idle_by l.watch) (same (slot + 3)) ∙ sym (at-idles old slot)

-- no place at all
pub IsRow-none : IsRow []
IsRow-none = record {
  few = omega arith;
  placed = λ k w is. absurd (none-some w is);
  ring = record {
    rank = λ k. 0;
    top = 1;
    head = λ k lt. refl;
    on = λ k lt. (refl, refl);
    back = λ k lt. (refl, refl);
    up = λ k lt inner over. absurd (omega (arith, lt, inner));
    below = λ k lt. omega arith;
  };
}

latest_by : (links : List Link) (moment k : ℕ) (o : Option Watch) → IsRow links → watch links k ≡ o
    → ((slot : ℕ) → IfSome (get_or (idles links) slot None) (λ idle. idle.last ≤ moment)) → last_by o ≤ moment
latest_by links moment k None row e latest = omega arith
latest_by links moment k (Some w) row e latest =
    let here : k ≡ w.slot + 3 = sym (row.placed k w e) in
    subst (λ o. IfSome o (λ (idle : Idle). idle.last ≤ moment)) (at-idles links w.slot ∙ ap (option_map idle_by) (ap (watch links) (sym here) ∙ e)) (latest w.slot)

-- no moment at a place comes after this one
pub latest_places : (links : List Link) (moment : ℕ) → IsRow links → ((slot : ℕ) → IfSome (get_or (idles links) slot None) (λ idle. idle.last ≤ moment)) → (k : ℕ) → last links k ≤ moment
latest_places links moment row latest k = latest_by links moment k (watch links k) row refl latest

-- still so once something is watched no longer
pub latest-cut : (old new : List Link) (at moment : ℕ) → IsPut (watch old) (watch new) at None → ((k : ℕ) → last old k ≤ moment) → (k : ℕ) → last new k ≤ moment
latest-cut old new at moment put latest k = elim (cases_eq k at) [
  | inl here ↦ omega (arith, ap last_by (ap (watch new) here ∙ put.here))
  | inr away ↦ omega (arith, ap last_by (put.others k away), latest k)
]

mapped-over : (now : ℕ) (o : Option Watch) → IsSomeAnd o (λ w. IsOver now (idle_by w)) → IsSomeAnd (option_map idle_by o) (IsOver now)
mapped-over now None is = is
mapped-over now (Some w) is = is

over-mapped : (now : ℕ) (o : Option Watch) → IsSomeAnd (option_map idle_by o) (IsOver now) → IsSomeAnd o (λ w. IsOver now (idle_by w))
over-mapped now None is = is
over-mapped now (Some w) is = is

some_over : (now : ℕ) (o : Option Watch) → IsSomeAnd o (λ w. IsOver now (idle_by w)) → IsSome o
some_over now None is = absurd is
some_over now (Some w) is = refl

-- what is found in the three queues is what is due
pub all_due : (w : Watched) (links : List Link) (now : ℕ) (slots : List ℕ) → w.idle ≡ idles links → IsFound links now 3 slots → AreDue w now slots
all_due w links now slots is found = record {
  exactly = λ slot. (
    (λ has. subst (λ o. IsSomeAnd o (IsOver now)) (sym (ap (λ xs. get_or xs slot None) is ∙ at-idles links slot)) (mapped-over now (watch links (slot + 3)) (found.each slot has).1)),
    (λ over.
        let here : IsOverAt links now (slot + 3) = over-mapped now (watch links (slot + 3)) (subst (λ o. IsSomeAnd o (IsOver now)) (ap (λ xs. get_or xs slot None) is ∙ at-idles links slot) over) in
        found.all slot (tag_held (watch links (slot + 3)) (slot + 3) (some_over now (watch links (slot + 3)) here)) here),
  );
  once = found.once;
}

-- where none is shown as over, none is
pub none_over : (links : List Link) (now : ℕ) → IsRow links → ((slot : ℕ) → ¬ IsSomeAnd (get_or (idles links) slot None) (IsOver now)) → (k : ℕ) → ¬ IsOverAt links now k
none_over links now row none k over =
    let large : 3 ≤ k = above_heads links k row (some_over now (watch links k) over) in
    let r : k ≡ k - 3 + 3 = omega arith in
    none (k - 3) (subst (λ o. IsSomeAnd o (IsOver now)) (sym (at-idles links (k - 3))) (mapped-over now (watch links (k - 3 + 3)) (subst (IsOverAt links now) r over)))
