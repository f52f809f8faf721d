-- The entries from a key on.
use Rattle.std.proofs.Common.{◌≡◌, ℕ, suc, ◌+◌, ◌*◌, ◌<◌, cond, List, [], ◌∷◌, ◌++◌, map, length, get_or, take, drop, refl, sym, ap, ◌∙◌, subst, arith}
use Rattle.std.proofs.lemmas.Bool.{lt-ltb, le-ltb}
use Rattle.std.proofs.lemmas.List.{append_assoc, map-append, take-append-drop, length-drop, get_or-drop}
use Rattle.rows.specs.declared.Entry.{Entry}
use Rattle.rows.specs.declared.runs.Run.{Run}
use Rattle.rows.specs.Held.{entries_from}
use Rattle.rows.specs.Order.{Above, Below, odd, even, held_in, numbers_in, AreOrdered, IsPlaceFor, IsRunFor}
use Rattle.rows.proofs.Numbers.{above-append, above-from, above-weaker, below-weaker}
use Rattle.rows.proofs.Lookups.{place-below}
use Rattle.rows.proofs.Pieces.{front_below, keys-below, keys-above, above_next, next_of, back_rises, split_at, held_in-middle}

-- those below the key are left out
pub from-below : (key : ℕ) (a b : List Entry) → Below (map odd a) (2 * key + 1) → entries_from key (a ++ b) ≡ entries_from key b
from-below key [] b below = refl
from-below key (e ∷ a) b below =
    let lt = below.0 in
    ap (λ c. cond c (entries_from key (a ++ b)) (e ∷ a ++ b)) (lt-ltb e.key key (omega arith)) ∙ from-below key a b below.1

-- the others all stay
pub from-above : (key : ℕ) (b : List Entry) → Above (2 * key) (map odd b) → entries_from key b ≡ b
from-above key [] above = refl
from-above key (e ∷ b) above =
    let lt = above.0 in
    ap (λ c. cond c (entries_from key b) (e ∷ b)) (le-ltb e.key key (omega arith))

-- where no run begins up to the key, all stay
pub from_first : (key : ℕ) (runs : List Run) → Above (2 * key + 1) (numbers_in runs) → entries_from key (held_in runs) ≡ held_in runs
from_first key runs above = from-above key (held_in runs) (above-weaker (2 * key) (2 * key + 1) _ (omega arith) (keys-above (2 * key + 1) runs above))

place-from : (entries : List Entry) (key place : ℕ) → IsPlaceFor entries key place → Above (2 * key) (map odd (drop place entries))
place-from entries key place is_place = above-from odd (2 * key) (drop place entries) (λ j d lt.
    let within : place + j < length entries = omega (arith, lt, length-drop place entries) in
    let least = is_place.after (place + j) d (omega arith) within in
    rw (get_or-drop place entries j d) (omega (arith, least)))

-- those of the run of a key from its place on, and those of the later runs
pub from_run : (runs : List Run) (number key place : ℕ) (d : Run) → AreOrdered runs → IsRunFor runs key number → IsPlaceFor (get_or runs number d).entries.items key place → entries_from key (held_in runs) ≡ drop place (get_or runs number d).entries.items ++ held_in (drop (suc number) runs)
from_run runs number key place d ordered is_run is_place =
    let front = take number runs in
    let run = get_or runs number d in
    let back = drop (suc number) runs in
    let split : runs ≡ front ++ run ∷ back = split_at runs number d is_run.in_range in
    let apart : AreOrdered (front ++ run ∷ back) = subst AreOrdered split ordered in
    let low = is_run.low d in
    let before = keys-below (2 * key + 1) front (below-weaker (even run) (2 * key + 1) _ (omega (arith, low)) (front_below front run back apart)) in
    let parts : run.entries.items ≡ take place run.entries.items ++ drop place run.entries.items = sym (take-append-drop place run.entries.items) in
    let later = keys-above (2 * key + 1) back (above_next key back (back_rises front run back apart) (next_of runs number ordered key is_run)) in
    let rest = drop place run.entries.items ++ held_in back in
    let stays : Above (2 * key) (map odd rest) = subst (Above (2 * key)) (sym (map-append odd (drop place run.entries.items) (held_in back)))
    (above-append (2 * key) _ _ (place-from run.entries.items key place is_place) (above-weaker (2 * key) (2 * key + 1) _ (omega arith) later)) in
    ap (λ k. entries_from key (held_in k)) split
    ∙ ap (entries_from key) (held_in-middle front run back)
    ∙ from-below key (held_in front) (run.entries.items ++ held_in back) before
    ∙ ap (λ k. entries_from key (k ++ held_in back)) parts
    ∙ ap (entries_from key) (append_assoc (take place run.entries.items) (drop place run.entries.items) (held_in back))
    ∙ from-below key (take place run.entries.items) rest (place-below run.entries.items key place is_place)
    ∙ from-above key rest stays
