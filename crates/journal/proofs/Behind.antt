-- Groups that end at a place, and what stands there after an append.
use Rattle.std.proofs.Common.{◌≡◌, ◌≢◌, inl, inr, ℕ, ◌+◌, ◌<◌, ◌^◌, List, [], ◌∷◌, ◌++◌, length, get_or, take, drop, refl, sym, ◌∙◌, ap, arith, length-append, length-drop, append_assoc, take-append-drop}
use Rattle.std.proofs.lemmas.List.{take_at, drop_at, drop-drop, drop-take, drop_more, get_or-drop}
use Rattle.std.proofs.lemmas.List.Elements.{All-push}
use Rattle.std.proofs.lemmas.Bool.{cases_eq}
use Rattle.byteorder.specs.Endian.{big_bytes}
use Rattle.byteorder.specs.Numbers.{length-bytes_high_first}
use Rattle.disk_model.specs.Disk.{Torn, put}
use Rattle.journal.specs.Groups.{Groups, Extended, sealed, open_groups}
use Rattle.journal.proofs.Torn.{torn_before, torn_behind, take-put, drop-put, length-put}

pub length-sealed : (body : List ℕ) → length (sealed body) ≡ length body + 5
length-sealed body = omega (arith, length-append (big_bytes 4 (length body)) (body ++ 0 ∷ []), length-append body (0 ∷ []), length-bytes_high_first 4 (length body))

pub open_groups-push : (bodies : List (List ℕ)) (body tail : List ℕ) → open_groups (bodies ++ body ∷ []) ++ tail ≡ open_groups bodies ++ 1 ∷ (big_bytes 4 (length body) ++ (body ++ tail))
open_groups-push [] body tail = ap (λ l. 1 ∷ l) (append_assoc (big_bytes 4 (length body)) (body ++ []) tail ∙ ap (λ l. big_bytes 4 (length body) ++ l) (append_assoc body [] tail))
open_groups-push (b ∷ bodies) body tail =
    let size = big_bytes 4 (length b) in
    let rest = open_groups (bodies ++ body ∷ []) in
    let new = 1 ∷ (big_bytes 4 (length body) ++ (body ++ tail)) in
    ap (λ l. 1 ∷ l)
    (append_assoc size (b ++ rest) tail
    ∙ ap (λ l. size ++ l) (append_assoc b rest tail ∙ ap (λ l. b ++ l) (open_groups-push bodies body tail) ∙ sym (append_assoc b (open_groups bodies) new))
    ∙ sym (append_assoc size (b ++ open_groups bodies) new))

pub length-open_groups-push : (bodies : List (List ℕ)) (body : List ℕ) → length (open_groups (bodies ++ body ∷ [])) ≡ length (open_groups bodies) + length body + 5
length-open_groups-push bodies body =
    let whole = ap length (open_groups-push bodies body []) in
    let left = length-append (open_groups (bodies ++ body ∷ [])) [] in
    let right = length-append (open_groups bodies) (1 ∷ (big_bytes 4 (length body) ++ (body ++ []))) in
    omega (arith, whole, left, right, length-append (big_bytes 4 (length body)) (body ++ []), length-append body [], length-bytes_high_first 4 (length body))

-- what stands from the first group on, by what stands at the end of the last
pub regroup : (old new : List ℕ) (start at : ℕ) (bodies : List (List ℕ)) → Groups old start bodies at → take at new ≡ take at old → drop start new ≡ open_groups bodies ++ drop at new
regroup old new start at bodies g same =
    let m = length (open_groups bodies) in
    let e : take at new ≡ take (start + m) new = ap (λ k. take k new) g.end_is in
    let front : take m (drop start new) ≡ open_groups bodies =
    sym (drop-take start m new)
    ∙ ap (λ k. drop start (take k new)) (sym g.end_is)
    ∙ ap (λ l. drop start l) same
    ∙ ap (λ k. drop start (take k old)) g.end_is
    ∙ drop-take start m old
    ∙ ap (λ l. take m l) g.split
    ∙ take_at (open_groups bodies) (g.gate ∷ g.rest) m refl in
    let back : drop m (drop start new) ≡ drop at new = drop-drop m start new ∙ ap (λ k. drop k new) (sym g.end_is) in
    sym (take-append-drop m (drop start new)) ∙ ap (λ l. l ++ drop m (drop start new)) front ∙ ap (λ l. open_groups bodies ++ l) back

-- a closed gate at the place: the same groups
pub still : (at gate : ℕ) (rest old new : List ℕ) → take at new ≡ take at old → drop at new ≡ gate ∷ rest → gate ≢ 1
    → (start : ℕ) (bodies : List (List ℕ)) → Groups old start bodies at → Groups new start bodies at
still at gate rest old new same is shut start bodies g = record {
  gate = gate;
  rest = rest;
  split = regroup old new start at bodies g same ∙ ap (λ l. open_groups bodies ++ l) is;
  closed = shut;
  fit = g.fit;
  end_is = g.end_is;
}

-- an open one with a whole body and a closed gate behind it: the new group too
pub one_more : (at : ℕ) (body rest old new : List ℕ) → length body < 2 ^ 32 → take at new ≡ take at old → drop at new ≡ 1 ∷ (sealed body ++ rest)
    → (start : ℕ) (bodies : List (List ℕ)) → Groups old start bodies at → Groups new start (bodies ++ body ∷ []) (at + length body + 5)
one_more at body rest old new fits same is start bodies g = record {
  gate = 0;
  rest = rest;
  split =
      regroup old new start at bodies g same
      ∙ ap (λ l. open_groups bodies ++ l) (is ∙ ap (λ l. 1 ∷ l) (append_assoc (big_bytes 4 (length body)) (body ++ 0 ∷ []) rest ∙ ap (λ l. big_bytes 4 (length body) ++ l) (append_assoc body (0 ∷ []) rest)))
      ∙ sym (open_groups-push bodies body (0 ∷ rest));
  closed = λ e. omega (arith, e);
  fit = All-push (λ b. length b < 2 ^ 32) bodies body g.fit fits;
  end_is = omega (arith, g.end_is, length-open_groups-push bodies body);
}

-- what stands at the end of groups
pub at_end_of : (file : List ℕ) (start end : ℕ) (bodies : List (List ℕ)) (g : Groups file start bodies end) → drop end file ≡ g.gate ∷ g.rest
at_end_of file start end bodies g =
    let m = length (open_groups bodies) in
    ap (λ k. drop k file) g.end_is ∙ sym (drop-drop m start file) ∙ ap (λ l. drop m l) g.split ∙ drop_at (open_groups bodies) (g.gate ∷ g.rest) m refl

pub closed_there : (file : List ℕ) (start end : ℕ) (bodies : List (List ℕ)) → Groups file start bodies end → (end < length file) × (get_or file end 0 ≢ 1)
closed_there file start end bodies g =
    let is = at_end_of file start end bodies g in
    let gate : get_or file end 0 ≡ g.gate = ap (λ k. get_or file k 0) (omega arith) ∙ sym (get_or-drop end file 0 0) ∙ ap (λ l. get_or l 0 0) is in
    (omega (arith, ap length is, length-drop end file), λ one. g.closed (sym gate ∙ one))

-- no group, and a closed gate
pub none : (file : List ℕ) (at : ℕ) → at < length file → get_or file at 0 ≢ 1 → Groups file at [] at
none file at within shut = record {
  gate = get_or file at 0;
  rest = drop (at + 1) file;
  split = drop_more file at 0 within;
  closed = shut;
  fit = λ k d lt. absurd (omega (arith, lt));
  end_is = omega arith;
}

-- The first write leaves the gate closed.
pub torn_body : (at : ℕ) (buffer old new body : List ℕ) → at < length old → get_or old at 0 ≢ 1 → Torn (at + 1) buffer old new → Extended at body old new
torn_body at buffer old new body within shut torn =
    let same = torn_before (at + 1) at buffer old new torn (omega arith) (omega (arith, within)) in
    let gate : get_or new at 0 ≡ get_or old at 0 = torn.outside at within (inl (omega arith)) in
    let is : drop at new ≡ get_or new at 0 ∷ drop (at + 1) new = drop_more new at 0 (omega (arith, within, torn.no_shorter)) in
    record {
      before = same;
      groups = λ start bodies g. inl (still at (get_or new at 0) (drop (at + 1) new) old new same is (λ e. shut (sym gate ∙ e)) start bodies g);
    }

module _ (at : ℕ) (body old : List ℕ) (within : at < length old) where
  -- The second leaves it closed, or open with the body behind it.
  pub torn_gate : (new : List ℕ) → length body < 2 ^ 32 → Torn at (1 ∷ []) (put (at + 1) (sealed body) old) new → Extended at body old new
  torn_gate new fits torn =
      let s = put (at + 1) (sealed body) old in
      let size = length-put (at + 1) (sealed body) old (omega (arith, within)) in
      let same : take at new ≡ take at old = torn_before at at (1 ∷ []) s new torn (omega arith) (omega (arith, within, size.0)) ∙ take-put (at + 1) at (sealed body) old (omega arith) (omega (arith, within)) in
      let behind : drop (at + 1) new ≡ sealed body ++ (drop (at + 1 + length (sealed body)) old ++ drop (length s) new) =
      torn_behind at (at + 1) (1 ∷ []) s new torn (omega arith) (omega (arith, size.1))
      ∙ ap (λ l. l ++ drop (length s) new) (drop-put (at + 1) (sealed body) old (omega (arith, within)))
      ∙ append_assoc (sealed body) (drop (at + 1 + length (sealed body)) old) (drop (length s) new) in
      let is : drop at new ≡ get_or new at 0 ∷ drop (at + 1) new = drop_more new at 0 (omega (arith, within, size.0, torn.no_shorter)) in
      record {
        before = same;
        groups = λ start bodies g. elim (cases_eq (get_or new at 0) 1) [
          | inl open_gate ↦ inr (one_more at body (drop (at + 1 + length (sealed body)) old ++ drop (length s) new) old new fits same (is ∙ ap (λ k. k ∷ drop (at + 1) new) open_gate ∙ ap (λ l. 1 ∷ l) behind) start bodies g)
          | inr shut ↦ inl (still at (get_or new at 0) (drop (at + 1) new) old new same is shut start bodies g)
        ];
      }

  -- both are done: the group is open, and the gate behind it closed
  pub opened : (new : List ℕ) → new ≡ put at (1 ∷ []) (put (at + 1) (sealed body) old)
      → (take at new ≡ take at old) × (drop at new ≡ 1 ∷ (sealed body ++ drop (at + 1 + length (sealed body)) old))
  opened new is =
      let s = put (at + 1) (sealed body) old in
      let size = length-put (at + 1) (sealed body) old (omega (arith, within)) in (
        ap (λ l. take at l) is ∙ take-put at at (1 ∷ []) s (omega arith) (omega (arith, size.0, within)) ∙ take-put (at + 1) at (sealed body) old (omega arith) (omega (arith, within)),
        ap (λ l. drop at l) is ∙ drop-put at (1 ∷ []) s (omega (arith, size.0, within)) ∙ ap (λ l. 1 ∷ l) (drop-put (at + 1) (sealed body) old (omega (arith, within))),
      )

  pub put_whole : (new : List ℕ) → new ≡ put at (1 ∷ []) (put (at + 1) (sealed body) old) → new ≡ put at (1 ∷ sealed body) old
  put_whole new is =
      let parts = opened new is in
      let n = length (sealed body) in
      sym (take-append-drop at new)
      ∙ ap (λ l. l ++ drop at new) parts.0
      ∙ ap (λ l. take at old ++ l) parts.1
      ∙ sym (append_assoc (take at old) (1 ∷ sealed body) (drop (at + 1 + n) old))
      ∙ ap (λ k. (take at old ++ (1 ∷ sealed body)) ++ drop k old) (let e : at + 1 + n ≡ at + length (1 ∷ sealed body) = omega arith in e)
