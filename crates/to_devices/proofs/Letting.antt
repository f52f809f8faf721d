-- Packets that are handed on one after the other.
use Rattle.std.proofs.Common.{◌≡◌, ℕ, suc, ◌+◌, ◌≤◌, List, [], ◌∷◌, ◌++◌, length, take, drop, Option, Some, None, refl, sym, ap, ◌∙◌, append_assoc, arith, length-append, length-drop, take-add}
use Rattle.std.specs.Prelude.{Bool, get_or, nat_le}
use Rattle.std.specs.List.{flat_map, AllByRecursion}
use Rattle.std.proofs.lemmas.Grind.{flat_map-append}
use Rattle.std.proofs.lemmas.List.{append-nil, length-take-le, drop-drop}
use Rattle.std.proofs.Math.Seq.{drop-append-add, drop-append_seam}
use Rattle.devices.specs.Handing.{Hands}
use Rattle.to_devices.specs.Counting.{AreCounted, counted}
use Rattle.to_devices.specs.Replies.{Reply, FitsReply, reply_frame}
use Rattle.to_devices.specs.declared.counts.Counts.{Counts}
use Rattle.to_devices.specs.Leaving.{leaving, leaving_by, no_header}
use borrow.Rule.Slice.PartMut.{put_mid, same_len_mid}

pub Hands-then : (a b c : Option (List (List ℕ))) (x y : List (List ℕ)) → Hands a b x → Hands b c y → Hands a c (x ++ y)
Hands-then None None None x y p q = tt
Hands-then None None (Some u) x y p q = absurd q
Hands-then None (Some t) c x y p q = absurd p
Hands-then (Some s) None None x y p q = tt
Hands-then (Some s) None (Some u) x y p q = absurd q
Hands-then (Some s) (Some t) None x y p q = tt
Hands-then (Some s) (Some t) (Some u) x y p q = q ∙ ap (λ (z : List (List ℕ)). z ++ y) p ∙ append_assoc s x y

pub Hands-nil : (a : Option (List (List ℕ))) → Hands a a []
Hands-nil None = tt
Hands-nil (Some s) = sym (append-nil s)

after_one : (headers : List (List ℕ)) (n : ℕ) (none : List ℕ) → get_or (drop 1 headers) n none ≡ get_or headers (suc n) none
after_one [] n none = refl
after_one (header ∷ headers) n none = refl

-- one more answer
pub leaving-then : (side : ℕ) (headers : List (List ℕ)) (done : List Reply) (r : Reply)
    → leaving side headers (done ++ r ∷ []) ≡ leaving side headers done ++ leaving_by side (get_or headers (length done) no_header) r
leaving-then side headers [] r = append-nil (leaving_by side (get_or headers 0 no_header) r)
leaving-then side headers (s ∷ done) r =
    let at : get_or (drop 1 headers) (length done) no_header ≡ get_or headers (suc (length done)) no_header = after_one headers (length done) no_header in
    let rest = leaving-then side (drop 1 headers) done r in
    let first = leaving_by side (get_or headers 0 no_header) s in
    ap (λ (x : List (List ℕ)). first ++ x) (rest ∙ ap (λ (h : List ℕ). leaving side (drop 1 headers) done ++ leaving_by side h r) at)
    ∙ sym (append_assoc first (leaving side (drop 1 headers) done) (leaving_by side (get_or headers (suc (length done)) no_header) r))

pub counted-then : (wan_from number : ℕ) (done : List Reply) (r : Reply) (c c' c'' : Counts) → AreCounted wan_from number done c c'
    → (out : Bool) × (c'' ≡ counted (nat_le wan_from (number + length done)) out r.kind r.body c') → AreCounted wan_from number (done ++ r ∷ []) c c''
counted-then wan_from number [] r c c' c'' are one =
    let here : number + 0 ≡ number = omega arith in
    (one.0, one.1 ∙ ap (λ (i : ℕ). counted (nat_le wan_from i) one.0 r.kind r.body c') here ∙ ap (counted (nat_le wan_from number) one.0 r.kind r.body) are)
counted-then wan_from number (s ∷ done) r c c' c'' are one =
    let here : number + suc (length done) ≡ number + 1 + length done = omega arith in
    (are.0, counted-then wan_from (number + 1) done r (counted (nat_le wan_from number) are.0 s.kind s.body c) c' c'' are.1 (one.0, one.1 ∙ ap (λ (i : ℕ). counted (nat_le wan_from i) one.0 r.kind r.body c') here))

pub fits-then : (done : List Reply) (r : Reply) → AllByRecursion FitsReply done → FitsReply r → AllByRecursion FitsReply (done ++ r ∷ [])
fits-then [] r p q = (q, tt)
fits-then (s ∷ done) r p q = (p.0, fits-then done r p.1 q)

pub frames-then : (done : List Reply) (r : Reply) → flat_map reply_frame (done ++ r ∷ []) ≡ flat_map reply_frame done ++ reply_frame r
frames-then done r = flat_map-append reply_frame done (r ∷ []) ∙ ap (λ (x : List ℕ). flat_map reply_frame done ++ x) (append-nil (reply_frame r))

-- what is behind bytes that were put in
pub behind_mid : (at n : ℕ) (xs ys : List ℕ) → at ≤ length xs → length ys ≡ n → drop (at + n) (put_mid at n xs ys) ≡ drop (at + n) xs
behind_mid at n xs ys within size =
    let front : length (take at xs) ≡ at = length-take-le at xs within in
    let more = drop n (drop at xs) in
    ap (λ (m : ℕ). drop (m + n) (take at xs ++ (ys ++ more))) (sym front) ∙ drop-append-add (take at xs) (ys ++ more) n
    ∙ ap (λ (m : ℕ). drop m (ys ++ more)) (sym size) ∙ drop-append_seam ys more ∙ drop-drop n at xs

-- so far the answers in front were done, and what is behind them stays as it was
pub record Passed (bytes now : List ℕ) (headers : List (List ℕ)) (at number : ℕ) (lan lan' wan wan' : Option (List (List ℕ))) (wan_from : ℕ) (counts counts' : Counts) : Type 0 where
  pub done : List Reply
  pub fit : AllByRecursion FitsReply done
  pub count : number ≡ length done
  pub few : number ≤ at
  pub within : at ≤ length now
  pub size : length now ≡ length bytes
  pub front : take at bytes ≡ flat_map reply_frame done
  pub back : drop at now ≡ drop at bytes
  pub lan_is : Hands lan lan' (leaving 0 headers done)
  pub wan_is : Hands wan wan' (leaving 1 headers done)
  pub counts_are : AreCounted wan_from 0 done counts counts'

pub nothing_passed : (bytes : List ℕ) (headers : List (List ℕ)) (lan wan : Option (List (List ℕ))) (wan_from : ℕ) (counts : Counts) → Passed bytes bytes headers 0 0 lan lan wan wan wan_from counts counts
nothing_passed bytes headers lan wan wan_from counts = record {
  done = [];
  fit = tt;
  count = refl;
  few = omega arith;
  within = omega arith;
  size = refl;
  front = refl;
  back = refl;
  lan_is = Hands-nil lan;
  wan_is = Hands-nil wan;
  counts_are = refl;
}

pub one_passed : (bytes now ys : List ℕ) (headers : List (List ℕ)) (at number n k : ℕ) (l l' l'' w w' w'' : Option (List (List ℕ))) (wan_from : ℕ) (c c' c'' : Counts) (r : Reply)
    → Passed bytes now headers at number l l' w w' wan_from c c' → FitsReply r → take n (drop at now) ≡ reply_frame r → n ≤ length (drop at now) → 13 ≤ n → k ≡ n → length ys ≡ n
    → Hands l' l'' (leaving_by 0 (get_or headers number no_header) r) → Hands w' w'' (leaving_by 1 (get_or headers number no_header) r)
    → (out : Bool) × (c'' ≡ counted (nat_le wan_from number) out r.kind r.body c')
    → Passed bytes (put_mid at k now ys) headers (at + n) (number + 1) l l'' w w'' wan_from c c''
one_passed bytes now ys headers at number n k l l' l'' w w' w'' wan_from c c' c'' r p fits is whole least part size to_lan to_wan counts =
    let here : get_or headers number no_header ≡ get_or headers (length p.done) no_header = ap (λ (i : ℕ). get_or headers i no_header) p.count in
    let counts_at : number ≡ 0 + length p.done = omega (arith, p.count) in
    let long : length (put_mid at n now ys) ≡ length now = same_len_mid at n now ys (size ∙ sym (length-take-le n (drop at now) whole)) in
    let behind : drop (at + n) now ≡ drop (at + n) bytes = sym (drop-drop n at now) ∙ ap (drop n) p.back ∙ drop-drop n at bytes in
    let next : take (at + n) bytes ≡ take at bytes ++ reply_frame r =
    take-add at n bytes ∙ ap (λ (x : List ℕ). take at bytes ++ take n x) (sym p.back) ∙ ap (λ (x : List ℕ). take at bytes ++ x) is in
    rw part (record {
      done = p.done ++ r ∷ [];
      fit = fits-then p.done r p.fit fits;
      count = omega (arith, p.count, length-append p.done (r ∷ []));
      few = omega (arith, p.few, least);
      within = omega (arith, long, whole, length-drop at now, p.within);
      size = long ∙ p.size;
      front = next ∙ ap (λ (x : List ℕ). x ++ reply_frame r) p.front ∙ sym (frames-then p.done r);
      back = behind_mid at n now ys p.within size ∙ behind;
      lan_is = rw (leaving-then 0 headers p.done r, ← here) (Hands-then l l' l'' _ _ p.lan_is to_lan);
      wan_is = rw (leaving-then 1 headers p.done r, ← here) (Hands-then w w' w'' _ _ p.wan_is to_wan);
      counts_are = counted-then wan_from 0 p.done r c c' c'' p.counts_are
          (counts.0, counts.1 ∙ ap (λ (i : ℕ). counted (nat_le wan_from i) counts.0 r.kind r.body c') counts_at);
    })
