-- Reading group after group.
use Rattle.std.proofs.Common.{◌≡◌, ◌≢◌, ℕ, suc, ◌+◌, ◌<◌, ◌^◌, List, [], ◌∷◌, ◌++◌, length, get_or, take, drop, refl, sym, ◌∙◌, ap, arith, length-append, length-drop, append_assoc}
use Rattle.std.specs.List.{All}
use Rattle.std.proofs.lemmas.List.{take_at, drop_at, drop-drop, drop_more, get_or-drop}
use Rattle.std.proofs.lemmas.List.Elements.{All-push}
use Rattle.byteorder.specs.Endian.{big_bytes, big_number}
use Rattle.byteorder.specs.Numbers.{length-bytes_high_first, big_number-reads_back}
use Rattle.journal.specs.Groups.{Groups, GroupsOnce, GroupAt, IsBrokenAt, open_groups}
use Rattle.journal.proofs.Behind.{open_groups-push, length-open_groups-push}

abbrev pub Fit : List (List ℕ) → Type 0
Fit bodies = All (λ body. length body < 2 ^ 32) bodies

-- open groups of these bodies stand between the two places
pub record Read (file : List ℕ) (at : ℕ) (bodies : List (List ℕ)) (place : ℕ) : Type 0 where
  pub split : drop at file ≡ open_groups bodies ++ drop place file
  pub place_is : place ≡ at + length (open_groups bodies)
  pub fit : Fit bodies
  pub within : place < length file

pub no_more : (file : List ℕ) (at : ℕ) → at < length file → Read file at [] at
no_more file at within = record { split = refl; place_is = omega arith; fit = λ k d lt. absurd (omega (arith, lt)); within = within }

pub read_on : (file : List ℕ) (at place next : ℕ) (bodies : List (List ℕ)) (body : List ℕ) → Read file at bodies place → GroupAt file place body → next ≡ place + 5 + length body → Read file at (bodies ++ body ∷ []) next
read_on file at place next bodies body r g is = record {
  split =
      r.split ∙ ap (λ l. open_groups bodies ++ l) g.split ∙ sym (open_groups-push bodies body (drop (place + 5 + length body) file)) ∙ ap (λ k. open_groups (bodies ++ body ∷ []) ++ drop k file) (sym is);
  place_is = omega (arith, is, r.place_is, length-open_groups-push bodies body);
  fit = All-push (λ b. length b < 2 ^ 32) bodies body r.fit g.fits;
  within = omega (arith, is, g.within);
}

pub read_all : (file : List ℕ) (at place : ℕ) (bodies : List (List ℕ)) → Read file at bodies place → get_or file place 0 ≢ 1 → Groups file at bodies place
read_all file at place bodies r shut = record {
  gate = get_or file place 0;
  rest = drop (place + 1) file;
  split = r.split ∙ ap (λ l. open_groups bodies ++ l) (drop_more file place 0 r.within);
  closed = shut;
  fit = r.fit;
  end_is = r.place_is;
}

-- the first gate is open where a group was read, or where the gate behind none is open
pub first_byte : (file : List ℕ) (at byte : ℕ) (rest : List ℕ) → drop at file ≡ byte ∷ rest → get_or file at 0 ≡ byte
first_byte file at byte rest is = ap (λ k. get_or file k 0) (omega arith) ∙ sym (get_or-drop at file 0 0) ∙ ap (λ (l : List ℕ). get_or l 0 0) is

pub first_open : (file : List ℕ) (at place : ℕ) (bodies : List (List ℕ)) → Read file at bodies place → get_or file place 0 ≡ 1 → get_or file at 0 ≡ 1
first_open file at place [] r is =
    let e : at ≡ place = omega (arith, r.place_is) in
    ap (λ k. get_or file k 0) e ∙ is
first_open file at place (b ∷ bodies) r is = first_byte file at 1 _ r.split

-- two bodies with equal fronts
same_body : (a b s t : List ℕ) → length a < 2 ^ 32 → length b < 2 ^ 32 → big_bytes 4 (length a) ++ (a ++ s) ≡ big_bytes 4 (length b) ++ (b ++ t) → (a ≡ b) × (s ≡ t)
same_body a b s t fit_a fit_b e =
    let four_a = length-bytes_high_first 4 (length a) in
    let four_b = length-bytes_high_first 4 (length b) in
    let front : big_bytes 4 (length a) ≡ big_bytes 4 (length b) =
    sym (take_at (big_bytes 4 (length a)) (a ++ s) 4 four_a) ∙ ap (λ l. take 4 l) e ∙ take_at (big_bytes 4 (length b)) (b ++ t) 4 four_b in
    let same : length a ≡ length b =
    sym (big_number-reads_back 4 (length a) [] fit_a) ∙ ap (λ l. big_number 4 (l ++ [])) front ∙ big_number-reads_back 4 (length b) [] fit_b in
    let back : a ++ s ≡ b ++ t =
    sym (drop_at (big_bytes 4 (length a)) (a ++ s) 4 four_a) ∙ ap (λ l. drop 4 l) e ∙ drop_at (big_bytes 4 (length b)) (b ++ t) 4 four_b in (
      sym (take_at a s (length a) refl) ∙ ap (λ l. take (length a) l) back ∙ take_at b t (length a) (sym same),
      sym (drop_at a s (length a) refl) ∙ ap (λ l. drop (length a) l) back ∙ drop_at b t (length a) (sym same),
    )

-- what stands behind the first gates of two equal runs of groups
two_fronts : (b c : List ℕ) (bs cs : List (List ℕ)) (tail end : List ℕ) → open_groups (b ∷ bs) ++ tail ≡ open_groups (c ∷ cs) ++ end
    → big_bytes 4 (length b) ++ (b ++ (open_groups bs ++ tail)) ≡ big_bytes 4 (length c) ++ (c ++ (open_groups cs ++ end))
two_fronts b c bs cs tail end e = sym (spread b bs tail) ∙ ap (λ (l : List ℕ). drop 1 l) e ∙ spread c cs end
  where
    spread : (x : List ℕ) (xs : List (List ℕ)) (more : List ℕ) → (big_bytes 4 (length x) ++ (x ++ open_groups xs)) ++ more ≡ big_bytes 4 (length x) ++ (x ++ (open_groups xs ++ more))
    spread x xs more = append_assoc (big_bytes 4 (length x)) (x ++ open_groups xs) more ∙ ap (λ l. big_bytes 4 (length x) ++ l) (append_assoc x (open_groups xs) more)

-- what is left of groups when those read so far are taken off
pub peel : (bs cs : List (List ℕ)) (tail : List ℕ) (gate : ℕ) (rest : List ℕ) → gate ≢ 1 → Fit bs → Fit cs
    → open_groups bs ++ tail ≡ open_groups cs ++ gate ∷ rest → (more : List (List ℕ)) × Fit more × (tail ≡ open_groups more ++ gate ∷ rest)
peel [] cs tail gate rest shut fb fc e = (cs, fc, e)
peel (b ∷ bs) [] tail gate rest shut fb fc e = absurd (shut (sym (ap (λ (l : List ℕ). get_or l 0 0) e)))
peel (b ∷ bs) (c ∷ cs) tail gate rest shut fb fc e =
    let end = gate ∷ rest in
    let next = same_body b c (open_groups bs ++ tail) (open_groups cs ++ end) (fb 0 [] (omega arith)) (fc 0 [] (omega arith)) (two_fronts b c bs cs tail end e) in
    peel bs cs tail gate rest shut (λ k d lt. fb (suc k) d (omega (arith, lt))) (λ k d lt. fc (suc k) d (omega (arith, lt))) next.1

first_of_more : (file : List ℕ) (place gate : ℕ) (rest : List ℕ) (more : List (List ℕ)) → gate ≢ 1 → Fit more → drop place file ≡ open_groups more ++ gate ∷ rest → IsBrokenAt file place → ⊥
first_of_more file place gate rest [] shut fit e torn =
    shut (sym (ap (λ (l : List ℕ). get_or l 0 0) e) ∙ get_or-drop place file 0 0 ∙ ap (λ k. get_or file k 0) (omega arith) ∙ torn.open_gate)
first_of_more file place gate rest (b ∷ more) shut fit e torn =
    let end = open_groups more ++ gate ∷ rest in
    let whole : drop place file ≡ 1 ∷ (big_bytes 4 (length b) ++ (b ++ end)) =
    e ∙ ap (λ l. 1 ∷ l) (append_assoc (big_bytes 4 (length b)) (b ++ open_groups more) (gate ∷ rest) ∙ ap (λ l. big_bytes 4 (length b) ++ l) (append_assoc b (open_groups more) (gate ∷ rest))) in
    let front = 1 ∷ (big_bytes 4 (length b) ++ b) in
    let split : drop place file ≡ front ++ end = whole ∙ ap (λ l. 1 ∷ l) (sym (append_assoc (big_bytes 4 (length b)) b end)) in
    let size : length front ≡ 5 + length b = omega (arith, length-append (big_bytes 4 (length b)) b, length-bytes_high_first 4 (length b)) in
    let behind : drop (place + 5 + length b) file ≡ end =
    ap (λ k. drop k file) (omega arith) ∙ sym (drop-drop (5 + length b) place file) ∙ ap (λ l. drop (5 + length b) l) split ∙ drop_at front end (5 + length b) size in
    torn.no_group b (record {
      split = whole ∙ ap (λ l. 1 ∷ (big_bytes 4 (length b) ++ (b ++ l))) (sym behind);
      within = omega (arith, ap length split, size, length-append front end, length-append (open_groups more) (gate ∷ rest), length-drop place file);
      fits = fit 0 [] (omega arith);
    })

pub torn_there : (file : List ℕ) (at place : ℕ) (bodies : List (List ℕ)) → Read file at bodies place → IsBrokenAt file place → (others : List (List ℕ)) (end : ℕ) → Groups file at others end → ⊥
torn_there file at place bodies r torn others end g =
    let more = peel bodies others (drop place file) g.gate g.rest g.closed r.fit g.fit (sym r.split ∙ g.split) in
    first_of_more file place g.gate g.rest more.0 g.closed more.1 more.2 torn

-- two readings that agree on the bytes agree on the groups
pub same_groups : (bs cs : List (List ℕ)) (g h : ℕ) (r q : List ℕ) → g ≢ 1 → h ≢ 1 → Fit bs → Fit cs → open_groups bs ++ g ∷ r ≡ open_groups cs ++ h ∷ q → bs ≡ cs
same_groups [] [] g h r q ng nh fb fc e = refl
same_groups [] (c ∷ cs) g h r q ng nh fb fc e = absurd (ng (ap (λ (l : List ℕ). get_or l 0 0) e))
same_groups (b ∷ bs) [] g h r q ng nh fb fc e = absurd (nh (sym (ap (λ (l : List ℕ). get_or l 0 0) e)))
same_groups (b ∷ bs) (c ∷ cs) g h r q ng nh fb fc e =
    let behind = two_fronts b c bs cs (g ∷ r) (h ∷ q) e in
    let next = same_body b c (open_groups bs ++ g ∷ r) (open_groups cs ++ h ∷ q) (fb 0 [] (omega arith)) (fc 0 [] (omega arith)) behind in
    let more = same_groups bs cs g h r q ng nh (λ k d lt. fb (suc k) d (omega (arith, lt))) (λ k d lt. fc (suc k) d (omega (arith, lt))) next.1 in
    ap (λ x. x ∷ bs) next.0 ∙ ap (λ l. c ∷ l) more

pub groups_once : GroupsOnce
groups_once file at end other bodies others a b =
    let same = same_groups bodies others a.gate b.gate a.rest b.rest a.closed b.closed a.fit b.fit (sym a.split ∙ b.split) in
    (same, a.end_is ∙ ap (λ l. at + length (open_groups l)) same ∙ sym b.end_is)
