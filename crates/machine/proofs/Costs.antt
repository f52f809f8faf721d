-- How many bytes entries have.
use Rattle.std.proofs.Common.{◌≡◌, ℕ, suc, ◌+◌, ◌<◌, ◌≤◌, Result, Ok, Err, OnOk, append_assoc, get_or, slice_index, take, List, [], ◌∷◌, ◌++◌, length, Option, Some, None, true, false, Bool, if◌then◌else◌, refl, sym, ap, ◌∙◌, arith}
use Rattle.std.proofs.Math.Seq.{take-suc}
use Rattle.sessions.specs.declared.session.Session.{Session}
use Rattle.sessions.specs.Listing.{put}
use Rattle.sessions.specs.Stilled.{stilled}
use Rattle.durable.specs.Entering.{flow_of}
use Rattle.durable.specs.declared.entry.Flow.{Flow}
use Rattle.durable.specs.Coding.{Entry, Begin, End, Restart, Seen, Load, endpoint_bytes, entry_bytes, flow_bytes, session_bytes}
use Rattle.machine.specs.Noted.{ends, sessions_at, with_it, goes_on, is_unchanged, entries_for, entries_for_all, entries_making}
use Rattle.machine.specs.Sizes.{bytes_of}

pub cost-end : (f : Flow) → length (entry_bytes (End f)) ≡ 14
unfolding entry_bytes flow_bytes endpoint_bytes
cost-end f = refl

pub cost-load : (text : List ℕ) → length (entry_bytes (Load text)) ≡ 5 + length text
unfolding entry_bytes
cost-load text = omega arith

between-few : (b c : Bool) (s t : Session) → bytes_of (if b then [] else (if c then Seen (flow_of t) t.seen ∷ [] else Restart (flow_of t) t.opener t.seen ∷ [])) ≤ 22
unfolding entry_bytes flow_bytes endpoint_bytes
between-few true c s t = omega arith
between-few false true s t = let few : length (entry_bytes (Seen (flow_of t) t.seen)) ≡ 15 = refl in omega (arith, few)
between-few false false s t = let few : length (entry_bytes (Restart (flow_of t) t.opener t.seen)) ≡ 16 = refl in omega (arith, few)

pub noted-few : (o : Option Session) (t : Session) → bytes_of (entries_making o t) ≤ 22
unfolding entry_bytes session_bytes endpoint_bytes
noted-few None t = let few : length (entry_bytes (Begin (stilled t))) ≡ 22 = refl in omega (arith, few)
noted-few (Some s) t = between-few (is_unchanged s t) (goes_on s t) s t

pub bytes_of-append : (es fs : List Entry) → bytes_of (es ++ fs) ≡ bytes_of es + bytes_of fs
bytes_of-append [] fs = omega arith
bytes_of-append (e ∷ es) fs = let rest = bytes_of-append es fs in omega (arith, rest)

-- one more after the others
pub bytes_of-one : (t : Session) (ss : List Session) → bytes_of (entries_for_all (t ∷ []) ss) ≡ bytes_of (entries_for ss t)
bytes_of-one t ss = bytes_of-append (entries_for ss t) [] ∙ omega arith

pub bytes_of-two : (t u : Session) (ss : List Session) → bytes_of (entries_for_all (t ∷ u ∷ []) ss) ≡ bytes_of (entries_for ss t) + bytes_of (entries_for (put t ss) u)
bytes_of-two t u ss = bytes_of-append (entries_for ss t) (entries_for_all (u ∷ []) (put t ss)) ∙ ap (λ n. bytes_of (entries_for ss t) + n) (bytes_of-one u (put t ss))

-- ---- the entries of sessions that end

with-append : (o : Option Session) (ss ts : List Session) → with_it o (ss ++ ts) ≡ with_it o ss ++ ts
with-append None ss ts = refl
with-append (Some s) ss ts = refl

sessions_at-append : (held : List (Option Session)) (xs ys : List ℕ) → sessions_at held (xs ++ ys) ≡ sessions_at held xs ++ sessions_at held ys
sessions_at-append held [] ys = refl
sessions_at-append held (x ∷ xs) ys =
    ap (λ ss. with_it (get_or held x None) ss) (sessions_at-append held xs ys) ∙ with-append (get_or held x None) (sessions_at held xs) (sessions_at held ys)

ends-append : (ss ts : List Session) → ends (ss ++ ts) ≡ ends ss ++ ends ts
ends-append [] ts = refl
ends-append (s ∷ ss) ts = ap (λ es. End (flow_of s) ∷ es) (ends-append ss ts)

-- one more has ended and is noted
pub ends-more : (first before : List (Option Session)) (slots : List ℕ) (k : ℕ) (noted0 noted1 noted2 : List Entry) → k < length slots
    → get_or before (slice_index slots k) None ≡ get_or first (slice_index slots k) None
    → noted1 ≡ noted0 ++ ends (sessions_at first (take k slots)) → noted2 ≡ noted1 ++ ends (sessions_at before (slice_index slots k ∷ []))
    → noted2 ≡ noted0 ++ ends (sessions_at first (take (k + 1) slots))
ends-more first before slots k noted0 noted1 noted2 lt same was more =
    let slot = slice_index slots k in
    let one : k + 1 ≡ suc k = omega arith in
    let cut : take (k + 1) slots ≡ take k slots ++ slot ∷ [] = ap (λ n. take n slots) one ∙ take-suc slots k 0 lt in
    more ∙ ap (λ (es : List Entry). es ++ ends (sessions_at before (slot ∷ []))) was
    ∙ append_assoc noted0 (ends (sessions_at first (take k slots))) (ends (sessions_at before (slot ∷ [])))
    ∙ ap (λ (o : Option Session). noted0 ++ (ends (sessions_at first (take k slots)) ++ ends (with_it o []))) same
    ∙ ap (λ es. noted0 ++ es) (sym (ends-append (sessions_at first (take k slots)) (sessions_at first (slot ∷ []))))
    ∙ ap (λ ss. noted0 ++ ends ss) (sym (sessions_at-append first (take k slots) (slot ∷ [])))
    ∙ ap (λ l. noted0 ++ ends (sessions_at first l)) (sym cut)

-- what is said under a premise
pub ok_under : {T E K : Type 0} (P : Type 0) (r : Result T E) → (K → OnOk r P) → OnOk r (K → P)
ok_under P (Ok x) h = h
ok_under P (Err e) h = tt
