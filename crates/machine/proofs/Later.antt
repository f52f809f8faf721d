-- What is held once a change is made.
use Rattle.std.proofs.Common.{◌≡◌, ◌≢◌, ℕ, ◌+◌, ◌<◌, List, [], ◌∷◌, ◌++◌, length, get_or, set, Option, Some, None, sym, ap, ◌∙◌, subst, inl, inr, arith}
use Rattle.std.proofs.lemmas.Bool.{cases_eq, cases_lt}
use Rattle.std.proofs.lemmas.List.{get_or-set_same, get_or-set_other, get_or_past}
use Rattle.std.proofs.Math.Seq.{get_or-append_seam}
use Rattle.std.proofs.lemmas.Option.{none-some, same_Some}
use Rattle.packet.specs.Config.{Pool}
use Rattle.sessions.specs.Listing.{key, listing, put}
use Rattle.sessions.specs.declared.session.Change.{Change}
use Rattle.sessions.specs.declared.session.Change.TheVariants.{Begin, Seen, Restart}
use Rattle.sessions.specs.declared.session.Session.{Session}
use Rattle.sessions.proofs.Puts.{keys-flow, put-apart}
use Rattle.sessions.proofs.Sets.{Apart, Rises-listing, In-listing, listing-In, same_key}
use Rattle.sessions.proofs.Held.{at_pushed}
use Rattle.hairpin.specs.Legs.{put_all}
use Rattle.hairpin.specs.Plans.{Became, GiveAll, Gives, IsOf, MayBegin}
use Rattle.hairpin.proofs.Soundness.{put-known, put-more}
use Rattle.machine.specs.Flows.{adds, adds_second}

-- one place got a session of its own key, or of a key that no place has
module _ (old new : List (Option Session)) (slot : ℕ) (t : Session) (apart : Apart old) (is : get_or new slot None ≡ Some t)
    (others : (k : ℕ) → k ≢ slot → get_or new k None ≡ get_or old k None)
    (away : (k : ℕ) (s : Session) → k ≢ slot → get_or old k None ≡ Some s → key s ≢ key t) where
  other-key : (k : ℕ) (s : Session) → k ≢ slot → get_or new k None ≡ Some s → (u : Session) (i : ℕ) → i ≡ slot → get_or new i None ≡ Some u → key s ≢ key u
  other-key k s k_away at_k u i i_is at_i e = away k s k_away (sym (others k k_away) ∙ at_k) (e ∙ ap key (same_Some u t (sym at_i ∙ ap (λ j. get_or new j None) i_is ∙ is)))

  pub later-apart : Apart new
  later-apart = record {
    keys = λ i j u v differ at_i at_j. elim (cases_eq i slot) [
      | inl i_is ↦ elim (cases_eq j slot) [ inl j_is ↦ absurd (differ (i_is ∙ sym j_is)) | inr j_away ↦ λ e. other-key j v j_away at_j u i i_is at_i (sym e) ]
      | inr i_away ↦ elim (cases_eq j slot) [
        | inl j_is ↦ other-key i u i_away at_i v j j_is at_j
        | inr j_away ↦ apart.keys i j u v differ (sym (others i i_away) ∙ at_i) (sym (others j j_away) ∙ at_j)
      ]
    ];
  }

none-past : (held : List (Option Session)) (s : Session) → get_or held (length held) None ≡ Some s → ⊥
none-past held s at = none-some s (sym (get_or_past held (length held) None (omega arith)) ∙ at)

-- what a change leads to
pub record HasSuccessor (held : List (Option Session)) (change : Change) (t : Session) : Type 0 where
  pub later : List (Option Session)
  pub apart : Apart later
  pub became : Became held change t later

begun-later : (external : Pool) (held : List (Option Session)) (now : ℕ) (s t : Session) → s ≡ t → Apart held → MayBegin external held now t → HasSuccessor held (Begin s) t
begun-later external held now s t same apart may =
    let end = length held in
    let later = held ++ Some t ∷ [] in
    let is : get_or later end None ≡ Some t = get_or-append_seam held (Some t) [] None in
    let away : (k : ℕ) (u : Session) → k ≢ end → get_or held k None ≡ Some u → key u ≢ key t = λ k u ne at e.
    may.apart (record { place = k; held = u; is_held = at; clash = inl (same_key t u (sym e)) }) in
    let later_apart = later-apart held later end t apart is (at_pushed held t) away in
    record {
      later = later;
      apart = later_apart;
      became = record {
        listing = put-apart held later end t apart later_apart is (at_pushed held t) (λ u at. absurd (none-past held u at));
        kept = λ k u at other. at_pushed held t k (λ e. none-past held u (subst (λ j. get_or held j None ≡ Some u) e at)) ∙ at;
      };
    }

-- the session of a slot goes on, under its own key
module _ (held : List (Option Session)) (slot : ℕ) (s t : Session) (at : get_or held slot None ≡ Some s) (same : key s ≡ key t) (apart : Apart held) where
  within : slot < length held
  within = elim (cases_lt slot (length held)) [ inl lt ↦ lt | inr le ↦ absurd (none-some s (sym (get_or_past held slot None le) ∙ at)) ]

  abbrev later_held : List (Option Session)
  later_held = set held slot (Some t)

  set-others : (k : ℕ) → k ≢ slot → get_or later_held k None ≡ get_or held k None
  set-others k ne = get_or-set_other held slot k (Some t) None ne

  set-is : get_or later_held slot None ≡ Some t
  set-is = get_or-set_same held slot (Some t) None within

  gone-apart : Apart later_held
  gone-apart = later-apart held later_held slot t apart set-is set-others (λ k u ne at_u e. apart.keys k slot u s ne at_u at (e ∙ sym same))

  gone-on : (change : Change) → ((k : ℕ) → ¬ IsOf change k → k ≢ slot) → HasSuccessor held change t
  gone-on change is_of = record {
    later = later_held;
    apart = gone-apart;
    became = record {
      listing = put-apart held later_held slot t apart gone-apart set-is set-others (λ u at_u. ap key (same_Some u s (sym at_u ∙ at)) ∙ same);
      kept = λ k u at_u other. set-others k (is_of k other) ∙ at_u;
    };
  }

-- a change that gives a session leads somewhere
pub change-leads : (external : Pool) (held : List (Option Session)) (now : ℕ) (change : Change) (t : Session) → Apart held → Gives external held now change t → HasSuccessor held change t
change-leads external held now (Begin s) t apart gives = begun-later external held now s t gives.0 apart (subst (MayBegin external held now) gives.0 gives.1)
change-leads external held now (Seen slot bits) t apart gives =
    gone-on held slot gives.0 t gives.1 (ap key (sym gives.3)) apart (Seen slot bits) (λ k other e. other (sym e))
change-leads external held now (Restart slot opener) t apart gives =
    gone-on held slot gives.0 t gives.1 (ap key (sym gives.2)) apart (Restart slot opener) (λ k other e. other (sym e))

-- ---- how many sessions there are then

-- a change adds as many sessions as it says
pub change-adds : (external : Pool) (held : List (Option Session)) (now : ℕ) (change : Change) (t : Session) → Apart held → Gives external held now change t
    → length (put t (listing held)) ≡ length (listing held) + adds change
change-adds external held now (Begin s) t apart gives =
    let may = subst (MayBegin external held now) gives.0 gives.1 in
    put-more t (listing held) (λ u in_u clash. let at = In-listing held u in_u in may.apart (record { place = at.0; held = u; is_held = at.1; clash = clash }))
change-adds external held now (Seen slot bits) t apart gives =
    omega (arith, put-known t gives.0 (listing held) (Rises-listing held apart) (listing-In held gives.0 slot gives.1) (keys-flow t gives.0 (ap key gives.3)))
change-adds external held now (Restart slot opener) t apart gives =
    omega (arith, put-known t gives.0 (listing held) (Rises-listing held apart) (listing-In held gives.0 slot gives.1) (keys-flow t gives.0 (ap key gives.2)))

-- and so do all changes of a plan
pub plan-adds : (external : Pool) (held : List (Option Session)) (now : ℕ) (first : Change) (second : Option Change) (ts : List Session) → Apart held → GiveAll external held now first second ts
    → length (put_all ts (listing held)) ≡ length (listing held) + (adds first + adds_second second)
plan-adds external held now first None ts apart all =
    let count = change-adds external held now first all.0 apart all.1 in
    let same = ap (λ (us : List Session). length (put_all us (listing held))) all.2 in
    omega (arith, count, same)
plan-adds external held now first (Some second) ts apart all =
    let t = all.0 in
    let u = all.1 in
    let leads = change-leads external held now first t apart all.2 in
    let gives = all.4 leads.later leads.became in
    let count = change-adds external held now first t apart all.2 in
    let more = change-adds external leads.later now second u leads.apart gives in
    let there = ap (λ (xs : List Session). length (put u xs)) leads.became.listing in
    let here = ap (λ (xs : List Session). length xs) leads.became.listing in
    let same = ap (λ (us : List Session). length (put_all us (listing held))) all.5 in
    omega (arith, count, more, there, here, same)
