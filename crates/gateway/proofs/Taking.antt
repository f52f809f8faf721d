-- Events that were taken in turn, and one more.
use Rattle.std.proofs.Common.{◌≡◌, ℕ, suc, ◌+◌, List, [], ◌∷◌, ◌++◌, length, refl, sym, ap, ◌∙◌, subst, arith, append_assoc, length-append}
use Rattle.std.proofs.lemmas.List.{append-nil}
use Rattle.packet.specs.Config.{Config}
use Rattle.machine.specs.declared.event.Event.{Event}
use Rattle.machine.specs.declared.event.Answer.{Answer}
use Rattle.gateway.specs.declared.given.Given.{Given}
use Rattle.machine.specs.Judged.{Judged, IsJudged}
use Rattle.machine.specs.Machine.{State, step, after, answers, numbered}
use Rattle.gateway.specs.Given.{handed}
use Rattle.gateway.specs.Told.{Told, Took, TookAll}
use Rattle.machine.proofs.Judging.{AreJudged-append, AreJudged-length, AreJudged-one}

pub after-append : (config : Config) (s : State) (es fs : List Judged) → after config s (es ++ fs) ≡ after config (after config s es) fs
after-append config s [] fs = refl
after-append config s (e ∷ es) fs = after-append config (step config s e).0 es fs

pub answers-append : (config : Config) (s : State) (es fs : List Judged) → answers config s (es ++ fs) ≡ answers config s es ++ answers config (after config s es) fs
answers-append config s [] fs = refl
answers-append config s (e ∷ es) fs = ap (λ (xs : List Answer). (step config s e).1 ∷ xs) (answers-append config (step config s e).0 es fs)

pub length-answers : (config : Config) (s : State) (es : List Judged) → length (answers config s es) ≡ length es
length-answers config s [] = refl
length-answers config s (e ∷ es) = ap suc (length-answers config (step config s e).0 es)

pub numbered-append : (last : ℕ) (xs ys : List Answer) → numbered last (xs ++ ys) ≡ numbered last xs ++ numbered (last + length xs) ys
numbered-append last [] ys = ap (λ n. numbered n ys) (omega arith)
numbered-append last (x ∷ xs) ys =
    let e : last + 1 + length xs ≡ last + suc (length xs) = omega arith in
    ap (λ (zs : List (ℕ × Answer)). (last + 1, x) ∷ zs) (numbered-append (last + 1) xs ys ∙ ap (λ n. numbered (last + 1) xs ++ numbered n ys) e)

-- the numbered answer to one more event
one_more : (config : Config) (s : State) (last : ℕ) (es : List Judged) (e : Judged)
    → numbered last (answers config s (es ++ e ∷ [])) ≡ numbered last (answers config s es) ++ (last + length es + 1, (step config (after config s es) e).1) ∷ []
one_more config s last es e =
    let one = (step config (after config s es) e).1 in
    ap (numbered last) (answers-append config s es (e ∷ [])) ∙ numbered-append last (answers config s es) (one ∷ [])
    ∙ ap (λ n. numbered last (answers config s es) ++ (last + n + 1, one) ∷ []) (length-answers config s es)

pub took_none : (old : Told) → TookAll old old [] []
took_none old = record { judged = []; are_judged = tt; config = refl; state = refl; last = omega arith; order = sym (append-nil old.held) }

pub took_more : (first now new : Told) (es : List Event) (e : Event) (out : List (ℕ × Answer)) (given : Given) → TookAll first now es out → Took now new e given
    → TookAll first new (es ++ e ∷ []) (out ++ handed given)
took_more first now new es e out given all one =
    let js = all.judged in
    let j = one.judged in
    let last : new.last ≡ first.last + length (es ++ e ∷ []) = omega (arith, one.last, all.last, length-append es (e ∷ [])) in
    let number : now.last + 1 ≡ first.last + length js + 1 = omega (arith, all.last, AreJudged-length first.config es js all.are_judged) in
    record {
      judged = js ++ j ∷ [];
      are_judged = AreJudged-append first.config es (e ∷ []) js (j ∷ []) all.are_judged (AreJudged-one first.config e j (subst (λ c. IsJudged c e j) all.config one.is_judged));
      config = one.config ∙ all.config;
      state = rw (after-append first.config first.state js) (rw (all.config, all.state) at one.state);
      last = last;
      order = rw (append_assoc out (handed given) new.held, one.order, ← append_assoc out now.held, all.order, append_assoc first.held, one_more first.config first.state first.last js j, all.config, all.state, number);
    }
