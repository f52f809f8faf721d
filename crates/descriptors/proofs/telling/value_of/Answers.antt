use Rattle.std.proofs.Common.{◌≡◌, ◌≢◌, ◌==◌, ◌++◌, ◌-◌, ◌+◌, ◌<◌, ℕ, List, None, Some, length, take, drop, false, true, refl, sym, ap, subst, ◌∙◌, arith, length-drop}
use Rattle.std.specs.List.{position}
use Rattle.std.proofs.lemmas.Bool.{false≢true}
use Rattle.std.proofs.lemmas.Bool.Decides.{Decides-eqb}
use Rattle.std.proofs.lemmas.List.{take-append-drop}
use Rattle.std.proofs.lemmas.Slice.Eq.{slice_eq-Decides}
use Rattle.descriptors.proofs.Lines.{Ahead, Behind, line_at, next_ahead, next_line, none_left, nothing_behind, rest_whole, this_line}
use Rattle.descriptors.proofs.telling.value_of.Goals as goal

pub loop-end-init : goal.loop-end-init
loop-end-init c = (nothing_behind c.args.text.now, λ value h. h)

pub returns-in-Some-strip_prefix-clause-some : goal.returns-in-Some-strip_prefix-clause-some
returns-in-Some-strip_prefix-clause-some c =
    let line = c.split_at.result.0.now in
    let key = c.args.key.now in
    let value = c.in-Some-strip_prefix.value.now in
    let rest = c.loop-end.rest.now in
    let end = c.in-Some.end in
    let e : position (λ byte. byte == 10) rest ≡ Some end = sym c.line_end.ensures ∙ c.in-Some.is in
    let cases = c.in-Some-strip_prefix.ensures.cases in
    let front : take (length key) line ≡ key = (slice_eq-Decides Decides-eqb (take (length key) line) key true (sym cases.0)).0 refl in
    let is : line ≡ key ++ value =
    sym (take-append-drop (length key) line) ∙ ap (λ (x : List ℕ). x ++ drop (length key) line) front ∙ ap (λ (x : List ℕ). key ++ x) (sym cases.1) in
    this_line c.args.text.now rest (key ++ value) end c.loop-end.invariant.0 (line_at rest end e) (sym c.split_at.ensures.front ∙ is)

pub loop-end-smaller : goal.loop-end-smaller
loop-end-smaller c =
    let rest = c.loop-end.rest.now in
    let end = c.in-Some.end in
    let e : position (λ byte. byte == 10) rest ≡ Some end = sym c.line_end.ensures ∙ c.in-Some.is in
    let l = line_at rest end e in
    let back : length c.split_at.result.1.now ≡ length rest - end = ap length c.split_at.ensures.back ∙ length-drop end rest in
    omega (arith, ap length (rest_whole 1 c.split_at.result.1.now), length-drop 1 c.split_at.result.1.now, back, l.within)

pub loop-end-preserved : goal.loop-end-preserved
loop-end-preserved c =
    let rest = c.loop-end.rest.now in
    let key = c.args.key.now in
    let line = c.split_at.result.0.now in
    let end = c.in-Some.end in
    let e : position (λ byte. byte == 10) rest ≡ Some end = sym c.line_end.ensures ∙ c.in-Some.is in
    let l = line_at rest end e in
    let decided = slice_eq-Decides Decides-eqb (take (length key) line) key false (sym c.in_default-strip_prefix.ensures.cases) in
    let other : take (length key) (take end rest) ≢ key = λ front. false≢true (decided.1 (ap (take (length key)) c.split_at.ensures.front ∙ front)) in
    subst (λ (x : List ℕ). Behind c.args.text.now x × Ahead c.args.text.now x key) (sym (rest_whole 1 c.split_at.result.1.now ∙ ap (drop 1) c.split_at.ensures.back))
    (next_line c.args.text.now rest end c.loop-end.invariant.0 l, next_ahead c.args.text.now rest key end c.loop-end.invariant.1 l other)

pub returns-clause-none : goal.returns-clause-none
returns-clause-none c = none_left c.args.text.now c.loop-end.rest.now c.args.key.now c.loop-end.invariant.1 (sym c.line_end.ensures ∙ c.in_default.is)
