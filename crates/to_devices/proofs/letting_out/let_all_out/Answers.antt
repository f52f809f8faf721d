use Rattle.std.proofs.Common.{◌≡◌, ◌+◌, ◌-◌, ◌≤◌, ◌++◌, ℕ, List, length, drop, take, sym, ap, subst, ◌∙◌, arith}
use Rattle.std.specs.Prelude.{get_or}
use Rattle.std.proofs.lemmas.List.{length-take-le, take-append-drop}
use Rattle.devices.specs.Handing.{Hands}
use Rattle.to_devices.specs.Replies.{HasNoReply, reply_frame}
use Rattle.to_devices.specs.Leaving.{leaving_by, no_header}
use Rattle.to_devices.proofs.Letting.{one_passed}
use Rattle.to_devices.proofs.Replying.{rest_whole}
use Rattle.to_devices.proofs.letting_out.let_all_out.Goals as goal

pub loop-len-preserved : goal.loop-len-preserved
loop-len-preserved g c =
    let l = g.L.Device.handed in
    let w = g.W.Device.handed in
    let i = c.loop-len.invariant in
    let now = c.loop-len.answers in
    let at = c.loop-len.at in
    let n = c.in-Some.len in
    let it = c.in-Some.ensures.some in
    let rest : take (length now - at) (drop at now) ≡ drop at now = rest_whole at now in
    let is : take n (drop at now) ≡ reply_frame it.0 = ap (λ (x : List ℕ). take n x) (sym rest) ∙ it.2 in
    let whole : n ≤ length (drop at now) = subst (λ (x : List ℕ). n ≤ length x) rest c.in-Some.ensures.size in
    let part : at + n - at ≡ n = omega arith in
    let frame : take (at + n - at) (drop at now) ≡ reply_frame it.0 = ap (λ (m : ℕ). take m (drop at now)) part ∙ is in
    let size : length c.let_one_out.new.frame ≡ n = c.let_one_out.ensures.len ∙ ap (λ (m : ℕ). length (take m (drop at now))) part ∙ length-take-le n (drop at now) whole in
    let header : c.header_at-header.result ≡ get_or c.args.headers.now c.loop-len.number no_header = c.header_at-header.ensures in
    let to_lan = subst (λ (h : List ℕ). Hands (l c.loop-len.lan) (l c.let_one_out.new.lan) (leaving_by 0 h it.0)) header (c.let_one_out.ensures.lan it.0 frame) in
    let to_wan = subst (λ (h : List ℕ). Hands (w c.loop-len.wan) (w c.let_one_out.new.wan) (leaving_by 1 h it.0)) header (c.let_one_out.ensures.wan it.0 frame) in (
      one_passed c.args.answers.now now c.let_one_out.new.frame c.args.headers.now at c.loop-len.number n (at + n - at)
          (l c.args.lan.now) (l c.loop-len.lan) (l c.let_one_out.new.lan) (w c.args.wan.now) (w c.loop-len.wan) (w c.let_one_out.new.wan)
          c.args.wan_from c.args.counts.now c.loop-len.counts c.let_one_out.new.counts it.0
          i.0 it.1 is whole c.in-Some.ensures.head part size to_lan to_wan (c.let_one_out.ensures.counts it.0 frame),
      c.let_one_out.ensures.from_lan ∙ i.1,
      c.let_one_out.ensures.from_wan ∙ i.2,
      c.let_one_out.ensures.lan_waited ∙ i.3,
      c.let_one_out.ensures.wan_waited ∙ i.4,
    )

pub returns-clause-left : goal.returns-clause-left
returns-clause-left g c =
    let p = c.loop-len.invariant.0 in
    let now = c.loop-len.answers in
    let at = c.loop-len.at in
    let was = c.args.answers.now in
    let rest : take (length now - at) (drop at now) ≡ drop at was = rest_whole at now ∙ p.back in (
      p.done,
      drop at was,
      p.fit,
      sym (take-append-drop at was) ∙ ap (λ (x : List ℕ). x ++ drop at was) p.front,
      subst HasNoReply rest c.in_default.ensures.none,
      p.lan_is,
      p.wan_is,
      p.counts_are,
    )
