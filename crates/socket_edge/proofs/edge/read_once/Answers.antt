use Rattle.std.proofs.Common.{◌≡◌, ◌≢◌, List, [], ◌++◌, ℕ, length, arith, refl, subst, sym, ap, ◌∙◌, append-nil}
use Rattle.std.proofs.lemmas.Grind.{common_steps}
use Rattle.std.proofs.lemmas.List.{nil_from_length}
use Rattle.socket_edge.specs.Exchange.{Exchange}
use Rattle.socket_edge.specs.Serving.{ComesByOne, Served}
use Rattle.frames.specs.Framing.{Rest}
use Rattle.socket_edge.specs.Running.{EndsBy, Fares, events_in}
use Rattle.socket_edge.proofs.Talks.{asked-and-ends, asked-and-sent, asked-at-end, asked-in-vain, asked-none}
use Rattle.socket_edge.proofs.Answers.{AnsweredFirst-nothing}
use Rattle.socket_edge.proofs.Runs.{EndsBy-seen, nothing}
use Rattle.socket_edge.proofs.Fitting.{none-fit}
use Rattle.socket_edge.proofs.Tending.{idle-comes}
use Rattle.socket_edge.proofs.edge.read_once.Goals as goal

-- a read of no byte, and of some
no_byte : (n : ℕ) (got : List ℕ) → n ≡ 0 → n ≡ length got → got ≡ []
no_byte n got e is = nil_from_length got (sym is ∙ e)

some_bytes : (n : ℕ) (got : List ℕ) → n ≢ 0 → n ≡ length got → got ≢ []
some_bytes n got some is = λ none. some (is ∙ ap length none)

none_added : (old new got : List ℕ) (n : ℕ) → n ≡ 0 → n ≡ length got → new ≡ old ++ got → new ≡ old
none_added old new got n e is h = h ∙ ap (λ more. old ++ more) (nil_from_length got (sym is ∙ e)) ∙ append-nil old

pub returns-in-Err-NoMemory-clause-came : goal.returns-in-Err-NoMemory-clause-came
returns-in-Err-NoMemory-clause-came g c =
    let k = asked-none g.P.Peer.went g.met.P.Peer.still c.args.peer.now c.read.new.peer (c.in-Err-NoMemory.ensures.unasked c.in-Err-NoMemory.field-0-is) in
    let i = idle-comes g.D.Disk.honest g.D.Disk.moment g.D.Disk.left g.D.Disk.seen g.D.Disk.failed g.met.D.Disk.reads g.met.D.Disk.earlier c.args.gateway.now c.stands.ensures (events_in (c.args.waiting.now.unanswered ++ [])) in
    ([], [], k.0, AnsweredFirst-nothing c.args.gateway.now.told (events_in (c.args.waiting.now.unanswered ++ [])), i.0, i.1, (λ none. refl), k.1, none-fit)

pub returns-in-Err-Failed-clause-came : goal.returns-in-Err-Failed-clause-came
returns-in-Err-Failed-clause-came g c =
    let k = asked-in-vain g.P.Peer.went c.args.peer.now c.read.new.peer (c.in-Err-Failed.ensures.failed c.in-Err-Failed.field-0-is) in
    let i = idle-comes g.D.Disk.honest g.D.Disk.moment g.D.Disk.left g.D.Disk.seen g.D.Disk.failed g.met.D.Disk.reads g.met.D.Disk.earlier c.args.gateway.now c.stands.ensures (events_in (c.args.waiting.now.unanswered ++ [])) in
    ([], [], k.0, (nothing c.args.gateway.now.told c.args.waiting.now.unanswered c.requires.cut).0, i.0, i.1, (λ none. refl), k.1, none-fit)

pub returns-then-is_empty-clause-came : goal.returns-then-is_empty-clause-came
returns-then-is_empty-clause-came g c =
    let b = c.in-Ok.ensures.ok in
    let k = asked-at-end g.P.Peer.went c.args.peer.now c.read.new.peer b.0 (no_byte c.in-Ok.n b.0 c.if-n-eq0.true b.3) b.1 in
    let same = none_added c.args.waiting.now.unanswered c.read.new.self.unanswered b.0 c.in-Ok.n c.if-n-eq0.true b.3 (ap (λ (x : Exchange). x.unanswered) b.2) in
    let t = c.if-is_empty.true in
    let e = c.is_empty.ensures in
    let l : length c.unanswered.result.now ≡ 0 = grind (arith, common_steps) in
    let none : c.args.waiting.now.unanswered ≡ [] = sym same ∙ sym c.unanswered.ensures ∙ nil_from_length c.unanswered.result.now l in
    let i = idle-comes g.D.Disk.honest g.D.Disk.moment g.D.Disk.left g.D.Disk.seen g.D.Disk.failed g.met.D.Disk.reads g.met.D.Disk.earlier c.args.gateway.now c.stands.ensures (events_in (c.args.waiting.now.unanswered ++ [])) in
    let n = nothing c.args.gateway.now.told c.args.waiting.now.unanswered c.requires.cut in
    ([], [], k.0, record { answered = n.0; whole = n.1 ∙ ap Rest none; count_is = n.2; ended = c.in-Ok.ensures.end c.if-n-eq0.true }, i.0, i.1, (λ none. refl), k.1, none-fit)

pub returns-then-n-eq0-clause-came : goal.returns-then-n-eq0-clause-came
returns-then-n-eq0-clause-came g c =
    let b = c.in-Ok.ensures.ok in
    let k = asked-at-end g.P.Peer.went c.args.peer.now c.read.new.peer b.0 (no_byte c.in-Ok.n b.0 c.if-n-eq0.true b.3) b.1 in
    let same = none_added c.args.waiting.now.unanswered c.read.new.self.unanswered b.0 c.in-Ok.n c.if-n-eq0.true b.3 (ap (λ (x : Exchange). x.unanswered) b.2) in
    let t = c.if-is_empty.false in
    let e = c.is_empty.ensures in
    let v = c.unanswered.ensures in
    let some : c.args.waiting.now.unanswered ≢ [] = λ h. (let z : length c.unanswered.result.now ≡ 0 = ap length (v ∙ same ∙ h) in let f : ⊥ = grind (arith, common_steps) in f) in
    let i = idle-comes g.D.Disk.honest g.D.Disk.moment g.D.Disk.left g.D.Disk.seen g.D.Disk.failed g.met.D.Disk.reads g.met.D.Disk.earlier c.args.gateway.now c.stands.ensures (events_in (c.args.waiting.now.unanswered ++ [])) in
    let n = nothing c.args.gateway.now.told c.args.waiting.now.unanswered c.requires.cut in
    ([], [], k.0, (c.args.waiting.now.unanswered, n.1, some, n.0, c.in-Ok.ensures.end c.if-n-eq0.true), i.0, i.1, (λ none. refl), k.1, none-fit)

pub returns-in-Ok-answer_read-clause-came : goal.returns-in-Ok-answer_read-clause-came
returns-in-Ok-answer_read-clause-came g c =
    let b = c.in-Ok.ensures.ok in
    let s = c.in-Ok-answer_read.ensures.served in
    let k = asked-and-sent g.P.Peer.went g.met.P.Peer.further c.args.peer.now c.read.new.peer c.answer_read.new.peer b.0 s.0 (some_bytes c.in-Ok.n b.0 c.if-n-eq0.false b.3) b.1 s.1 s.5 in
    let same = ap (λ (x : Exchange). x.unanswered) b.2 in (
      b.0,
      s.0,
      k.0,
      subst (λ (bytes : List ℕ). Served c.args.gateway.now.told c.answer_read.new.gateway.told bytes c.answer_read.new.waiting.unanswered s.0 c.in-Ok-answer_read.count) same s.2,
      subst (λ (bytes : List ℕ). Fares g.D.Disk.honest g.D.Disk.moment g.D.Disk.left c.args.gateway.now c.answer_read.new.gateway (events_in bytes) s.0) same s.3,
      subst (λ (bytes : List ℕ). ComesByOne g.D.Disk.honest g.D.Disk.moment g.D.Disk.left c.args.gateway.now c.answer_read.new.gateway (events_in bytes) s.0) same s.4,
      (λ none. absurd (k.1 none)),
      k.2,
      b.5,
    )

pub returns-in-Err-clause-came : goal.returns-in-Err-clause-came
returns-in-Err-clause-came g c =
    let b = c.in-Ok.ensures.ok in
    let s = c.in-Err.ensures.served in
    let k = asked-and-ends g.P.Peer.went g.met.P.Peer.further c.args.peer.now c.read.new.peer c.answer_read.new.peer b.0 s.0 (some_bytes c.in-Ok.n b.0 c.if-n-eq0.false b.3) b.1 s.1 c.in-Err.fault s.5 in
    let same = ap (λ (x : Exchange). x.unanswered) b.2 in (
      b.0,
      s.0,
      k.0,
      EndsBy-seen c.in-Err.fault c.args.gateway.now.told c.answer_read.new.gateway.told (c.args.waiting.now.unanswered ++ b.0) s.0 (g.P.Peer.ended c.answer_read.new.peer)
          (subst (λ (bytes : List ℕ). EndsBy c.in-Err.fault c.args.gateway.now.told c.answer_read.new.gateway.told bytes s.0 ⊥) same s.2),
      subst (λ (bytes : List ℕ). Fares g.D.Disk.honest g.D.Disk.moment g.D.Disk.left c.args.gateway.now c.answer_read.new.gateway (events_in bytes) s.0) same s.3,
      subst (λ (bytes : List ℕ). ComesByOne g.D.Disk.honest g.D.Disk.moment g.D.Disk.left c.args.gateway.now c.answer_read.new.gateway (events_in bytes) s.0) same s.4,
      (λ none. absurd (k.1 none)),
      k.2,
      b.5,
    )
