use Rattle.std.proofs.Common.{Some, Result, Ok, Err, OnOk, OnErr, sym, ap, ◌∙◌, subst, arith}
use Rattle.std.proofs.lemmas.Result.{on_ok_weaker}
use Rattle.rows.specs.Held.{value_at, at, Entries, Puts}
use Rattle.buckets.specs.Places.{AreNumbered, plain_in}
use Rattle.buckets.proofs.Numbers.{plain-value, plain-puts, numbered-puts}
use Rattle.buckets.proofs.overflow.Overflow.insert.Goals as goal

pub insert-requires : goal.insert-requires
insert-requires c =
    let rows = c.self.inside.rows.held in
    ap (value_at rows) c.number.ensures.same ∙ sym (plain-value rows c.self.invariant c.args.key (omega arith)) ∙ ap (λ (o : Entries). at o c.args.key) c.self.view_is ∙ c.requires

either_way : {A E P Q R : Type 0} (r : Result A E) → OnOk r P → OnErr r Q → (P → R) → (Q → R) → R
either_way (Ok x) p q f g = f p
either_way (Err e) p q f g = g q

pub invariant_of-self : goal.invariant_of-self
invariant_of-self c =
    let rows = c.self.inside.rows.held in
    either_way c.insert.result c.insert.ensures.ok c.insert.ensures.err
    (λ puts. numbered-puts rows c.insert.new.self.held c.self.invariant c.args.key (omega arith) (Some c.args.value) (subst (λ n. Puts rows c.insert.new.self.held n (Some c.args.value)) c.number.ensures.same puts))
    (λ same. subst AreNumbered (sym same) c.self.invariant)

pub returns-clause-ok : goal.returns-clause-ok
returns-clause-ok c =
    let rows = c.self.inside.rows.held in
    on_ok_weaker c.insert.result (λ puts. subst (λ (o : Entries). Puts o.held (plain_in c.insert.new.self.held) c.args.key (Some c.args.value)) c.self.view_is (plain-puts rows c.insert.new.self.held c.self.invariant c.args.key (omega arith) (Some c.args.value) (subst (λ n. Puts rows c.insert.new.self.held n (Some c.args.value)) c.number.ensures.same puts))) c.insert.ensures.ok
