use Rattle.std.proofs.Common.{List, ℕ, IsTrue, sym, subst}
use Rattle.packet.specs.Config.{is_name}
use Rattle.durable.proofs.Named.{names}
use Rattle.diagnosis.proofs.words.say_field.Goals as goal

pub say_name-requires : goal.say_name-requires
say_name-requires g c = subst (λ (l : List ℕ). IsTrue (is_name l)) (sym c.lan.ensures) (names c.args.bounds.now c.facts.ensures.valid).0

pub say_name-requires-in-Wan : goal.say_name-requires-in-Wan
say_name-requires-in-Wan g c = subst (λ (l : List ℕ). IsTrue (is_name l)) (sym c.wan.ensures) (names c.args.bounds.now c.facts.ensures.valid).1
