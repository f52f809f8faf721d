use Rattle.std.proofs.Common.{◌≡◌, Option, Some, sym, ◌∙◌}
use Rattle.rulesyntax.specs.Reading.{Fails, text_at}
use Rattle.rulesyntax.specs.Text.{IsFault}
use Rattle.ruletree.specs.declared.fault.Kind.TheVariants.{NoMemory}
use Rattle.ruletree.specs.declared.fault.LoadFault.{LoadFault}
use Rattle.rulesyntax.specs.declared.error.ReadError.{ReadError}
use Rattle.rulesyntax.specs.declared.error.ReadError.TheVariants as errors
use Rattle.ruletree.specs.declared.tree.Spelled.{Spelled}
use Rattle.rulesyntax.proofs.Tables.{text_sound, text_complete, same_rules}
use Rattle.rulesyntax.proofs.ruleset.read.Goals as goal

refused : (fault : LoadFault) (error : ReadError) (rules : Spelled) (read : Option Spelled) → read ≡ Some rules → Fails error read → IsFault fault error → fault.kind ≡ NoMemory
refused fault errors.Memory rules read e h f = f
refused fault (errors.Syntax spot) rules read e h f = absurd cc

pub returns-in-Ok-clause-found : goal.returns-in-Ok-clause-found
returns-in-Ok-clause-found c = (text_sound c.args.tokens.now).so c.in-Ok.rules c.in-Ok.ensures

pub returns-in-Ok-clause-only : goal.returns-in-Ok-clause-only
returns-in-Ok-clause-only c = λ rules h. same_rules c.in-Ok.rules rules (sym c.in-Ok.ensures ∙ text_complete c.args.tokens.now rules h)

pub returns-in-Err-clause-only : goal.returns-in-Err-clause-only
returns-in-Err-clause-only c = λ rules h. refused c.fault_at.result c.in-Err.error rules (text_at c.args.tokens.now) (text_complete c.args.tokens.now rules h) c.in-Err.ensures c.fault_at.ensures
