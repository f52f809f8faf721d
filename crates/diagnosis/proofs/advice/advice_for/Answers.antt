use Rattle.disk_model.specs.declared.disk.FileId.TheVariants.{A, B}
use Rattle.diagnosis.proofs.Advised.{advice-beside}
use Rattle.diagnosis.proofs.advice.advice_for.Goals as goal

pub returns-in-Faulty : goal.returns-in-Faulty
returns-in-Faulty c = advice-beside c.args.damage A (c.in-Faulty.field-0, c.in-Faulty.is) c.beside.result c.beside.ensures

pub returns-in-Faulty-b : goal.returns-in-Faulty-b
returns-in-Faulty-b c = advice-beside c.args.damage B (c.in-Faulty-b.field-0, c.in-Faulty-b.is) c.beside-in-Faulty-b.result c.beside-in-Faulty-b.ensures

pub returns-in-Faulty-b-2 : goal.returns-in-Faulty-b-2
returns-in-Faulty-b-2 c = advice-beside c.args.damage B (c.in-Faulty-b-2.field-0, c.in-Faulty-b-2.is) c.beside-in-Faulty-b-2.result c.beside-in-Faulty-b-2.ensures
