-- What helps where one of two files has a fault.
use Rattle.std.proofs.Common.{◌≡◌, sym, refl, subst, inl, inr}
use Rattle.disk_model.specs.Disk.{other}
use Rattle.disk_model.specs.declared.disk.FileId.{FileId}
use Rattle.disk_model.specs.declared.disk.FileId.TheVariants.{A, B}
use Rattle.diagnosis.specs.Advising.{Helps, HelpsBeside, HoldsNothing, IsAdvice, IsAdviceBeside, IsOfUse, reading_of}
use Rattle.diagnosis.specs.Finding.{HasFault}
use Rattle.diagnosis.specs.declared.advice.Advice.{Advice}
use Rattle.diagnosis.specs.declared.advice.Advice.TheVariants.{Backup, MoveEither, MoveBoth, MoveToBegin, MoveToGoOn}
use Rattle.diagnosis.specs.declared.finding.Damage.{Damage}
use Rattle.diagnosis.specs.declared.reading.Reading.{Reading}
use Rattle.diagnosis.specs.declared.reading.Reading.TheVariants.{Empty, Closed, Faulty, Whole}

fault-holds : (reading : Reading) → HasFault reading → ¬ HoldsNothing reading
fault-holds Empty h = λ _. let is : Empty ≡ Faulty h.0 = h.1 in absurd cc
fault-holds Closed h = λ _. let is : Closed ≡ Faulty h.0 = h.1 in absurd cc
fault-holds (Faulty fault) h = λ n. n
fault-holds (Whole held) h = λ n. n

fault-use : (reading : Reading) → HasFault reading → ¬ IsOfUse reading
fault-use Empty h = λ n. n
fault-use Closed h = λ n. n
fault-use (Faulty fault) h = λ n. n
fault-use (Whole held) h = λ _. let is : Whole held ≡ Faulty h.0 = h.1 in absurd cc

-- what helps beside a fault helps
pub helps-of : (damage : Damage) (file : FileId) → HasFault (reading_of damage file) → (advice : Advice) → HelpsBeside file (reading_of damage (other file)) advice → Helps damage advice
helps-of damage file fault Backup h = h
helps-of damage file fault MoveEither h = absurd h
helps-of damage A fault MoveBoth h = (fault, h)
helps-of damage B fault MoveBoth h = (h, fault)
helps-of damage file fault (MoveToBegin moved) h = subst (λ f. HasFault (reading_of damage f) × HoldsNothing (reading_of damage (other f))) (sym h.0) (fault, h.1)
helps-of damage file fault (MoveToGoOn moved) h = subst (λ f. HasFault (reading_of damage f) × IsOfUse (reading_of damage (other f))) (sym h.0) (fault, h.1)

-- and nothing else does
pub helps-beside : (damage : Damage) (file : FileId) → HasFault (reading_of damage file) → (advice : Advice) → Helps damage advice → HelpsBeside file (reading_of damage (other file)) advice
helps-beside damage file fault Backup h = h
helps-beside damage A fault MoveEither h = let is = h.0.1 in let was = fault.1 in absurd cc
helps-beside damage B fault MoveEither h = let is = h.1.1 in let was = fault.1 in absurd cc
helps-beside damage A fault MoveBoth h = h.1
helps-beside damage B fault MoveBoth h = h.0
helps-beside damage A fault (MoveToBegin A) h = (refl, h.1)
helps-beside damage A fault (MoveToBegin B) h = absurd (fault-holds damage.a fault h.1)
helps-beside damage B fault (MoveToBegin A) h = absurd (fault-holds damage.b fault h.1)
helps-beside damage B fault (MoveToBegin B) h = (refl, h.1)
helps-beside damage A fault (MoveToGoOn A) h = (refl, h.1)
helps-beside damage A fault (MoveToGoOn B) h = absurd (fault-use damage.a fault h.1)
helps-beside damage B fault (MoveToGoOn A) h = absurd (fault-use damage.b fault h.1)
helps-beside damage B fault (MoveToGoOn B) h = (refl, h.1)

pub advice-beside : (damage : Damage) (file : FileId) → HasFault (reading_of damage file) → (advice : Advice) → IsAdviceBeside file (reading_of damage (other file)) advice → IsAdvice damage advice
advice-beside damage file fault advice (inl helps) = inl (helps-of damage file fault advice helps)
advice-beside damage file fault advice (inr none) = inr (none.0, λ more h. none.1 more (helps-beside damage file fault more h))
