-- Which file may be moved away.
use Rattle.std.specs.Prelude.{◌≡◌, ◌⊎◌, ℕ, List, [], ◌++◌, codes, IsTrue, ⊤}
use Rattle.disk_model.specs.Disk.{other}
use Rattle.disk_model.specs.declared.disk.FileId.{FileId}
use Rattle.disk_model.specs.declared.disk.FileId.TheVariants.{A, B}
use Rattle.file_disk.specs.Named.{file_name}
use Rattle.diagnosis.specs.Finding.{HasFault}
use Rattle.diagnosis.specs.declared.advice.Advice.{Advice}
use Rattle.diagnosis.specs.declared.advice.Advice.TheVariants.{Backup, MoveEither, MoveBoth, MoveToBegin, MoveToGoOn}
use Rattle.diagnosis.specs.declared.finding.Damage.{Damage}
use Rattle.diagnosis.specs.declared.reading.Held.{Held}
use Rattle.diagnosis.specs.declared.reading.Reading.{Reading}
use Rattle.diagnosis.specs.declared.reading.Reading.TheVariants.{Empty, Closed, Whole}

abbrev pub reading_of : Damage → FileId → Reading
reading_of damage A = damage.a
reading_of damage B = damage.b

-- it holds a state
abbrev pub IsWhole : Reading → Type 0
IsWhole reading = (held : Held) × (reading ≡ Whole held)

-- it holds a state of the configuration at hand, with which one can go on
abbrev pub IsOfUse : Reading → Type 0
IsOfUse (Whole held) = IsTrue held.is_configured
IsOfUse reading = ⊥

-- it holds nothing: it is empty or not in use
abbrev pub HoldsNothing : Reading → Type 0
HoldsNothing Empty = ⊤
HoldsNothing Closed = ⊤
HoldsNothing reading = ⊥

-- To move a file away helps if it has a fault, or if both are whole; and what one goes on with is the other file, which
-- is whole and has the configuration at hand.
abbrev pub Helps : Damage → Advice → Type 0
Helps damage Backup = ⊥
Helps damage MoveEither = IsWhole damage.a × IsWhole damage.b
Helps damage MoveBoth = HasFault damage.a × HasFault damage.b
Helps damage (MoveToBegin file) = HasFault (reading_of damage file)
    × HoldsNothing (reading_of damage (other file))
Helps damage (MoveToGoOn file) = HasFault (reading_of damage file)
    × IsOfUse (reading_of damage (other file))

-- what helps is advised; and a backup alone, only if nothing else helps
abbrev pub IsAdvice : Damage → Advice → Type 0
IsAdvice damage advice = Helps damage advice
    ⊎ ((advice ≡ Backup) × ((more : Advice) → ¬ Helps damage more))

-- the same for a file that has a fault, by the file beside it
abbrev pub HelpsBeside : FileId → Reading → Advice → Type 0
HelpsBeside faulty beside Backup = ⊥
HelpsBeside faulty beside MoveEither = ⊥
HelpsBeside faulty beside MoveBoth = HasFault beside
HelpsBeside faulty beside (MoveToBegin file) = (file ≡ faulty) × HoldsNothing beside
HelpsBeside faulty beside (MoveToGoOn file) = (file ≡ faulty) × IsOfUse beside

abbrev pub IsAdviceBeside : FileId → Reading → Advice → Type 0
IsAdviceBeside faulty beside advice = HelpsBeside faulty beside advice
    ⊎ ((advice ≡ Backup) × ((more : Advice) → ¬ HelpsBeside faulty beside more))

-- the end of the line that people read: it names the file to be moved, and the one to go on with
abbrev pub sentence_of : Advice → List ℕ
sentence_of Backup = []
sentence_of MoveEither = codes ", or move one of them away to go on with what the other holds"
sentence_of MoveBoth = codes ", or move both away to begin with nothing"
sentence_of (MoveToBegin file) =
    codes ", or move " ++ file_name file ++ codes " away to begin with nothing"
sentence_of (MoveToGoOn file) =
    codes ", or move " ++ file_name file ++ codes " away to go on with what "
    ++ file_name (other file) ++ codes " holds, which may be older"
