-- The word that people read for each way in which a command gives up.
use Rattle.std.specs.Prelude.{◌≡◌, ◌⊎◌, ℕ, Bool, List, Option, None, Some, ◌++◌, ◌&&◌, nat_lt, length, codes, option_map, string_bytes, if◌then◌else◌}
use Rattle.std.specs.List.{list_all}
use Rattle.std.specs.declared.io.ErrorKind.{ErrorKind}
use Rattle.std.specs.declared.io.ErrorKind.TheVariants as error_kind
use Rattle.refusals.specs.declared.refusal.Refusal.{Refusal}
use Rattle.refusals.specs.declared.refusal.Refusal.TheVariants as refusal
use Rattle.refusals.specs.declared.stop.Stop.{Stop}

abbrev pub word_of : Refusal → List ℕ
word_of refusal.Config = codes "config"
word_of refusal.File = codes "file"
word_of refusal.Device = codes "device"
word_of refusal.Full = codes "full"
word_of refusal.Damaged = codes "damaged"
word_of refusal.ConfigDiffers = codes "config-differs"
word_of refusal.Generations = codes "generations"
word_of refusal.NoMemory = codes "no-memory"
word_of refusal.Reopen = codes "reopen"
word_of refusal.NumbersOut = codes "numbers-out"
word_of refusal.BadKind = codes "bad-kind"
word_of refusal.BadInterface = codes "bad-interface"
word_of refusal.TooLong = codes "too-long"
word_of refusal.Truncated = codes "truncated"
word_of refusal.Input = codes "input"
word_of refusal.Output = codes "output"

-- the word in its line
abbrev pub first_line : Refusal → List ℕ
first_line r = codes "natgw: " ++ word_of r ++ codes "\n"

-- what is told once where the files were those of an older natgw; no command gives up there, so no `natgw: ` is in front
abbrev pub migrated_line : List ℕ
migrated_line =
    codes "the two files are of version 2 from now on: an older natgw calls them damaged\n"

-- what to do where no more is known than the word
abbrev pub sentence_of : Refusal → List ℕ
sentence_of refusal.Config = codes "the options are no configuration: `natgw --help` tells of them"
sentence_of refusal.File = codes "a file, a directory or a socket can't be had: look at its path"
sentence_of refusal.Device =
    codes "a read, write or sync of natgw.a or natgw.b failed: look into the kernel's log and at the space that is left, then start again"
sentence_of refusal.Full = codes "natgw.a or natgw.b has no room below 67108864 bytes: start again"
sentence_of refusal.Damaged =
    codes "natgw.a and natgw.b hold what natgw didn't write: put both back from one backup, or name another directory"
sentence_of refusal.ConfigDiffers =
    codes "the files were written with another configuration: start natgw with that one, or name another directory"
sentence_of refusal.Generations =
    codes "the files can't be made anew any more: name a new directory"
sentence_of refusal.NoMemory = codes "memory was refused: allow natgw more, and start again"
sentence_of refusal.Reopen =
    codes "a read, write or sync of natgw.a or natgw.b failed before: start again"
sentence_of refusal.NumbersOut = codes "the last event had the greatest number: start again"
sentence_of refusal.BadKind =
    codes "the first byte of a request is none of 1, 2 and 3: correct what sends the requests"
sentence_of refusal.BadInterface =
    codes "the second byte of a packet is neither 0 nor 1, or that of another request isn't 0: correct what sends the requests"
sentence_of refusal.TooLong =
    codes "a packet of more than 65535 bytes, a ruleset of more than 262144, or a moment with a body: correct what sends the requests"
sentence_of refusal.Truncated =
    codes "the input ends within a request: all whole requests before it are answered, send the rest again"
sentence_of refusal.Input =
    codes "the requests can't be read any further: all whole requests before are answered, send the rest again"
sentence_of refusal.Output =
    codes "standard output or standard error takes no more: look at what reads it; what was answered stands in the files"

-- there are some bytes, and none of them ends a line or is another control byte
abbrev pub is_one_line : List ℕ → Bool
is_one_line bytes = nat_lt 0 (length bytes) && list_all (nat_lt 31) bytes

-- what is told where others may write in the directory of the files: in which, if its path can stand in one line
abbrev pub shared_line : List ℕ → List ℕ
shared_line path =
    if is_one_line path
    then codes "others may write in " ++ path
    ++ codes ", and so make natgw forget all: take that from them\n"
    else codes "others may write in --dir, and so make natgw forget all: take that from them\n"

-- what is told once clients may connect: where, if the path can stand in one line
abbrev pub serving_line : List ℕ → List ℕ
serving_line path =
    if is_one_line path then codes "natgw listens at " ++ path ++ codes "\n"
    else codes "natgw listens\n"

-- what is known besides the word, where that is one line, and otherwise what the word says
abbrev pub advised : Refusal → Option (List ℕ) → List ℕ
advised r None = sentence_of r
advised r (Some advice) = if is_one_line advice then advice else sentence_of r

abbrev pub second_line : Stop → List ℕ
second_line stop = advised stop.refusal (option_map string_bytes stop.advice)

-- of a call of the system on a path
abbrev pub path_refusal : ErrorKind → Refusal
path_refusal error_kind.OutOfMemory = refusal.NoMemory
path_refusal _ = refusal.File

-- what may be the matter with a path
abbrev pub IsOfPath : Refusal → Type 0
IsOfPath r = (r ≡ refusal.File) ⊎ (r ≡ refusal.NoMemory)

-- what may be the matter where something is printed
abbrev pub IsOfPrinting : Refusal → Type 0
IsOfPrinting r = (r ≡ refusal.NoMemory) ⊎ (r ≡ refusal.Output)
