-- What becomes of the bytes of a file that is opened.
use Rattle.std.proofs.Common.{◌≡◌, inl, inr, ⊎_elim, Result, ℕ, ◌<◌, List, [], ◌∷◌, ◌++◌, length, get_or, take, drop, refl, sym, ◌∙◌, ap, subst, arith, append_assoc, take-append-drop}
use Rattle.std.proofs.lemmas.List.{append-nil, ext_get_or, get_or-take, get_or_past, length-take-le}
use Rattle.std.proofs.lemmas.Bool.{cases_eq}
use Rattle.disk_model.specs.Disk.{Files, Torn}
use Rattle.disk_model.specs.declared.disk.FileId.TheVariants.{A, B}
use Rattle.disk_model.specs.Disk.{pair}
use Rattle.file_disk.specs.Filed.{Filed, LeavesBoth, LeftSince, moment_of}
use Rattle.file_disk.specs.OneFile.{Puts}
use Rattle.file_disk.specs.Prepared.{IsLeft, IsLonger, IsOpen, IsPrepared, OpensNone, prepared}
use Rattle.file_disk.specs.Becoming.{Becomes, BothMayBecome, MayBecome, OpeningsKeepFiles}

-- a write of the closing byte leaves the gate open only with all bytes
pub torn_open : (old new : List ℕ) → Torn 0 (0 ∷ []) old new → IsOpen new → IsOpen old × IsLonger old new
torn_open old new torn one =
    let was = torn.closing refl one in
    let long = torn.no_shorter in
    let size = length-take-le (length old) new long in
    let front : take (length old) new ≡ old = ext_get_or 0 (take (length old) new) old size (λ i lt.
    let below : i < length old = omega (arith, size, lt) in
    get_or-take (length old) new i 0 below ∙ (elim (cases_eq i 0) [
      | inl none ↦ ap (λ k. get_or new k 0) none ∙ one ∙ sym was ∙ ap (λ k. get_or old k 0) (sym none)
      | inr more ↦ torn.outside i below (inr (omega (arith, more)))
    ])) in
    (was, (drop (length old) new, sym (take-append-drop (length old) new) ∙ ap (λ l. l ++ drop (length old) new) front))

empty_shut : (bytes : List ℕ) → length bytes ≡ 0 → ¬ IsOpen bytes
empty_shut [] none = λ one. omega (arith, one)
empty_shut (x ∷ xs) none = absurd (omega (arith, none))

kept_all : (room : ℕ) (bytes : List ℕ) → 0 < length bytes → prepared room bytes ≡ bytes
kept_all room [] some = absurd (omega (arith, some))
kept_all room (x ∷ xs) some = refl

pub stays : (bytes : List ℕ) → MayBecome bytes bytes
stays bytes = elim (cases_eq (get_or bytes 0 0) 1) [
  | inl one ↦ inr (one, ([], sym (append-nil bytes)))
  | inr shut ↦ inl (shut, shut)
]

longer_open : (old new : List ℕ) → IsOpen old → IsLonger old new → IsOpen new
longer_open [] new one longer = absurd (omega (arith, one))
longer_open (x ∷ xs) new one longer = ap (λ l. get_or l 0 0) longer.1 ∙ one

further : (a b c : List ℕ) → MayBecome a b → MayBecome b c → MayBecome a c
further a b c first then =
    ⊎_elim
    (λ shut. ⊎_elim (λ also. inl (shut.0, also.1)) (λ on. absurd (shut.1 on.0)) then)
    (λ on. ⊎_elim
    (λ shut. absurd (shut.0 (longer_open a b on.0 on.1)))
    (λ also. inr (on.0, (on.1.0 ++ also.1.0, also.1.1 ∙ ap (λ l. l ++ also.1.0) on.1.1 ∙ append_assoc a on.1.0 also.1.0)))
    then)
    first

module _ {F : Type 0} (honest : F → Type 0) (holds : F → List ℕ) (leaves : F → List ℕ → Type 0) where
  -- the closing byte was written, or a part of the write
  pub written_shut : {E : Type 0} (result : Result (Unit {0}) E) (old new : F) → Puts honest holds leaves 0 (0 ∷ []) result old new → honest old → OpensNone honest holds leaves old new
  written_shut result old new puts is bytes now one =
      let from = puts.crash is (omega arith) bytes now in
      let was = torn_open from.0 bytes from.2 one in
      (from.0, from.1, was.0, was.1)

module _ {F : Type 0} (honest : F → Type 0) (holds : F → List ℕ) (leaves : F → List ℕ → Type 0) (lacks_space : F → Type 0) (reads : (file : F) → honest file → leaves file (holds file)) where
  abbrev pub Became : F → List ℕ → Type 0
  Became found bytes = (before : List ℕ) × leaves found before × MayBecome before bytes

  -- open bytes were there, and closed ones may have become of an empty file
  opened_or_shut : (found file : F) (bytes : List ℕ) → OpensNone honest holds leaves found file → leaves file bytes → (¬ IsOpen bytes → Became found bytes) → Became found bytes
  opened_or_shut found file bytes opens now shut = elim (cases_eq (get_or bytes 0 0) 1) [
    | inl one ↦ let was = opens bytes now one in (was.0, was.1, inr (was.2, was.3))
    | inr none ↦ shut none
  ]

  of_empty : (found : F) (bytes : List ℕ) → honest found → length (holds found) ≡ 0 → ¬ IsOpen bytes → Became found bytes
  of_empty found bytes is none shut = (holds found, reads found is, inl (empty_shut (holds found) none, shut))

  was_prepared : (room : ℕ) (found file : F) → honest found → IsPrepared honest holds leaves lacks_space room found file → Becomes honest holds leaves found file
  was_prepared room found file is by bytes now = opened_or_shut found file bytes (by.closed is) now (λ shut.
      elim (cases_eq (length (holds found)) 0) [
        | inl none ↦ of_empty found bytes is none shut
        | inr some ↦ ⊎_elim
            (λ whole.
            let same : bytes ≡ holds found = whole.synced bytes now ∙ whole.bytes ∙ kept_all room (holds found) (omega (arith, some)) in
            (holds found, reads found is, subst (λ l. MayBecome (holds found) l) (sym same) (stays (holds found))))
            (λ short. absurd (some short.0))
            (by.whole is)
      ])

  was_left : (found file : F) → honest found → IsLeft honest holds leaves found file → Becomes honest holds leaves found file
  was_left found file is by bytes now = opened_or_shut found file bytes (by.closed is) now (λ shut.
      elim (cases_eq (length (holds found)) 0) [
        | inl none ↦ of_empty found bytes is none shut
        | inr some ↦ (bytes, by.kept is (omega (arith, some)) bytes now, stays bytes)
      ])

  both_become : (a b : List ℕ) (files : Files) → MayBecome a (files A) → MayBecome b (files B) → BothMayBecome (pair a b) files
  both_become a b files first second A = first
  both_become a b files first second B = second

  both_prepared : (room : ℕ) (found : F × F) (disk : Filed F) → honest found.0 → honest found.1 → IsPrepared honest holds leaves lacks_space room found.0 disk.files.a
      → IsPrepared honest holds leaves lacks_space room found.1 disk.files.b
      → (files : Files) → LeftSince leaves disk (moment_of disk) files → (before : Files) × LeavesBoth leaves found before × BothMayBecome before files
  both_prepared room found disk is also by and files left =
      let now : LeavesBoth leaves (disk.files.a, disk.files.b) files =
      subst (λ (both : F × F). LeavesBoth leaves both files) (get_or_past disk.files.past left.0 (disk.files.a, disk.files.b) left.1) left.2 in
      let a = was_prepared room found.0 disk.files.a is by (files A) now.0 in
      let b = was_prepared room found.1 disk.files.b also and (files B) now.1 in
      (pair a.0 b.0, (a.1, b.1), both_become a.0 b.0 files a.2 b.2)

  pub keep : OpeningsKeepFiles honest holds leaves lacks_space
  keep = record { prepared = was_prepared; left = was_left; both = both_prepared; further = λ a b c first then file. further (a file) (b file) (c file) (first file) (then file) }
