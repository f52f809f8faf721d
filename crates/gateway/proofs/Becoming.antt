-- What two files stand for that may have become of others.
use Rattle.std.proofs.Common.{◌≡◌, ℕ, zero, suc, ◌≤◌, List, [], ◌∷◌, ◌++◌, length, get_or, drop, ⊎_elim, inl, inr, refl, sym, ◌∙◌, ap, subst, arith, append_assoc, length-append}
use Rattle.std.proofs.lemmas.Bool.{cases_eq}
use Rattle.std.proofs.lemmas.List.{append-nil}
use Rattle.packet.specs.Config.{Config}
use Rattle.disk_model.specs.Disk.{Files, other}
use Rattle.disk_model.specs.declared.disk.FileId.{FileId}
use Rattle.disk_model.specs.declared.disk.FileId.TheVariants.{A, B}
use Rattle.journal.specs.Groups.{open_groups}
use Rattle.durable.specs.Coding.{Heading, heading_bytes}
use Rattle.durable.specs.Entering.{Durable}
use Rattle.durable.specs.Recovery.{Holds, IsActive, IsConfigured, IsHeaded, IsOlder, IsOpen, NoneOpen, Recovers, behind}
use Rattle.durable.proofs.Headed.{headed_open, recovers_once}
use Rattle.gateway.specs.Lives.{BothMayBecome, MayBecome}

-- ---- one file

pub stays : (bytes : List ℕ) → MayBecome bytes bytes
stays bytes = elim (cases_eq (get_or bytes 0 0) 1) [ inl one ↦ inr (one, ([], sym (append-nil bytes))) | inr shut ↦ inl (shut, shut) ]

-- what is behind a place, if more bytes are put behind a file
drop-longer : (n : ℕ) (xs more : List ℕ) → n ≤ length xs → drop n (xs ++ more) ≡ drop n xs ++ more
drop-longer zero xs more le = refl
drop-longer (suc n) [] more le = absurd (omega (arith, le))
drop-longer (suc n) (x ∷ xs) more le = drop-longer n xs more (omega (arith, le))

longer-headed : (old more : List ℕ) (h : Heading) → IsHeaded old h → IsHeaded (old ++ more) h
longer-headed old more h on = record {
  whole = on.whole;
  config = on.config;
  front = ap (λ (l : List ℕ). l ++ more) on.front
      ∙ ap (λ (l : List ℕ). 1 ∷ l) (append_assoc (heading_bytes h) (drop (behind h) old) more)
      ∙ ap (λ (l : List ℕ). 1 ∷ (heading_bytes h ++ l)) (sym (drop-longer (behind h) old more (omega (arith, on.gated))));
  gated = omega (arith, on.gated, length-append old more);
}

longer-holds : (old more : List ℕ) (h : Heading) (d : Durable) (end : ℕ) → Holds old h d end → Holds (old ++ more) h d end
longer-holds old more h d end holds = record {
  headed = longer-headed old more h holds.headed;
  text = holds.text;
  sound = holds.sound;
  bodies = holds.bodies;
  groups = record {
    gate = holds.groups.gate;
    rest = holds.groups.rest ++ more;
    split = drop-longer (behind h) old more (omega (arith, holds.headed.gated))
        ∙ ap (λ (l : List ℕ). l ++ more) holds.groups.split
        ∙ append_assoc (open_groups holds.bodies) (holds.groups.gate ∷ holds.groups.rest) more;
    closed = holds.groups.closed;
    fit = holds.groups.fit;
    end_is = holds.groups.end_is;
  };
  changed = holds.changed;
}

-- what an open file keeps, if more bytes are put behind it
kept-on : (P : List ℕ → Type 0) (old new : List ℕ) → MayBecome old new → IsOpen old → ((more : List ℕ) → P (old ++ more)) → P new
kept-on P old new may one kept = ⊎_elim (λ shut. absurd (shut.0 one)) (λ longer. subst P (sym longer.1.1) (kept longer.1.0)) may

headed-on : (old new : List ℕ) (h : Heading) → MayBecome old new → IsHeaded old h → IsHeaded new h
headed-on old new h may on = kept-on (λ (l : List ℕ). IsHeaded l h) old new may (headed_open old h on) (λ more. longer-headed old more h on)

holds-on : (old new : List ℕ) (h : Heading) (d : Durable) (end : ℕ) → MayBecome old new → Holds old h d end → Holds new h d end
holds-on old new h d end may holds = kept-on (λ (l : List ℕ). Holds l h d end) old new may (headed_open old h holds.headed) (λ more. longer-holds old more h d end holds)

shut-on : (old new : List ℕ) → MayBecome old new → ¬ IsOpen old → ¬ IsOpen new
shut-on old new may was = ⊎_elim (λ shut. shut.1) (λ longer. absurd (was longer.0)) may

was-open : (old new : List ℕ) → MayBecome old new → IsOpen new → IsOpen old
was-open old new may one = ⊎_elim (λ shut. absurd (shut.1 one)) (λ longer. longer.0) may

older-on : (old new : List ℕ) (generation : ℕ) → MayBecome old new → IsOlder generation old → IsOlder generation new
older-on old new generation may was one =
    let older = was (was-open old new may one) in
    (older.0, headed-on old new older.0 may older.1, older.2)

-- ---- two files

none-open : (files : Files) (file : FileId) → NoneOpen files → ¬ IsOpen (files file)
none-open files A none = none.0
none-open files B none = none.1

active-on : (before files : Files) → BothMayBecome before files → (f : FileId) (h : Heading) (d : Durable) (end : ℕ) → IsActive before f h d end → IsActive files f h d end
active-on before files may f h d end active = (holds-on (before f) (files f) h d end (may f) active.0, older-on (before (other f)) (files (other f)) h.generation (may (other f)) active.1)

pub recovers-on : (before files : Files) → BothMayBecome before files → (d : Durable) → Recovers before d → Recovers files d
recovers-on before files may d stood =
    ⊎_elim
    (λ none. inl ((shut-on (before A) (files A) (may A) none.0.0, shut-on (before B) (files B) (may B) none.0.1), none.1))
    (λ active. inr (active.0, active.1, active.2, active-on before files may active.0 active.1 d active.2 active.3))
    stood

-- the active file was active before
pub active-back : (before files : Files) → BothMayBecome before files → (d : Durable) → Recovers before d → (f : FileId) (h : Heading) (e : Durable) (end : ℕ) → IsActive files f h e end → IsActive before f h e end
active-back before files may d stood f h e end active =
    ⊎_elim
    (λ none. absurd (shut-on (before f) (files f) (may f) (none-open before f none.0) (headed_open (files f) h active.0.headed)))
    (λ was.
    let same = recovers_once.active files was.0 f was.1 h d e was.2 end (active-on before files may was.0 was.1 d was.2 was.3) active in
    subst (λ (g : FileId). IsActive before g h e end) same.0
    (subst (λ (k : Heading). IsActive before was.0 k e end) same.1
    (subst (λ (x : Durable). IsActive before was.0 was.1 x end) same.2
    (subst (λ (n : ℕ). IsActive before was.0 was.1 d n) same.3 was.3))))
    stood

pub configured-on : (config : Config) (before files : Files) → BothMayBecome before files → (d : Durable) → Recovers before d → IsConfigured config before → IsConfigured config files
configured-on config before files may d stood is f h e end active = is f h e end (active-back before files may d stood f h e end active)
