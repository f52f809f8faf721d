-- An established session of TCP stays so until a FIN or a RST.
use Rattle.std.proofs.Common.{◌≡◌, ◌⊎◌, ℕ, ◌+◌, ◌==◌, ◌&&◌, ◌||◌, Bool, true, false, not, List, [], ◌∷◌, bit_and, bit_or, if◌then◌else◌, refl, sym, ap, ◌∙◌, subst, inl, inr}
use Rattle.std.proofs.lemmas.Bool.{and_parts, false≢true}
use Rattle.std.proofs.lemmas.Nat.{and_assoc, and_or_apart, and_or_self}
use Rattle.packet.specs.Config.{Config}
use Rattle.packet.specs.declared.endpoint.Flags.{Flags}
use Rattle.packet.specs.declared.endpoint.Proto.TheVariants.{Tcp}
use Rattle.packet.specs.declared.route.Route.{Route}
use Rattle.packet.specs.declared.route.Route.TheVariants.{Out, Hairpin, In as InRoute}
use Rattle.packet.specs.declared.view.View.{View}
use Rattle.sessions.specs.Life.{ack_bit, bit_if, fin_bit, has, is_acknowledged, is_closing, is_syn_alone, phase_of, reply_bit, reset_bit, restarts, same_side, shown}
use Rattle.sessions.specs.Table.{seen}
use Rattle.sessions.specs.declared.life.Phase.{Phase}
use Rattle.sessions.specs.declared.life.Phase.TheVariants.{Closing, Established, Partial}
use Rattle.sessions.specs.declared.session.Opener.{Opener}
use Rattle.sessions.specs.declared.session.Opener.TheVariants.{Inside, Remote}
use Rattle.sessions.specs.declared.session.Session.{Session}
use Rattle.machine.specs.Judged.{Judged}
use Rattle.machine.specs.Machine.{State, step}
use Rattle.machine.specs.Requirements.{IsOf, StaysOpen}

-- ---- bits

-- bits that are added have this one
with-own : (a m n : ℕ) → bit_and m n ≡ n → bit_and (bit_or a m) n ≡ n
with-own a m n own =
    ap (λ (x : ℕ). bit_and (bit_or a m) x) (sym own) ∙ sym (and_assoc n (bit_or a m) m) ∙ ap (λ (x : ℕ). bit_and x n) (and_or_self m a) ∙ own

had-before : (a m n : ℕ) → bit_and m n ≡ 0 → has (bit_or a m) n ≡ has a n
had-before a m n apart = ap (λ (x : ℕ). x == n) (and_or_apart n a m apart)

has-still : (a m n : ℕ) → (n == n) ≡ true → (bit_and m n ≡ 0) ⊎ (bit_and m n ≡ n) → has a n ≡ true → has (bit_or a m) n ≡ true
has-still a m n same (inl apart) h = had-before a m n apart ∙ h
has-still a m n same (inr own) h = ap (λ (x : ℕ). x == n) (with-own a m n own) ∙ same

-- what these bits leave of the phase
pub record Opens (a m : ℕ) : Type 0 where
  pub closing : is_closing (bit_or a m) ≡ is_closing a
  pub acknowledged : is_acknowledged a ≡ true → is_acknowledged (bit_or a m) ≡ true

both : (p q : Bool) → p ≡ true → q ≡ true → (p && q) ≡ true
both p q first second = ap (λ (x : Bool). x && q) first ∙ second

opens : (a m : ℕ) → bit_and m 32 ≡ 0 → bit_and m 8 ≡ 0 → bit_and m 16 ≡ 0 → (bit_and m 2 ≡ 0) ⊎ (bit_and m 2 ≡ 2) → (bit_and m 4 ≡ 0) ⊎ (bit_and m 4 ≡ 4) → Opens a m
unfolding is_closing is_acknowledged
opens a m reset near far own other = record {
  closing = ap (λ (x : Bool). x || (has (bit_or a m) 8 && has (bit_or a m) 16)) (had-before a m 32 reset)
      ∙ ap (λ (x : Bool). has a 32 || (x && has (bit_or a m) 16)) (had-before a m 8 near)
      ∙ ap (λ (x : Bool). has a 32 || (has a 8 && x)) (had-before a m 16 far);
  acknowledged = λ h.
      let parts = and_parts (has a 2) (has a 4) h in
      both (has (bit_or a m) 2) (has (bit_or a m) 4) (has-still a m 2 refl own parts.0) (has-still a m 4 refl other parts.1);
}

-- the bits of a segment of TCP with these marks
abbrev bits-of : Opener → Opener → Bool → Bool → Bool → ℕ
bits-of opener sender ack fin rst =
    bit_if (not (same_side opener sender)) reply_bit + (bit_if ack (ack_bit sender) + bit_if fin (fin_bit sender) + bit_if rst reset_bit)

opens-by : (a : ℕ) (opener sender : Opener) (ack : Bool) → Opens a (bits-of opener sender ack false false)
opens-by a Inside Inside false = opens a 0 refl refl refl (inl refl) (inl refl)
opens-by a Inside Inside true = opens a 2 refl refl refl (inr refl) (inl refl)
opens-by a Inside Remote false = opens a 1 refl refl refl (inl refl) (inl refl)
opens-by a Inside Remote true = opens a 5 refl refl refl (inl refl) (inr refl)
opens-by a Remote Inside false = opens a 1 refl refl refl (inl refl) (inl refl)
opens-by a Remote Inside true = opens a 3 refl refl refl (inr refl) (inl refl)
opens-by a Remote Remote false = opens a 0 refl refl refl (inl refl) (inl refl)
opens-by a Remote Remote true = opens a 4 refl refl refl (inl refl) (inr refl)

opens-shown : (a : ℕ) (opener sender : Opener) (flags : Flags) → flags.fin ≡ false → flags.rst ≡ false → Opens a (shown Tcp opener sender flags)
opens-shown a opener sender flags fin rst =
    subst (λ (f : Bool). Opens a (bits-of opener sender flags.ack f flags.rst)) (sym fin)
    (subst (λ (r : Bool). Opens a (bits-of opener sender flags.ack false r)) (sym rst) (opens-by a opener sender flags.ack))

-- ---- phases

abbrev phase_by : Bool → Bool → Phase
phase_by closing acknowledged = if closing then Closing else (if acknowledged then Established else Partial)

phase-parts : (closing acknowledged : Bool) → phase_by closing acknowledged ≡ Established → (closing ≡ false) × (acknowledged ≡ true)
phase-parts true acknowledged h = absurd cc
phase-parts false true h = (refl, refl)
phase-parts false false h = absurd cc

-- a segment without FIN and RST leaves it established
pub established-on : (a : ℕ) (opener sender : Opener) (flags : Flags) → phase_of a ≡ Established → flags.fin ≡ false → flags.rst ≡ false → phase_of (bit_or a (shown Tcp opener sender flags)) ≡ Established
established-on a opener sender flags phase fin rst =
    let parts = phase-parts (is_closing a) (is_acknowledged a) phase in
    let m = shown Tcp opener sender flags in
    let on = opens-shown a opener sender flags fin rst in
    ap (λ (c : Bool). phase_by c (is_acknowledged (bit_or a m))) (on.closing ∙ parts.0) ∙ ap (λ (k : Bool). phase_by false k) (on.acknowledged parts.1)

-- and nothing begins it anew
pub never-restarts : (t : Session) (flags : Flags) → phase_of t.seen ≡ Established → restarts t flags ≡ true → ⊥
never-restarts t flags phase anew =
    let parts = phase-parts (is_closing t.seen) (is_acknowledged t.seen) phase in
    false≢true (sym parts.0 ∙ (and_parts (is_syn_alone flags) (is_closing t.seen) anew).1)

-- ---- a packet of a session is one of it later

is-of-seen : (held : List Session) (view : View) (way : Route) (sender : Opener) (t : Session) (bits now : ℕ) → IsOf held view way sender (seen t bits now) → IsOf held view way sender t
is-of-seen held view Out Inside t bits now h = h
is-of-seen held view Out Remote t bits now h = h
is-of-seen held view InRoute Inside t bits now h = h
is-of-seen held view InRoute Remote t bits now h = h
is-of-seen held view Hairpin Inside t bits now h = h
is-of-seen held view Hairpin Remote t bits now h = h

pub stays-open : (config : Config) (s : State) (judged : List Judged) (t : Session) (bits now : ℕ) → StaysOpen config s judged t → StaysOpen config s judged (seen t bits now)
stays-open config s [] t bits now left_open = tt
stays-open config s (j ∷ more) t bits now left_open = (
  (λ iface bytes view way sender came of. left_open.0 iface bytes view way sender came (is-of-seen (step config s j).0.sessions view way sender t bits now of)),
  stays-open config (step config s j).0 more t bits now left_open.1,
)
