-- What several calls do to notes, one after the other.
use Rattle.std.proofs.Common.{◌++◌, [], List, refl, sym, ap, ◌∙◌, append_assoc, append-nil}
use Rattle.durable.specs.Coding.{Entry}
use Rattle.machine.specs.Besides.{Besides}
use Rattle.machine.specs.Outcomes.{Noted, Unnoted}

module _ {N : Type 0} (keeps : N → Type 0) (beside : N → Besides) (noted : N → List Entry) where
  -- nothing was done
  pub noted-nothing : (notes : N) → Noted keeps beside noted notes notes []
  noted-nothing notes = record { kept = (λ is. is, λ is. is); stays = refl; added = λ is. sym (append-nil (noted notes)) }

  module _ (old mid new : N) where
    -- some entries, and then others
    pub noted-both : (es fs : List Entry) → Noted keeps beside noted old mid es → Noted keeps beside noted mid new fs → Noted keeps beside noted old new (es ++ fs)
    noted-both es fs one other = record {
      kept = (λ is. other.kept.0 (one.kept.0 is), λ is. one.kept.1 (other.kept.1 is));
      stays = other.stays ∙ one.stays;
      added = λ is. other.added (one.kept.0 is) ∙ ap (λ xs. xs ++ fs) (one.added is) ∙ append_assoc (noted old) es fs;
    }

    -- none, and then some
    pub noted-behind : (es : List Entry) → Unnoted keeps beside noted old mid → Noted keeps beside noted mid new es → Noted keeps beside noted old new es
    noted-behind es one other = record {
      kept = (λ is. other.kept.0 (one.kept.0 is), λ is. one.kept.1 (other.kept.1 is));
      stays = other.stays ∙ one.stays;
      added = λ is. other.added (one.kept.0 is) ∙ ap (λ xs. xs ++ es) one.same;
    }
