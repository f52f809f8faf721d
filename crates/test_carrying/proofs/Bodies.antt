-- What a device in memory gives next.
use Rattle.std.proofs.Common.{◌≡◌, ◌<◌, ◌+◌, ℕ, List, ◌∷◌, drop, get_or, length, sym, ap, ◌∙◌, Vec}
use Rattle.std.proofs.lemmas.List.{drop-map, drop_more}
use Rattle.std.specs.declared.alloc.Global.{Global}
use Rattle.test_carrying.specs.Contents.{bodies_of}

pub next_body : (vs : List (Vec ℕ Global)) (i : ℕ) (v : Vec ℕ Global) → i < length vs → v ≡ get_or vs i v
    → drop i (bodies_of vs) ≡ v.items ∷ drop (i + 1) (bodies_of vs)
next_body vs i v inside is =
    drop-map (λ (x : Vec ℕ Global). x.items) i vs ∙ ap bodies_of (drop_more vs i v inside)
    ∙ ap (λ (x : Vec ℕ Global). x.items ∷ bodies_of (drop (i + 1) vs)) (sym is)
    ∙ ap (λ (x : List (List ℕ)). v.items ∷ x) (sym (drop-map (λ (x : Vec ℕ Global). x.items) (i + 1) vs))
