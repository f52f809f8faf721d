use Rattle.std.proofs.Common.{◌≡◌, sym, ◌∙◌, subst}
use Rattle.std.proofs.lemmas.Bool.{false≢true}
use Rattle.std.specs.Prelude.{IsSomeAnd}
use Rattle.rows.specs.declared.Entry.{Entry}
use Rattle.buckets.proofs.Placed.{home-lacks, home-outside, home-read}
use Rattle.buckets.proofs.by_port.home_with.Goals.{else-home-places-via-then-home-places+else-has, else-home-places-via-else-home-places}
use Rattle.buckets.proofs.by_port.home_with.Goals as goal

pub returns : goal.returns
returns c =
    let places = c.args.places.now in
    let key = c.args.key in
    record {
      home = tt;
      within = tt;
      found = tt;
      absent = elim c.else-home-places.branch [
        | else-home-places-via-then-home-places+else-has w ↦ home-lacks places key c.requires (λ has.
            let read = home-read places key c.place_of-home.result w.index-places-home.result c.place_of-home.ensures w.if-home-places.true w.index-places-home.is in
            false≢true (sym w.if-has.false ∙ w.has.ensures.1 (subst (λ o. IsSomeAnd o (λ (e : Entry). e.key ≡ key)) read has)))
        | else-home-places-via-else-home-places w ↦ home-outside places key c.place_of-home.result c.requires c.place_of-home.ensures w.if-home-places.false
      ];
    }
