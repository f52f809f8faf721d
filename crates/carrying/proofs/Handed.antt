-- What leaves by the frames of answers is what the answers say.
use Rattle.std.proofs.Common.{◌≡◌, ℕ, ◌+◌, ◌≤◌, List, [], ◌∷◌, ◌++◌, length, map, refl, sym, ◌∙◌, arith, length-append}
use Rattle.std.specs.Prelude.{get_or, drop}
use Rattle.std.specs.List.{flat_map, AllByRecursion}
use Rattle.std.proofs.lemmas.List.{append-nil}
use Rattle.packet.specs.declared.endpoint.Iface.{Iface}
use Rattle.machine.specs.declared.event.Answer.{Answer}
use Rattle.machine.specs.declared.event.Answer.TheVariants as answer
use Rattle.frames.specs.Answers.{frame, frames, iface_byte}
use Rattle.frames.proofs.Parts.{frame_size}
use Rattle.to_devices.specs.Counting.{AreCounted}
use Rattle.to_devices.specs.declared.counts.Counts.{Counts}
use Rattle.to_devices.specs.Leaving.{leaving, leaving_by, no_header}
use Rattle.to_devices.specs.Replies.{Reply, FitsReply, HasNoReply, reply_frame}
use Rattle.to_devices.proofs.Replying.{counts_alike, leaves_alike, too_few}
use Rattle.carrying.specs.Carried.{handed_by, handed_to}
use Rattle.carrying.specs.Counted.{reply_of}

frame_is : (p : ℕ × Answer) → frame p ≡ reply_frame (reply_of p)
unfolding frame reply_frame
frame_is p = refl

pub frames_are : (ps : List (ℕ × Answer)) → frames ps ≡ flat_map reply_frame (map reply_of ps)
frames_are [] = refl
frames_are (p ∷ ps) = rw (frame_is p, frames_are ps) refl

-- none is longer than all of them
pub replies_fit : (ps : List (ℕ × Answer)) → length (frames ps) ≤ 1048576 → AllByRecursion FitsReply (map reply_of ps)
replies_fit [] few = tt
replies_fit (p ∷ ps) few =
    let all : length (frames (p ∷ ps)) ≡ length (frame p) + length (frames ps) = length-append (frame p) (frames ps) in
    (omega (arith, all, frame_size p, few), replies_fit ps (omega (arith, all, few)))

handed_one : (side : Iface) (header : List ℕ) (n : ℕ) (a : Answer) → leaving_by (iface_byte side) header (reply_of (n, a)) ≡ handed_by side header a
handed_one side header n (answer.Forward iface packet) = refl
handed_one side header n (answer.Dropped cause) = refl
handed_one side header n answer.Loaded = refl
handed_one side header n answer.Refused = refl
handed_one side header n answer.Ticked = refl

handed_all : (side : Iface) (headers : List (List ℕ)) (ps : List (ℕ × Answer)) → leaving (iface_byte side) headers (map reply_of ps) ≡ handed_to side headers ps
handed_all side headers [] = refl
handed_all side headers (p ∷ ps) = rw (handed_one side (get_or headers 0 no_header) p.0 p.1, handed_all side (drop 1 headers) ps) refl

-- whatever the frames are told apart into
pub handed_is : (side : Iface) (headers : List (List ℕ)) (ps : List (ℕ × Answer)) (replies : List Reply) (rest : List ℕ) → length (frames ps) ≤ 1048576
    → AllByRecursion FitsReply replies → HasNoReply rest → frames ps ≡ flat_map reply_frame replies ++ rest → leaving (iface_byte side) headers replies ≡ handed_to side headers ps
handed_is side headers ps replies rest few fit none e =
    let same : flat_map reply_frame replies ++ rest ≡ flat_map reply_frame (map reply_of ps) ++ [] =
    sym e ∙ frames_are ps ∙ sym (append-nil (flat_map reply_frame (map reply_of ps))) in
    leaves_alike (iface_byte side) headers replies (map reply_of ps) rest [] fit (replies_fit ps few) none (too_few [] (omega arith)) same ∙ handed_all side headers ps

-- and what is counted of them is what is counted of the answers
pub counted_is : (wan_from : ℕ) (ps : List (ℕ × Answer)) (replies : List Reply) (rest : List ℕ) (c c' : Counts) → length (frames ps) ≤ 1048576
    → AllByRecursion FitsReply replies → HasNoReply rest → frames ps ≡ flat_map reply_frame replies ++ rest → AreCounted wan_from 0 replies c c' → AreCounted wan_from 0 (map reply_of ps) c c'
counted_is wan_from ps replies rest c c' few fit none e are =
    let same : flat_map reply_frame replies ++ rest ≡ flat_map reply_frame (map reply_of ps) ++ [] =
    sym e ∙ frames_are ps ∙ sym (append-nil (flat_map reply_frame (map reply_of ps))) in
    counts_alike wan_from 0 replies (map reply_of ps) rest [] c c' fit (replies_fit ps few) none (too_few [] (omega arith)) same are
