use Rattle.std.proofs.Common.{◌≡◌, ◌-◌, length, take, drop, take-add, arith}
use Rattle.std.proofs.lemmas.List.{take_all, length-drop}
use Rattle.std.proofs.KnownBytes.{Appends-trans}
use Rattle.dicomdir_writing.proofs.writing.write_all.Goals as goal

pub loop-at-preserved : goal.loop-at-preserved
loop-at-preserved g c =
    let bytes = c.args.bytes.now in
    let at = c.loop-at.at in
    let tail : take (length bytes - at) (drop at bytes) ≡ drop at bytes = take_all (length bytes - at) (drop at bytes) (omega (arith, length-drop at bytes)) in
    record {
      within = let k = c.in_ok-n.ensures.within in omega (arith, rw tail at k, length-drop at bytes);
      sent = rw take-add (Appends-trans _ _ _ _ _ c.loop-at.invariant.sent (rw tail at c.in_ok-n.ensures.appends));
    }
