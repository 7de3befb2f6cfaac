use Rattle.std.proofs.Common.{◌≡◌, [], ◌-◌, length, take, drop, take-add, arith, refl, ◌∙◌}
use Rattle.std.proofs.lemmas.List.{take_all, length-drop}
use Rattle.engine.specs.Run.{Rooms, rooms_of}
use Rattle.negotiate.specs.Settings.{Settings}
use Rattle.engine.specs.Kept.{settings_in}
use Rattle.engine.proofs.PiecesAreDone.PieceIsDone.{handled_start, handled_then, consumed_all}
use Rattle.engine.proofs.StoresAreKept.DraftAndWalk.{drafts_then}
use Rattle.engine.proofs.association.Association.take_all.Goals as goal

pub loop-more-init : goal.loop-more-init
loop-more-init g c = record { within = omega arith; used_up = λ wrong. absurd cc; settings = refl; drafts = record { there = c.requires.draft; own = λ mine. mine }; consumes = λ p r rest still h. handled_start _ _ _ p r _ rest still h }

pub loop-more-preserved : goal.loop-more-preserved
loop-more-preserved g c =
    let piece = c.args.piece.now in
    let at = c.loop-more.at in
    let rooms : Rooms = rooms_of g.row.A g.row.C g.row.V g.row.D in
    let s : Settings = settings_in c.args.self.now.provider in
    let tail : take (length piece - at) (drop at piece) ≡ drop at piece = take_all (length piece - at) (drop at piece) (omega (arith, length-drop at piece)) in
    record {
      within = let k = c.take_event-count.ensures.within in omega (arith, rw tail at k, length-drop at piece, c.loop-more.invariant.within);
      used_up = λ none. let k = c.take_event-count.ensures.used_up none in omega (arith, rw tail at k, length-drop at piece, c.loop-more.invariant.within);
      settings = c.take_event-count.ensures.settings ∙ c.loop-more.invariant.settings;
      drafts = drafts_then _ _ _ _ _ _ c.loop-more.invariant.drafts c.take_event-count.ensures.drafts;
      consumes = λ p r rest still h.
          let before = c.loop-more.invariant.consumes p r rest still h in
          let more = rw (c.loop-more.invariant.settings, tail) at c.take_event-count.ensures.does in
          rw take-add (handled_then rooms s _ _ p r [] _ _ _ _ _ _ _ before more);
    }

pub returns-clause-settings : goal.returns-clause-settings
returns-clause-settings g c = c.loop-more.invariant.settings

pub returns-clause-consumes : goal.returns-clause-consumes
returns-clause-consumes g c p r rest still h =
    let piece = c.args.piece.now in
    let all : take c.loop-more.at piece ≡ piece = take_all c.loop-more.at piece (omega (arith, c.loop-more.invariant.used_up c.loop-more-test.false)) in
    consumed_all _ _ _ p r _ _ _ (rw (all, c.loop-more-test.false) at (c.loop-more.invariant.consumes p r rest still h))
