-- The join has the part, and it is walked and goes to the draft.
use Rattle.std.proofs.Common.{◌∙◌, ◌++◌, ◌&&◌, ap, not, sym, refl, arith, subst, Bool, List, ℕ, []}
use Rattle.dimse.specs.Joining.{ShowsMessage}
use Rattle.engine.specs.Kept.{kept_of, settings_in}
use Rattle.engine.specs.Run.{rooms_of}
use Rattle.engine.specs.StoredData.{stored_of}
use Rattle.engine.proofs.StoresAreKept.DraftAndWalk.{goes_drafts, same_drafts}
use Rattle.engine.proofs.FieldsShow.NothingCounts.{accepts_shown}
use Rattle.engine.proofs.MarksAreDone.PdvJoined.{counted_consumed, pends_dropped}
use Rattle.engine.proofs.MarksAreDone.DataOfStores.{does_append, appends_none}
use Rattle.engine.proofs.FieldsShow.KeptInPhases.{refused_pdvs, kept_by, unestablished}
use Rattle.engine.proofs.provider.Provider.on_data.Goals as goal

pub returns-then-self-clause-accepts : goal.returns-then-self-clause-accepts
returns-then-self-clause-accepts g c = λ line p started six h.
    let k = kept_of c.args.self.now in
    let dropped = sym (accepts_shown k _ p [] started h) ∙ refused_pdvs k c.if-self.true in
    appends_none (rooms_of g.row.A g.row.C g.row.V g.row.D) (settings_in c.args.self.now) p k (started ++ c.args.part.now) _ (pends_dropped k _ p [] started (started ++ c.args.part.now) dropped h)

pub returns-in-Established-clause-drafts : goal.returns-in-Established-clause-drafts
returns-in-Established-clause-drafts g c = rw c.in-Established.is (goes_drafts c.args.part.now (stored_of c.in-Established.message.storing) (stored_of c.take-in-Established.new.self) _ _ c.take-in-Established.ensures.continues)

pub returns-in-Established-clause-accepts : goal.returns-in-Established-clause-accepts
returns-in-Established-clause-accepts g c = rw c.in-Established.is (λ line p started six h.
    let k = kept_by c.args.self.now c.in-Established.peer c.in-Established.message in
    let consumed = sym (accepts_shown k _ p [] started h) ∙ ap not c.if-self.false in
    let was : ShowsMessage g.row.C k.join p.message started = subst (λ (xs : List ℕ). ShowsMessage g.row.C k.join p.message xs) (counted_consumed p started consumed) h.join_is in
    does_append (rooms_of g.row.A g.row.C g.row.V g.row.D) (settings_in c.args.self.now) p started c.args.part.now k c.take.new.self (stored_of c.take-in-Established.new.self) _ _ _ h consumed six
    (c.take.ensures.shows p.message started was) c.take-in-Established.ensures.continues)

pub returns-in_default : goal.returns-in_default
returns-in_default g c =
    let k = kept_of c.args.self.now in
    let none = unestablished c.args.self.now.phase c.in_default.not-Established in
    record {
      settings = refl;
      drafts = same_drafts _ _ c.requires.draft;
      fits = λ m h there consumed. let few = h there consumed in omega (arith, few);
      accepts = λ line p started six h.
          let dropped = sym (accepts_shown k _ p [] started h) ∙ ap (λ (t : Bool). t && not k.refused) none in
          appends_none (rooms_of g.row.A g.row.C g.row.V g.row.D) (settings_in c.args.self.now) p k (started ++ c.args.part.now) _ (pends_dropped k _ p [] started (started ++ c.args.part.now) dropped h);
    }
