-- With a part of the data more, draft and walker are those of the data so far (`continues_so`); no call of the filing but a
-- commit puts a file (`drops_unfiled`, `drafts_then`). Stands on FieldsShow/NothingCounts.
use Rattle.std.proofs.Common.{◌≡◌, ℕ, ◌+◌, ◌≤◌, nat_lt, Bool, true, false, not, ◌||◌, List, [], ◌∷◌, ◌++◌, length, drop, get_or, Option, Some, None, option_map, Result, Ok, refl, ap, sym, subst, ◌∙◌, append_assoc, arith, if◌then◌else◌}
use Rattle.std.proofs.lemmas.Grind.{common_steps}
use Rattle.std.proofs.lemmas.Bool.Decides.{nat_tests}
use Rattle.std.proofs.lemmas.List.{append-nil, length-append, drop_all, drop-append-le, get_or_append_left}
use Rattle.sequence.specs.Transfer.{coding_in}
use Rattle.engine.specs.Requested.{Requested, request_record}
use Rattle.negotiate.specs.declared.proposals.Context.{Context}
use Rattle.negotiate.specs.Contexts.{context_of}
use Rattle.part10.specs.declared.meta.Meta.{Meta}
use Rattle.part10.specs.File.{head, File}
use Rattle.part10.specs.Store.{Shelf, Store, stepped, appended, without_draft, reported_after, or_nothing}
use Rattle.dimse.specs.declared.fault.DimseFault.{DimseFault}
use Rattle.dimse.specs.Command.{CommandRecord}
use Rattle.dimse.specs.Reading.{command_in}
use Rattle.dimse.specs.Messages.{Started, NoMessage, InCommand, InSet, with_fragment}
use Rattle.dimse.specs.Joining.{with_pdv}
use Rattle.engine.specs.Devices.{files_in}
use Rattle.engine.specs.Stores.{limits}
use Rattle.engine.specs.Drafts.{IsDue, ReportsDraft, HasDraft, IsDraft, draft_due, none_due, IsThere, Drafts}
use Rattle.engine.specs.Fair.{InStore}
use Rattle.engine.specs.Progress.{Progress}
use Rattle.engine.specs.Run.{counted}
use Rattle.engine.specs.Kept.{Kept, Pends, counted_pdv}
use Rattle.engine.specs.Timeline.{Finding}
use Rattle.engine.specs.machine.Verdicts.{Commits, done, undone}
use Rattle.engine.specs.machine.Messages.{Proceeds}
use Rattle.engine.specs.StoredData.{Stored, Nothing, Walking, Walks, not_walked, walked, drafting_in}
use Rattle.engine.specs.machine.Storing.{Drops, Grows, Continues}
use Rattle.engine.specs.machine.PerformsReaction.{Unfiled}
use Rattle.engine.proofs.FieldsShow.NothingCounts.{no_store}

-- ---- what is walked and the draft, together

abbrev pub Carried : (depth most : ℕ) → Stored → Store → Requested → Started → Bool → Type 0
Carried depth most stored store request m failed = Walks depth most request m stored × IsDraft request m failed store (drafting_in stored)

-- what has come of the message
abbrev pub so_far : Progress → List ℕ → Started
so_far p started = with_pdv (counted_pdv p started) p.message

pub carried : (k : Kept) (store : Store) (p : Progress) (body started : List ℕ) → Pends k store p body started → Carried k.depth k.most k.storing store p.request (so_far p started) p.filing_failed
carried k store p body started h = (h.walks, h.draft)

pub no_store_yet : (request : Requested) (m : Started) (id : ℕ) (command : List ℕ) → m ≡ InCommand id command → InStore request m → ⊥
no_store_yet request m id command e store = let x : InCommand id command ≡ InSet store.id store.command store.set = sym e ∙ store.started in cc

pub none_carried : (depth most : ℕ) (stored : Stored) (store : Store) (request : Requested) (m : Started) (failed : Bool) → stored ≡ Nothing → (InStore request m → ⊥) → Carried depth most stored store request m failed
none_carried depth most stored store request m failed e none =
    subst (λ (x : Stored). Carried depth most x store request m failed) (sym e) (not_walked none, none_due (λ file due. none due.store))

pub nothing_walked : {depth most : ℕ} {request : Requested} {m : Started} {stored : Stored} → (InStore request m → ⊥) → Walks depth most request m stored → stored ≡ Nothing
nothing_walked none (not_walked h) = refl
nothing_walked none (walked store accepts) = absurd (none store)

-- no store before and none after
pub idle_carried : (depth most : ℕ) (stored : Stored) (store other : Store) (request later : Requested) (m n : Started) (failed failed_then : Bool) → (InStore request m → ⊥) → (InStore later n → ⊥)
    → Carried depth most stored store request m failed → Carried depth most stored other later n failed_then
idle_carried depth most stored store other request later m n failed failed_then none none_then c =
    none_carried depth most stored other later n failed_then (nothing_walked none c.0) none_then

-- ---- the filing

pub files_kept : (reported : Option Shelf) → option_map (λ (shelf : Shelf). shelf.files) (reported_after without_draft reported) ≡ option_map (λ (shelf : Shelf). shelf.files) reported
files_kept reported = grind (arith, common_steps)

pub unfiled_same : (store : Store) → Unfiled store store
unfiled_same store = record { files = refl; count = refl }

pub drops_unfiled : (drafting : Bool) (old new : Store) → Drops drafting old new → Unfiled old new
drops_unfiled true old new h = record { files = ap files_in h ∙ files_kept old.reported; count = ap (λ (s : Store). s.failures) h }
drops_unfiled false old new h = record { files = ap files_in h; count = ap (λ (s : Store). s.failures) h }

pub drops_drafts : (drafting : Bool) (old new : Store) (stored : Stored) → stored ≡ Nothing → Drops drafting old new → Drafts drafting old (drafting_in stored) new
drops_drafts true old new stored e h = record {
  there = λ is. let x : false ≡ true = sym (ap drafting_in e) ∙ is in absurd cc;
  own = λ o. ap (λ (s : Store). s.has_draft) h ∙ sym (ap drafting_in e);
}
drops_drafts false old new stored e h = record {
  there = λ is. let x : false ≡ true = sym (ap drafting_in e) ∙ is in absurd cc;
  own = λ o. ap (λ (s : Store). s.has_draft) h ∙ o ∙ sym (ap drafting_in e);
}

pub same_drafts : (drafting : Bool) (store : Store) → IsThere drafting store → Drafts drafting store drafting store
same_drafts drafting store h = record { there = h; own = λ o. o }

pub drafts_then : (a b c : Bool) (old mid new : Store) → Drafts a old b mid → Drafts b mid c new → Drafts a old c new
drafts_then a b c old mid new h k = record { there = k.there; own = λ o. k.own (h.own o) }

pub committed_drafts : (drafting : Bool) (f : Finding) (old new : Store) → Commits f old new → Drafts drafting old false new
committed_drafts drafting f old new (done e step) = record { there = λ is. absurd cc; own = λ o. ap (λ (s : Store). s.has_draft) step }
committed_drafts drafting f old new (undone e step) = record { there = λ is. absurd cc; own = λ o. ap (λ (s : Store). s.has_draft) step }

pub undrafted_drafts : (drafting : Bool) (store : Store) → drafting ≡ false → Drafts drafting store false store
undrafted_drafts drafting store e = record { there = λ is. absurd cc; own = λ o. o ∙ e }

grows_drafts : (part : List ℕ) (d e : Bool) (old new : Store) → Grows part d e old new → Drafts d old e new
grows_drafts part false e old new (off, same) = record { there = λ is. let x : false ≡ true = sym off ∙ is in absurd cc; own = λ o. ap (λ (s : Store). s.has_draft) same ∙ o ∙ sym off }
grows_drafts part true true old new same = let there : new.has_draft ≡ true = ap (λ (s : Store). s.has_draft) same in record { there = λ is. there; own = λ o. there }
grows_drafts part true false old new same = record { there = λ is. absurd cc; own = λ o. ap (λ (s : Store). s.has_draft) same }

pub goes_drafts : (part : List ℕ) (a b : Stored) (old new : Store) → Continues part a b old new → Drafts (drafting_in a) old (drafting_in b) new
goes_drafts part Nothing b old new (off, same) = record { there = λ is. let x : false ≡ true = sym (ap drafting_in off) ∙ is in absurd cc; own = λ o. ap (λ (s : Store). s.has_draft) same ∙ o ∙ sym (ap drafting_in off) }
goes_drafts part (Walking walker d) Nothing old new g = absurd g
goes_drafts part (Walking walker d) (Walking after e) old new (keeps, g) = grows_drafts part d e old new g

-- ---- a part of a fragment more

pub is_long : (n : ℕ) → 6 ≤ n → nat_lt n 6 ≡ false
is_long n le = grind (arith, nat_tests)

pub long_pdv : (started : List ℕ) (m : Started) → 6 ≤ length started → with_pdv started m ≡ with_fragment (get_or started 4 0) (drop 6 started) m
long_pdv started m le = ap (λ (t : Bool). if t then m else with_fragment (get_or started 4 0) (drop 6 started) m) (is_long (length started) le)

fragment_then : (context : ℕ) (a b : List ℕ) (m : Started) → with_fragment context (a ++ b) m ≡ with_fragment context b (with_fragment context a m)
fragment_then context a b NoMessage = refl
fragment_then context a b (InCommand first command) = ap (InCommand first) (sym (append_assoc command a b))
fragment_then context a b (InSet first command set) = ap (InSet first command) (sym (append_assoc set a b))

pub part_more : (started part : List ℕ) (m : Started) → 6 ≤ length started → with_pdv (started ++ part) m ≡ with_fragment (get_or started 4 0) part (with_pdv started m)
part_more started part m le =
    let more : 6 ≤ length (started ++ part) = omega (arith, length-append started part) in
    long_pdv (started ++ part) m more
    ∙ rw (drop-append-le 6 started part le, get_or_append_left started part 0 4 (omega arith)) (fragment_then (get_or started 4 0) (drop 6 started) part m)
    ∙ sym (ap (with_fragment (get_or started 4 0) part) (long_pdv started m le))

-- the data of a store are those before it, and the other way round
pub fragment_store : (request : Requested) (context : ℕ) (part : List ℕ) (m : Started) → InStore request (with_fragment context part m) → InStore request m
fragment_store request context part NoMessage s = absurd (no_store_yet request (InCommand context part) context part refl s)
fragment_store request context part (InCommand first command) s = absurd (no_store_yet request (InCommand first (command ++ part)) first (command ++ part) refl s)
fragment_store request context part (InSet first command set) s =
    let one : first ≡ s.id = let e = s.started in cc in
    let two : command ≡ s.command = let e = s.started in cc in
    record { id = first; command = command; set = set; asked = s.asked; context = s.context; started = refl; spelled = ap command_in two ∙ s.spelled; accepted = ap (context_of (request_record request)) one ∙ s.accepted; of_context = s.of_context }

abbrev pub store_fragment : (request : Requested) (context : ℕ) (part : List ℕ) (m : Started) → (s : InStore request m) → InStore request (with_fragment context part m)
store_fragment request context part m s = record {
  id = s.id;
  command = s.command;
  set = s.set ++ part;
  asked = s.asked;
  context = s.context;
  started = ap (with_fragment context part) s.started;
  spelled = s.spelled;
  accepted = s.accepted;
  of_context = s.of_context;
}

pub pdv_store : (request : Requested) (started : List ℕ) (m : Started) → 6 ≤ length started → InStore request (with_pdv started m) → InStore request m
pdv_store request started m le s = fragment_store request (get_or started 4 0) (drop 6 started) m (subst (λ (x : Started). InStore request x) (long_pdv started m le) s)

-- a head alone adds nothing
pub head_carried : (depth most : ℕ) (stored : Stored) (store : Store) (request : Requested) (started : List ℕ) (m : Started) (failed : Bool) → length started ≡ 6 → Carried depth most stored store request m failed
    → Carried depth most stored store request (with_pdv started m) failed
head_carried depth most stored store request started m failed six c =
    let none : drop 6 started ≡ [] = drop_all 6 started (omega arith) in
    let same : with_pdv started m ≡ with_fragment (get_or started 4 0) [] m = long_pdv started m (omega arith) ∙ ap (λ (xs : List ℕ). with_fragment (get_or started 4 0) xs m) none in
    subst (λ (x : Started). Carried depth most stored store request x failed) (sym same) (by m c) where
      by : (n : Started) → Carried depth most stored store request n failed → Carried depth most stored store request (with_fragment (get_or started 4 0) [] n) failed
      by NoMessage k = idle_carried depth most stored store store request request NoMessage (InCommand (get_or started 4 0) []) failed failed (no_store request NoMessage refl)
          (no_store_yet request (InCommand (get_or started 4 0) []) (get_or started 4 0) [] refl) k
      by (InCommand first command) k = subst (λ (xs : List ℕ). Carried depth most stored store request (InCommand first xs) failed) (sym (append-nil command)) k
      by (InSet first command set) k = subst (λ (xs : List ℕ). Carried depth most stored store request (InSet first command xs) failed) (sym (append-nil set)) k

-- ---- the file of a store

-- in one message there is one
pub same_file : (request : Requested) (m : Started) (a b : InStore request m) → (a.context ≡ b.context) × (a.asked ≡ b.asked) × (a.set ≡ b.set)
same_file request m a b =
    let both : InSet a.id a.command a.set ≡ InSet b.id b.command b.set = sym a.started ∙ b.started in
    let id : a.id ≡ b.id = cc in
    let command : a.command ≡ b.command = cc in
    let set : a.set ≡ b.set = cc in
    let contexts : Some a.context ≡ Some b.context = sym a.accepted ∙ ap (context_of (request_record request)) id ∙ b.accepted in
    let asked : ◌≡◌ {A = Result CommandRecord DimseFault} (Ok a.asked) (Ok b.asked) = sym a.spelled ∙ ap command_in command ∙ b.spelled in
    (cc, cc, set)

abbrev pub meta_by : Requested → Context → CommandRecord → Meta
meta_by request context asked =
    record { class = asked.class; instance = or_nothing asked.instance; syntax = context.syntax; calling = record { 0 = (request_record request).calling } }

-- a draft is due of these bytes
pub due_file : (request : Requested) (m : Started) (failed : Bool) (s : InStore request m) → failed ≡ false → IsDue request m failed (File (meta_by request s.context s.asked) s.set)
due_file request m failed s e = record { store = s; unfailed = e; filed = refl }

pub file_due : (request : Requested) (m : Started) (failed : Bool) (file : List ℕ) (d : IsDue request m failed file) (s : InStore request m) → file ≡ File (meta_by request s.context s.asked) s.set
file_due request m failed file d s =
    let same = same_file request m d.store s in
    let is : File (meta_by request d.store.context d.store.asked) d.store.set ∷ [] ≡ file ∷ [] = d.filed in
    let here : File (meta_by request d.store.context d.store.asked) d.store.set ≡ file = cc in
    sym here ∙ ap (λ (c : Context). File (meta_by request c d.store.asked) d.store.set) same.0 ∙ ap (λ (a : CommandRecord). File (meta_by request s.context a) d.store.set) same.1
    ∙ ap (λ (xs : List ℕ). File (meta_by request s.context s.asked) xs) same.2

-- where a store is open, the draft is missing exactly where a filing call failed
pub undrafted : (request : Requested) (m : Started) (failed : Bool) (store : Store) (drafting : Bool) → IsDraft request m failed store drafting → InStore request m → not drafting ≡ failed
undrafted request m failed store _ (draft_due due has) s = sym due.unfailed
undrafted request m true store _ (none_due none) s = refl
undrafted request m false store _ (none_due none) s = absurd (none (File (meta_by request s.context s.asked) s.set) (due_file request m false s refl))

pub drafted : (request : Requested) (m : Started) (failed : Bool) (store : Store) (drafting : Bool) → IsDraft request m failed store drafting → drafting ≡ true → (file : List ℕ) × IsDue request m failed file × HasDraft store file
drafted request m failed store _ (draft_due {file = file} due has) e = (file, due, has)
drafted request m failed store _ (none_due none) e = absurd cc

-- ---- a part of the data was received

grown : (reported : Option Shelf) (file part : List ℕ) → ReportsDraft reported file → ReportsDraft (reported_after (appended part) reported) (file ++ part)
grown None file part h = tt
grown (Some shelf) file part h = ap (λ (xs : List ℕ). xs ++ part) h

files_grown : (reported : Option Shelf) (part : List ℕ) → option_map (λ (shelf : Shelf). shelf.files) (reported_after (appended part) reported) ≡ option_map (λ (shelf : Shelf). shelf.files) reported
files_grown reported part = grind (arith, common_steps)

module _ (depth most : ℕ) (request : Requested) (m : Started) (before : Bool) (context : ℕ) (part : List ℕ) (old new : Store) where
  abbrev later : Started
  later = with_fragment context part m

  grows : (d e : Bool) → IsDraft request m before old d → InStore request m → Grows part d e old new
      → (failed : Bool) × (failed ≡ true → before ≡ false) × IsDraft request later (failed || before) new e × (files_in new ≡ files_in old) × (new.failures ≡ old.failures + counted failed)
  grows false e h s (off, same) =
      let none : not false ≡ before = undrafted request m before old false h s in
      (false, λ x. absurd cc, subst (λ (x : Bool). IsDraft request later before new x) (sym off) (none_due (λ file d. let x : true ≡ false = none ∙ d.unfailed in absurd cc)), ap files_in same, ap (λ (x : Store). x.failures) same ∙ omega arith)
  grows true true h s same =
      let d = drafted request m before old true h refl in
      let more = store_fragment request context part m s in
      let file : d.0 ++ part ≡ File (meta_by request s.context s.asked) (s.set ++ part) =
      ap (λ (xs : List ℕ). xs ++ part) (file_due request m before d.0 d.1 s) ∙ append_assoc (head (meta_by request s.context s.asked)) s.set part in
      let has : HasDraft (stepped (appended part) true old) (File (meta_by request more.context more.asked) more.set) =
      record { there = refl; bytes = subst (λ (xs : List ℕ). ReportsDraft (reported_after (appended part) old.reported) xs) file (grown old.reported d.0 part d.2.bytes) } in (
        false,
        λ x. absurd cc,
        draft_due (due_file request later before more d.1.unfailed) (subst (λ (x : Store). HasDraft x (File (meta_by request more.context more.asked) more.set)) (sym same) has),
        ap files_in same ∙ files_grown old.reported part,
        ap (λ (x : Store). x.failures) same ∙ omega arith,
      )
  grows true false h s same =
      let d = drafted request m before old true h refl in
      (true, λ x. d.1.unfailed, none_due (λ file due. let x : true ≡ false = due.unfailed in absurd cc), ap files_in same ∙ files_kept old.reported, ap (λ (x : Store). x.failures) same)

  -- what is walked continues
  pub continues_so : (a b : Stored) → Carried depth most a old request m before → Continues part a b old new → Proceeds depth most request later before b old new
  continues_so Nothing b (not_walked none, h) (off, same) =
      let c = none_carried depth most b new request later before off (λ s. none (fragment_store request context part m s)) in
      record { failed = false; may = λ x. absurd cc; walks = c.0; draft = c.1; files = ap files_in same; count = ap (λ (x : Store). x.failures) same ∙ omega arith }
  continues_so (Walking walker d) Nothing c g = absurd g
  continues_so (Walking walker d) (Walking after e) (walked s accepts, h) (keeps, g) =
      let more = store_fragment request context part m s in
      let r = grows d e h s g in
      record { failed = r.0; may = λ x. (r.1 x, more); walks = walked more (keeps (coding_in s.context.syntax) (limits depth most) s.set accepts); draft = r.2; files = r.3; count = r.4 }
