-- The names of a filing stay orderly from call to call (`continues`, `names_one`, `tries_one`), and along a search for a
-- free name (`search_begins`, `search_continues`, `search_ends`, `search_fails`); locations that rise differ (`are_apart`).
-- Stands on the definitions alone.
use Rattle.std.proofs.Common.{◌≢◌, inl, inr, Result, Ok, Err, ◌^◌, ◌∙◌, ◌≡◌, ℕ, ◌+◌, ◌<◌, ◌≤◌, Bool, true, List, [], ◌∷◌, Option, Some, None, refl, sym, ap, subst, arith, nat_lt, false}
use Rattle.std.specs.Result.{OnOk, OnErr}
use Rattle.folder_filing.specs.declared.call.Call.{Call}
use Rattle.folder_filing.specs.declared.call.Call.TheVariants.{Refused, Reported, Written}
use Rattle.std.specs.List.{AllByRecursion}
use Rattle.std.proofs.lemmas.Bool.{le-leb, le-ltb, leb-true}
use Rattle.std.specs.declared.io.Error.{Error}
use Rattle.folder_filing.specs.declared.kept_numbers.KeptNumbers.{KeptNumbers}
use Rattle.folder_filing.specs.declared.numbers.Numbers.{Numbers}
use Rattle.folder_filing.specs.declared.location.Layout.{Layout}
use Rattle.folder_filing.specs.declared.location.Layout.TheVariants.{Flat, Levels}
use Rattle.folder_filing.specs.declared.location.Location.{Location}
use Rattle.folder_filing.specs.Numbers.{Keeps, is_covered}
use Rattle.folder_filing.specs.Examples.{WorkedNames, another, mine}
use Rattle.folder_filing.specs.Naming.{AreApart, IsAfterAll, IsKept, IsNameSynced, IsNewest, IsOrderly, IsWritten, KeepsAll, LeavesNames, LosesNone, WasRefused, Naming, Own, Rises, is_unreported, standing, refusals}
use Rattle.folder_filing.specs.Locations.{next_location, order}
use Rattle.folder_filing.specs.declared.named_file.NamedFile.{NamedFile}
use Rattle.folder_filing.specs.declared.naming.Attempt.{Attempt}
use Rattle.folder_filing.specs.declared.naming.Attempt.TheVariants.{Named, Met}
use Rattle.folder_filing.specs.declared.naming.Obstacle.{Obstacle}
use Rattle.folder_filing.specs.machine.Naming.{LocationLeaves, SameTerms, SyncsName}

-- a later last location is behind the same locations
pub behind_more : (last later : Location) → order last ≤ order later → (locations : List Location)
    → AllByRecursion (λ location. order location ≤ order last) locations → AllByRecursion (λ location. order location ≤ order later) locations
behind_more last later more [] behind = tt
behind_more last later more (location ∷ locations) behind = (omega (arith, more, behind.0), behind_more last later more locations behind.1)

-- a location after the last one is after each that this is behind
pub after_all : (last location : Location) → order last < order location → (locations : List Location)
    → AllByRecursion (λ other. order other ≤ order last) locations → AllByRecursion (λ other. order other < order location) locations
after_all last location more [] behind = tt
after_all last location more (other ∷ locations) behind = (omega (arith, more, behind.0), after_all last location more locations behind.1)

covers_more : (layout : Layout) (kept more : Numbers) → Keeps kept more → (location : Location) → is_covered layout kept location ≡ true → is_covered layout more location ≡ true
covers_more Flat kept more keeps location covered = le-leb location.file more.file (omega (arith, leb-true location.file kept.file covered, keeps.0))
covers_more (Levels per) kept more keeps location covered = le-leb location.folder more.folder (omega (arith, leb-true location.folder kept.folder covered, keeps.1))

-- what is kept stays kept
pub kept_more : (layout : Layout) (kept more : Option KeptNumbers) → KeepsAll kept more → (location : Location) → IsKept layout kept location → IsKept layout more location
kept_more layout None None keeps location is = tt
kept_more layout None (Some more) keeps location is = absurd keeps
kept_more layout (Some kept) None keeps location is = tt
kept_more layout (Some kept) (Some more) keeps location is = covers_more layout kept.numbers more.numbers keeps location is

pub all_kept_more : (layout : Layout) (kept more : Option KeptNumbers) → KeepsAll kept more → (locations : List Location)
    → AllByRecursion (IsKept layout kept) locations → AllByRecursion (IsKept layout more) locations
all_kept_more layout kept more keeps [] are = tt
all_kept_more layout kept more keeps (location ∷ locations) are = (kept_more layout kept more keeps location are.0, all_kept_more layout kept more keeps locations are.1)

pub keeps_same : (kept : Option KeptNumbers) → KeepsAll kept kept
keeps_same None = tt
keeps_same (Some kept) = (omega arith, omega arith)

-- A filing continues: its last location is no earlier, no kept number is missing, and the calls name no file and lose none.
pub continues : (old new : Naming) → new.layout ≡ old.layout → order old.last ≤ order new.last → KeepsAll old.kept new.kept
    → standing new.calls ≡ standing old.calls → (LosesNone old.has_sync old.own old.calls → LosesNone new.has_sync new.own new.calls) → IsOrderly old → IsOrderly new
continues old new layout last kept same loses was =
    record {
      loses = loses was.loses;
      rises = rw same was.rises;
      behind = rw same (behind_more old.last new.last last _ was.behind);
      kept = rw (same, layout) (all_kept_more old.layout old.kept new.kept kept _ was.kept);
    }

-- A call that was passed on, or with which the draft was synced, names no file and loses none.
pub passed_on : {T E : Type 0} (result : Result T E) (old new : List Call) → OnOk result (new ≡ old) → OnErr result (new ≡ Refused ∷ old)
    → (standing new ≡ standing old) × ((has_sync : Bool) (own : Own) → LosesNone has_sync own old → LosesNone has_sync own new) × (is_unreported new ≡ is_unreported old)
passed_on (Ok value) old new unchanged refused = (ap standing unchanged, (λ has_sync own h. rw unchanged h), ap is_unreported unchanged)
passed_on (Err error) old new unchanged refused = (rw refused refl, (λ has_sync own h. rw refused h), rw refused refl)

pub written_on : {T E : Type 0} (result : Result T E) (old new : List Call) → OnOk result (new ≡ Written ∷ old) → OnErr result (new ≡ Refused ∷ old)
    → (standing new ≡ standing old) × ((has_sync : Bool) (own : Own) → LosesNone has_sync own old → LosesNone has_sync own new) × (is_unreported new ≡ is_unreported old)
written_on (Ok value) old new unchanged refused = (rw unchanged refl, (λ has_sync own h. rw unchanged h), rw unchanged refl)
written_on (Err error) old new unchanged refused = (rw refused refl, (λ has_sync own h. rw refused h), rw refused refl)

-- It names a file: at a location after the last one, whose number is kept, and which is the last one or before it.
pub names_one : (old new : Naming) (location : Location) → new.layout ≡ old.layout → new.kept ≡ old.kept → order old.last < order location
    → order location ≤ order new.last → IsKept old.layout old.kept location
    → standing new.calls ≡ location ∷ standing old.calls → (LosesNone old.has_sync old.own old.calls → LosesNone new.has_sync new.own new.calls) → IsOrderly old → IsOrderly new
names_one old new location layout kept after behind is more loses was =
    record {
      loses = loses was.loses;
      rises = rw more (after_all old.last location after _ was.behind, was.rises);
      behind = rw more (behind, behind_more old.last new.last (omega (arith, after, behind)) _ was.behind);
      kept =
          let one : IsKept new.layout new.kept location = rw (layout, kept) is in
          let all : AllByRecursion (IsKept new.layout new.kept) (standing old.calls) = rw (layout, kept) was.kept in
          rw more (one, all);
    }

-- A try at a location after the last one, whose number is kept, continues, whatever its result.
pub tries_one : {E : Type 0} (result : Result Attempt E) (old new : Naming) (location : Location) → order old.last < order location → IsKept old.layout old.kept location
    → LocationLeaves location result old new → SameTerms old new → (IsAfterAll location (standing old.calls) → LosesNone old.has_sync old.own old.calls → LosesNone new.has_sync new.own new.calls)
    → IsOrderly old → IsOrderly new
tries_one (Ok (Named how)) old new location after is remaining same loses was =
    names_one old new location same.0 same.1 after (rw remaining.2 (omega arith)) is remaining.0 (loses (after_all old.last location after _ was.behind)) was
tries_one (Ok (Met obstacle)) old new location after is remaining same loses was =
    continues old new same.0 (rw remaining.2 (omega arith)) (rw same.1 (keeps_same old.kept)) remaining.0 (loses (after_all old.last location after _ was.behind)) was
tries_one (Err error) old new location after is remaining same loses was = elim remaining.0 [
  | inl stays ↦ continues old new same.0 (rw stays.1 (omega arith)) (rw same.1 (keeps_same old.kept)) stays.0 (loses (after_all old.last location after _ was.behind)) was
  | inr more ↦ names_one old new location same.0 same.1 after (rw more.1 (omega arith)) is more.0 (loses (after_all old.last location after _ was.behind)) was
]

-- The commit of the file that was named last is reported, with syncs after its folder was synced.
pub reports : (old new : Naming) (location : Location) → new ≡ record old { own = record old.own { reported = location ∷ old.own.reported }; calls = Reported location ∷ old.calls }
    → IsNewest location (standing old.calls) → is_unreported old.calls ≡ true → (old.has_sync ≡ true → IsNameSynced old.calls) → IsOrderly old → IsOrderly new
reports old new location is newest unreported synced was =
    subst IsOrderly (sym is) (record { loses = (newest, unreported, synced, refl, was.loses); rises = was.rises; behind = was.behind; kept = was.kept })

-- the search for a free name, after so many locations that were met
pub record Searches (old now : Naming) (met : ℕ) : Type 0 where
  pub same : standing now.calls ≡ standing old.calls
  pub refused : refusals now.calls ≡ refusals old.calls
  pub sync : now.has_sync ≡ old.has_sync
  pub own : now.own ≡ old.own
  pub orderly : IsOrderly old → IsOrderly now
  pub written : IsWritten now.has_sync now.calls
  pub far : met ≤ order now.last

pub search_begins : (old now : Naming) → SameTerms old now → now.calls ≡ old.calls → order old.last ≤ order now.last → IsWritten old.has_sync old.calls → Searches old now 0
search_begins old now terms calls last written =
    record {
      same = ap standing calls;
      refused = ap refusals calls;
      sync = terms.2;
      own = terms.3;
      orderly = continues old now terms.0 last (rw terms.1 (keeps_same old.kept)) (ap standing calls) (λ h. rw (calls, terms.2, terms.3) h);
      written = rw (calls, terms.2) written;
      far = omega arith;
    }

-- the next location, at which a name is tried: it is after the last one, and its number is kept
pub record Reaches (now next : Naming) (location : Location) : Type 0 where
  pub calls : next.calls ≡ now.calls
  pub sync : next.has_sync ≡ now.has_sync
  pub own : next.own ≡ now.own
  pub rises : order now.last ≤ order next.last
  pub behind : order next.last < order location
  pub kept : IsKept next.layout next.kept location
  pub orderly : IsOrderly now → IsOrderly next

-- what the try at this location leaves, whatever its result
pub record Tries {E : Type 0} (result : Result Attempt E) (location : Location) (next tried : Naming) : Type 0 where
  pub remaining : LocationLeaves location result next tried
  pub same : SameTerms next tried
  pub loses : IsAfterAll location (standing next.calls) → LosesNone next.has_sync next.own next.calls → LosesNone tried.has_sync tried.own tried.calls

orderly_then : {E : Type 0} (result : Result Attempt E) (old now next tried : Naming) (location : Location) (met : ℕ)
    → Searches old now met → Reaches now next location → Tries result location next tried → IsOrderly old → IsOrderly tried
orderly_then result old now next tried location met was reaches tries h =
    tries_one result next tried location reaches.behind reaches.kept tries.remaining tries.same tries.loses (reaches.orderly (was.orderly h))

same_calls : (old now next : Naming) (location : Location) (met : ℕ) → Searches old now met → Reaches now next location
    → (standing next.calls ≡ standing old.calls) × (refusals next.calls ≡ refusals old.calls)
same_calls old now next location met was reaches = (ap standing reaches.calls ∙ was.same, ap refusals reaches.calls ∙ was.refused)

-- the location was given
pub search_ends : (old now next tried : Naming) (location : Location) (met : ℕ) (attempt : Attempt) (file : NamedFile) → attempt ≡ Named file
    → Searches old now met → Reaches now next location → Tries {E = Error} (Ok attempt) location next tried
    → (standing tried.calls ≡ location ∷ standing old.calls) × (refusals tried.calls ≡ refusals old.calls) × (IsOrderly old → IsOrderly tried) × (is_unreported tried.calls ≡ true)
search_ends old now next tried location met (Named how) _ is was reaches tries =
    let same = same_calls old now next location met was reaches in
    (tries.remaining.0 ∙ ap (λ z. location ∷ z) same.0, tries.remaining.1 ∙ same.1, orderly_then (Ok (Named how)) old now next tried location met was reaches tries, tries.remaining.3)
search_ends old now next tried location met (Met obstacle) file is was reaches tries = absurd cc

-- its name was synced
pub search_syncs : (old now next : Naming) (calls : List Call) (location : Location) (met : ℕ) (attempt : Attempt) (file : NamedFile) → attempt ≡ Named file
    → Searches old now met → Reaches now next location → (next.has_sync ≡ true → SyncsName {E = Error} (Ok attempt) calls) → old.has_sync ≡ true → IsNameSynced calls
search_syncs old now next calls location met attempt file is was reaches syncs has =
    subst (λ z. SyncsName {E = Error} (Ok z) calls) is (syncs (reaches.sync ∙ was.sync ∙ has))

-- an obstacle was met, and the search continues after the location
pub search_continues : (old now next tried over : Naming) (location : Location) (met : ℕ) (attempt : Attempt) (obstacle : Obstacle) → attempt ≡ Met obstacle
    → Searches old now met → Reaches now next location → Tries {E = Error} (Ok attempt) location next tried
    → over.calls ≡ tried.calls → SameTerms tried over → order location ≤ order over.last → Searches old over (met + 1)
search_continues old now next tried over location met (Named how) _ is was reaches tries calls terms behind = absurd cc
search_continues old now next tried over location met (Met obstacle) _ is was reaches tries calls terms behind =
    let same = same_calls old now next location met was reaches in
    let last : order tried.last ≤ order over.last = rw tries.remaining.2 (omega (arith, reaches.behind, behind)) in
    record {
      same = ap standing calls ∙ tries.remaining.0 ∙ same.0;
      refused = ap refusals calls ∙ tries.remaining.1 ∙ same.1;
      sync = terms.2 ∙ tries.same.2 ∙ reaches.sync ∙ was.sync;
      own = terms.3 ∙ tries.same.3 ∙ reaches.own ∙ was.own;
      orderly = λ h. continues tried over terms.0 last (rw terms.1 (keeps_same tried.kept)) (ap standing calls) (λ l. rw (calls, terms.2, terms.3) l)
          (orderly_then (Ok (Met obstacle)) old now next tried location met was reaches tries h);
      written = rw (calls, terms.2, tries.same.2, tries.remaining.3, reaches.sync, reaches.calls) was.written;
      far = omega (arith, was.far, reaches.rises, reaches.behind, behind);
    }

-- the try failed
pub search_fails : {E : Type 0} (old now next tried : Naming) (location : Location) (met : ℕ) (error : E)
    → Searches old now met → Reaches now next location → Tries (Err error) location next tried
    → LeavesNames (standing old.calls) (standing tried.calls) × WasRefused old tried × (IsOrderly old → IsOrderly tried)
search_fails old now next tried location met error was reaches tries =
    let same = same_calls old now next location met was reaches in
    let remaining : LeavesNames (standing old.calls) (standing tried.calls) = elim tries.remaining.0 [
      | inl stays ↦ inl (stays.0 ∙ same.0)
      | inr more ↦ inr (location, more.0 ∙ ap (λ z. location ∷ z) same.0)
    ] in
    let refused : refusals old.calls < refusals tried.calls = rw (← same.1) tries.remaining.1 in
    (remaining, inl refused, orderly_then (Err error) old now next tried location met was reaches tries)

-- no location was reached
pub search_is_refused : (old now next : Naming) (met : ℕ) → Searches old now met → standing next.calls ≡ standing now.calls → WasRefused now next → (IsOrderly now → IsOrderly next)
    → LeavesNames (standing old.calls) (standing next.calls) × WasRefused old next × (IsOrderly old → IsOrderly next)
search_is_refused old now next met was same refused orderly =
    let why : WasRefused old next = elim refused [
      | inl more ↦ inl (rw (← was.refused) more)
      | inr none ↦ inr none
    ] in
    (inl (same ∙ was.same), why, λ h. orderly (was.orderly h))

lt_no : (a b : ℕ) → b ≤ a → nat_lt a b ≡ false
lt_no a b more = le-ltb a b more

-- A location so far behind that none comes after it.
pub none_behind : (folder file : ℕ) → folder < 2 ^ 32 → file < 2 ^ 32 → 18446744073709551615 ≤ order (record { folder = folder; file = file })
    → next_location Flat (record { folder = folder; file = file }) ≡ None
none_behind folder file least most far = rw (lt_no file 9999999 (omega (arith, least, most, far))) refl

pub none_behind_levels : (per folder file : ℕ) → per < 2 ^ 32 → folder < 2 ^ 32 → file < 2 ^ 32 → 18446744073709551615 ≤ order (record { folder = folder; file = file })
    → next_location (Levels per) (record { folder = folder; file = file }) ≡ None
none_behind_levels per folder file fits least most far =
    rw (lt_no file per (omega (arith, fits, least, most, far))) (rw (lt_no folder 9999999 (omega (arith, least, most, far))) refl)

apart : (location : Location) (before : List Location) → AllByRecursion (λ other. order other < order location) before → AllByRecursion (λ other. other ≢ location) before
apart location [] rises = tt
apart location (other ∷ before) rises = ((λ same. absurd (let less : order location < order location = subst (λ z. order z < order location) same rises.0 in omega (arith, less))), apart location before rises.1)

-- locations that rise are apart
pub are_apart : (locations : List Location) → Rises locations → AreApart locations
are_apart [] rises = tt
are_apart (location ∷ before) rises = (apart location before rises.0, are_apart before rises.1)

some_is : {A : Type 0} {x y : A} → Some x ≡ Some y → x ≡ y
some_is is = cc

pub worked_names : WorkedNames
worked_names =
    record {
      names = refl;
      count = refl;
      loses = (refl, refl, refl, (refl, (λ synced. refl), (omega arith, (omega arith, tt)), (refl, (refl, refl, (λ synced. refl), (omega arith, tt), (refl, (refl, (λ synced. refl), tt, (refl, refl)))))));
      unwritten = λ loses. absurd (let same = loses.1 refl in cc);
      rises = ((omega arith, tt), (tt, tt));
      unseen = λ loses. loses.1;
      other = λ loses. absurd (let same = ap (λ z. z.file) loses.1 in omega (arith, same));
      earlier = λ loses. absurd (let same = ap (λ z. z.file) loses.0 in omega (arith, same));
      replaced = λ loses. absurd (let same : mine ≡ another = some_is loses.2 in let inode = ap (λ z. z.inode) same in omega (arith, inode));
      moved = (refl, refl, tt, (refl, (λ synced. refl), tt, (refl, refl)));
      again = (refl, (λ synced. refl), tt, (refl, refl, refl, (refl, (λ synced. refl), tt, (refl, refl))));
      both = λ loses. absurd (let same = loses.1 refl in cc);
      gone = λ loses. absurd (let same = loses.1 refl in cc);
      foreign = λ loses. absurd (let same = loses.0 in omega (arith, same));
      reported = (refl, refl, (λ synced. refl), refl, (refl, (λ synced. refl), tt, (refl, refl)));
      unsynced = λ loses. loses.2 refl;
      early = λ loses. loses.2 refl;
      elsewhere = λ loses. absurd (let same = loses.2 refl in cc);
      inside = (refl, refl, (λ synced. refl), refl, (refl, (λ synced. refl), tt, (refl, refl)));
      outside = λ loses. absurd (let same = loses.2 refl in cc);
      remade = λ loses. absurd (let same = loses.2 refl in cc);
      repeated = λ loses. absurd (let same = loses.1 in cc);
      twice = λ rises. absurd (omega (arith, rises.0.0));
    }
