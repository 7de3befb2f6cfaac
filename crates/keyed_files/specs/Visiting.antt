-- What a visit of folders does with each file that it reads. This product's own profile.
use Rattle.std.specs.Prelude.{◌≡◌, ℕ, Bool, true, false, ◌⊎◌, List, [], ◌∷◌, ◌++◌, Result, Ok, Err}
use Rattle.keyed_files.specs.declared.keys.FileKeys.{FileKeys}
use Rattle.keyed_files.specs.declared.reading.NoKeys.{NoKeys}
use Rattle.keyed_files.specs.declared.tally.Tally.{Tally}
use Rattle.keyed_files.specs.declared.visiting.Visitor.{Visitor}
use Rattle.keyed_files.specs.Counting.{after_read, is_over, with_link, with_unread, with_vanished}

-- what was read of each file so far, and what is counted
pub record VisitState : Type 0 where
  pub reads : List (Result FileKeys NoKeys)
  pub tally : Tally
  pub ignores_others : Bool

abbrev pub state_of_visit : {R E : Type 0} → Visitor R E → VisitState
state_of_visit visitor = record { reads = visitor.reads; tally = visitor.tally; ignores_others = visitor.ignores_others }

-- nothing was read, and nothing is counted
abbrev pub unvisited : Bool → VisitState
unvisited ignores_others = record { reads = []; tally = record { omitted = 0; unread = 0; ignored = 0; vanished = 0; links = 0 }; ignores_others = ignores_others }

-- the state after this was read of one more file
abbrev pub with_read : Result FileKeys NoKeys → VisitState → VisitState
with_read read state = record state { reads = state.reads ++ read ∷ [] }

-- an unreadable file is counted once: as unread and left out, or as vanished
abbrev pub CountsUnread : VisitState → VisitState → Type 0
CountsUnread old new = (new ≡ record old { tally = with_unread old.tally }) ⊎ (new ≡ record old { tally = with_vanished old.tally })

-- the state after one more symbolic link, which is counted and not followed
abbrev pub after_link : VisitState → VisitState
after_link state = record state { tally = with_link state.tally }

-- the counts after this was read of a file, if the file needs no further handling
abbrev pub after : Result FileKeys NoKeys → VisitState → VisitState
after read state = record state { tally = after_read state.ignores_others read state.tally }

-- a file was read and is finished: its values were handled, or its fault is counted, or it is a DICOMDIR
abbrev pub IsDone : {S : Type 0} → (S → List ℕ → FileKeys → S → Type 0) → List ℕ → Result FileKeys NoKeys → S → S → VisitState → VisitState → Type 0
IsDone consumed path (Ok keys) before later old new = consumed before path keys later × (new ≡ with_read (Ok keys) old)
IsDone consumed path (Err why) before later old new = (later ≡ before) × (is_over why ≡ true) × (new ≡ after (Err why) (with_read (Err why) old))

-- a file that failed is not counted: it could not be opened or read, or the handling of its values failed
pub data FailsUncounted {S : Type 0} (consumed : S → List ℕ → FileKeys → S → Type 0) : S → S → VisitState → VisitState → Type 0 where
  unopened : {s : S} {state : VisitState} → FailsUncounted consumed s s state state
  unread : {s : S} {state : VisitState} (why : NoKeys) → is_over why ≡ false → FailsUncounted consumed s s state (with_read (Err why) state)
  unconsumed : {s t : S} {state : VisitState} (keys : FileKeys) → FailsUncounted consumed s t state (with_read (Ok keys) state)

-- The effect of a visit, file by file: each file is finished, or failed and is counted once, and each link is counted.
pub data Visited {S : Type 0} (consumed : S → List ℕ → FileKeys → S → Type 0) : S → S → VisitState → VisitState → Type 0 where
  none : {s : S} {state : VisitState} → Visited consumed s s state state
  done : {s t u : S} {old state new : VisitState} (path : List ℕ) (read : Result FileKeys NoKeys)
      → Visited consumed s t old state → IsDone consumed path read t u state new → Visited consumed s u old new
  linked : {s t : S} {old state : VisitState} → Visited consumed s t old state → Visited consumed s t old (after_link state)
  counted : {s t u : S} {old state later new : VisitState}
      → Visited consumed s t old state → FailsUncounted consumed t u state later → CountsUnread later new → Visited consumed s u old new

-- a visit that stops at a file that failed
pub record Stops {S : Type 0} (consumed : S → List ℕ → FileKeys → S → Type 0) (before later : S) (old new : VisitState) : Type 0 where
  pub consumer : S
  pub state : VisitState
  pub visited : Visited consumed before consumer old state
  pub fails : FailsUncounted consumed consumer later state new
