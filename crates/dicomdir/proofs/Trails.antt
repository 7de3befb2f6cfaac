-- What leads back along a trail is the path to come as a chain ends (`climbed`, `goes_next`), and an offset leads to the
-- record whose entry is found (`offset_found`, `at_offset`), or to none (`offset_absent`). Stands on Distinct and PathForests.
use Rattle.std.proofs.Common.{◌≡◌, ℕ, zero, suc, ◌<◌, Bool, true, false, List, [], ◌∷◌, get_or, set, arith, if◌then◌else◌, ◌≤◌, ◌-◌, ◌+◌, not, ◌&&◌, ◌||◌, ◌++◌, length, reverse, take, slice_get, Option, Some, ◌⊎◌, refl, sym, ap, subst, ◌∙◌, nat_eq, drop, replicate, None, Less, Equal, Greater, is_none}
use Rattle.std.proofs.lemmas.Bool.Decides.{nat_tests}
use Rattle.std.proofs.lemmas.List.{reverse-append, append-nil, take_all, take_more, length-reverse, get_or_default}
use Rattle.dicomdir.specs.declared.links.Mark.{Mark}
use Rattle.dicomdir.specs.declared.links.Step.{Step}
use Rattle.dicomdir.specs.Linked.{is_one_of, record_at, fits}
use Rattle.dicomdir.specs.Paths.{Links, Turn, named_by, paths_from, paths_of, above, before, line_of, level_of}
use Rattle.dicomdir.specs.machine.Trail.{path_along, remaining_of, paths_on, later, AreMarks, reported_along, IsStep, IsExpected, flags_of, AreFlagged, IsTarget, IsEntry, AreEntries, no_entries, entry_then, Rise, carried_by}
use Rattle.dicomdir.proofs.PathForests.{paths_none, elements_is}
use Rattle.std.proofs.lemmas.Grind.{common_steps}
use Rattle.std.specs.List.{HoldsAt, AllWithin}
use Rattle.std.specs.List.Sorted.{IsNonDecreasingBy, IsPartitionPoint}
use Rattle.std.specs.Ordering.{nat_cmp, ordering_index}
use Rattle.std.proofs.lemmas.Cmp.{ranked}
use Rattle.std.proofs.lemmas.Bool.{cases_lt, cond-true}
use Rattle.dicomdir.specs.declared.records.ReadRecord.{ReadRecord}
use Rattle.dicomdir.specs.Directory.{Record, carried_node}
use Rattle.dicomdir.specs.DirFault.{fault, unreached_fault, names_no_record, names_wrong_level, path_fault}
use Rattle.dicomdir.proofs.Distinct.{same_offset}
use Rattle.sequence.specs.Tree.{Elements}

abbrev pub remaining_in : List Bool → ℕ
remaining_in [] = 0
remaining_in (reached ∷ rest) = if reached then remaining_in rest else suc (remaining_in rest)

pub remaining_fewer : (xs : List Bool) (i : ℕ) → get_or xs i true ≡ false → remaining_in (set xs i true) < remaining_in xs
remaining_fewer [] i e = absurd cc
remaining_fewer (true ∷ xs) zero e = absurd cc
remaining_fewer (false ∷ xs) zero e = omega arith
remaining_fewer (true ∷ xs) (suc i) e = remaining_fewer xs i e
remaining_fewer (false ∷ xs) (suc i) e = let fewer = remaining_fewer xs i e in omega (arith, fewer)

-- ---- the trail: what leads back, and the paths that are to come as chains end

-- a trail as it is gone through from its last mark

abbrev pub looks : ℕ → Bool → Bool → List Mark → Bool
looks link in_chain is_above [] = false
looks link in_chain is_above (m ∷ ms) =
    ((in_chain || is_above) && nat_eq m.offset link) || looks link (in_chain && not m.begins) m.begins ms

nat_eq_sym : (a b : ℕ) → nat_eq a b ≡ nat_eq b a
nat_eq_sym a b = grind (arith, nat_tests)

looks_above : (link : ℕ) (lower : Bool) (ms : List Mark) → looks link false lower ms ≡ is_one_of link (above (path_along lower ms))
looks_above link lower [] = refl
looks_above link true (m ∷ ms) = λ i. nat_eq_sym m.offset link i || looks_above link m.begins ms i
looks_above link false (m ∷ ms) = looks_above link m.begins ms

looks_on : (link : ℕ) (lower : Bool) (ms : List Mark) → looks link (not lower) lower ms ≡ is_one_of link (before (path_along lower ms) ++ above (path_along lower ms))
looks_on link true [] = refl
looks_on link false [] = refl
looks_on link true (m ∷ ms) = looks_above link true (m ∷ ms)
looks_on link false (m ∷ ms) = λ i. nat_eq_sym m.offset link i || looks_on link m.begins ms i

looks_back : (link : ℕ) (ms : List Mark) → looks link true false ms ≡ is_one_of link (line_of (path_along true ms))
looks_back link [] = refl
looks_back link (m ∷ ms) = looks_on link false (m ∷ ms)

-- the marks of a list, the last first

pub push_reverse : (xs : List Mark) (m : Mark) → reverse (xs ++ m ∷ []) ≡ m ∷ reverse xs
push_reverse xs m = reverse-append xs (m ∷ [])

pub reverse_more : (xs : List Mark) (i : ℕ) (d : Mark) → i < length xs → reverse (take (i + 1) xs) ≡ get_or xs i d ∷ reverse (take i xs)
reverse_more xs i d fits = ap reverse (take_more xs i d fits) ∙ push_reverse (take i xs) (get_or xs i d)

pub looks_at : (link : ℕ) (in_chain is_above : Bool) (xs : List Mark) (at : ℕ) (m : Mark) → 0 < at → at ≤ length xs → m ≡ get_or xs (at - 1) m
    → looks link in_chain is_above (reverse (take at xs))
    ≡ (((in_chain || is_above) && nat_eq m.offset link) || looks link (in_chain && not m.begins) m.begins (reverse (take (at - 1) xs)))
looks_at link in_chain is_above xs at m some within is = grind (arith, common_steps, reverse_more xs (at - 1) m (omega (arith, some, within)))

pub looks_here : (i a : Bool) (p o : ℕ) → (i ≡ true) ⊎ ((i ≡ false) × (a ≡ true)) → p ≡ o → ((i || a) && nat_eq p o) ≡ true
looks_here v1 a p o either same = grind (arith, common_steps)

pub looks_found : (link : ℕ) (in_chain is_above : Bool) (xs : List Mark) (at : ℕ) (m : Mark) → 0 < at → at ≤ length xs → m ≡ get_or xs (at - 1) m
    → ((in_chain || is_above) && nat_eq m.offset link) ≡ true
    → looks link in_chain is_above (reverse (take at xs)) ≡ looks link true false (reverse xs)
    → true ≡ is_one_of link (line_of (path_along true (reverse xs)))
looks_found link in_chain is_above xs at m some within is found same = grind (arith, common_steps, looks_at link in_chain is_above xs at m some within is, looks_back link (reverse xs))

pub looks_none : (link : ℕ) (in_chain is_above : Bool) (xs : List Mark) (at : ℕ) → at ≤ 0
    → looks link in_chain is_above (reverse (take at xs)) ≡ looks link true false (reverse xs)
    → false ≡ is_one_of link (line_of (path_along true (reverse xs)))
looks_none link in_chain is_above xs at none same = grind (arith, common_steps, looks_back link (reverse xs))

some_length : (xs : List Mark) (m : Mark) (i : ℕ) → Some m ≡ slice_get xs i → i < length xs
some_length [] m i e = absurd cc
some_length (x ∷ xs) m zero e = omega arith
some_length (x ∷ xs) m (suc i) e = let rest = some_length xs m i e in omega (arith, rest)

got_is : (xs : List Mark) (m : Mark) (i : ℕ) → Some m ≡ slice_get xs i → get_or xs i m ≡ m
got_is [] m i e = refl
got_is (x ∷ xs) m zero e = cc
got_is (x ∷ xs) m (suc i) e = got_is xs m i e

pub last_first : (xs : List Mark) (m : Mark) → Some m ≡ slice_get xs (length xs - 1) → reverse xs ≡ m ∷ reverse (take (length xs - 1) xs)
last_first xs m e =
    let some = some_length xs m (length xs - 1) e in
    let back : length xs - 1 + 1 ≡ length xs = omega (arith, some) in
    grind (arith, common_steps, take_all (length xs - 1 + 1) xs (omega (arith, some)), got_is xs m (length xs - 1) e)

-- the paths of the open path, and all of them

pub length_along : (lower : Bool) (ms : List Mark) → length (path_along lower ms) ≡ length ms
length_along lower [] = refl
length_along lower (m ∷ ms) = ap suc (length_along m.begins ms)

pub paths_first : (links : Links) → paths_of links ≡ paths_on links [] ++ []
paths_first links =
    let all : suc (length links.records) ≡ suc (length links.records) - length {A = Turn} [] = omega arith in
    ap (λ n. paths_from n links []) all ∙ sym (append-nil (paths_on links []))

-- chains that end

later_remaining : (links : Links) (ms : List Mark) → later links false ms ≡ later links true (remaining_of ms)
later_remaining links [] = refl
later_remaining links (m ∷ ms) = grind (arith, nat_tests, later_remaining links ms)

remaining_marks : (links : Links) (ms : List Mark) → AreMarks links ms → AreMarks links (remaining_of ms)
remaining_marks links [] marks = tt
remaining_marks links (m ∷ ms) marks = grind (arith, nat_tests, remaining_marks links ms marks.2)

-- a trail from which chains were dropped that were at their end
pub record Climbed (links : Links) (ms ms2 : List Mark) : Type 0 where
  pub received : later links true ms ≡ later links true ms2
  pub fewer : length ms2 ≤ length ms
  pub marks : AreMarks links ms2

-- the last chain is at its end
chain_ends : (links : Links) (m : Mark) (ms : List Mark) → m.next ≡ 0 → AreMarks links (m ∷ ms) → later links true (m ∷ ms) ≡ later links true (remaining_of (m ∷ ms))
chain_ends links m ms none marks = grind (arith, common_steps, later_remaining links (m ∷ ms))

pub climbed : (links : Links) (ms : List Mark) (xs ys : List Mark) (m : Mark) → Some m ≡ slice_get xs (length xs - 1) → m.next ≡ 0 → reverse ys ≡ remaining_of (reverse xs)
    → (0 < length xs → length ys < length xs) → Climbed links ms (reverse xs) → Climbed links ms (reverse ys)
climbed links ms xs ys m got none remaining fewer before =
    let shape = last_first xs m got in
    let rest : List Mark = reverse (take (length xs - 1) xs) in
    let marks : AreMarks links (m ∷ rest) = subst (λ z. AreMarks links z) shape before.marks in
    grind (arith, common_steps, last_first xs m got, length-reverse xs, length-reverse ys, some_length xs m (length xs - 1) got, chain_ends links m rest none marks, remaining_marks links (m ∷ rest) marks)

-- it continues
pub goes_next : (links : Links) (ms xs : List Mark) (m : Mark) → Some m ≡ slice_get xs (length xs - 1) → (m.next ≡ 0 → ⊥) → Climbed links ms (reverse xs)
    → IsExpected links (later links true ms) ms (reverse xs) (Some (record { link = m.next; begins = false; level = m.level; shown = m.shown }))
goes_next links ms xs m got other before = grind (arith, common_steps, last_first xs m got)

-- no record is below the last mark
pub lower_none : (links : Links) (ms ms2 : List Mark) (pending : Option Step) (lower : ℕ) → lower ≡ 0 → lower ≡ named_by links (path_along true ms)
    → IsExpected links (later links true ms) ms ms2 pending → IsExpected links (paths_on links (path_along true ms) ++ later links true ms) ms ms2 pending
lower_none links ms ms2 pending lower none named arrives = grind (arith, common_steps, paths_none)

-- ---- entries of records, whose offsets rise: a search among them, and the flags of those that were reached

-- the search

pub offset_found : (entries : List ReadRecord) (offset at : ℕ) → HoldsAt (λ e. nat_cmp e.offset offset ≡ Equal) entries at → (d : ReadRecord) → (get_or entries at d).offset ≡ offset
offset_found entries offset at equal d = ranked _ offset _ (sym (equal d))

least_below : (entries : List ReadRecord) (records : List Record) (least : ℕ) → AreEntries entries records → Rise least records
    → (j : ℕ) (d : ReadRecord) → j < length entries → least ≤ (get_or entries j d).offset
least_below [] (r ∷ rs) least are rise j d fits = elim are [ ]
least_below (e ∷ es) [] least are rise j d fits = elim are [ ]
least_below [] [] least no_entries rise j d fits = absurd (omega (arith, fits))
least_below (e ∷ es) (r ∷ rs) least (entry_then is rest) rise zero d fits = omega (arith, rise.0, is.says.offset)
least_below (e ∷ es) (r ∷ rs) least (entry_then is rest) rise (suc j) d fits = grind (arith, common_steps, least_below es rs (suc r.offset) rest rise.1 j d (omega (arith, fits)))

offsets_rise : (entries : List ReadRecord) (records : List Record) (least : ℕ) → AreEntries entries records → Rise least records
    → (i j : ℕ) (d : ReadRecord) → i ≤ j → j < length entries → (get_or entries i d).offset ≤ (get_or entries j d).offset
offsets_rise [] (r ∷ rs) least are rise i j d below fits = elim are [ ]
offsets_rise (e ∷ es) [] least are rise i j d below fits = elim are [ ]
offsets_rise [] [] least no_entries rise i j d below fits = absurd (omega (arith, fits))
offsets_rise (e ∷ es) (r ∷ rs) least (entry_then is rest) rise zero zero d below fits = omega arith
offsets_rise (e ∷ es) (r ∷ rs) least (entry_then is rest) rise zero (suc j) d below fits = grind (arith, common_steps, least_below es rs (suc r.offset) rest rise.1 j d (omega (arith, fits)))
offsets_rise (e ∷ es) (r ∷ rs) least (entry_then is rest) rise (suc i) zero d below fits = absurd (omega (arith, below))
offsets_rise (e ∷ es) (r ∷ rs) least (entry_then is rest) rise (suc i) (suc j) d below fits = grind (arith, common_steps, offsets_rise es rs (suc r.offset) rest rise.1 i j d (omega (arith, below)) (omega (arith, fits)))

compared : (a b p : ℕ) → a ≤ b → ordering_index (nat_cmp a p) ≤ ordering_index (nat_cmp b p)
compared a b p below = grind (arith, nat_tests)

comparisons_rise : (entries : List ReadRecord) (records : List Record) (offset : ℕ) → AreEntries entries records → Rise 0 records
    → IsNonDecreasingBy (λ e. ordering_index (nat_cmp e.offset offset)) entries
comparisons_rise entries records offset are rise i j d below fits = grind (arith, common_steps, compared (get_or entries i d).offset (get_or entries j d).offset offset (offsets_rise entries records 0 are rise i j d below fits))

no_record_step : (r : Record) (rs : List Record) (offset : ℕ) → (r.offset ≡ offset → ⊥) → record_at offset rs ≡ None → record_at offset (r ∷ rs) ≡ None
no_record_step r rs offset other none = grind (arith, nat_tests)

no_record : (entries : List ReadRecord) (records : List Record) (offset : ℕ) → AreEntries entries records
    → ((k : ℕ) (d : ReadRecord) → k < length entries → (get_or entries k d).offset ≡ offset → ⊥) → record_at offset records ≡ None
no_record [] (r ∷ rs) offset are none = elim are [ ]
no_record (e ∷ es) [] offset are none = elim are [ ]
no_record [] [] offset no_entries none = refl
no_record (e ∷ es) (r ∷ rs) offset (entry_then is rest) none =
    no_record_step r rs offset (λ same. none 0 e (omega arith) (is.says.offset ∙ same)) (no_record es rs offset rest (λ k d fits. none (suc k) d (omega (arith, fits))))

neither : (entries : List ReadRecord) (offset i k : ℕ) (d : ReadRecord) → AllWithin (λ e. nat_cmp e.offset offset ≡ Less) entries 0 i
    → AllWithin (λ e. nat_cmp e.offset offset ≡ Greater) entries i (length entries) → k < length entries → (get_or entries k d).offset ≡ offset → ⊥
neither entries offset i k d less greater fits same = grind (arith, common_steps, cases_lt k i)

pub offset_absent : (entries : List ReadRecord) (offset i : ℕ)
    → (IsNonDecreasingBy (λ e. ordering_index (nat_cmp e.offset offset)) entries
    → IsPartitionPoint (λ e. nat_cmp e.offset offset ≡ Less) (λ e. nat_cmp e.offset offset ≡ Greater) entries i)
    → (records : List Record) → AreEntries entries records → Rise 0 records → record_at offset records ≡ None
offset_absent entries offset i parted records are rise = grind (arith, nat_tests, comparisons_rise entries records offset are rise, neither, no_record)

-- the flags

pub length_entries : (entries : List ReadRecord) (records : List Record) → AreEntries entries records → length entries ≡ length records
length_entries [] (r ∷ rs) are = elim are [ ]
length_entries (e ∷ es) [] are = elim are [ ]
length_entries [] [] no_entries = refl
length_entries (e ∷ es) (r ∷ rs) (entry_then is rest) = ap suc (length_entries es rs rest)

pub none_flagged : (records : List Record) → flags_of [] records ≡ replicate (length records) false
none_flagged [] = refl
none_flagged (r ∷ rs) = ap (λ z. false ∷ z) (none_flagged rs)

-- an offset below all others flags none of them
same_flags : (p : ℕ) (reached : List ℕ) (least : ℕ) (records : List Record) → Rise least records → p < least → flags_of (p ∷ reached) records ≡ flags_of reached records
same_flags p reached least [] rise below = refl
same_flags p reached least (r ∷ rs) rise below = grind (arith, common_steps, same_flags p reached (suc r.offset) rs rise.1 (omega (arith, rise.0, below)))

-- the record of an entry
pub record AtEntry (e : ReadRecord) (records : List Record) (at least : ℕ) : Type 0 where
  pub of_it : Record
  pub is : IsEntry e of_it
  pub above : least ≤ of_it.offset
  pub stands : record_at of_it.offset records ≡ Some of_it.elements
  pub flag : (reached : List ℕ) (d : Bool) → get_or (flags_of reached records) at d ≡ is_one_of of_it.offset reached
  pub marked : (reached : List ℕ) → set (flags_of reached records) at true ≡ flags_of (of_it.offset ∷ reached) records
  pub remaining : (reached : List ℕ) → unreached_fault reached (drop at records)
      ≡ (if not (carried_node of_it.elements).in_use || is_one_of of_it.offset reached then unreached_fault reached (drop (suc at) records) else fault 63 of_it.offset)

first_entry : (e : ReadRecord) (r : Record) (rs : List Record) (least : ℕ) → IsEntry e r → Rise least (r ∷ rs) → AtEntry e (r ∷ rs) 0 least
first_entry e r rs least is rise =
    let here = same_offset r.offset in
    grind (arith, common_steps, same_offset r.offset, cond-true (nat_eq r.offset r.offset) (Some r.elements) (record_at r.offset rs) here, same_flags)

later_entry : (e : ReadRecord) (r : Record) (rs : List Record) (at least : ℕ) → least ≤ r.offset → AtEntry e rs at (suc r.offset) → AtEntry e (r ∷ rs) (suc at) least
later_entry e r rs at least first later = grind (arith, common_steps)

pub at_entry : (entries : List ReadRecord) (records : List Record) (least at : ℕ) (d : ReadRecord) → AreEntries entries records → Rise least records → at < length entries
    → AtEntry (get_or entries at d) records at least
at_entry [] (r ∷ rs) least at d are rise fits = elim are [ ]
at_entry (e ∷ es) [] least at d are rise fits = elim are [ ]
at_entry [] [] least at d no_entries rise fits = absurd (omega (arith, fits))
at_entry (e ∷ es) (r ∷ rs) least zero d (entry_then is rest) rise fits = first_entry e r rs least is rise
at_entry (e ∷ es) (r ∷ rs) least (suc at) d (entry_then is rest) rise fits = grind (arith, common_steps, later_entry (get_or es at d) r rs at least rise.0 (at_entry es rs (suc r.offset) at d rest rise.1 (omega (arith, fits))))

-- an entry in use that was not reached is the first such one; any other is passed over
pub remaining_at : (entries : List ReadRecord) (flags : List Bool) (records : List Record) (reached : List ℕ) (e : ReadRecord) (at : ℕ) → AreFlagged entries flags records reached
    → e ≡ get_or entries at e → at < length entries
    → unreached_fault reached (drop at records) ≡ (if not e.in_use || get_or flags at false then unreached_fault reached (drop (suc at) records) else fault 63 e.offset)
remaining_at entries flags records reached e at flagged is fits = grind (arith, common_steps, at_entry entries records 0 at e flagged.are flagged.rise fits)

pub passes : (u r : Bool) → (u ≡ false) ⊎ (r ≡ true) → (not u || r) ≡ true
passes v1 r e = grind (arith, nat_tests)

-- ---- the record that an offset leads to, and the fault of that offset

-- the record at an offset where an entry was found

pub record AtOffset (entries : List ReadRecord) (flags : List Bool) (records : List Record) (reached : List ℕ) (link at : ℕ) : Type 0 where
  pub elements : Elements
  pub stands : record_at link records ≡ Some elements
  pub carries : (d : ReadRecord) → carried_by (get_or entries at d) ≡ carried_node elements
  pub flag : (d : Bool) → get_or flags at d ≡ is_one_of link reached

at_offset_by : (entries : List ReadRecord) (flags : List Bool) (records : List Record) (reached : List ℕ) (link at : ℕ) (d : ReadRecord) → AreFlagged entries flags records reached
    → at < length entries → ((d : ReadRecord) → (get_or entries at d).offset ≡ link) → AtOffset entries flags records reached link at
at_offset_by entries flags records reached link at d flagged fits found =
    let there = at_entry entries records 0 at d flagged.are flagged.rise fits in
    let same : there.of_it.offset ≡ link = sym there.is.says.offset ∙ found d in
    record {
      elements = there.of_it.elements;
      stands = ap (λ z. record_at z records) (sym same) ∙ there.stands;
      carries = λ e. ap carried_by (get_or_default entries at e d fits) ∙ there.is.says.carries;
      flag = λ b. ap (λ z. get_or z at b) flagged.flagged ∙ (there.flag reached b ∙ ap (λ z. is_one_of z reached) same);
    }

pub at_offset : (entries : List ReadRecord) (flags : List Bool) (records : List Record) (reached : List ℕ) (link at : ℕ) → AreFlagged entries flags records reached
    → at < length entries → ((d : ReadRecord) → (get_or entries at d).offset ≡ link) → AtOffset entries flags records reached link at
at_offset v1 flags records reached link at flagged fits found = grind (arith, nat_tests, at_offset_by)

-- the fault of an offset

has_record : (links : Links) (path : List Turn) (link : ℕ) (es : Elements) → named_by links path ≡ link → record_at link links.records ≡ Some es → names_no_record links path ≡ false
has_record links path link es named stands = ap (λ z. is_none (record_at z links.records)) named ∙ ap is_none stands

fits_there : (links : Links) (path : List Turn) (link : ℕ) (es : Elements) (b : Bool) → named_by links path ≡ link → record_at link links.records ≡ Some es
    → fits (level_of path) (carried_node es) ≡ b → names_wrong_level links path ≡ not b
fits_there links path link es b named stands fit = grind (arith, common_steps, elements_is (record_at link links.records) es stands)

no_fault : (links : Links) (path : List Turn) (reached : List ℕ) (link : ℕ) (es : Elements) → named_by links path ≡ link → record_at link links.records ≡ Some es
    → is_one_of link reached ≡ false → fits (level_of path) (carried_node es) ≡ true → path_fault links reached path ≡ None
no_fault links path reached link es named stands new fit = grind (arith, common_steps, has_record links path link es named stands, fits_there links path link es true named stands fit)

pub old_target : (links : Links) (entries : List ReadRecord) (flags : List Bool) (reached : List ℕ) (ms : List Mark) (step : Step) (at root reported : ℕ) (b : Bool)
    → AreFlagged entries flags links.records reached → IsStep links ms (Some step) → root ≡ links.offset → at < length entries → ((d : ReadRecord) → (get_or entries at d).offset ≡ step.link)
    → get_or flags at false ≡ true → is_one_of step.link (line_of (path_along true ms)) ≡ b → reported ≡ reported_along root ms
    → path_fault links reached (path_along step.begins ms) ≡ fault (if b then 61 else 62) reported
old_target links entries flags reached ms step at root reported b flagged is_step root_is fits found old back is = grind (arith, common_steps, at_offset entries flags links.records reached step.link at flagged fits found)

pub unfit_target : (links : Links) (entries : List ReadRecord) (flags : List Bool) (reached : List ℕ) (ms : List Mark) (step : Step) (at : ℕ) (e : ReadRecord)
    → AreFlagged entries flags links.records reached → IsStep links ms (Some step) → at < length entries → ((d : ReadRecord) → (get_or entries at d).offset ≡ step.link)
    → get_or flags at false ≡ false → e ≡ get_or entries at e → fits step.level (carried_by e) ≡ false
    → path_fault links reached (path_along step.begins ms) ≡ fault 64 step.link
unfit_target links entries flags reached ms step at e flagged is_step fits_in found new is unfit = grind (arith, common_steps, at_offset entries flags links.records reached step.link at flagged fits_in found)

pub good_target : (links : Links) (entries : List ReadRecord) (flags : List Bool) (reached : List ℕ) (ms : List Mark) (step : Step) (at : ℕ) (e : ReadRecord)
    → AreFlagged entries flags links.records reached → IsStep links ms (Some step) → at < length entries → ((d : ReadRecord) → (get_or entries at d).offset ≡ step.link)
    → get_or flags at false ≡ false → e ≡ get_or entries at e → fits step.level (carried_by e) ≡ true
    → IsTarget links entries ms step reached at
good_target links entries flags reached ms step at e flagged is_step fits_in found new is fit = grind (arith, common_steps, at_offset entries flags links.records reached step.link at flagged fits_in found)
