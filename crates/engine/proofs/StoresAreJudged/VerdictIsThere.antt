-- There is a verdict on each store (`a_verdict_is_there`). Stands on the laws of `dictionary` and `sequence`.
use Rattle.std.proofs.Common.{◌≡◌, ◌≢◌, ◌⊎◌, inl, inr, ℕ, Bool, true, false, List, [], ◌∷◌, ◌++◌, Option, Some, None, refl, sym, ap, subst, ◌∙◌, append-nil, nat_eq, arith}
use Rattle.std.proofs.lemmas.Grind.{common_steps}
use Rattle.std.proofs.lemmas.Bool.Decides.{eqb_tells}
use Rattle.sequence.specs.Transfer.{coding_in}
use Rattle.sequence.specs.declared.coding.Coding.{Coding}
use Rattle.element.specs.declared.tag.Tag.{Tag}
use Rattle.element.specs.Header.{number}
use Rattle.element.specs.Uid.{uid_of}
use Rattle.dictionary.specs.declared.class.Class.{Class}
use Rattle.dictionary.specs.Classes.{class_of, class_uid}
use Rattle.negotiate.specs.declared.proposals.Service.{Service}
use Rattle.negotiate.specs.declared.proposals.Service.TheVariants.{Known, Additional}
use Rattle.negotiate.specs.Contexts.{service_of}
use Rattle.dictionary.proofs.Public.{class_back}
use Rattle.sequence.specs.declared.fault.Fault.{Fault}
use Rattle.sequence.specs.Tree.{Elements, no_elements, DataSet}
use Rattle.sequence.specs.Open.{PathEntry, Tail, in_header, in_value, last_of, Nested, at_elements, in_sequence_of, in_item_of, IsTail, header_tail, Open}
use Rattle.sequence.specs.Rules.{Limits}
use Rattle.sequence.specs.Wanted.{Values, kept_of, value_of}
use Rattle.sequence.specs.FirstFault.{IsUnbroken, tag_of_tail}
use Rattle.sequence.specs.Ending.{Fails, breaks_rule, ends_early}
use Rattle.sequence.specs.Walk.{Report, Reports, going, refused}
use Rattle.sequence.proofs.Public.{no_header}
use Rattle.sequence.proofs.Public.{one_path}
use Rattle.sequence.proofs.Public.{some_telling}
use Rattle.dimse.specs.Command.{CommandRecord}
use Rattle.dimse.specs.Status.{class_not_supported, out_of_resources, data_set_mismatch}
use Rattle.negotiate.specs.declared.proposals.Context.{Context}
use Rattle.engine.specs.Timeline.{Finding, good}
use Rattle.dimse.specs.Detail.{class_mismatch, instance_mismatch}
use Rattle.engine.specs.Stores.{IsOfContext, is_storage_service, NamesUid, NamesInstance, HasNoFault, Submitted, OwnClass, OwnInstance, Filed, FirstFinding, Verdict, wanted, limits, class_tag, instance_tag, failure, cause, of_fault}
use Rattle.engine.specs.StoreLaws.{AVerdictIsThere}

-- ---- what is decided

same_or_not : (a b : List ℕ) → (a ≡ b) ⊎ (a ≢ b)
same_or_not [] [] = inl refl
same_or_not [] (y ∷ b) = inr (λ e. cc)
same_or_not (x ∷ a) [] = inr (λ e. cc)
same_or_not (x ∷ a) (y ∷ b) = by (eqb_tells x y) (same_or_not a b)
  where
    by : ((nat_eq x y ≡ true) × (x ≡ y)) ⊎ ((nat_eq x y ≡ false) × (x ≢ y)) → (a ≡ b) ⊎ (a ≢ b) → (x ∷ a ≡ y ∷ b) ⊎ (x ∷ a ≢ y ∷ b)
    by (inl h) (inl t) = inl (λ i. h.1 i ∷ t i)
    by (inl h) (inr t) = inr (λ e. t (let k : a ≡ b = cc in k))
    by (inr h) t = inr (λ e. h.1 (let k : x ≡ y = cc in k))

pub names_or_not : (values : Values) (tag : Tag) (uid : List ℕ) → NamesUid values tag uid ⊎ (NamesUid values tag uid → ⊥)
names_or_not values tag uid = by (value_of values (number tag)) refl
  where
    named : (value : List ℕ) → value_of values (number tag) ≡ Some value → (o : Option (List ℕ)) → uid_of value ≡ o → NamesUid values tag uid ⊎ (NamesUid values tag uid → ⊥)
    named value e None k = inr (λ n. let same : value ≡ n.0 = (let z : Some value ≡ Some n.0 = sym e ∙ n.1 in cc) in let z : ◌≡◌ {A = Option (List ℕ)} None (Some uid) = sym k ∙ ap uid_of same ∙ n.2 in cc)
    named value e (Some text) k = compared (same_or_not text uid)
      where
        compared : (text ≡ uid) ⊎ (text ≢ uid) → NamesUid values tag uid ⊎ (NamesUid values tag uid → ⊥)
        compared (inl same) = inl (value, e, k ∙ ap Some same)
        compared (inr other) = inr (λ n. other (let same : value ≡ n.0 = (let z : Some value ≡ Some n.0 = sym e ∙ n.1 in cc) in let z : Some text ≡ Some uid = sym k ∙ ap uid_of same ∙ n.2 in cc))

    by : (o : Option (List ℕ)) → value_of values (number tag) ≡ o → NamesUid values tag uid ⊎ (NamesUid values tag uid → ⊥)
    by None e = inr (λ n. let z : ◌≡◌ {A = Option (List ℕ)} None (Some n.0) = sym e ∙ n.1 in cc)
    by (Some value) e = named value e (uid_of value) refl

pub instance_or_not : (values : Values) (command : CommandRecord) → NamesInstance values command ⊎ (NamesInstance values command → ⊥)
instance_or_not values command = by command.instance refl
  where
    named : (uid : List ℕ) → command.instance ≡ Some uid → NamesUid values instance_tag uid ⊎ (NamesUid values instance_tag uid → ⊥) → NamesInstance values command ⊎ (NamesInstance values command → ⊥)
    named uid e (inl n) = inl (uid, e, n)
    named uid e (inr other) = inr (λ n. other (subst (NamesUid values instance_tag) (let z : Some n.0 ≡ Some uid = sym n.1 ∙ e in (let k : n.0 ≡ uid = cc in k)) n.2))

    by : (o : Option (List ℕ)) → command.instance ≡ o → NamesInstance values command ⊎ (NamesInstance values command → ⊥)
    by None e = inr (λ n. let z : ◌≡◌ {A = Option (List ℕ)} None (Some n.0) = sym e ∙ n.1 in cc)
    by (Some uid) e = named uid e (names_or_not values instance_tag uid)

one_class : (a b : Class) → class_uid a ≡ class_uid b → a ≡ b
one_class a b e = let z : Some a ≡ Some b = sym (class_back a) ∙ ap class_of e ∙ class_back b in cc

same_service : (a b : Service) → (a ≡ b) ⊎ (a ≡ b → ⊥)
same_service (Known a) (Known b) = by (same_or_not (class_uid a) (class_uid b)) where
  by : (class_uid a ≡ class_uid b) ⊎ (class_uid a ≢ class_uid b) → (Known a ≡ Known b) ⊎ (Known a ≡ Known b → ⊥)
  by (inl e) = inl (ap Known (one_class a b e))
  by (inr other) = inr (λ e. other (let k : a ≡ b = cc in ap class_uid k))
same_service (Known a) (Additional v) = inr (λ e. absurd cc)
same_service (Additional u) (Known b) = inr (λ e. absurd cc)
same_service (Additional u) (Additional v) = by (same_or_not u v) where
  by : (u ≡ v) ⊎ (u ≢ v) → (Additional u ≡ Additional v) ⊎ (Additional u ≡ Additional v → ⊥)
  by (inl e) = inl (ap Additional e)
  by (inr other) = inr (λ e. other (let k : u ≡ v = cc in k))

pub of_context_or_not : (context : Context) (command : CommandRecord) → IsOfContext context command ⊎ (IsOfContext context command → ⊥)
of_context_or_not context command = by (service_of command.class) refl
  where
    stored : (service : Service) → service_of command.class ≡ Some service → service ≡ context.class → (b : Bool) → is_storage_service context.class ≡ b → IsOfContext context command ⊎ (IsOfContext context command → ⊥)
    stored service e same true k = inl (record { named = e ∙ ap Some same; storage = k })
    stored service e same false k = inr (λ of. let z : false ≡ true = sym k ∙ of.storage in cc)

    compared : (service : Service) → service_of command.class ≡ Some service → (service ≡ context.class) ⊎ (service ≡ context.class → ⊥) → IsOfContext context command ⊎ (IsOfContext context command → ⊥)
    compared service e (inl same) = stored service e same (is_storage_service context.class) refl
    compared service e (inr other) = inr (λ of. other (let z : Some service ≡ Some context.class = sym e ∙ of.named in (let k : service ≡ context.class = cc in k)))

    by : (o : Option Service) → service_of command.class ≡ o → IsOfContext context command ⊎ (IsOfContext context command → ⊥)
    by None e = inr (λ of. let z : ◌≡◌ {A = Option Service} None (Some context.class) = sym e ∙ of.named in cc)
    by (Some service) e = compared service e (same_service service context.class)

-- ---- how a text ends

data Ends (s : Coding) (lim : Limits) (b : List ℕ) : Type 0 where
  faulty : (fault : Fault) → Fails s lim b fault → Ends s lim b
  fine : (elements : Elements) → HasNoFault s lim b elements → Ends s lim b

-- a whole data set is a front of itself with nothing open
pub whole_front : (s : Coding) (es : Elements) (b : List ℕ) → DataSet s 0 es b → Open s b es [] (last_of 0 es) (in_header [])
whole_front s es b set = record {
  nested = subst (λ z. Nested s z es [] (last_of 0 es) (in_header [])) (append-nil b) (at_elements set (header_tail (no_header s)));
  remaining = tt;
  innermost = tt;
}

none_remaining : (s : Coding) (last : ℕ) (tail : Tail) (t : List ℕ) → IsTail s last tail t → tail ≡ in_header [] → t ≡ []
none_remaining s last tail t h k = grind (arith, common_steps)

some_path : (a : List PathEntry) (x y : PathEntry) → a ++ (x ∷ y ∷ []) ≡ [] → ⊥
some_path [] x y e = cc
some_path (z ∷ a) x y e = cc

front_whole : (s : Coding) (b : List ℕ) (es : Elements) (path : List PathEntry) (last : ℕ) (tail : Tail) → Nested s b es path last tail → path ≡ [] → tail ≡ in_header [] → DataSet s 0 es b
front_whole s b es path last tail (at_elements {b = before} {t = t} set is_tail) e k =
    subst (DataSet s 0 es) (sym (ap (λ z. before ++ z) (none_remaining s last tail t is_tail k) ∙ append-nil before)) set
front_whole s b es path last tail (in_sequence_of q level part) e k = absurd cc
front_whole s b es path last tail (in_item_of q {path = inside} level item level2 deeper) e k = absurd (some_path inside _ _ e)

short_of : (s : Coding) (lim : Limits) (b : List ℕ) (es : Elements) (path : List PathEntry) (last : ℕ) (tail : Tail) → IsUnbroken s lim b → Open s b es path last tail → (path ≡ [] → tail ≡ in_header [] → ⊥) → Ends s lim b
short_of s lim b es path last tail unbroken o open_still = faulty _ (ends_early {tag = tag_of_tail tail} (record {
  unbroken = unbroken;
  elements = es;
  path = path;
  last = last;
  tail = tail;
  front = o;
  unfinished = λ es2 set. let k = one_path s b es es2 path [] last (last_of 0 es2) tail (in_header []) o (whole_front s es2 b set) in open_still k.1 k.3;
  tagged = refl;
}))

ends_at : (s : Coding) (lim : Limits) (b : List ℕ) (es : Elements) (path : List PathEntry) (last : ℕ) (tail : Tail) → IsUnbroken s lim b → Open s b es path last tail → Ends s lim b
ends_at s lim b es [] last (in_header []) unbroken o = fine es (record { whole = front_whole s b es [] last (in_header []) o.nested refl refl; unbroken = unbroken })
ends_at s lim b es [] last (in_header (x ∷ t)) unbroken o = short_of s lim b es [] last (in_header (x ∷ t)) unbroken o (λ e k. cc)
ends_at s lim b es [] last (in_value h v) unbroken o = short_of s lim b es [] last (in_value h v) unbroken o (λ e k. cc)
ends_at s lim b es (e ∷ path) last tail unbroken o = short_of s lim b es (e ∷ path) last tail unbroken o (λ e k. cc)

ends_reported : (s : Coding) (lim : Limits) (b : List ℕ) (reported : Report) → Reports s lim b reported → Ends s lim b
ends_reported s lim b reported (going {es = es} {path = path} {last = last} {tail = tail} unbroken o) = ends_at s lim b es path last tail unbroken o
ends_reported s lim b reported (refused f o) = faulty _ (breaks_rule f)

-- ---- the finding

-- the checks on a store whose data set is whole
named : (x : Submitted) → NamesUid (kept_of wanted x.elements) class_tag x.command.class ⊎ (NamesUid (kept_of wanted x.elements) class_tag x.command.class → ⊥)
    → NamesInstance (kept_of wanted x.elements) x.command ⊎ (NamesInstance (kept_of wanted x.elements) x.command → ⊥) → (failed : Bool) → x.failed ≡ failed → (finding : Finding) × FirstFinding x (OwnClass ∷ OwnInstance ∷ Filed ∷ []) finding
named x (inr other) instance failed e = (cause data_set_mismatch class_mismatch class_tag, inl (other, refl))
named x (inl class) (inr other) failed e = (cause data_set_mismatch instance_mismatch instance_tag, inr (class, inl (other, refl)))
named x (inl class) (inl instance) true e = (failure out_of_resources, inr (class, inr (instance, inl ((λ n. let wrong : true ≡ false = sym e ∙ n in cc), refl))))
named x (inl class) (inl instance) false e = (good, inr (class, inr (instance, inr (e, refl))))

pub a_verdict_is_there : AVerdictIsThere
a_verdict_is_there depth most context command set failed bytes = by (of_context_or_not context command)
  where
    ending : IsOfContext context command → Ends (coding_in context.syntax) (limits depth most) set → (finding : Finding) × Verdict depth most context command set failed finding
    ending of (faulty fault f) = (of_fault fault, record { elements = no_elements; first = inr (of, inl (fault, f, refl)) })
    ending of (fine es whole) =
        let x : Submitted = record { context = context; command = command; data_set = set; limits = limits depth most; elements = es; failed = failed } in
        let found = named x (names_or_not (kept_of wanted es) class_tag command.class) (instance_or_not (kept_of wanted es) command) failed refl in
        (found.0, record { elements = es; first = inr (of, inr (whole, found.1)) })

    by : IsOfContext context command ⊎ (IsOfContext context command → ⊥) → (finding : Finding) × Verdict depth most context command set failed finding
    by (inl of) = let k = some_telling (coding_in context.syntax) (limits depth most) set bytes in ending of (ends_reported (coding_in context.syntax) (limits depth most) set k.0 k.1)
    by (inr other) = (failure class_not_supported, record { elements = no_elements; first = inl (other, refl) })
