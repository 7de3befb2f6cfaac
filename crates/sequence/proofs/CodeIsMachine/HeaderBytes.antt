-- The bytes of a header consumed at once bring the machine where they bring it one by one (`refused_run`, `whole_run`,
-- `part_run`), and keep the same (`whole_kept`, `part_kept`). Stands on WhereRulesBreak and MachineStands.
use Rattle.std.proofs.Common.{◌≡◌, ℕ, suc, ◌+◌, ◌-◌, ◌<◌, ◌≤◌, Bool, true, false, List, [], ◌∷◌, ◌++◌, length, take, get_or, Some, None, nat_eq, eqb-true, false-eqb, refl, sym, ap, subst, ◌∙◌, arith, append_assoc, append-nil, length-append}
use Rattle.std.proofs.lemmas.List.{take_more, take_all, take-take, length-take-le}
use Rattle.element.specs.declared.tag.Tag.{Tag}
use Rattle.element.specs.declared.header.Header.{Header}
use Rattle.element.specs.Header.{is_whole, header_at}
use Rattle.sequence.specs.Coding.{layout}
use Rattle.sequence.specs.declared.level.Scope.{Scope}
use Rattle.sequence.specs.declared.shape.Shape.{Shape}
use Rattle.sequence.specs.declared.stage.Stage.{Stage}
use Rattle.sequence.specs.declared.stage.Stage.TheVariants as stages
use Rattle.sequence.specs.declared.heading.End.TheVariants as ends
use Rattle.sequence.specs.Open.{IsUnfinishedHeader}
use Rattle.sequence.specs.Wanted.{Values}
use Rattle.sequence.specs.Rules.{Limits, broken}
use Rattle.sequence.specs.machine.Machine.{at, Heading, Stopped, ArrivesAt, spot_of, take_header, headed, run}
use Rattle.sequence.specs.machine.Keeping.{keeps, keep_header, keep_headed}
use Rattle.sequence.specs.machine.State.{mode_of}
use Rattle.sequence.specs.machine.Heading.{IsQuiet, IsEnd}
use Rattle.sequence.specs.machine.Steps.{IsMade, IsConsumed}
use Rattle.element.specs.declared.rule.Rule.{Rule}
use Rattle.element.specs.RuleNames.{rule_number}
use Rattle.sequence.proofs.MachineStands.UnbrokenHeader.{on_tail}
use Rattle.sequence.proofs.CodeIsMachine.WhereRulesBreak.{take_both}
use Rattle.sequence.proofs.MachineStands.HeaderParts.{part_short}

-- what the bytes of a header come to

headed_refused : (lim : Limits) (f : Scope) (fs : List Scope) (p b : ℕ) (t : List ℕ) (number : ℕ) (tag : Tag) → broken lim (spot_of f fs b) t ≡ Some (number, tag) → headed lim f fs p b t ≡ at f fs p (Stopped number b tag)
unfolding headed
headed_refused lim f fs p b t number tag e = rw e refl

headed_whole : (lim : Limits) (f : Scope) (fs : List Scope) (p b : ℕ) (t : List ℕ) (h : Header) → broken lim (spot_of f fs b) t ≡ None → is_whole (layout f.syntax) t ≡ true → h ≡ header_at (layout f.syntax) t → headed lim f fs p b t ≡ take_header p f fs h
unfolding headed
headed_whole lim f fs p b t h e w r = rw (e, w) (ap (take_header p f fs) (sym r))

headed_quiet : (lim : Limits) (f : Scope) (fs : List Scope) (p b : ℕ) (t : List ℕ) → IsQuiet lim (spot_of f fs b) t → headed lim f fs p b t ≡ at f fs p (Heading b t)
unfolding headed
headed_quiet lim f fs p b t q = let e = q.fine in let w : is_whole (layout f.syntax) t ≡ false = q.part in rw (e, w) refl

kept_quiet : (lim : Limits) (f : Scope) (fs : List Scope) (b : ℕ) (t : List ℕ) (values : Values) → IsQuiet lim (spot_of f fs b) t → keep_headed lim (broken lim (spot_of f fs b) t) f fs t values ≡ values
kept_quiet lim f fs b t values q = let e = q.fine in let w : is_whole (layout f.syntax) t ≡ false = q.part in rw (e, w) refl

kept_refused : (lim : Limits) (f : Scope) (fs : List Scope) (b : ℕ) (t : List ℕ) (values : Values) (number : ℕ) (tag : Tag) → broken lim (spot_of f fs b) t ≡ Some (number, tag) → keep_headed lim (broken lim (spot_of f fs b) t) f fs t values ≡ values
kept_refused lim f fs b t values number tag e = rw e refl

kept_whole : (lim : Limits) (f : Scope) (fs : List Scope) (b : ℕ) (t : List ℕ) (values : Values) (h : Header) → broken lim (spot_of f fs b) t ≡ None → is_whole (layout f.syntax) t ≡ true → h ≡ header_at (layout f.syntax) t → keep_headed lim (broken lim (spot_of f fs b) t) f fs t values ≡ keep_header lim f fs h values
kept_whole lim f fs b t values h e w r = rw (e, w) (ap (λ z. keep_header lim f fs z values) (sym r))

abbrev AreQuiet : Limits → Scope → List Scope → ℕ → List ℕ → List ℕ → Type 0
AreQuiet lim f fs b t consumed = (m : ℕ) → 0 < m → m < length consumed → IsQuiet lim (spot_of f fs b) (t ++ take m consumed)

quiet_rest : (lim : Limits) (f : Scope) (fs : List Scope) (b : ℕ) (t : List ℕ) (x : ℕ) (consumed : List ℕ) → AreQuiet lim f fs b t (x ∷ consumed) → AreQuiet lim f fs b (t ++ x ∷ []) consumed
quiet_rest lim f fs b t x consumed q m some lt = subst (IsQuiet lim (spot_of f fs b)) (sym (append_assoc t (x ∷ []) (take m consumed))) (q (suc m) (omega arith) (omega (arith, lt)))

-- only the last of them counts
run_headed : (lim : Limits) (f : Scope) (fs : List Scope) (p q b : ℕ) (t consumed : List ℕ) → 0 < length consumed → q ≡ p + length consumed → AreQuiet lim f fs b t consumed → run lim (at f fs p (Heading b t)) consumed ≡ headed lim f fs q b (t ++ consumed)
unfolding run
run_headed lim f fs p q b t [] some q-is quiet = absurd (omega (arith, some))
run_headed lim f fs p q b t (x ∷ []) some q-is quiet = let k : p + 1 ≡ q = omega (arith, q-is) in ap (λ z. headed lim f fs z b (t ++ x ∷ [])) k
run_headed lim f fs p q b t (x ∷ y ∷ consumed) some q-is quiet =
    let one : IsQuiet lim (spot_of f fs b) (t ++ x ∷ []) = quiet 1 (omega arith) (omega arith) in
    ap (λ z. run lim z (y ∷ consumed)) (headed_quiet lim f fs (p + 1) b (t ++ x ∷ []) one)
    ∙ run_headed lim f fs (p + 1) q b (t ++ x ∷ []) (y ∷ consumed) (omega arith) (omega (arith, q-is)) (quiet_rest lim f fs b t x (y ∷ consumed) quiet)
    ∙ ap (headed lim f fs q b) (append_assoc t (x ∷ []) (y ∷ consumed))

keeps_headed : (lim : Limits) (f : Scope) (fs : List Scope) (p b : ℕ) (t consumed : List ℕ) (values : Values) → 0 < length consumed → AreQuiet lim f fs b t consumed → keeps lim (at f fs p (Heading b t)) values consumed ≡ keep_headed lim (broken lim (spot_of f fs b) (t ++ consumed)) f fs (t ++ consumed) values
unfolding keeps
keeps_headed lim f fs p b t [] values some quiet = absurd (omega (arith, some))
keeps_headed lim f fs p b t (x ∷ []) values some quiet = refl
keeps_headed lim f fs p b t (x ∷ y ∷ consumed) values some quiet =
    let one : IsQuiet lim (spot_of f fs b) (t ++ x ∷ []) = quiet 1 (omega arith) (omega arith) in
    ap (λ z. keeps lim z (keep_headed lim (broken lim (spot_of f fs b) (t ++ x ∷ [])) f fs (t ++ x ∷ []) values) (y ∷ consumed)) (headed_quiet lim f fs (p + 1) b (t ++ x ∷ []) one)
    ∙ ap (λ z. keeps lim (at f fs (p + 1) (Heading b (t ++ x ∷ []))) z (y ∷ consumed)) (kept_quiet lim f fs b (t ++ x ∷ []) values one)
    ∙ keeps_headed lim f fs (p + 1) b (t ++ x ∷ []) (y ∷ consumed) values (omega arith) (quiet_rest lim f fs b t x (y ∷ consumed) quiet)
    ∙ ap (λ z. keep_headed lim (broken lim (spot_of f fs b) z) f fs z values) (append_assoc t (x ∷ []) (y ∷ consumed))

last_one : (xs : List ℕ) → 0 < length xs → xs ≡ take (length xs - 1) xs ++ get_or xs (length xs - 1) 0 ∷ []
last_one xs some =
    let one : length xs - 1 + 1 ≡ length xs = omega (arith, some) in
    sym (ap (λ z. take z xs) one ∙ take_all (length xs) xs (omega arith)) ∙ take_more xs (length xs - 1) 0 (omega (arith, some))

-- of a walker in a header, of which t were received, after p bytes
module _ (lim : Limits) (f : Scope) (fs : List Scope) (p : ℕ) (t piece : List ℕ) (behind : length t ≤ p) where
  consumed_text : (n : ℕ) → length t ≤ n → t ++ take (n - length t) piece ≡ take n (t ++ piece)
  consumed_text n le = sym (take_both t piece n le)

  consumed_size : (n : ℕ) → n ≤ length (t ++ piece) → length (take (n - length t) piece) ≡ n - length t
  consumed_size n le = length-take-le (n - length t) piece (omega (arith, le, length-append t piece))

  consumed_quiet : (n : ℕ) → length t < n → n ≤ length (t ++ piece) → ((m : ℕ) → length t < m → m < n → IsQuiet lim (spot_of f fs (p - length t)) (take m (t ++ piece))) → AreQuiet lim f fs (p - length t) t (take (n - length t) piece)
  consumed_quiet n lt le quiet m some less =
      let size = consumed_size n le in
      let front : take m (take (n - length t) piece) ≡ take m piece = take-take m (n - length t) piece (omega (arith, less, size)) in
      let rest : length t + m - length t ≡ m = omega arith in
      let text : take (length t + m) (t ++ piece) ≡ t ++ take m piece = take_both t piece (length t + m) (omega arith) ∙ ap (λ z. t ++ take z piece) rest in
      subst (IsQuiet lim (spot_of f fs (p - length t))) (text ∙ ap (λ z. t ++ z) (sym front)) (quiet (length t + m) (omega (arith, some)) (omega (arith, less, size)))

  run_to : (n : ℕ) → length t < n → n ≤ length (t ++ piece) → ((m : ℕ) → length t < m → m < n → IsQuiet lim (spot_of f fs (p - length t)) (take m (t ++ piece)))
      → run lim (at f fs p (Heading (p - length t) t)) (take (n - length t) piece) ≡ headed lim f fs (p - length t + n) (p - length t) (take n (t ++ piece))
  run_to n lt le quiet =
      let size = consumed_size n le in
      run_headed lim f fs p (p - length t + n) (p - length t) t (take (n - length t) piece) (omega (arith, size, lt)) (omega (arith, size, lt, behind)) (consumed_quiet n lt le quiet)
      ∙ ap (headed lim f fs (p - length t + n) (p - length t)) (consumed_text n (omega (arith, lt)))

  keeps_to : (values : Values) (n : ℕ) → length t < n → n ≤ length (t ++ piece) → ((m : ℕ) → length t < m → m < n → IsQuiet lim (spot_of f fs (p - length t)) (take m (t ++ piece)))
      → keeps lim (at f fs p (Heading (p - length t) t)) values (take (n - length t) piece) ≡ keep_headed lim (broken lim (spot_of f fs (p - length t)) (take n (t ++ piece))) f fs (take n (t ++ piece)) values
  keeps_to values n lt le quiet =
      let size = consumed_size n le in
      keeps_headed lim f fs p (p - length t) t (take (n - length t) piece) values (omega (arith, size, lt)) (consumed_quiet n lt le quiet)
      ∙ ap (λ z. keep_headed lim (broken lim (spot_of f fs (p - length t)) z) f fs z values) (consumed_text n (omega (arith, lt)))

  module _ (stage : Stage) (is : stage ≡ stages.Heading) (started : ℕ) (started-is : started ≡ length t) where
    pub refused_run : (n : ℕ) (rule : Rule) (tag : Tag) → IsEnd lim (spot_of f fs (p - length t)) (t ++ piece) (length t) (ends.Refused n rule tag) → at f fs (p - started + n) (Stopped (rule_number rule) (p - started) tag) ≡ run lim (at f fs p (mode_of stage p t)) (take (n - started) piece)
    refused_run n rule tag k =
        subst (λ z. at f fs (p - z + n) (Stopped (rule_number rule) (p - z) tag) ≡ run lim (at f fs p (mode_of stage p t)) (take (n - z) piece)) (sym started-is)
        (sym (ap (λ z. run lim (at f fs p (mode_of z p t)) (take (n - length t) piece)) is ∙ run_to n k.0.more k.0.some k.2 ∙ headed_refused lim f fs (p - length t + n) (p - length t) (take n (t ++ piece)) (rule_number rule) tag k.1))

    pub refused_kept : (values : Values) (n : ℕ) (rule : Rule) (tag : Tag) → IsEnd lim (spot_of f fs (p - length t)) (t ++ piece) (length t) (ends.Refused n rule tag) → values ≡ keeps lim (at f fs p (mode_of stage p t)) values (take (n - started) piece)
    refused_kept values n rule tag k =
        subst (λ z. values ≡ keeps lim (at f fs p (mode_of stage p t)) values (take (n - z) piece)) (sym started-is)
        (sym (ap (λ z. keeps lim (at f fs p (mode_of z p t)) values (take (n - length t) piece)) is ∙ keeps_to values n k.0.more k.0.some k.2 ∙ kept_refused lim f fs (p - length t) (take n (t ++ piece)) values (rule_number rule) tag k.1))

    pub whole_run : (n : ℕ) (h : Header) (sh : Shape) → IsEnd lim (spot_of f fs (p - length t)) (t ++ piece) (length t) (ends.Whole n h sh) → take_header (p - started + n) f fs h ≡ run lim (at f fs p (mode_of stage p t)) (take (n - started) piece)
    whole_run n h sh k =
        subst (λ z. take_header (p - z + n) f fs h ≡ run lim (at f fs p (mode_of stage p t)) (take (n - z) piece)) (sym started-is)
        (sym (ap (λ z. run lim (at f fs p (mode_of z p t)) (take (n - length t) piece)) is ∙ run_to n k.0.more k.0.some k.2 ∙ headed_whole lim f fs (p - length t + n) (p - length t) (take n (t ++ piece)) h k.1.fine k.1.whole k.1.read))

    pub whole_kept : (values : Values) (n : ℕ) (h : Header) (sh : Shape) → IsEnd lim (spot_of f fs (p - length t)) (t ++ piece) (length t) (ends.Whole n h sh) → keep_header lim f fs h values ≡ keeps lim (at f fs p (mode_of stage p t)) values (take (n - started) piece)
    whole_kept values n h sh k =
        subst (λ z. keep_header lim f fs h values ≡ keeps lim (at f fs p (mode_of stage p t)) values (take (n - z) piece)) (sym started-is)
        (sym (ap (λ z. keeps lim (at f fs p (mode_of z p t)) values (take (n - length t) piece)) is ∙ keeps_to values n k.0.more k.0.some k.2 ∙ kept_whole lim f fs (p - length t) (take n (t ++ piece)) values h k.1.fine k.1.whole k.1.read))

    made_by : (n : ℕ) (h : Header) (sh : Shape) → IsEnd lim (spot_of f fs (p - length t)) (t ++ piece) (length t) (ends.Whole n h sh) → IsUnfinishedHeader f.syntax t → IsMade f.syntax t (take (n - length t) piece) h
    made_by n h sh k u =
        let size = consumed_size n k.0.some in
        let text = consumed_text n (omega (arith, k.0.more)) in
        let xs = take (n - length t) piece in
        record {
          front = take (length xs - 1) xs;
          byte = get_or xs (length xs - 1) 0;
          text = last_one xs (omega (arith, size, k.0.more));
          part = before (nat_eq (length xs - 1) 0) refl;
          whole = ap (is_whole (layout f.syntax)) text ∙ k.1.whole;
          read = ap (header_at (layout f.syntax)) text ∙ sym k.1.read;
        }
      where
        before : (q : Bool) → nat_eq (length (take (n - length t) piece) - 1) 0 ≡ q → IsUnfinishedHeader f.syntax (t ++ take (length (take (n - length t) piece) - 1) (take (n - length t) piece))
        before true e =
            subst (IsUnfinishedHeader f.syntax) (sym (ap (λ z. t ++ take z (take (n - length t) piece)) (eqb-true (length (take (n - length t) piece) - 1) 0 e) ∙ append-nil t)) u
        before false e =
            let some = false-eqb (length (take (n - length t) piece) - 1) 0 (sym e) in
            let q = consumed_quiet n k.0.more k.0.some k.2 (length (take (n - length t) piece) - 1) (omega (arith, some)) (omega (arith, some)) in
            on_tail lim (spot_of f fs (p - length t)) (t ++ take (length (take (n - length t) piece) - 1) (take (n - length t) piece)) q.fine q.part

    reported_by : (new : Stage) (offset : ℕ) (header : List ℕ) (k : ℕ) (h : Header) → IsMade f.syntax t (take k piece) h → ArrivesAt (mode_of new offset header) (p + k) → IsConsumed f.syntax t piece p k new header (Some h)
    reported_by stages.Heading offset header k h m arrives = (m, arrives)
    reported_by (stages.Value tag remaining kept) offset header k h m arrives = m
    reported_by (stages.Stopped fault) offset header k h m arrives = (m, arrives)

    pub whole_reported : (new : Stage) (offset : ℕ) (header : List ℕ) (n : ℕ) (h : Header) (sh : Shape) → IsEnd lim (spot_of f fs (p - length t)) (t ++ piece) (length t) (ends.Whole n h sh) → IsUnfinishedHeader f.syntax t → ArrivesAt (mode_of new offset header) (p - started + n) → IsConsumed f.syntax t piece p (n - started) new header (Some h)
    whole_reported new offset header n h sh k u arrives =
        let end : p - started + n ≡ p + (n - started) = omega (arith, started-is, k.0.more, behind) in
        reported_by new offset header (n - started) h (subst (λ z. IsMade f.syntax t (take (n - z) piece) h) (sym started-is) (made_by n h sh k u)) (subst (ArrivesAt (mode_of new offset header)) end arrives)

    pub refused_reported : (n : ℕ) (rule : Rule) (tag : Tag) (header : List ℕ) → IsEnd lim (spot_of f fs (p - length t)) (t ++ piece) (length t) (ends.Refused n rule tag) → IsConsumed f.syntax t piece p (n - started) (stages.Stopped (record { number = rule_number rule; offset = p - started; tag = tag })) header None
    refused_reported n rule tag header k = (omega (arith, started-is, behind), omega (arith, started-is, k.0.more))

    -- the header continues

    pub all_quiet : 0 < length piece → IsEnd lim (spot_of f fs (p - length t)) (t ++ piece) (length t) ends.Part → IsQuiet lim (spot_of f fs (p - length t)) (t ++ piece)
    all_quiet some k = subst (IsQuiet lim (spot_of f fs (p - length t))) (take_all (length (t ++ piece)) (t ++ piece) (omega arith)) (k (length (t ++ piece)) (omega (arith, some, length-append t piece)) (omega arith))

    piece_is : take (length (t ++ piece) - length t) piece ≡ take (length piece) piece
    piece_is = ap (λ z. take z piece) (let k : length (t ++ piece) - length t ≡ length piece = omega (arith, length-append t piece) in k)

    pub part_run : (items : List ℕ) → items ≡ t ++ piece → 0 < length piece → IsEnd lim (spot_of f fs (p - length t)) (t ++ piece) (length t) ends.Part → at f fs (p + length piece) (mode_of stage (p + length piece) items) ≡ run lim (at f fs p (mode_of stage p t)) (take (length piece) piece)
    part_run items items-is some k =
        let n = length (t ++ piece) in
        let size : n ≡ length t + length piece = length-append t piece in
        let b : p + length piece - length items ≡ p - length t = omega (arith, ap length items-is, size, behind) in
        let offset : p - length t + n ≡ p + length piece = omega (arith, size, behind) in
        let all = take_all n (t ++ piece) (omega arith) in
        let q = all_quiet some k in
        ap (λ z. at f fs (p + length piece) (mode_of z (p + length piece) items)) is
        ∙ ap (λ z. at f fs (p + length piece) (Heading z items)) b ∙ ap (λ z. at f fs (p + length piece) (Heading (p - length t) z)) items-is
        ∙ sym (headed_quiet lim f fs (p + length piece) (p - length t) (t ++ piece) q)
        ∙ ap (λ z. headed lim f fs z (p - length t) (t ++ piece)) (sym offset)
        ∙ ap (headed lim f fs (p - length t + n) (p - length t)) (sym all)
        ∙ sym (run_to n (omega (arith, size, some)) (omega arith) (λ m lt less. k m lt (omega (arith, less))))
        ∙ ap (run lim (at f fs p (Heading (p - length t) t))) piece_is
        ∙ ap (λ z. run lim (at f fs p (mode_of z p t)) (take (length piece) piece)) (sym is)

    pub part_kept : (values : Values) → 0 < length piece → IsEnd lim (spot_of f fs (p - length t)) (t ++ piece) (length t) ends.Part → values ≡ keeps lim (at f fs p (mode_of stage p t)) values (take (length piece) piece)
    part_kept values some k =
        let n = length (t ++ piece) in
        let size : n ≡ length t + length piece = length-append t piece in
        let all = take_all n (t ++ piece) (omega arith) in
        let q = all_quiet some k in
        sym (kept_quiet lim f fs (p - length t) (t ++ piece) values q)
        ∙ ap (λ z. keep_headed lim (broken lim (spot_of f fs (p - length t)) z) f fs z values) (sym all)
        ∙ sym (keeps_to values n (omega (arith, size, some)) (omega arith) (λ m lt less. k m lt (omega (arith, less))))
        ∙ ap (keeps lim (at f fs p (Heading (p - length t) t)) values) piece_is
        ∙ ap (λ z. keeps lim (at f fs p (mode_of z p t)) values (take (length piece) piece)) (sym is)

    pub part_reported : (items : List ℕ) → items ≡ t ++ piece → 0 < length piece → IsEnd lim (spot_of f fs (p - length t)) (t ++ piece) (length t) ends.Part → IsConsumed f.syntax t piece p (length piece) stage items None
    part_reported items items-is some k =
        let q = all_quiet some k in
        subst (λ z. IsConsumed f.syntax t piece p (length piece) z items None) (sym is) (refl, items-is, on_tail lim (spot_of f fs (p - length t)) (t ++ piece) q.fine q.part)

    pub part_short_of : 0 < length piece → IsEnd lim (spot_of f fs (p - length t)) (t ++ piece) (length t) ends.Part → length t + length piece < 12
    part_short_of some k =
        let q = all_quiet some k in
        let short = part_short f.syntax (t ++ piece) (on_tail lim (spot_of f fs (p - length t)) (t ++ piece) q.fine q.part) in
        omega (arith, short, length-append t piece)
