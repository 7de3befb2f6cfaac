-- What a call of a deframer reports is what the stream marks there (`consumed_mark`, `consumed_part`, `consumed_none`,
-- `consumed_due`), at each position; a PDU that is skipped there is skipped (`skip_at`). Stands on
-- DeframerFollowsTheStream and FramesAreUnique.
use Rattle.std.proofs.Common.{◌⊎◌, ◌≡◌, ℕ, ◌+◌, ◌-◌, ◌<◌, ◌≤◌, true, false, nat_eq, List, [], ◌∷◌, ◌++◌, length, map, take, Some, None, refl, sym, ap, subst, ◌∙◌, arith, inl, inr}
use Rattle.std.proofs.lemmas.Bool.{cases_lt, cases_Bool, eqb-true}
use Rattle.std.proofs.lemmas.List.{append-nil}
use Rattle.byteorder.specs.Endian.{big_number}
use Rattle.pdu.specs.declared.head.PduHead.{PduHead}
use Rattle.pdu.specs.declared.head.PdvHead.{PdvHead}
use Rattle.pdu.specs.declared.position.Position.{Position}
use Rattle.pdu.specs.declared.position.Position.TheVariants as position
use Rattle.pdu.specs.declared.event.Event.{Event}
use Rattle.pdu.specs.declared.event.Event.TheVariants as event
use Rattle.pdu.specs.Heads.{pdu_head_of, pdv_head_of}
use Rattle.pdu.specs.Frames.{rest_of}
use Rattle.pdu.specs.Marks.{Mark, Head, Pdv, BadPdv, Leftover, End, new_marks, head_mark, is_leftover, frame_kind, frame_length}
use Rattle.pdu.specs.Spot.{Spot, Plain}
use Rattle.pdu.specs.Events.{Token, OfBody, OfFragment, Completes, tokens, Reports}
use Rattle.pdu.specs.Deframing.{Inside, IsOver, AtHead, AtBody, in_body, after_body, AtPdvHead, AtLeftover, AfterPdv, over, leftover, another, AtFragment, in_fragment, after_fragment, At, Consumed, AreInner, Skip, no_frame, end_alone, skipped}
use Rattle.pdu.specs.Steps.{skip_of}
use Rattle.pdu.proofs.FramesAreUnique.{new_nothing, rest_alone}
use Rattle.pdu.proofs.DeframerFollowsTheStream.{Now, Silent, head_arrives, body_arrives, end_due, over_rest, none_at, pdv_head_over, pdv_head_tokens_are, pdv_bad, pdv_good, fragment_arrives, value_due, after_rest}

-- a mark that was due
pub consumed_due : (new : Position) (r : List ℕ) (due later : List Mark) (m : Mark) (e : Event) → due ≡ m ∷ later → Reports [] (Some e) (Completes m ∷ []) → rest_of r ≡ r → At new r later → Consumed new r due [] (Some e)
consumed_due new r due later m e is reports rest at = record {
  reported = Completes m ∷ [];
  later = later;
  all = append-nil (map Completes due) ∙ ap (map Completes) is;
  reports = reports;
  is_at = subst (λ (t : List ℕ). At new t later) (sym (ap rest_of (append-nil r) ∙ rest)) at;
  prompt = λ lt. absurd (omega arith);
  at_once = λ wrong. absurd cc;
}

-- a mark that the bytes complete
pub consumed_mark : (new : Position) (r : List ℕ) (due : List Mark) (c : List ℕ) (m : Mark) (e : Event) → due ≡ [] → tokens r c ≡ map Completes (new_marks r c) → Now (At new) r c (m ∷ [])
    → Reports c (Some e) (Completes m ∷ []) → Consumed new r due c (Some e)
consumed_mark new r due c m e none ts now reports = record {
  reported = Completes m ∷ [];
  later = now.later;
  all = rw none (ts ∙ ap (map Completes) now.marks);
  reports = reports;
  is_at = now.at;
  prompt = λ lt. none;
  at_once = λ wrong. absurd cc;
}

-- a part that is lent
pub consumed_part : (new : Position) (r : List ℕ) (due : List Mark) (c : List ℕ) (e : Event) (given : List Token) → due ≡ [] → tokens r c ≡ given ++ map Completes (new_marks r c) → Now (At new) r c []
    → Reports c (Some e) given → Consumed new r due c (Some e)
consumed_part new r due c e given none ts now reports = record {
  reported = given;
  later = now.later;
  all = rw none (ts ∙ ap (λ (ms : List Mark). given ++ map Completes ms) now.marks);
  reports = reports;
  is_at = now.at;
  prompt = λ lt. none;
  at_once = λ wrong. absurd cc;
}

-- nothing yet
pub consumed_none : (new : Position) (r : List ℕ) (due : List Mark) (c : List ℕ) → due ≡ [] → tokens r c ≡ map Completes (new_marks r c) → new_marks r c ≡ [] → At new (rest_of (r ++ c)) [] → Consumed new r due c None
consumed_none new r due c none ts ms at = record {
  reported = [];
  later = [];
  all = rw none (ts ∙ ap (map Completes) ms);
  reports = refl;
  is_at = at;
  prompt = λ lt. none;
  at_once = λ wrong. refl;
}

-- ---- in the head of a frame

now_as : (P Q : List ℕ → List Mark → Type 0) (r c : List ℕ) (ms : List Mark) → ((t : List ℕ) (later : List Mark) → P t later → Q t later) → Now P r c ms → Now Q r c ms
now_as P Q r c ms f now = record { later = now.later; marks = now.marks; at = f (rest_of (r ++ c)) now.later now.at }

head_reported : (new : Position) (bytes r c : List ℕ) (due : List Mark) → AtHead bytes r due → length (bytes ++ c) ≡ 6
    → (frame_kind (bytes ++ c) ≡ 4 → 0 < frame_length (bytes ++ c) → (t : List ℕ) (later : List Mark) → AtPdvHead (frame_length (bytes ++ c)) [] t later → At new t later)
    → ((frame_kind (bytes ++ c) ≡ 4 → frame_length (bytes ++ c) ≡ 0) → new ≡ position.Body (frame_kind (bytes ++ c)) (frame_length (bytes ++ c)))
    → Consumed new r due c (Some (event.PduHead (pdu_head_of (bytes ++ c))))
head_reported new bytes r c due a six values other =
    let k = frame_kind (bytes ++ c) in
    let n = frame_length (bytes ++ c) in
    let h = head_arrives bytes r c due a six in
    let report = λ (now : Now (At new) r c (Head k n ∷ [])). consumed_mark new r due c (Head k n) (event.PduHead (pdu_head_of (bytes ++ c))) a.none_due h.tokens_are now (record { mark = Head k n; one = refl; same = refl }) in
    let in_body_then = λ (none : k ≡ 4 → n ≡ 0). report (now_as (AtBody k n) (At new) r c (Head k n ∷ []) (λ t later b. subst (λ (p : Position). At p t later) (sym (other none)) b) (h.body none)) in
    elim (cases_Bool (nat_eq k 4)) [
      | inl is ↦ elim (cases_lt 0 n) [
        | inl some ↦ report (now_as (AtPdvHead n []) (At new) r c (Head k n ∷ []) (values (eqb-true k 4 is) some) (h.data_arrives (eqb-true k 4 is) some))
        | inr none ↦ in_body_then (λ e. omega arith)
      ]
      | inr is ↦ in_body_then (λ e. absurd (let wrong : nat_eq 4 4 ≡ false = ap (λ (x : ℕ). nat_eq x 4) (sym e) ∙ is in cc))
    ]

pub head_is_reported : (new : Position) (head : PduHead) (v bytes r c : List ℕ) (due : List Mark) → AtHead bytes r due → v ≡ bytes ++ c → length v ≡ 6 → head ≡ pdu_head_of v
    → (head.kind ≡ 4 → 0 < head.length → (t : List ℕ) (later : List Mark) → AtPdvHead head.length [] t later → At new t later)
    → ((head.kind ≡ 4 → head.length ≡ 0) → new ≡ position.Body head.kind head.length) → Consumed new r due c (Some (event.PduHead head))
head_is_reported new head v bytes r c due a v_is six is values other =
    let e : pdu_head_of (bytes ++ c) ≡ head = ap pdu_head_of (sym v_is) ∙ sym is in
    subst (λ (h : PduHead). (h.kind ≡ 4 → 0 < h.length → (t : List ℕ) (later : List Mark) → AtPdvHead h.length [] t later → At new t later)
    → ((h.kind ≡ 4 → h.length ≡ 0) → new ≡ position.Body h.kind h.length) → Consumed new r due c (Some (event.PduHead h))) e
    (head_reported new bytes r c due a (ap length (sym v_is) ∙ six)) values other

pub consumed_silent : (new : Position) (P : List ℕ → List Mark → Type 0) (r : List ℕ) (due : List Mark) (c : List ℕ) → due ≡ [] → Silent P r c → ((t : List ℕ) (later : List Mark) → P t later → At new t later) → Consumed new r due c None
consumed_silent new P r due c none s f = consumed_none new r due c none s.tokens_are s.marks (f (rest_of (r ++ c)) [] s.at)

-- ---- in a body

pub body_ended : (new : Position) (kind remaining : ℕ) (r : List ℕ) (due : List Mark) → remaining ≡ 0 → AtBody kind remaining r due → ((t : List ℕ) → t ≡ [] → At new t []) → Consumed new r due [] (Some (event.PduEnd kind))
body_ended new kind remaining r due none a at =
    let o = end_due kind remaining r due none a in
    consumed_due new r due [] (End kind o.body) (event.PduEnd kind) o.due_is (record { mark = End kind o.body; one = refl; same = refl }) (over_rest kind remaining r due o) (at r o.rest)

-- where no byte comes
still : (new : Position) (r : List ℕ) (due : List Mark) → due ≡ [] → rest_of r ≡ r → At new r due → Consumed new r due [] None
still new r due none rest at =
    consumed_none new r due [] none (sym (ap (map Completes) (new_nothing r))) (new_nothing r)
    (subst (λ (t : List ℕ). At new t []) (sym (ap rest_of (append-nil r) ∙ rest)) (subst (λ (d : List Mark). At new r d) none at))

pub body_still : (kind remaining : ℕ) (r : List ℕ) (due : List Mark) → 0 < remaining → AtBody kind remaining r due → Consumed (position.Body kind remaining) r due [] None
body_still kind remaining r due some (in_body lt i none) = still (position.Body kind remaining) r due none (rest_alone r i.rest) (in_body lt i none)
body_still kind remaining r due some (after_body o) = absurd (omega (arith, o.none_remaining))

pub body_part : (e : Event) (kind remaining n : ℕ) (r c : List ℕ) (due : List Mark) → 0 < remaining → AtBody kind remaining r due → length c ≤ remaining → n ≡ remaining - length c → Reports c (Some e) (map OfBody c) → Consumed (position.Body kind n) r due c (Some e)
body_part e kind remaining n r c due some a le is reports =
    let p = body_arrives kind remaining r c due some a le in
    consumed_part (position.Body kind n) r due c e (map OfBody c) p.none_due p.tokens_are (subst (λ (m : ℕ). Now (AtBody kind m) r c []) (sym is) p.now) reports

-- ---- in the head of a presentation data value

pub pdv_head_ended : (new : Position) (remaining : ℕ) (bytes r c : List ℕ) (due : List Mark) → AtPdvHead remaining bytes r due → length (bytes ++ c) < 6 → length c ≡ remaining → ((t : List ℕ) → t ≡ [] → At new t []) → Consumed new r due c (Some (event.PduEnd 4))
pdv_head_ended new remaining bytes r c due a lt all at =
    let o = pdv_head_over remaining bytes r c due a lt all in
    consumed_mark new r due c (End 4 o.body) (event.PduEnd 4) a.none_due o.tokens_are (record { later = []; marks = o.marks; at = at (rest_of (r ++ c)) o.rest }) (record { mark = End 4 o.body; one = refl; same = refl })

pdv_reported : (found : Position × Event) (remaining l : ℕ) (bytes r c : List ℕ) (due : List Mark) → AtPdvHead remaining bytes r due → length (bytes ++ c) ≡ 6 → length c ≤ remaining → l ≡ remaining - length c
    → ((big_number 4 (bytes ++ c) < 2) ⊎ (l + 2 < big_number 4 (bytes ++ c)) → found ≡ (position.Body 4 l, event.BadPdv))
    → (2 ≤ big_number 4 (bytes ++ c) → big_number 4 (bytes ++ c) ≤ l + 2 → found ≡ (position.Fragment l (big_number 4 (bytes ++ c) - 2), event.PdvHead (pdv_head_of (bytes ++ c))))
    → Consumed found.0 r due c (Some found.1)
pdv_reported found remaining l bytes r c due a six le is bad good =
    let b = bytes ++ c in
    let n = big_number 4 b in
    let ts = pdv_head_tokens_are remaining bytes r c due a six le in
    let report_bad = λ (why : (n < 2) ⊎ (l + 2 < n)).
    (let why_too : (n < 2) ⊎ ((remaining - length c) + 2 < n) = elim why [ inl x ↦ inl x | inr x ↦ inr (omega arith) ] in
    let now = subst (λ (m : ℕ). Now (AtBody 4 m) r c (BadPdv ∷ [])) (sym is) (pdv_bad remaining bytes r c due a six le why_too) in
    subst (λ (f : Position × Event). Consumed f.0 r due c (Some f.1)) (sym (bad why))
    (consumed_mark (position.Body 4 l) r due c BadPdv event.BadPdv a.none_due ts now (record { mark = BadPdv; one = refl; same = refl }))) in
    elim (cases_lt n 2) [
      | inl x ↦ report_bad (inl x)
      | inr two ↦ elim (cases_lt (l + 2) n) [
        | inl x ↦ report_bad (inr x)
        | inr fits ↦
            let now = subst (λ (m : ℕ). Now (AtFragment m (n - 2)) r c (head_mark b ∷ [])) (sym is) (pdv_good remaining bytes r c due a six le two (omega arith)) in
            subst (λ (f : Position × Event). Consumed f.0 r due c (Some f.1)) (sym (good two fits))
            (consumed_mark (position.Fragment l (n - 2)) r due c (head_mark b) (event.PdvHead (pdv_head_of b)) a.none_due ts now (record { mark = head_mark b; one = refl; same = refl }))
      ]
    ]

pub pdv_is_reported : (found : Position × Event) (head : PdvHead) (remaining l : ℕ) (v bytes r c : List ℕ) (due : List Mark) → AtPdvHead remaining bytes r due → v ≡ bytes ++ c → length v ≡ 6 → head ≡ pdv_head_of v → length c ≤ remaining → l ≡ remaining - length c
    → ((head.length < 2) ⊎ (l + 2 < head.length) → found ≡ (position.Body 4 l, event.BadPdv))
    → (2 ≤ head.length → head.length ≤ l + 2 → found ≡ (position.Fragment l (head.length - 2), event.PdvHead head)) → Consumed found.0 r due c (Some found.1)
pdv_is_reported found head remaining l v bytes r c due a v_is six is le l_is bad good =
    let e : pdv_head_of (bytes ++ c) ≡ head = ap pdv_head_of (sym v_is) ∙ sym is in
    subst (λ (h : PdvHead). ((h.length < 2) ⊎ (l + 2 < h.length) → found ≡ (position.Body 4 l, event.BadPdv))
    → (2 ≤ h.length → h.length ≤ l + 2 → found ≡ (position.Fragment l (h.length - 2), event.PdvHead h)) → Consumed found.0 r due c (Some found.1)) e
    (pdv_reported found remaining l bytes r c due a (ap length (sym v_is) ∙ six) le l_is) bad good

-- ---- in a fragment

after_at : (new : Position) (remaining : ℕ) (r : List ℕ) (due : List Mark) → AfterPdv remaining r due → (remaining ≡ 0 → new ≡ position.Body 4 0) → (is_leftover remaining ≡ true → new ≡ position.Leftover remaining)
    → (0 < remaining → is_leftover remaining ≡ false → (t : List ℕ) (later : List Mark) → AtPdvHead remaining [] t later → At new t later) → At new r due
after_at new remaining r due (over o) none some more = subst (λ (p : Position). At p r due) (sym (none o.none_remaining)) (after_body (record { none_remaining = refl; rest = o.rest; body = o.body; due_is = o.due_is }))
after_at new remaining r due (leftover t a) none some more = subst (λ (p : Position). At p r due) (sym (some t)) a
after_at new remaining r due (another lt t a) none some more = more lt t r due a

pub value_ended : (new : Position) (remaining more : ℕ) (r : List ℕ) (due : List Mark) → more ≡ 0 → AtFragment remaining more r due → (remaining ≡ 0 → new ≡ position.Body 4 0) → (is_leftover remaining ≡ true → new ≡ position.Leftover remaining)
    → (0 < remaining → is_leftover remaining ≡ false → (t : List ℕ) (later : List Mark) → AtPdvHead remaining [] t later → At new t later) → Consumed new r due [] (Some event.PdvEnd)
value_ended new remaining more r due zero a none some again =
    let v = value_due remaining more r due zero a in
    consumed_due new r due v.later (Pdv v.context v.control v.fragment) event.PdvEnd v.due_is (record { mark = Pdv v.context v.control v.fragment; one = refl; same = refl }) (after_rest remaining r v.later v.next) (after_at new remaining r v.later v.next none some again)

pub fragment_still : (remaining more : ℕ) (r : List ℕ) (due : List Mark) → 0 < more → AtFragment remaining more r due → Consumed (position.Fragment remaining more) r due [] None
fragment_still remaining more r due some (in_fragment lt f) = still (position.Fragment remaining more) r due f.none_due (rest_alone r f.inside.rest) (in_fragment lt f)
fragment_still remaining more r due some (after_fragment zero a) = absurd (omega arith)

pub fragment_part_reported : (e : Event) (remaining more l m : ℕ) (r c : List ℕ) (due : List Mark) → 0 < more → more ≤ remaining → AtFragment remaining more r due → length c ≤ more → l ≡ remaining - length c → m ≡ more - length c → Reports c (Some e) (map OfFragment c) → Consumed (position.Fragment l m) r due c (Some e)
fragment_part_reported e remaining more l m r c due some fits a le l_is m_is reports =
    let p = fragment_arrives remaining more r c due some fits a le in
    let now = subst (λ (x : ℕ). Now (AtFragment x m) r c []) (sym l_is) (subst (λ (x : ℕ). Now (AtFragment (remaining - length c) x) r c []) (sym m_is) p.now) in
    consumed_part (position.Fragment l m) r due c e (map OfFragment c) p.none_due p.tokens_are now reports

pub leftover_reported : (remaining : ℕ) (r : List ℕ) (due : List Mark) → AtLeftover remaining r due → Consumed (position.Body 4 remaining) r due [] (Some event.Leftover)
leftover_reported remaining r due a =
    consumed_due (position.Body 4 remaining) r due [] Leftover event.Leftover a.due_is (record { mark = Leftover; one = refl; same = refl }) (rest_alone r a.inside.rest) (in_body a.some a.inside refl)

pub over_reported : (new : Position) (kind remaining n : ℕ) (piece r : List ℕ) (due : List Mark) → IsOver kind remaining r due → n ≡ 0 → ((t : List ℕ) → t ≡ [] → At new t []) → Consumed new r due (take n piece) (Some (event.PduEnd kind))
over_reported new kind remaining n piece r due o zero at =
    subst (λ (k : ℕ). Consumed new r due (take k piece) (Some (event.PduEnd kind))) (sym zero) (body_ended new kind remaining r due o.none_remaining (after_body o) at)

pub empty_at : (bytes : List ℕ) → bytes ≡ [] → (t : List ℕ) → t ≡ [] → AtHead bytes t []
empty_at bytes e t f = subst (λ (b : List ℕ). AtHead b t []) (sym e) (none_at t f)

-- ---- a frame that is skipped

skip_inside : (kind remaining : ℕ) (r : List ℕ) (due : List Mark) (s : Spot) → AreInner due → Inside kind remaining r s → Skip (position.Skipped kind remaining) r due
skip_inside kind remaining r due s are i = skipped are (omega (arith, i.remaining_is, i.rest i.headed), i.rest, i.headed, i.kind_is, i.remaining_is)

none_inner : (due : List Mark) → due ≡ [] → AreInner due
none_inner due none = subst AreInner (sym none) tt

skip_over : (kind remaining : ℕ) (r : List ℕ) (before due later : List Mark) → AreInner before → (0 < length before → kind ≡ 4) → due ≡ before ++ later → IsOver kind remaining r later → Skip (position.Skipped kind remaining) r due
skip_over kind remaining r before due later are only is o =
    end_alone before kind o.body are only (is ∙ ap (λ (ms : List Mark). before ++ ms) o.due_is) (record { none_remaining = o.none_remaining; rest = o.rest; body = o.body; due_is = refl })

pub skip_body : (kind remaining : ℕ) (r : List ℕ) (due : List Mark) → AtBody kind remaining r due → Skip (position.Skipped kind remaining) r due
skip_body kind remaining r due (in_body lt i none) = skip_inside kind remaining r due Plain (none_inner due none) i
skip_body kind remaining r due (after_body o) = skip_over kind remaining r [] due due tt (λ lt. absurd (omega arith)) refl o

pub skip_pdv_head : (remaining : ℕ) (bytes r : List ℕ) (due : List Mark) → AtPdvHead remaining bytes r due → Skip (position.Skipped 4 remaining) r due
skip_pdv_head remaining bytes r due a = skip_inside 4 remaining r due _ (none_inner due a.none_due) a.inside

pub skip_leftover : (remaining : ℕ) (r : List ℕ) (due : List Mark) → AtLeftover remaining r due → Skip (position.Skipped 4 remaining) r due
skip_leftover remaining r due a = skip_inside 4 remaining r due Plain (subst AreInner (sym a.due_is) (tt, tt)) a.inside

pub skip_fragment : (remaining more : ℕ) (r : List ℕ) (due : List Mark) → AtFragment remaining more r due → Skip (position.Skipped 4 remaining) r due
skip_fragment remaining more r due (in_fragment lt f) = skip_inside 4 remaining r due _ (none_inner due f.none_due) f.inside
skip_fragment remaining more r due (after_fragment zero a) = go a.next
  where
    with_value : AreInner a.later → AreInner due
    with_value are = subst AreInner (sym a.due_is) (tt, are)

    go : AfterPdv remaining r a.later → Skip (position.Skipped 4 remaining) r due
    go (over o) = skip_over 4 remaining r (Pdv a.context a.control a.fragment ∷ []) due a.later (tt, tt) (λ lt. refl) a.due_is o
    go (leftover t l) = skip_inside 4 remaining r due _ (with_value (subst AreInner (sym l.due_is) (tt, tt))) l.inside
    go (another lt t p) = skip_inside 4 remaining r due _ (with_value (none_inner a.later p.none_due)) p.inside

pub skip_again : (kind remaining : ℕ) (r : List ℕ) (due : List Mark) → IsOver kind remaining r due → Skip (position.Skipped kind remaining) r due
skip_again kind remaining r due o = skip_over kind remaining r [] due due tt (λ lt. absurd (omega arith)) refl o

pub skip_at : (q : Position) (r : List ℕ) (due : List Mark) → At q r due → Skip (skip_of q) r due
skip_at (position.Head bytes) r due a = no_frame a.short a.none_due (record { short = a.short; bytes_are = a.bytes_are; none_due = refl })
skip_at (position.Body kind remaining) r due a = skip_body kind remaining r due a
skip_at (position.PdvHead remaining bytes) r due a = skip_pdv_head remaining bytes.items r due a
skip_at (position.Fragment remaining more) r due a = skip_fragment remaining more r due a
skip_at (position.Leftover remaining) r due a = skip_leftover remaining r due a
skip_at (position.Skipped kind remaining) r due a = skip_again kind remaining r due a
