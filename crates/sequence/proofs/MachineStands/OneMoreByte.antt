-- A machine that stands at a text stands at it with one byte more (`next_stands`): in a header, a value, or stopped. Stands
-- on HeaderDue, HeaderParts, HeaderConsumed, NestedLevels, SoundHeader, UnbrokenHeader and the laws of `element`.
use Rattle.std.proofs.Common.{◌≡◌, ℕ, suc, ◌+◌, ◌-◌, ◌<◌, ◌≤◌, Bool, true, false, List, [], ◌∷◌, ◌++◌, length, zero, Some, None, nat_le, refl, sym, ap, subst, ◌∙◌, arith, append_assoc, append-nil, length-append, if◌then◌else◌, lit<, leb-true, leb-false}
use Rattle.sequence.specs.Coding.{layout}
use Rattle.sequence.specs.declared.coding.Coding.{Coding}
use Rattle.element.specs.declared.tag.Tag.{Tag}
use Rattle.element.specs.Header.{number, header_at, is_whole}
use Rattle.element.proofs.Public.{tag_read, spelled_long}
use Rattle.sequence.specs.declared.level.Scope.{Scope}
use Rattle.sequence.specs.declared.spot.Spot.{Spot}
use Rattle.sequence.specs.Open.{IsUnfinishedHeader}
use Rattle.sequence.specs.Holding.{started_in}
use Rattle.sequence.specs.Wanted.{Values}
use Rattle.sequence.specs.Rules.{Limits, Broken, broken_tag, broken}
use Rattle.sequence.specs.machine.Machine.{Mode, Heading, Reading, Stopped, State, at, spot_of, arrive, take_header, headed_by, headed, read, next, next_by}
use Rattle.sequence.specs.machine.Keeping.{with_value, with_byte, wanted_at, keep_header, keep_headed, keep_read, keep_by, keep}
use Rattle.sequence.specs.machine.Standing.{IsBytes, Reaches, AreLevels, Unbroken, IsHeading, IsReading, StandsIn, Stands}
use Rattle.sequence.proofs.MachineStands.HeaderParts.{whole_spells, unfinished_front}
use Rattle.sequence.proofs.MachineStands.SoundHeader.{IsSound, is_sound}
use Rattle.sequence.proofs.MachineStands.UnbrokenHeader.{unbroken_is, on_tail}
use Rattle.sequence.proofs.MachineStands.NestedLevels.{consumed}
use Rattle.sequence.proofs.MachineStands.HeaderDue.{arrive_stands, no_cons}
use Rattle.sequence.proofs.MachineStands.HeaderConsumed.{started_ends, header_stands}

front_of : (t w : List ℕ) (x y : ℕ) (z : List ℕ) → t ++ x ∷ [] ≡ w ++ y ∷ z → (v : List ℕ) × (t ≡ w ++ v)
front_of t [] x y z e = (t, refl)
front_of [] (a ∷ w) x y z e = absurd (no_cons w y z (let k : [] ≡ w ++ y ∷ z = cc in k))
front_of (b ∷ t) (a ∷ w) x y z e =
    let rest = front_of t w x y z (let k : t ++ x ∷ [] ≡ w ++ y ∷ z = cc in k) in
    (rest.0, let head : b ≡ a = cc in let tail : t ≡ w ++ rest.0 = rest.1 in cc)

more_unbroken : (lim : Limits) (spot : Spot) (t : List ℕ) (x : ℕ) → Unbroken lim spot t → broken lim spot (t ++ x ∷ []) ≡ None → Unbroken lim spot (t ++ x ∷ [])
more_unbroken lim spot t x ok last u [] e = rw (sym (append-nil u) ∙ sym e) last
more_unbroken lim spot t x ok last u (y ∷ z) e = let f = front_of t u x y z e in ok u f.0 f.1

front_unfinished : (s : Coding) (t w v : List ℕ) → t ≡ w ++ v → IsUnfinishedHeader s t → IsUnfinishedHeader s w
front_unfinished s t w v e tail = unfinished_front s w v (subst (IsUnfinishedHeader s) e tail)

pub more_bytes : (t : List ℕ) (x : ℕ) → IsBytes t → x < 256 → IsBytes (t ++ x ∷ [])
more_bytes [] x h lt zero = lt
more_bytes [] x h lt (suc i) = lit< tt
more_bytes (y ∷ t) x h lt zero = h zero
more_bytes (y ∷ t) x h lt (suc i) = more_bytes t x (λ k. h (suc k)) lt i

headed_stands : (s : Coding) (lim : Limits) (values : Values) (f : Scope) (fs : List Scope) (p begin : ℕ) (t : List ℕ) (x : ℕ) (b : List ℕ) → p + 1 ≡ length (b ++ x ∷ []) → IsHeading s lim values f fs begin t b → x < 256 → (y : Broken) → broken lim (spot_of f fs begin) (t ++ x ∷ []) ≡ y
    → Stands s lim (headed_by y f fs (p + 1) begin (t ++ x ∷ [])) (keep_headed lim y f fs (t ++ x ∷ []) values) (b ++ x ∷ [])
headed_stands s lim values f fs p begin t x b p-is h lt (Some y) e =
    let regrouped : b ++ x ∷ [] ≡ h.before ++ (t ++ x ∷ []) = ap (λ z. z ++ x ∷ []) h.text ∙ append_assoc h.before t (x ∷ []) in
    record {
      before = h.before;
      u = t ++ x ∷ [];
      rest = [];
      due = h.due;
      offset-is = h.offset;
      received = p-is ∙ ap length regrouped;
      text = regrouped ∙ sym (append-nil (h.before ++ (t ++ x ∷ [])));
      breaks = e;
      unbroken = λ w y z same. let g = front_of t w x y z same in h.unbroken w g.0 g.1;
      one_header = λ w y z same. let g = front_of t w x y z same in front_unfinished f.syntax t w g.0 g.1 h.tail;
    }
headed_stands s lim values f fs p begin t x b p-is h lt None e = by (is_whole (layout f.syntax) (t ++ x ∷ [])) refl
  where
    regrouped : b ++ x ∷ [] ≡ h.before ++ (t ++ x ∷ [])
    regrouped = ap (λ z. z ++ x ∷ []) h.text ∙ append_assoc h.before t (x ∷ [])

    by : (w : Bool) → is_whole (layout f.syntax) (t ++ x ∷ []) ≡ w → Stands s lim (if w then take_header (p + 1) f fs (header_at (layout f.syntax) (t ++ x ∷ [])) else at f fs (p + 1) (Heading begin (t ++ x ∷ []))) (if w then keep_header lim f fs (header_at (layout f.syntax) (t ++ x ∷ [])) values else values) (b ++ x ∷ [])
    by true w =
        let sp = whole_spells f.syntax t x h.tail (more_bytes t x h.bytes lt) w in
        let fine = unbroken_is lim (spot_of f fs begin) (t ++ x ∷ []) e in
        let long = spelled_long sp in
        let tag-ok : broken_tag (spot_of f fs begin) (header_at (layout f.syntax) (t ++ x ∷ [])).tag ≡ None = ap (λ z. broken_tag (spot_of f fs begin) z) (tag_read (layout f.syntax) (t ++ x ∷ [])) ∙ fine.tag_ok (omega (arith, long)) in
        let header-ok = fine.whole_ok w in
        let sound = is_sound lim (spot_of f fs begin) (length (t ++ x ∷ [])) (header_at (layout f.syntax) (t ++ x ∷ [])) header-ok in
        let size : p + 1 ≡ begin + length (t ++ x ∷ []) = omega (arith, p-is, ap length regrouped, length-append h.before (t ++ x ∷ []), h.offset) in
        let got = consumed lim f fs begin (p + 1) (header_at (layout f.syntax) (t ++ x ∷ [])) (t ++ x ∷ []) (subst (AreLevels lim f fs) (sym h.offset) h.due.levels) sp fine header-ok size in
        subst (λ z. Stands s lim (take_header (p + 1) f fs (header_at (layout f.syntax) (t ++ x ∷ []))) (keep_header lim f fs (header_at (layout f.syntax) (t ++ x ∷ [])) values) z) (sym regrouped)
        (header_stands f fs (t ++ x ∷ []) (header_at (layout f.syntax) (t ++ x ∷ [])) lim (p + 1) (p-is ∙ ap length regrouped) h.due.reaches sp
        (subst (λ z. broken_tag (spot_of f fs z) (header_at (layout f.syntax) (t ++ x ∷ [])).tag ≡ None) h.offset tag-ok)
        (subst (λ z. IsSound lim (spot_of f fs z) (length (t ++ x ∷ [])) (header_at (layout f.syntax) (t ++ x ∷ []))) h.offset sound) got)
    by false w = (
      p-is,
      record {
        before = h.before;
        due = h.due;
        offset = h.offset;
        text = regrouped;
        tail = on_tail lim (spot_of f fs begin) (t ++ x ∷ []) e w;
        unbroken = more_unbroken lim (spot_of f fs begin) t x h.unbroken e;
        bytes = more_bytes t x h.bytes lt;
      },
    )

byte_kept : (b : Bool) (values : Values) (t : ℕ) (v : List ℕ) (x : ℕ) → (if b then with_byte (if b then values ++ (t, v) ∷ [] else values) x else (if b then values ++ (t, v) ∷ [] else values)) ≡ (if b then values ++ (t, v ++ x ∷ []) ∷ [] else values)
byte_kept true values t v x = last_byte values (t, v) x
  where
    last_byte : (values : Values) (one : ℕ × List ℕ) (x : ℕ) → with_byte (values ++ one ∷ []) x ≡ values ++ (one.0, one.1 ++ x ∷ []) ∷ []
    last_byte [] one x = refl
    last_byte (a ∷ []) one x = refl
    last_byte (a ∷ c ∷ values) one x = ap (λ z. a ∷ z) (last_byte (c ∷ values) one x)
byte_kept false values t v x = refl

read_stands : (s : Coding) (lim : Limits) (values : Values) (f : Scope) (fs : List Scope) (p : ℕ) (t : Tag) (n x : ℕ) (b : List ℕ) → p + 1 ≡ length (b ++ x ∷ []) → IsReading s lim values f fs t n b → Stands s lim (read f fs (p + 1) t n) (keep_read lim fs (number t) values x) (b ++ x ∷ [])
unfolding read
read_stands s lim values f fs p t n x b p-is r = by (nat_le n 1) refl
  where
    regrouped : b ++ x ∷ [] ≡ r.before ++ (r.hb ++ (r.v ++ x ∷ []))
    regrouped = ap (λ z. z ++ x ∷ []) r.text ∙ simp append_assoc

    kept-is : keep_read lim fs (number t) values x ≡ with_value lim fs (number r.h.tag) (r.v ++ x ∷ []) r.whole
    kept-is = ap (λ z. keep_read lim fs (number z) values x) r.tagged ∙ ap (λ z. keep_read lim fs (number r.h.tag) z x) r.kept ∙ byte_kept (wanted_at lim fs (number r.h.tag)) r.whole (number r.h.tag) r.v x

    more-is : length (b ++ x ∷ []) ≡ length b + 1
    more-is = length-append b (x ∷ [])

    by : (w : Bool) → nat_le n 1 ≡ w → Stands s lim (if w then arrive (p + 1) f fs else at f fs (p + 1) (Reading t (n - 1))) (keep_read lim fs (number t) values x) (b ++ x ∷ [])
    by true w =
        let one : n ≤ 1 = leb-true n 1 w in
        let size : length (r.v ++ x ∷ []) ≡ r.h.length = omega (arith, length-append r.v (x ∷ []), r.size, r.more) in
        let whole = started_ends lim r.round r.h r.hb (r.v ++ x ∷ []) r.reaches r.begins r.even size in
        let here : length b + n ≡ p + 1 = omega (arith, one, r.more, p-is, more-is) in
        rw kept-is
        (arrive_stands lim (p + 1) p-is (subst (λ z. Reaches s lim.wanted (with_value lim fs (number r.h.tag) (r.v ++ x ∷ []) r.whole) z fs (b ++ x ∷ [])) (sym r.top) (subst (λ z. Reaches s lim.wanted (with_value lim fs (number r.h.tag) (r.v ++ x ∷ []) r.whole) (started_in r.round r.h) fs z) (sym regrouped) whole))
        (subst (AreLevels lim f fs) here r.levels))
    by false w =
        let lt = leb-false n 1 w in (
          p-is,
          record {
            before = r.before;
            whole = r.whole;
            round = r.round;
            h = r.h;
            hb = r.hb;
            v = r.v ++ x ∷ [];
            reaches = r.reaches;
            levels = subst (AreLevels lim f fs) (let k : length b + n ≡ length (b ++ x ∷ []) + (n - 1) = omega (arith, more-is, lt) in k) r.levels;
            top = r.top;
            begins = r.begins;
            even = r.even;
            size = omega (arith, length-append r.v (x ∷ []), r.size, lt);
            more = omega (arith, lt);
            tagged = r.tagged;
            text = regrouped;
            kept = kept-is;
          },
        )

mode_stands : (s : Coding) (lim : Limits) (values : Values) (f : Scope) (fs : List Scope) (p : ℕ) (m : Mode) (b : List ℕ) (x : ℕ) → StandsIn s lim values f fs p m b → x < 256 → Stands s lim (next_by lim f fs p m x) (keep_by lim f fs m values x) (b ++ x ∷ [])
unfolding headed
mode_stands s lim values f fs p (Heading begin t) b x h lt = headed_stands s lim values f fs p begin t x b (omega (arith, h.0, length-append b (x ∷ []))) h.1 lt (broken lim (spot_of f fs begin) (t ++ x ∷ [])) refl
mode_stands s lim values f fs p (Reading t n) b x h lt = read_stands s lim values f fs p t n x b (omega (arith, h.0, length-append b (x ∷ []))) h.1
mode_stands s lim values f fs p (Stopped n offset t) b x h lt = record {
  before = h.before;
  u = h.u;
  rest = h.rest ++ x ∷ [];
  due = h.due;
  offset-is = h.offset-is;
  received = h.received;
  text = ap (λ z. z ++ x ∷ []) h.text ∙ append_assoc (h.before ++ h.u) h.rest (x ∷ []);
  breaks = h.breaks;
  unbroken = h.unbroken;
  one_header = h.one_header;
}

pub next_stands : (s : Coding) (lim : Limits) (st : State) (values : Values) (b : List ℕ) (x : ℕ) → Stands s lim st values b → x < 256 → Stands s lim (next lim st x) (keep lim st values x) (b ++ x ∷ [])
next_stands s lim st values b x h lt = mode_stands s lim values st.top st.below st.offset st.mode b x h lt
