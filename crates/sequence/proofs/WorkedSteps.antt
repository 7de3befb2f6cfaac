-- Along these texts each step has what it is to return. Stands on CodeIsMachine/WhereRulesBreak, MachineReports, WorkedTexts
-- and the laws of `element`.
use Rattle.std.proofs.Common.{◌≡◌, ℕ, ◌<◌, ◌≤◌, List, [], ◌++◌, length, take, drop, refl, sym, ap, subst, ◌∙◌, arith, append-nil}
use Rattle.sequence.specs.Coding.{layout}
use Rattle.sequence.specs.declared.coding.Coding.{Coding}
use Rattle.sequence.specs.declared.coding.Coding.TheVariants.{Implicit, Explicit, Encapsulated}
use Rattle.element.specs.declared.tag.Tag.{Tag}
use Rattle.element.specs.declared.size.Need.TheVariants.{Size}
use Rattle.element.specs.Header.{need, is_whole, header_at, SpellsHeader}
use Rattle.element.specs.Vr.{is_short}
use Rattle.element.specs.Needs.{NeedIs}
use Rattle.element.proofs.Public.{need_is, exact_spells}
use Rattle.dictionary.specs.Tags.{row_of}
use Rattle.sequence.specs.declared.level.Scope.{Scope}
use Rattle.sequence.specs.declared.spot.Spot.{Spot}
use Rattle.sequence.specs.Open.{Open, in_header}
use Rattle.sequence.specs.Rules.{Limits, broken_tag, broken_header, broken}
use Rattle.sequence.specs.FirstFault.{spot_behind}
use Rattle.sequence.specs.Answering.{EndsHeader, EndsRun, element, opened, closed, runs}
use Rattle.sequence.specs.machine.Machine.{at, Heading, Reading, start, due, arrive, begin_value, begin_level, leave, take_header, headed, read, run}
use Rattle.sequence.specs.machine.Keeping.{keeps}
use Rattle.sequence.specs.machine.Standing.{IsBytes, IsHeading, IsReading, Stands}
use Rattle.sequence.specs.Examples.{levels_of, one_store, four_levels, AlongOneStore, AlongFourLevels, one_frame, AlongOneFrame}
use Rattle.sequence.proofs.CodeIsMachine.WhereRulesBreak.{need_least}
use Rattle.sequence.proofs.MachineReports.FrontAtText.{open_due, due_open}
use Rattle.sequence.proofs.MachineReports.AnyText.{stands, spot_is, reading_front, goes_unbroken}
use Rattle.sequence.proofs.WorkedTexts.{bytes_by}

header_along : (s : Coding) (lim : Limits) (b consumed : List ℕ) (f : Scope) (fs : List Scope) (p begin : ℕ) → IsBytes b → IsBytes consumed → run lim (start s) b ≡ at f fs p (Heading begin []) → need (layout f.syntax) consumed ≡ Size (length consumed) → EndsHeader s (b ++ consumed) consumed (header_at (layout f.syntax) consumed)
header_along s lim b consumed f fs p begin bytes more state size =
    let values = keeps lim (start s) [] b in
    let k : (p ≡ length b) × IsHeading s lim (keeps lim (start s) [] b) f fs begin [] b = subst (λ z. Stands s lim z (keeps lim (start s) [] b) b) state (stands s lim b bytes) in
    let h = k.1 in
    let x = open_due s lim values f fs h.before h.due in
    let same : h.before ≡ b = sym (h.text ∙ append-nil h.before) in
    let o : Open s b x.elements x.path x.last (in_header []) = subst (λ z. Open s z x.elements x.path x.last (in_header [])) same (due_open s lim values f fs h.before h.due) in
    let syntax-is : f.syntax ≡ (spot_behind s x.path x.last (length b)).syntax = ap (λ (z : Spot). z.syntax) (spot_is x) ∙ ap (λ z. (spot_behind s x.path x.last (length z)).syntax) same in
    let spelled : SpellsHeader (layout f.syntax) (header_at (layout f.syntax) consumed) consumed = exact_spells (layout f.syntax) consumed (subst (NeedIs (layout f.syntax) consumed) size (need_is (layout f.syntax) consumed)) refl more in
    let least = need_least f.syntax consumed (length consumed) size in
    record {
      before = b;
      bytes = consumed;
      text = refl;
      elements = x.elements;
      path = x.path;
      last = x.last;
      due = o;
      spelled = subst (λ z. SpellsHeader (layout z) (header_at (layout f.syntax) consumed) consumed) syntax-is spelled;
      some = omega (arith, least);
      own = omega arith;
    }

value_along : (s : Coding) (lim : Limits) (b consumed : List ℕ) (f : Scope) (fs : List Scope) (p : ℕ) (t : Tag) (n : ℕ) → IsBytes b → run lim (start s) b ≡ at f fs p (Reading t n) → 0 < length consumed → length consumed ≤ n → EndsRun s (b ++ consumed) consumed
value_along s lim b consumed f fs p t n bytes state some le =
    let k : (p ≡ length b) × IsReading s lim (keeps lim (start s) [] b) f fs t n b = subst (λ z. Stands s lim z (keeps lim (start s) [] b) b) state (stands s lim b bytes) in
    let r = k.1 in
    let x = reading_front s lim (keeps lim (start s) [] b) f fs t n b r in
    record { before = b; text = refl; elements = x.elements; path = x.path; last = x.last; header = r.h; value = r.v; front = x.front; some = some; within = omega (arith, r.size, le) }

pub along_one_store : AlongOneStore
unfolding need is_whole header_at is_short row_of broken_tag broken_header broken due arrive begin_value begin_level leave take_header headed read run
along_one_store = (
  element (goes_unbroken Explicit (levels_of 64) (take 8 one_store) (λ k. k)) (header_along Explicit (levels_of 64) [] (take 8 one_store) _ _ _ _ (bytes_by [] refl) (bytes_by (take 8 one_store) refl) refl refl) refl,
  λ step is. runs (goes_unbroken Explicit (levels_of 64) (take 34 one_store) (λ k. k)) (value_along Explicit (levels_of 64) (take 8 one_store) (take 26 (drop 8 one_store)) _ _ _ _ _ (bytes_by (take 8 one_store) refl) refl (omega arith) (omega arith)) is,
  element (goes_unbroken Explicit (levels_of 64) (take 42 one_store) (λ k. k)) (header_along Explicit (levels_of 64) (take 34 one_store) (take 8 (drop 34 one_store)) _ _ _ _ (bytes_by (take 34 one_store) refl) (bytes_by (take 8 (drop 34 one_store)) refl) refl refl) refl,
  λ step is. runs (goes_unbroken Explicit (levels_of 64) one_store (λ k. k)) (value_along Explicit (levels_of 64) (take 42 one_store) (take 6 (drop 42 one_store)) _ _ _ _ _ (bytes_by (take 42 one_store) refl) refl (omega arith) (omega arith)) is,
)

pub along_four_levels : AlongFourLevels
unfolding need is_whole header_at is_short row_of broken_tag broken_header broken due arrive begin_value begin_level leave take_header headed read run
along_four_levels = (
  element (goes_unbroken Implicit (levels_of 64) (take 8 four_levels) (λ k. k)) (header_along Implicit (levels_of 64) [] (take 8 four_levels) _ _ _ _ (bytes_by [] refl) (bytes_by (take 8 four_levels) refl) refl refl) refl,
  opened (goes_unbroken Implicit (levels_of 64) (take 16 four_levels) (λ k. k)) (header_along Implicit (levels_of 64) (take 8 four_levels) (take 8 (drop 8 four_levels)) _ _ _ _ (bytes_by (take 8 four_levels) refl) (bytes_by (take 8 (drop 8 four_levels)) refl) refl refl) refl refl,
  element (goes_unbroken Implicit (levels_of 64) (take 24 four_levels) (λ k. k)) (header_along Implicit (levels_of 64) (take 16 four_levels) (take 8 (drop 16 four_levels)) _ _ _ _ (bytes_by (take 16 four_levels) refl) (bytes_by (take 8 (drop 16 four_levels)) refl) refl refl) refl,
  opened (goes_unbroken Implicit (levels_of 64) (take 32 four_levels) (λ k. k)) (header_along Implicit (levels_of 64) (take 24 four_levels) (take 8 (drop 24 four_levels)) _ _ _ _ (bytes_by (take 24 four_levels) refl) (bytes_by (take 8 (drop 24 four_levels)) refl) refl refl) refl refl,
  element (goes_unbroken Implicit (levels_of 64) (take 40 four_levels) (λ k. k)) (header_along Implicit (levels_of 64) (take 32 four_levels) (take 8 (drop 32 four_levels)) _ _ _ _ (bytes_by (take 32 four_levels) refl) (bytes_by (take 8 (drop 32 four_levels)) refl) refl refl) refl,
  λ step is. runs (goes_unbroken Implicit (levels_of 64) (take 42 four_levels) (λ k. k)) (value_along Implicit (levels_of 64) (take 40 four_levels) (take 2 (drop 40 four_levels)) _ _ _ _ _ (bytes_by (take 40 four_levels) refl) refl (omega arith) (omega arith)) is,
  closed (goes_unbroken Implicit (levels_of 64) (take 50 four_levels) (λ k. k)) (header_along Implicit (levels_of 64) (take 42 four_levels) (take 8 (drop 42 four_levels)) _ _ _ _ (bytes_by (take 42 four_levels) refl) (bytes_by (take 8 (drop 42 four_levels)) refl) refl refl) refl refl,
  element (goes_unbroken Implicit (levels_of 64) (take 58 four_levels) (λ k. k)) (header_along Implicit (levels_of 64) (take 50 four_levels) (take 8 (drop 50 four_levels)) _ _ _ _ (bytes_by (take 50 four_levels) refl) (bytes_by (take 8 (drop 50 four_levels)) refl) refl refl) refl,
  λ step is. runs (goes_unbroken Implicit (levels_of 64) four_levels (λ k. k)) (value_along Implicit (levels_of 64) (take 58 four_levels) (take 2 (drop 58 four_levels)) _ _ _ _ _ (bytes_by (take 58 four_levels) refl) refl (omega arith) (omega arith)) is,
)

pub along_one_frame : AlongOneFrame
unfolding need is_whole header_at is_short row_of broken_tag broken_header broken due arrive begin_value begin_level leave take_header headed read run
along_one_frame = (
  element (goes_unbroken Encapsulated (levels_of 64) (take 12 one_frame) (λ k. k)) (header_along Encapsulated (levels_of 64) [] (take 12 one_frame) _ _ _ _ (bytes_by [] refl) (bytes_by (take 12 one_frame) refl) refl refl) refl,
  opened (goes_unbroken Encapsulated (levels_of 64) (take 20 one_frame) (λ k. k)) (header_along Encapsulated (levels_of 64) (take 12 one_frame) (take 8 (drop 12 one_frame)) _ _ _ _ (bytes_by (take 12 one_frame) refl) (bytes_by (take 8 (drop 12 one_frame)) refl) refl refl) refl refl,
  opened (goes_unbroken Encapsulated (levels_of 64) (take 28 one_frame) (λ k. k)) (header_along Encapsulated (levels_of 64) (take 20 one_frame) (take 8 (drop 20 one_frame)) _ _ _ _ (bytes_by (take 20 one_frame) refl) (bytes_by (take 8 (drop 20 one_frame)) refl) refl refl) refl refl,
  λ step is. runs (goes_unbroken Encapsulated (levels_of 64) (take 32 one_frame) (λ k. k)) (value_along Encapsulated (levels_of 64) (take 28 one_frame) (take 4 (drop 28 one_frame)) _ _ _ _ _ (bytes_by (take 28 one_frame) refl) refl (omega arith) (omega arith)) is,
  opened (goes_unbroken Encapsulated (levels_of 64) (take 40 one_frame) (λ k. k)) (header_along Encapsulated (levels_of 64) (take 32 one_frame) (take 8 (drop 32 one_frame)) _ _ _ _ (bytes_by (take 32 one_frame) refl) (bytes_by (take 8 (drop 32 one_frame)) refl) refl refl) refl refl,
  λ step is. runs (goes_unbroken Encapsulated (levels_of 64) (take 42 one_frame) (λ k. k)) (value_along Encapsulated (levels_of 64) (take 40 one_frame) (take 2 (drop 40 one_frame)) _ _ _ _ _ (bytes_by (take 40 one_frame) refl) refl (omega arith) (omega arith)) is,
  opened (goes_unbroken Encapsulated (levels_of 64) (take 50 one_frame) (λ k. k)) (header_along Encapsulated (levels_of 64) (take 42 one_frame) (take 8 (drop 42 one_frame)) _ _ _ _ (bytes_by (take 42 one_frame) refl) (bytes_by (take 8 (drop 42 one_frame)) refl) refl refl) refl refl,
  λ step is. runs (goes_unbroken Encapsulated (levels_of 64) (take 52 one_frame) (λ k. k)) (value_along Encapsulated (levels_of 64) (take 50 one_frame) (take 2 (drop 50 one_frame)) _ _ _ _ _ (bytes_by (take 50 one_frame) refl) refl (omega arith) (omega arith)) is,
  closed (goes_unbroken Encapsulated (levels_of 64) one_frame (λ k. k)) (header_along Encapsulated (levels_of 64) (take 52 one_frame) (take 8 (drop 52 one_frame)) _ _ _ _ (bytes_by (take 52 one_frame) refl) (bytes_by (take 8 (drop 52 one_frame)) refl) refl refl) refl refl,
)
